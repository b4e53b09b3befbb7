-- A trap of a task that nobody gets is its content, and nothing more.
-- `let r = remote div(1, 0); return 5;`
-- 10 events, 19 entries, 6 messages, 2 jobs.
use Rattle.std.specs.Prelude.{List, Some, [], codes, ◌∷◌}
use Rattle.meaning.specs.Values.{Birth, DivZero, Task, Trapped, Val, main_birth}
use Rattle.event_log.specs.Entries.{Accepted, Begun, Born, Claim, Commit, Deliver, Ended, In, Opened, Released}
use Rattle.protocol.specs.Messages.{Ask, Back, Finished, FinishedAck, Give, Push, TheNode, TheWorker, envelope}
use Rattle.protocol.specs.Jobs.{AtEnd}
use Rattle.protocol.specs.Plays.{Doing, Line, Seen, Settles, does_all, doing}
use Rattle.protocol_rows.specs.Writing.{a1_0_0, a1_1_0, done, given, int, job, o1_1, o2_1, told}

-- what makes o1.1
abbrev pub birth_1_1 : Birth
birth_1_1 = Task (codes "div") (given (int 1) ∷ given (int 0) ∷ []) 1 3 0

-- what each job comes to
abbrev pub trap_left_doings : List Doing
trap_left_doings =
    doing 1 (done (birth_1_1 ∷ []) [] (AtEnd (Val (int 5) ∷ [])))
    ∷ doing 2 (done [] [] (AtEnd (Trapped DivZero ∷ [])))
    ∷ []

-- the lines of the event file
abbrev pub trap_left_lines : List Line
trap_left_lines =
    Settles []
    ∷ []

-- the events, one by one
abbrev pub trap_left_events : List Line
trap_left_events =
    does_all
    (Claim 1 ∷ Commit 1 ∷ Deliver 1 ∷ Deliver 2 ∷ Deliver 3 ∷ Claim 2 ∷ Commit 2 ∷ Deliver 4 ∷ Deliver 5 ∷ Deliver 6 ∷ [])

-- the log, the messages and the jobs
abbrev pub trap_left_run : Seen
trap_left_run =
    record {
      log =
          Opened 1 1
          ∷ Begun a1_0_0 1
          ∷ In (Claim 1) 0
          ∷ In (Commit 1) 0
          ∷ Born o1_1 a1_0_0 birth_1_1
          ∷ Ended a1_0_0 (Val (int 5) ∷ [])
          ∷ In (Deliver 1) 0
          ∷ Opened 2 1
          ∷ In (Deliver 2) 0
          ∷ Begun a1_1_0 2
          ∷ In (Deliver 3) 0
          ∷ In (Claim 2) 0
          ∷ In (Commit 2) 0
          ∷ Ended a1_1_0 (Trapped DivZero ∷ [])
          ∷ In (Deliver 4) 0
          ∷ Accepted a1_1_0
          ∷ Released o1_1
          ∷ In (Deliver 5) 0
          ∷ In (Deliver 6) 0
          ∷ [];
      envelopes =
          envelope (TheWorker 1) (TheNode 1) (Ask a1_1_0 0)
          ∷ envelope (TheNode 1) (TheWorker 1) (Give a1_1_0 0 2)
          ∷ envelope (TheWorker 1) (TheWorker 2) (Push a1_1_0 birth_1_1)
          ∷ envelope (TheWorker 2) (TheWorker 1) (Finished a1_1_0 1 (told [] (Some (Trapped DivZero)) ∷ []))
          ∷ envelope (TheWorker 1) (TheWorker 2) (FinishedAck a1_1_0)
          ∷ envelope (TheWorker 2) (TheNode 1) (Back a1_1_0)
          ∷ [];
      given =
          job 1 a1_0_0 main_birth o1_1 [] [] []
          ∷ job 2 a1_1_0 birth_1_1 o2_1 [] [] []
          ∷ [];
    }
