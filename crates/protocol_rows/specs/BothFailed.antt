-- The argument of a task with two results is lost, and both are resolved.
-- `let p = put 4; let a, b = remote two(p); return get a;`
-- 16 events, 30 entries, 11 messages, 2 jobs.
use Rattle.std.specs.Prelude.{List, None, [], codes, ◌∷◌}
use Rattle.meaning.specs.Values.{Birth, Put, Task, main_birth}
use Rattle.event_log.specs.Entries.{Begun, Born, Claim, Commit, Deliver, Faulted, In, Lose, Opened, PutLost, Released, Resolved}
use Rattle.protocol.specs.Sets.{fault}
use Rattle.protocol.specs.Messages.{Ask, At, Back, Failed, FinishedAck, Give, Gone, Missing, Push, TheNode, TheWorker, Unhold, WasReleased, Where, envelope}
use Rattle.protocol.specs.Jobs.{AtGet}
use Rattle.protocol.specs.Plays.{Does, Doing, Line, Seen, Settles, does_all, doing}
use Rattle.protocol_rows.specs.Writing.{a1_0_0, a1_2_0, dereferenced, done, int, job, o1_1, o1_2, o1_3, o2_1}

-- what makes o1.1
abbrev pub birth_1_1 : Birth
birth_1_1 = Put (int 4)

-- what makes o1.2
abbrev pub birth_1_2 : Birth
birth_1_2 = Task (codes "two") (dereferenced o1_1 ∷ []) 1 3 1

-- what each job comes to
abbrev pub both_failed_doings : List Doing
both_failed_doings =
    doing 1 (done (birth_1_1 ∷ birth_1_2 ∷ []) [] (AtGet o1_2))
    ∷ doing 2 (done [] [] (AtGet o1_1))
    ∷ []

-- the lines of the event file
abbrev pub both_failed_lines : List Line
both_failed_lines =
    Does (Claim 1)
    ∷ Does (Commit 1)
    ∷ Settles (2 ∷ [])
    ∷ Does (Lose 1 o1_1)
    ∷ Settles []
    ∷ []

-- the events, one by one
abbrev pub both_failed_events : List Line
both_failed_events =
    does_all
    (Claim 1 ∷ Commit 1 ∷ Deliver 1 ∷ Deliver 2 ∷ Deliver 3 ∷ Lose 1 o1_1 ∷ Claim 2 ∷ Commit 2 ∷ Deliver 4 ∷ Deliver 5 ∷
    Deliver 6 ∷ Deliver 7 ∷ Deliver 8 ∷ Deliver 9 ∷ Deliver 10 ∷ Deliver 11 ∷ [])

-- the log, the messages and the jobs
abbrev pub both_failed_run : Seen
both_failed_run =
    record {
      log =
          Opened 1 1
          ∷ Begun a1_0_0 1
          ∷ In (Claim 1) 0
          ∷ In (Commit 1) 0
          ∷ Born o1_1 a1_0_0 birth_1_1
          ∷ Born o1_2 a1_0_0 birth_1_2
          ∷ In (Deliver 1) 0
          ∷ Opened 2 1
          ∷ In (Deliver 2) 0
          ∷ Begun a1_2_0 2
          ∷ In (Deliver 3) 0
          ∷ In (Lose 1 o1_1) 0
          ∷ In (Claim 2) 0
          ∷ In (Commit 2) 0
          ∷ In (Deliver 4) 0
          ∷ In (Deliver 5) 0
          ∷ In (Deliver 6) 0
          ∷ Resolved o1_1 (fault PutLost o1_1)
          ∷ In (Deliver 7) 0
          ∷ Faulted a1_2_0 o1_1 (fault PutLost o1_1)
          ∷ In (Deliver 8) 0
          ∷ Resolved o1_2 (fault PutLost o1_1)
          ∷ Resolved o1_3 (fault PutLost o1_1)
          ∷ Faulted a1_0_0 o1_2 (fault PutLost o1_1)
          ∷ Released o1_2
          ∷ Released o1_3
          ∷ Released o1_1
          ∷ In (Deliver 9) 0
          ∷ In (Deliver 10) 0
          ∷ In (Deliver 11) 0
          ∷ [];
      envelopes =
          envelope (TheWorker 1) (TheNode 1) (Ask a1_2_0 0)
          ∷ envelope (TheNode 1) (TheWorker 1) (Give a1_2_0 0 2)
          ∷ envelope (TheWorker 1) (TheWorker 2) (Push a1_2_0 birth_1_2)
          ∷ envelope (TheWorker 2) (TheWorker 1) (Where o1_1)
          ∷ envelope (TheWorker 1) (TheWorker 2) (At o1_1 0 (1 ∷ []) None)
          ∷ envelope (TheWorker 2) (TheWorker 1) (Missing o1_1 0 1)
          ∷ envelope (TheWorker 1) (TheWorker 2) (Gone o1_1 (fault PutLost o1_1))
          ∷ envelope (TheWorker 2) (TheWorker 1) (Failed a1_2_0 (fault PutLost o1_1))
          ∷ envelope (TheWorker 1) (TheWorker 2) (FinishedAck a1_2_0)
          ∷ envelope (TheWorker 1) (TheNode 1) (Unhold o1_1 o1_1 WasReleased)
          ∷ envelope (TheWorker 2) (TheNode 1) (Back a1_2_0)
          ∷ [];
      given =
          job 1 a1_0_0 main_birth o1_1 [] [] []
          ∷ job 2 a1_2_0 birth_1_2 o2_1 [] [] []
          ∷ [];
    }
