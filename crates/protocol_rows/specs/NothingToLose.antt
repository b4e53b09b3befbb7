-- A small result stands in no store, so that no copy of it can be lost.
-- `let r = remote sq(7); print get r; return 0;`
-- 13 events, 25 entries, 6 messages, 3 jobs.
use Rattle.std.specs.Prelude.{List, Some, [], codes, ◌∷◌}
use Rattle.meaning.specs.Values.{Birth, Task, Val, main_birth}
use Rattle.event_log.specs.Entries.{Accepted, Begun, Born, Claim, Commit, Deliver, Ended, Got, In, Lose, Opened, Printed, Refused, Released}
use Rattle.event_log.specs.Entries.{NoCopy}
use Rattle.protocol.specs.Messages.{Ask, Back, Finished, FinishedAck, Give, Push, TheNode, TheWorker, envelope}
use Rattle.protocol.specs.Jobs.{AtEnd, AtGet}
use Rattle.protocol.specs.Plays.{Does, Doing, Line, Seen, Settles, does_all, doing}
use Rattle.protocol_rows.specs.Writing.{a1_0_0, a1_1_0, done, given, int, job, o1_1, o2_1, told}

-- what makes o1.1
abbrev pub birth_1_1 : Birth
birth_1_1 = Task (codes "sq") (given (int 7) ∷ []) 1 3 0

-- what each job comes to
abbrev pub nothing_to_lose_doings : List Doing
nothing_to_lose_doings =
    doing 1 (done (birth_1_1 ∷ []) [] (AtGet o1_1))
    ∷ doing 2 (done [] [] (AtEnd (Val (int 49) ∷ [])))
    ∷ doing 3 (done [] (int 49 ∷ []) (AtEnd (Val (int 0) ∷ [])))
    ∷ []

-- the lines of the event file
abbrev pub nothing_to_lose_lines : List Line
nothing_to_lose_lines =
    Does (Claim 1)
    ∷ Does (Commit 1)
    ∷ Settles (1 ∷ [])
    ∷ Does (Lose 1 o1_1)
    ∷ Settles []
    ∷ []

-- the events, one by one
abbrev pub nothing_to_lose_events : List Line
nothing_to_lose_events =
    does_all
    (Claim 1 ∷ Commit 1 ∷ Deliver 1 ∷ Deliver 2 ∷ Deliver 3 ∷ Claim 2 ∷ Commit 2 ∷ Deliver 4 ∷ Deliver 5 ∷ Deliver 6 ∷
    Lose 1 o1_1 ∷ Claim 1 ∷ Commit 3 ∷ [])

-- the log, the messages and the jobs
abbrev pub nothing_to_lose_run : Seen
nothing_to_lose_run =
    record {
      log =
          Opened 1 1
          ∷ Begun a1_0_0 1
          ∷ In (Claim 1) 0
          ∷ In (Commit 1) 0
          ∷ Born o1_1 a1_0_0 birth_1_1
          ∷ In (Deliver 1) 0
          ∷ Opened 2 1
          ∷ In (Deliver 2) 0
          ∷ Begun a1_1_0 2
          ∷ In (Deliver 3) 0
          ∷ In (Claim 2) 0
          ∷ In (Commit 2) 0
          ∷ Ended a1_1_0 (Val (int 49) ∷ [])
          ∷ In (Deliver 4) 0
          ∷ Accepted a1_1_0
          ∷ Got a1_0_0 o1_1 (Val (int 49))
          ∷ In (Deliver 5) 0
          ∷ In (Deliver 6) 0
          ∷ In (Lose 1 o1_1) 0
          ∷ Refused NoCopy
          ∷ In (Claim 1) 0
          ∷ In (Commit 3) 0
          ∷ Printed (int 49)
          ∷ Ended a1_0_0 (Val (int 0) ∷ [])
          ∷ Released o1_1
          ∷ [];
      envelopes =
          envelope (TheWorker 1) (TheNode 1) (Ask a1_1_0 0)
          ∷ envelope (TheNode 1) (TheWorker 1) (Give a1_1_0 0 2)
          ∷ envelope (TheWorker 1) (TheWorker 2) (Push a1_1_0 birth_1_1)
          ∷ envelope (TheWorker 2) (TheWorker 1) (Finished a1_1_0 1 (told [] (Some (Val (int 49))) ∷ []))
          ∷ envelope (TheWorker 1) (TheWorker 2) (FinishedAck a1_1_0)
          ∷ envelope (TheWorker 2) (TheNode 1) (Back a1_1_0)
          ∷ [];
      given =
          job 1 a1_0_0 main_birth o1_1 [] [] []
          ∷ job 2 a1_1_0 birth_1_1 o2_1 [] [] []
          ∷ job 3 a1_0_0 main_birth o1_1 (birth_1_1 ∷ []) [] (Val (int 49) ∷ [])
          ∷ [];
    }
