-- One of two results is lost, and the last attempt that makes it again is broken; the other one stays.
-- `let a, b = remote(1) two(4); let c = get a; let d = get b; return d[0];`
-- 19 events, 32 entries, 10 messages, 3 jobs.
use Rattle.std.specs.Prelude.{List, None, Some, [], codes, ◌∷◌}
use Rattle.meaning.specs.Values.{Birth, Task, Val, main_birth}
use Rattle.event_log.specs.Entries.{Accepted, Begun, Born, Claim, Commit, Deliver, Ended, Faulted}
use Rattle.event_log.specs.Entries.{Got, In, Kill, Lose, Notice, Opened, Released, Resolved, RetriesUsed}
use Rattle.protocol.specs.Sets.{fault}
use Rattle.protocol.specs.Messages.{Ask, Back, Finished, FinishedAck, Give, Push, TheNode, TheWorker, Unhold, WasReleased, envelope}
use Rattle.protocol.specs.Jobs.{AtEnd, AtGet}
use Rattle.protocol.specs.Plays.{Does, Doing, Line, Seen, Settles, does_all, doing}
use Rattle.protocol_rows.specs.Writing.{a1_0_0, a1_1_0, a1_1_1, done, given, int, job, nine, o1_1, o1_2, o2_1, told}

-- what makes o1.1
abbrev pub birth_1_1 : Birth
birth_1_1 = Task (codes "two") (given (int 4) ∷ []) 1 1 1

-- what each job comes to
abbrev pub result_kept_doings : List Doing
result_kept_doings =
    doing 1 (done (birth_1_1 ∷ []) [] (AtGet o1_1))
    ∷ doing 2 (done [] [] (AtEnd (Val (int 5) ∷ Val (nine (int 4)) ∷ [])))
    ∷ doing 3 (done [] [] (AtGet o1_2))
    ∷ []

-- the lines of the event file
abbrev pub result_kept_lines : List Line
result_kept_lines =
    Does (Claim 1)
    ∷ Does (Commit 1)
    ∷ Settles (1 ∷ [])
    ∷ Does (Lose 1 o1_2)
    ∷ Does (Claim 1)
    ∷ Does (Commit 3)
    ∷ Does (Deliver 7)
    ∷ Does (Deliver 8)
    ∷ Does (Deliver 9)
    ∷ Does (Kill 2)
    ∷ Does (Notice 1 2)
    ∷ Settles []
    ∷ []

-- the events, one by one
abbrev pub result_kept_events : List Line
result_kept_events =
    does_all
    (Claim 1 ∷ Commit 1 ∷ Deliver 1 ∷ Deliver 2 ∷ Deliver 3 ∷ Claim 2 ∷ Commit 2 ∷ Deliver 4 ∷ Deliver 5 ∷ Deliver 6 ∷
    Lose 1 o1_2 ∷ Claim 1 ∷ Commit 3 ∷ Deliver 7 ∷ Deliver 8 ∷ Deliver 9 ∷ Kill 2 ∷ Notice 1 2 ∷ Deliver 10 ∷ [])

-- the log, the messages and the jobs
abbrev pub result_kept_run : Seen
result_kept_run =
    record {
      log =
          Opened 1 1
          ∷ Begun a1_0_0 1
          ∷ In (Claim 1) 0
          ∷ In (Commit 1) 0
          ∷ Born o1_1 a1_0_0 birth_1_1
          ∷ In (Deliver 1) 0
          ∷ Opened 2 1
          ∷ In (Deliver 2) 0
          ∷ Begun a1_1_0 2
          ∷ In (Deliver 3) 0
          ∷ In (Claim 2) 0
          ∷ In (Commit 2) 0
          ∷ Ended a1_1_0 (Val (int 5) ∷ Val (nine (int 4)) ∷ [])
          ∷ In (Deliver 4) 0
          ∷ Accepted a1_1_0
          ∷ Got a1_0_0 o1_1 (Val (int 5))
          ∷ In (Deliver 5) 0
          ∷ In (Deliver 6) 0
          ∷ In (Lose 1 o1_2) 0
          ∷ In (Claim 1) 0
          ∷ In (Commit 3) 0
          ∷ In (Deliver 7) 0
          ∷ In (Deliver 8) 0
          ∷ Begun a1_1_1 2
          ∷ In (Deliver 9) 0
          ∷ In (Kill 2) 0
          ∷ In (Notice 1 2) 0
          ∷ Resolved o1_2 (fault RetriesUsed o1_2)
          ∷ Faulted a1_0_0 o1_2 (fault RetriesUsed o1_2)
          ∷ Released o1_1
          ∷ Released o1_2
          ∷ In (Deliver 10) 0
          ∷ [];
      envelopes =
          envelope (TheWorker 1) (TheNode 1) (Ask a1_1_0 0)
          ∷ envelope (TheNode 1) (TheWorker 1) (Give a1_1_0 0 2)
          ∷ envelope (TheWorker 1) (TheWorker 2) (Push a1_1_0 birth_1_1)
          ∷ envelope (TheWorker 2) (TheWorker 1) (Finished a1_1_0 1 (told [] (Some (Val (int 5))) ∷ told [] None ∷ []))
          ∷ envelope (TheWorker 1) (TheWorker 2) (FinishedAck a1_1_0)
          ∷ envelope (TheWorker 2) (TheNode 1) (Back a1_1_0)
          ∷ envelope (TheWorker 1) (TheNode 1) (Ask a1_1_1 0)
          ∷ envelope (TheNode 1) (TheWorker 1) (Give a1_1_1 0 2)
          ∷ envelope (TheWorker 1) (TheWorker 2) (Push a1_1_1 birth_1_1)
          ∷ envelope (TheWorker 1) (TheNode 1) (Unhold o1_2 o1_2 WasReleased)
          ∷ [];
      given =
          job 1 a1_0_0 main_birth o1_1 [] [] []
          ∷ job 2 a1_1_0 birth_1_1 o2_1 [] [] []
          ∷ job 3 a1_0_0 main_birth o1_1 (birth_1_1 ∷ []) [] (Val (int 5) ∷ [])
          ∷ [];
    }
