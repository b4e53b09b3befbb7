-- The same, and nobody is told: main waits.
-- `let r = get remote outer(); return get r;`
-- 22 events, 35 entries, 13 messages, 4 jobs.
use Rattle.std.specs.Prelude.{List, Some, [], codes, ◌∷◌}
use Rattle.meaning.specs.Values.{Birth, Named, Task, Val, main_birth}
use Rattle.event_log.specs.Entries.{Accepted, Begun, Born, Claim, Commit, Deliver, Ended, Got, In, Kill, Opened}
use Rattle.protocol.specs.Messages.{Ask, Back, Finished, FinishedAck, Give, Push, TheNode, TheWorker, Where, envelope}
use Rattle.protocol.specs.Jobs.{AtEnd, AtGet}
use Rattle.protocol.specs.Plays.{Does, Doing, Line, Seen, Settles, does_all, doing}
use Rattle.protocol_rows.specs.Writing.{a1_0_0, a1_1_0, a2_1_0, done, int, job, o1_1, o2_1, o3_1, told}

-- what makes o1.1
abbrev pub birth_1_1 : Birth
birth_1_1 = Task (codes "outer") [] 1 3 0

-- what makes o2.1
abbrev pub birth_2_1 : Birth
birth_2_1 = Task (codes "leaf") [] 2 3 0

-- what each job comes to
abbrev pub owner_not_known_dead_doings : List Doing
owner_not_known_dead_doings =
    doing 1 (done (birth_1_1 ∷ []) [] (AtGet o1_1))
    ∷ doing 2 (done (birth_2_1 ∷ []) [] (AtEnd (Val (Named o2_1) ∷ [])))
    ∷ doing 3 (done [] [] (AtEnd (Val (int 4) ∷ [])))
    ∷ doing 4 (done [] [] (AtGet o2_1))
    ∷ []

-- the lines of the event file
abbrev pub owner_not_known_dead_lines : List Line
owner_not_known_dead_lines =
    Does (Claim 1)
    ∷ Does (Commit 1)
    ∷ Settles (1 ∷ [])
    ∷ Does (Kill 2)
    ∷ Settles []
    ∷ []

-- the events, one by one
abbrev pub owner_not_known_dead_events : List Line
owner_not_known_dead_events =
    does_all
    (Claim 1 ∷ Commit 1 ∷ Deliver 1 ∷ Deliver 2 ∷ Deliver 3 ∷ Claim 2 ∷ Commit 2 ∷ Deliver 4 ∷ Deliver 5 ∷ Deliver 6 ∷ Deliver 7 ∷
    Deliver 8 ∷ Deliver 9 ∷ Claim 3 ∷ Commit 3 ∷ Deliver 10 ∷ Deliver 11 ∷ Deliver 12 ∷ Kill 2 ∷ Claim 1 ∷ Commit 4 ∷ Deliver 13 ∷ [])

-- the log, the messages and the jobs
abbrev pub owner_not_known_dead_run : Seen
owner_not_known_dead_run =
    record {
      log =
          Opened 1 1
          ∷ Begun a1_0_0 1
          ∷ In (Claim 1) 0
          ∷ In (Commit 1) 0
          ∷ Born o1_1 a1_0_0 birth_1_1
          ∷ In (Deliver 1) 0
          ∷ Opened 2 1
          ∷ In (Deliver 2) 0
          ∷ Begun a1_1_0 2
          ∷ In (Deliver 3) 0
          ∷ In (Claim 2) 0
          ∷ In (Commit 2) 0
          ∷ Born o2_1 a1_1_0 birth_2_1
          ∷ Ended a1_1_0 (Val (Named o2_1) ∷ [])
          ∷ In (Deliver 4) 0
          ∷ Opened 3 1
          ∷ In (Deliver 5) 0
          ∷ Accepted a1_1_0
          ∷ Got a1_0_0 o1_1 (Val (Named o2_1))
          ∷ In (Deliver 6) 0
          ∷ Begun a2_1_0 3
          ∷ In (Deliver 7) 0
          ∷ In (Deliver 8) 0
          ∷ In (Deliver 9) 0
          ∷ In (Claim 3) 0
          ∷ In (Commit 3) 0
          ∷ Ended a2_1_0 (Val (int 4) ∷ [])
          ∷ In (Deliver 10) 0
          ∷ Accepted a2_1_0
          ∷ In (Deliver 11) 0
          ∷ In (Deliver 12) 0
          ∷ In (Kill 2) 0
          ∷ In (Claim 1) 0
          ∷ In (Commit 4) 0
          ∷ In (Deliver 13) 0
          ∷ [];
      envelopes =
          envelope (TheWorker 1) (TheNode 1) (Ask a1_1_0 0)
          ∷ envelope (TheNode 1) (TheWorker 1) (Give a1_1_0 0 2)
          ∷ envelope (TheWorker 1) (TheWorker 2) (Push a1_1_0 birth_1_1)
          ∷ envelope (TheWorker 2) (TheNode 1) (Ask a2_1_0 0)
          ∷ envelope (TheWorker 2) (TheWorker 1) (Finished a1_1_0 1 (told (o2_1 ∷ []) (Some (Val (Named o2_1))) ∷ []))
          ∷ envelope (TheNode 1) (TheWorker 2) (Give a2_1_0 0 3)
          ∷ envelope (TheWorker 1) (TheWorker 2) (FinishedAck a1_1_0)
          ∷ envelope (TheWorker 2) (TheWorker 3) (Push a2_1_0 birth_2_1)
          ∷ envelope (TheWorker 2) (TheNode 1) (Back a1_1_0)
          ∷ envelope (TheWorker 3) (TheWorker 2) (Finished a2_1_0 1 (told [] (Some (Val (int 4))) ∷ []))
          ∷ envelope (TheWorker 2) (TheWorker 3) (FinishedAck a2_1_0)
          ∷ envelope (TheWorker 3) (TheNode 1) (Back a2_1_0)
          ∷ envelope (TheWorker 1) (TheWorker 2) (Where o2_1)
          ∷ [];
      given =
          job 1 a1_0_0 main_birth o1_1 [] [] []
          ∷ job 2 a1_1_0 birth_1_1 o2_1 [] [] []
          ∷ job 3 a2_1_0 birth_2_1 o3_1 [] [] []
          ∷ job 4 a1_0_0 main_birth o1_1 (birth_1_1 ∷ []) [] (Val (Named o2_1) ∷ [])
          ∷ [];
    }
