-- Small results that their owner keeps: the node dies on which they were made, and nothing is lost.
-- `let x = remote one(); let y = remote sq(3); let a = get x; return a + get y;`
-- 26 events, 43 entries, 14 messages, 5 jobs.
use Rattle.std.specs.Prelude.{List, Some, [], codes, ◌∷◌}
use Rattle.meaning.specs.Values.{Birth, Task, Val, main_birth}
use Rattle.event_log.specs.Entries.{Accepted, Begun, Born, Claim, Commit, Deliver, Ended, Got, In, KillNode, NoticeNode, Opened, Released}
use Rattle.protocol.specs.Messages.{Ask, Back, Elsewhere, Finished, FinishedAck, Give, Push, TheNode, TheWorker, envelope}
use Rattle.protocol.specs.Jobs.{AtEnd, AtGet}
use Rattle.protocol.specs.Plays.{Does, Doing, Line, Seen, Settles, does_all, doing}
use Rattle.protocol_rows.specs.Writing.{a1_0_0, a1_1_0, a1_2_0, done, given, int, job, o1_1, o1_2, o2_1, o3_1, told}

-- what makes o1.1
abbrev pub birth_1_1 : Birth
birth_1_1 = Task (codes "one") [] 1 3 0

-- what makes o1.2
abbrev pub birth_1_2 : Birth
birth_1_2 = Task (codes "sq") (given (int 3) ∷ []) 1 3 0

-- what each job comes to
abbrev pub kept_by_owner_doings : List Doing
kept_by_owner_doings =
    doing 1 (done (birth_1_1 ∷ birth_1_2 ∷ []) [] (AtGet o1_1))
    ∷ doing 2 (done [] [] (AtEnd (Val (int 1) ∷ [])))
    ∷ doing 3 (done [] [] (AtEnd (Val (int 9) ∷ [])))
    ∷ doing 4 (done [] [] (AtGet o1_2))
    ∷ doing 5 (done [] [] (AtEnd (Val (int 10) ∷ [])))
    ∷ []

-- the lines of the event file
abbrev pub kept_by_owner_lines : List Line
kept_by_owner_lines =
    Does (Claim 1)
    ∷ Does (Commit 1)
    ∷ Settles (1 ∷ [])
    ∷ Does (KillNode 2)
    ∷ Does (NoticeNode 1 2)
    ∷ Settles []
    ∷ []

-- the events, one by one
abbrev pub kept_by_owner_events : List Line
kept_by_owner_events =
    does_all
    (Claim 1 ∷ Commit 1 ∷ Deliver 1 ∷ Deliver 2 ∷ Deliver 3 ∷ Deliver 4 ∷ Deliver 5 ∷ Deliver 6 ∷ Deliver 7 ∷ Deliver 8 ∷ Claim 2 ∷
    Commit 2 ∷ Deliver 9 ∷ Deliver 10 ∷ Deliver 11 ∷ Claim 3 ∷ Commit 3 ∷ Deliver 12 ∷ Deliver 13 ∷ Deliver 14 ∷ KillNode 2 ∷
    NoticeNode 1 2 ∷ Claim 1 ∷ Commit 4 ∷ Claim 1 ∷ Commit 5 ∷ [])

-- the log, the messages and the jobs
abbrev pub kept_by_owner_run : Seen
kept_by_owner_run =
    record {
      log =
          Opened 1 1
          ∷ Begun a1_0_0 1
          ∷ In (Claim 1) 0
          ∷ In (Commit 1) 0
          ∷ Born o1_1 a1_0_0 birth_1_1
          ∷ Born o1_2 a1_0_0 birth_1_2
          ∷ In (Deliver 1) 0
          ∷ Opened 2 1
          ∷ In (Deliver 2) 0
          ∷ In (Deliver 3) 0
          ∷ Begun a1_1_0 2
          ∷ In (Deliver 4) 0
          ∷ In (Deliver 5) 0
          ∷ In (Deliver 6) 0
          ∷ Opened 3 2
          ∷ In (Deliver 7) 0
          ∷ Begun a1_2_0 3
          ∷ In (Deliver 8) 0
          ∷ In (Claim 2) 0
          ∷ In (Commit 2) 0
          ∷ Ended a1_1_0 (Val (int 1) ∷ [])
          ∷ In (Deliver 9) 0
          ∷ Accepted a1_1_0
          ∷ Got a1_0_0 o1_1 (Val (int 1))
          ∷ In (Deliver 10) 0
          ∷ In (Deliver 11) 0
          ∷ In (Claim 3) 0
          ∷ In (Commit 3) 0
          ∷ Ended a1_2_0 (Val (int 9) ∷ [])
          ∷ In (Deliver 12) 0
          ∷ Accepted a1_2_0
          ∷ In (Deliver 13) 0
          ∷ In (Deliver 14) 0
          ∷ In (KillNode 2) 0
          ∷ In (NoticeNode 1 2) 0
          ∷ In (Claim 1) 0
          ∷ In (Commit 4) 0
          ∷ Got a1_0_0 o1_2 (Val (int 9))
          ∷ In (Claim 1) 0
          ∷ In (Commit 5) 0
          ∷ Ended a1_0_0 (Val (int 10) ∷ [])
          ∷ Released o1_1
          ∷ Released o1_2
          ∷ [];
      envelopes =
          envelope (TheWorker 1) (TheNode 1) (Ask a1_1_0 0)
          ∷ envelope (TheWorker 1) (TheNode 1) (Ask a1_2_0 0)
          ∷ envelope (TheNode 1) (TheWorker 1) (Give a1_1_0 0 2)
          ∷ envelope (TheNode 1) (TheWorker 1) (Elsewhere a1_2_0 0 2)
          ∷ envelope (TheWorker 1) (TheWorker 2) (Push a1_1_0 birth_1_1)
          ∷ envelope (TheWorker 1) (TheNode 2) (Ask a1_2_0 1)
          ∷ envelope (TheNode 2) (TheWorker 1) (Give a1_2_0 1 3)
          ∷ envelope (TheWorker 1) (TheWorker 3) (Push a1_2_0 birth_1_2)
          ∷ envelope (TheWorker 2) (TheWorker 1) (Finished a1_1_0 1 (told [] (Some (Val (int 1))) ∷ []))
          ∷ envelope (TheWorker 1) (TheWorker 2) (FinishedAck a1_1_0)
          ∷ envelope (TheWorker 2) (TheNode 1) (Back a1_1_0)
          ∷ envelope (TheWorker 3) (TheWorker 1) (Finished a1_2_0 2 (told [] (Some (Val (int 9))) ∷ []))
          ∷ envelope (TheWorker 1) (TheWorker 3) (FinishedAck a1_2_0)
          ∷ envelope (TheWorker 3) (TheNode 2) (Back a1_2_0)
          ∷ [];
      given =
          job 1 a1_0_0 main_birth o1_1 [] [] []
          ∷ job 2 a1_1_0 birth_1_1 o2_1 [] [] []
          ∷ job 3 a1_2_0 birth_1_2 o3_1 [] [] []
          ∷ job 4 a1_0_0 main_birth o1_1 (birth_1_1 ∷ birth_1_2 ∷ []) [] (Val (int 1) ∷ [])
          ∷ job 5 a1_0_0 main_birth o1_1 (birth_1_1 ∷ birth_1_2 ∷ []) [] (Val (int 1) ∷ Val (int 9) ∷ [])
          ∷ [];
    }
