-- One of two results is lost; while the task runs again, the other one is told from its location. Later the release is told to the locations of both attempts.
-- `let a, b = remote(1) pair(4); let c = get a; let x = remote head(a); let d = get b; return d[0] + get x;`
-- 45 events, 68 entries, 28 messages, 8 jobs.
use Rattle.std.specs.Prelude.{List, None, Some, [], codes, ◌∷◌}
use Rattle.meaning.specs.Values.{Birth, Task, Val, main_birth}
use Rattle.event_log.specs.Entries.{Accepted, Begun, Born, Claim, Commit, Deliver, Ended, Got, In, Lose, Opened, Released}
use Rattle.protocol.specs.Messages.{Ask, At, Back, CopyOf, Elsewhere, Fetch, Finished, FinishedAck}
use Rattle.protocol.specs.Messages.{Give, Push, TheNode, TheWorker, Unhold, WasReleased, Where, envelope}
use Rattle.protocol.specs.Jobs.{AtEnd, AtGet}
use Rattle.protocol.specs.Plays.{Does, Doing, Line, Seen, Settles, does_all, doing}
use Rattle.protocol_rows.specs.Writing.{a1_0_0, a1_1_0, a1_1_1, a1_3_0, dereferenced, done, given, int, job, nine, o1_1, o1_2, o1_3, o2_1, o3_1, told}

-- what makes o1.1
abbrev pub birth_1_1 : Birth
birth_1_1 = Task (codes "pair") (given (int 4) ∷ []) 1 1 1

-- what makes o1.3
abbrev pub birth_1_3 : Birth
birth_1_3 = Task (codes "head") (dereferenced o1_1 ∷ []) 1 3 0

-- what each job comes to
abbrev pub place_there_doings : List Doing
place_there_doings =
    doing 1 (done (birth_1_1 ∷ []) [] (AtGet o1_1))
    ∷ doing 2 (done [] [] (AtEnd (Val (nine (int 4)) ∷ Val (nine (int 4)) ∷ [])))
    ∷ doing 3 (done (birth_1_3 ∷ []) [] (AtGet o1_2))
    ∷ doing 4 (done [] [] (AtGet o1_1))
    ∷ doing 5 (done [] [] (AtEnd (Val (int 4) ∷ [])))
    ∷ doing 6 (done [] [] (AtEnd (Val (nine (int 4)) ∷ Val (nine (int 4)) ∷ [])))
    ∷ doing 7 (done [] [] (AtGet o1_3))
    ∷ doing 8 (done [] [] (AtEnd (Val (int 8) ∷ [])))
    ∷ []

-- the lines of the event file
abbrev pub place_there_lines : List Line
place_there_lines =
    Does (Claim 1)
    ∷ Does (Commit 1)
    ∷ Settles (1 ∷ [])
    ∷ Does (Lose 1 o1_2)
    ∷ Settles []
    ∷ []

-- the events, one by one
abbrev pub place_there_events : List Line
place_there_events =
    does_all
    (Claim 1 ∷ Commit 1 ∷ Deliver 1 ∷ Deliver 2 ∷ Deliver 3 ∷ Claim 2 ∷ Commit 2 ∷ Deliver 4 ∷ Deliver 5 ∷ Deliver 6 ∷
    Lose 1 o1_2 ∷ Claim 1 ∷ Commit 3 ∷ Deliver 7 ∷ Deliver 8 ∷ Deliver 9 ∷ Deliver 10 ∷ Deliver 11 ∷ Deliver 12 ∷ Deliver 13 ∷
    Deliver 14 ∷ Claim 2 ∷ Commit 4 ∷ Deliver 15 ∷ Deliver 16 ∷ Claim 2 ∷ Commit 5 ∷ Deliver 17 ∷ Deliver 18 ∷ Deliver 19 ∷
    Claim 3 ∷ Commit 6 ∷ Deliver 20 ∷ Deliver 21 ∷ Deliver 22 ∷ Deliver 23 ∷ Deliver 24 ∷ Claim 1 ∷ Commit 7 ∷ Claim 1 ∷
    Commit 8 ∷ Deliver 25 ∷ Deliver 26 ∷ Deliver 27 ∷ Deliver 28 ∷ [])

-- the log, the messages and the jobs
abbrev pub place_there_run : Seen
place_there_run =
    record {
      log =
          Opened 1 1
          ∷ Begun a1_0_0 1
          ∷ In (Claim 1) 0
          ∷ In (Commit 1) 0
          ∷ Born o1_1 a1_0_0 birth_1_1
          ∷ In (Deliver 1) 0
          ∷ Opened 2 1
          ∷ In (Deliver 2) 0
          ∷ Begun a1_1_0 2
          ∷ In (Deliver 3) 0
          ∷ In (Claim 2) 0
          ∷ In (Commit 2) 0
          ∷ Ended a1_1_0 (Val (nine (int 4)) ∷ Val (nine (int 4)) ∷ [])
          ∷ In (Deliver 4) 0
          ∷ Accepted a1_1_0
          ∷ Got a1_0_0 o1_1 (Val (nine (int 4)))
          ∷ In (Deliver 5) 0
          ∷ In (Deliver 6) 0
          ∷ In (Lose 1 o1_2) 0
          ∷ In (Claim 1) 0
          ∷ In (Commit 3) 0
          ∷ Born o1_3 a1_0_0 birth_1_3
          ∷ In (Deliver 7) 0
          ∷ In (Deliver 8) 0
          ∷ In (Deliver 9) 0
          ∷ Begun a1_3_0 2
          ∷ In (Deliver 10) 0
          ∷ In (Deliver 11) 0
          ∷ In (Deliver 12) 0
          ∷ Opened 3 2
          ∷ In (Deliver 13) 0
          ∷ Begun a1_1_1 3
          ∷ In (Deliver 14) 0
          ∷ In (Claim 2) 0
          ∷ In (Commit 4) 0
          ∷ In (Deliver 15) 0
          ∷ In (Deliver 16) 0
          ∷ Got a1_3_0 o1_1 (Val (nine (int 4)))
          ∷ In (Claim 2) 0
          ∷ In (Commit 5) 0
          ∷ Ended a1_3_0 (Val (int 4) ∷ [])
          ∷ In (Deliver 17) 0
          ∷ Accepted a1_3_0
          ∷ In (Deliver 18) 0
          ∷ In (Deliver 19) 0
          ∷ In (Claim 3) 0
          ∷ In (Commit 6) 0
          ∷ Ended a1_1_1 (Val (nine (int 4)) ∷ Val (nine (int 4)) ∷ [])
          ∷ In (Deliver 20) 0
          ∷ Accepted a1_1_1
          ∷ In (Deliver 21) 0
          ∷ In (Deliver 22) 0
          ∷ In (Deliver 23) 0
          ∷ In (Deliver 24) 0
          ∷ Got a1_0_0 o1_2 (Val (nine (int 4)))
          ∷ In (Claim 1) 0
          ∷ In (Commit 7) 0
          ∷ Got a1_0_0 o1_3 (Val (int 4))
          ∷ In (Claim 1) 0
          ∷ In (Commit 8) 0
          ∷ Ended a1_0_0 (Val (int 8) ∷ [])
          ∷ Released o1_3
          ∷ Released o1_1
          ∷ Released o1_2
          ∷ In (Deliver 25) 0
          ∷ In (Deliver 26) 0
          ∷ In (Deliver 27) 0
          ∷ In (Deliver 28) 0
          ∷ [];
      envelopes =
          envelope (TheWorker 1) (TheNode 1) (Ask a1_1_0 0)
          ∷ envelope (TheNode 1) (TheWorker 1) (Give a1_1_0 0 2)
          ∷ envelope (TheWorker 1) (TheWorker 2) (Push a1_1_0 birth_1_1)
          ∷ envelope (TheWorker 2) (TheWorker 1) (Finished a1_1_0 1 (told [] None ∷ told [] None ∷ []))
          ∷ envelope (TheWorker 1) (TheWorker 2) (FinishedAck a1_1_0)
          ∷ envelope (TheWorker 2) (TheNode 1) (Back a1_1_0)
          ∷ envelope (TheWorker 1) (TheNode 1) (Ask a1_3_0 0)
          ∷ envelope (TheWorker 1) (TheNode 1) (Ask a1_1_1 0)
          ∷ envelope (TheNode 1) (TheWorker 1) (Give a1_3_0 0 2)
          ∷ envelope (TheNode 1) (TheWorker 1) (Elsewhere a1_1_1 0 2)
          ∷ envelope (TheWorker 1) (TheWorker 2) (Push a1_3_0 birth_1_3)
          ∷ envelope (TheWorker 1) (TheNode 2) (Ask a1_1_1 1)
          ∷ envelope (TheNode 2) (TheWorker 1) (Give a1_1_1 1 3)
          ∷ envelope (TheWorker 1) (TheWorker 3) (Push a1_1_1 birth_1_1)
          ∷ envelope (TheWorker 2) (TheWorker 1) (Where o1_1)
          ∷ envelope (TheWorker 1) (TheWorker 2) (At o1_1 0 (1 ∷ []) None)
          ∷ envelope (TheWorker 2) (TheWorker 1) (Finished a1_3_0 1 (told [] (Some (Val (int 4))) ∷ []))
          ∷ envelope (TheWorker 1) (TheWorker 2) (FinishedAck a1_3_0)
          ∷ envelope (TheWorker 2) (TheNode 1) (Back a1_3_0)
          ∷ envelope (TheWorker 3) (TheWorker 1) (Finished a1_1_1 2 (told [] None ∷ told [] None ∷ []))
          ∷ envelope (TheWorker 1) (TheWorker 3) (FinishedAck a1_1_1)
          ∷ envelope (TheWorker 1) (TheNode 2) (Fetch o1_2 1)
          ∷ envelope (TheWorker 3) (TheNode 2) (Back a1_1_1)
          ∷ envelope (TheNode 2) (TheWorker 1) (CopyOf o1_2 1 (Val (nine (int 4))))
          ∷ envelope (TheWorker 1) (TheNode 1) (Unhold o1_1 o1_1 WasReleased)
          ∷ envelope (TheWorker 1) (TheNode 2) (Unhold o1_1 o1_1 WasReleased)
          ∷ envelope (TheWorker 1) (TheNode 1) (Unhold o1_2 o1_2 WasReleased)
          ∷ envelope (TheWorker 1) (TheNode 2) (Unhold o1_2 o1_2 WasReleased)
          ∷ [];
      given =
          job 1 a1_0_0 main_birth o1_1 [] [] []
          ∷ job 2 a1_1_0 birth_1_1 o2_1 [] [] []
          ∷ job 3 a1_0_0 main_birth o1_1 (birth_1_1 ∷ []) [] (Val (nine (int 4)) ∷ [])
          ∷ job 4 a1_3_0 birth_1_3 o2_1 [] [] []
          ∷ job 5 a1_3_0 birth_1_3 o2_1 [] [] (Val (nine (int 4)) ∷ [])
          ∷ job 6 a1_1_1 birth_1_1 o3_1 [] [] []
          ∷ job 7 a1_0_0 main_birth o1_1 (birth_1_1 ∷ birth_1_3 ∷ []) [] (Val (nine (int 4)) ∷ Val (nine (int 4)) ∷ [])
          ∷ job 8 a1_0_0 main_birth o1_1 (birth_1_1 ∷ birth_1_3 ∷ []) [] (Val (nine (int 4)) ∷ Val (nine (int 4)) ∷ Val (int 4) ∷ [])
          ∷ [];
    }
