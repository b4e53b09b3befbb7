-- A secondary copy is evicted, and fetched anew.
-- `let x = remote big(1); let y = remote big(2); let a = get y; let b = get x; let c = get y; return c[0];`
-- 35 events, 54 entries, 21 messages, 6 jobs.
use Rattle.std.specs.Prelude.{List, None, [], codes, ◌∷◌}
use Rattle.meaning.specs.Values.{Birth, Task, Val, main_birth}
use Rattle.event_log.specs.Entries.{Accepted, Begun, Born, Claim, Commit, Deliver, Ended, Evict, Got, In, Opened, Refused, Released}
use Rattle.event_log.specs.Entries.{NoCopy}
use Rattle.protocol.specs.Messages.{Ask, Back, CopyOf, Elsewhere, Fetch, Finished, FinishedAck, Give, Push, TheNode, TheWorker, Unhold, WasReleased, envelope}
use Rattle.protocol.specs.Jobs.{AtEnd, AtGet}
use Rattle.protocol.specs.Plays.{Does, Doing, Line, Seen, Settles, does_all, doing}
use Rattle.protocol_rows.specs.Writing.{a1_0_0, a1_1_0, a1_2_0, done, given, int, job, nine, o1_1, o1_2, o2_1, o3_1, told}

-- what makes o1.1
abbrev pub birth_1_1 : Birth
birth_1_1 = Task (codes "big") (given (int 1) ∷ []) 1 3 0

-- what makes o1.2
abbrev pub birth_1_2 : Birth
birth_1_2 = Task (codes "big") (given (int 2) ∷ []) 1 3 0

-- what each job comes to
abbrev pub evicted_doings : List Doing
evicted_doings =
    doing 1 (done (birth_1_1 ∷ birth_1_2 ∷ []) [] (AtGet o1_2))
    ∷ doing 2 (done [] [] (AtEnd (Val (nine (int 1)) ∷ [])))
    ∷ doing 3 (done [] [] (AtEnd (Val (nine (int 2)) ∷ [])))
    ∷ doing 4 (done [] [] (AtGet o1_1))
    ∷ doing 5 (done [] [] (AtGet o1_2))
    ∷ doing 6 (done [] [] (AtEnd (Val (int 2) ∷ [])))
    ∷ []

-- the lines of the event file
abbrev pub evicted_lines : List Line
evicted_lines =
    Does (Claim 1)
    ∷ Does (Commit 1)
    ∷ Settles (1 ∷ [])
    ∷ Does (Evict 1 o1_2)
    ∷ Does (Evict 1 o1_2)
    ∷ Settles []
    ∷ []

-- the events, one by one
abbrev pub evicted_events : List Line
evicted_events =
    does_all
    (Claim 1 ∷ Commit 1 ∷ Deliver 1 ∷ Deliver 2 ∷ Deliver 3 ∷ Deliver 4 ∷ Deliver 5 ∷ Deliver 6 ∷ Deliver 7 ∷ Deliver 8 ∷ Claim 2 ∷
    Commit 2 ∷ Deliver 9 ∷ Deliver 10 ∷ Deliver 11 ∷ Claim 3 ∷ Commit 3 ∷ Deliver 12 ∷ Deliver 13 ∷ Deliver 14 ∷ Deliver 15 ∷
    Deliver 16 ∷ Evict 1 o1_2 ∷ Evict 1 o1_2 ∷ Claim 1 ∷ Commit 4 ∷ Claim 1 ∷ Commit 5 ∷ Deliver 17 ∷ Deliver 18 ∷ Claim 1 ∷
    Commit 6 ∷ Deliver 19 ∷ Deliver 20 ∷ Deliver 21 ∷ [])

-- the log, the messages and the jobs
abbrev pub evicted_run : Seen
evicted_run =
    record {
      log =
          Opened 1 1
          ∷ Begun a1_0_0 1
          ∷ In (Claim 1) 0
          ∷ In (Commit 1) 0
          ∷ Born o1_1 a1_0_0 birth_1_1
          ∷ Born o1_2 a1_0_0 birth_1_2
          ∷ In (Deliver 1) 0
          ∷ Opened 2 1
          ∷ In (Deliver 2) 0
          ∷ In (Deliver 3) 0
          ∷ Begun a1_1_0 2
          ∷ In (Deliver 4) 0
          ∷ In (Deliver 5) 0
          ∷ In (Deliver 6) 0
          ∷ Opened 3 2
          ∷ In (Deliver 7) 0
          ∷ Begun a1_2_0 3
          ∷ In (Deliver 8) 0
          ∷ In (Claim 2) 0
          ∷ In (Commit 2) 0
          ∷ Ended a1_1_0 (Val (nine (int 1)) ∷ [])
          ∷ In (Deliver 9) 0
          ∷ Accepted a1_1_0
          ∷ In (Deliver 10) 0
          ∷ In (Deliver 11) 0
          ∷ In (Claim 3) 0
          ∷ In (Commit 3) 0
          ∷ Ended a1_2_0 (Val (nine (int 2)) ∷ [])
          ∷ In (Deliver 12) 0
          ∷ Accepted a1_2_0
          ∷ In (Deliver 13) 0
          ∷ In (Deliver 14) 0
          ∷ In (Deliver 15) 0
          ∷ In (Deliver 16) 0
          ∷ Got a1_0_0 o1_2 (Val (nine (int 2)))
          ∷ In (Evict 1 o1_2) 0
          ∷ In (Evict 1 o1_2) 0
          ∷ Refused NoCopy
          ∷ In (Claim 1) 0
          ∷ In (Commit 4) 0
          ∷ Got a1_0_0 o1_1 (Val (nine (int 1)))
          ∷ In (Claim 1) 0
          ∷ In (Commit 5) 0
          ∷ In (Deliver 17) 0
          ∷ In (Deliver 18) 0
          ∷ Got a1_0_0 o1_2 (Val (nine (int 2)))
          ∷ In (Claim 1) 0
          ∷ In (Commit 6) 0
          ∷ Ended a1_0_0 (Val (int 2) ∷ [])
          ∷ Released o1_1
          ∷ Released o1_2
          ∷ In (Deliver 19) 0
          ∷ In (Deliver 20) 0
          ∷ In (Deliver 21) 0
          ∷ [];
      envelopes =
          envelope (TheWorker 1) (TheNode 1) (Ask a1_1_0 0)
          ∷ envelope (TheWorker 1) (TheNode 1) (Ask a1_2_0 0)
          ∷ envelope (TheNode 1) (TheWorker 1) (Give a1_1_0 0 2)
          ∷ envelope (TheNode 1) (TheWorker 1) (Elsewhere a1_2_0 0 2)
          ∷ envelope (TheWorker 1) (TheWorker 2) (Push a1_1_0 birth_1_1)
          ∷ envelope (TheWorker 1) (TheNode 2) (Ask a1_2_0 1)
          ∷ envelope (TheNode 2) (TheWorker 1) (Give a1_2_0 1 3)
          ∷ envelope (TheWorker 1) (TheWorker 3) (Push a1_2_0 birth_1_2)
          ∷ envelope (TheWorker 2) (TheWorker 1) (Finished a1_1_0 1 (told [] None ∷ []))
          ∷ envelope (TheWorker 1) (TheWorker 2) (FinishedAck a1_1_0)
          ∷ envelope (TheWorker 2) (TheNode 1) (Back a1_1_0)
          ∷ envelope (TheWorker 3) (TheWorker 1) (Finished a1_2_0 2 (told [] None ∷ []))
          ∷ envelope (TheWorker 1) (TheWorker 3) (FinishedAck a1_2_0)
          ∷ envelope (TheWorker 1) (TheNode 2) (Fetch o1_2 0)
          ∷ envelope (TheWorker 3) (TheNode 2) (Back a1_2_0)
          ∷ envelope (TheNode 2) (TheWorker 1) (CopyOf o1_2 0 (Val (nine (int 2))))
          ∷ envelope (TheWorker 1) (TheNode 2) (Fetch o1_2 0)
          ∷ envelope (TheNode 2) (TheWorker 1) (CopyOf o1_2 0 (Val (nine (int 2))))
          ∷ envelope (TheWorker 1) (TheNode 1) (Unhold o1_1 o1_1 WasReleased)
          ∷ envelope (TheWorker 1) (TheNode 2) (Unhold o1_2 o1_2 WasReleased)
          ∷ envelope (TheWorker 1) (TheNode 1) (Unhold o1_2 o1_2 WasReleased)
          ∷ [];
      given =
          job 1 a1_0_0 main_birth o1_1 [] [] []
          ∷ job 2 a1_1_0 birth_1_1 o2_1 [] [] []
          ∷ job 3 a1_2_0 birth_1_2 o3_1 [] [] []
          ∷ job 4 a1_0_0 main_birth o1_1 (birth_1_1 ∷ birth_1_2 ∷ []) [] (Val (nine (int 2)) ∷ [])
          ∷ job 5 a1_0_0 main_birth o1_1 (birth_1_1 ∷ birth_1_2 ∷ []) [] (Val (nine (int 2)) ∷ Val (nine (int 1)) ∷ [])
          ∷ job 6 a1_0_0 main_birth o1_1 (birth_1_1 ∷ birth_1_2 ∷ []) [] (Val (nine (int 2)) ∷ Val (nine (int 1)) ∷ Val (nine (int 2)) ∷ [])
          ∷ [];
    }
