-- An event of each kind that can be refused, with each cause.
-- `let r = remote sq(7); print get r; return 0;`
-- 33 events, 65 entries, 1 messages, 1 jobs.
use Rattle.std.specs.Prelude.{List, [], codes, ◌∷◌}
use Rattle.meaning.specs.Values.{Birth, Task, main_birth}
use Rattle.event_log.specs.Entries.{Begun, Born, Claim, Commit, Deliver, Evict, In, Kill, KillNode, Lose, Notice, NoticeNode, Opened, Refused, Tick}
use Rattle.event_log.specs.Entries.{NoCopy, NoWorker, NotReady, NoJob, NoMessage, NotDead, NoNode}
use Rattle.protocol.specs.Messages.{Ask, TheNode, TheWorker, envelope}
use Rattle.protocol.specs.Jobs.{AtGet}
use Rattle.protocol.specs.Plays.{Doing, Line, Seen, does_all, doing}
use Rattle.protocol_rows.specs.Writing.{a1_0_0, a1_1_0, done, given, int, job, o1_1}

-- what makes o1.1
abbrev pub birth_1_1 : Birth
birth_1_1 = Task (codes "sq") (given (int 7) ∷ []) 1 3 0

-- what each job comes to
abbrev pub each_refused_doings : List Doing
each_refused_doings =
    doing 1 (done (birth_1_1 ∷ []) [] (AtGet o1_1))
    ∷ []

-- the events, one by one
abbrev pub each_refused_events : List Line
each_refused_events =
    does_all
    (Claim 0 ∷ Claim 2 ∷ Commit 1 ∷ Claim 1 ∷ Claim 1 ∷ Commit 1 ∷ Commit 1 ∷ Commit 0 ∷ Deliver 0 ∷ Deliver 2 ∷ Tick 2 ∷
    Notice 2 2 ∷ Notice 1 2 ∷ Notice 1 1 ∷ NoticeNode 2 2 ∷ NoticeNode 1 2 ∷ NoticeNode 1 1 ∷ Evict 0 o1_1 ∷ Evict 2 o1_1 ∷
    Evict 1 o1_1 ∷ Lose 2 o1_1 ∷ Lose 1 o1_1 ∷ Kill 2 ∷ KillNode 2 ∷ KillNode 1 ∷ Kill 1 ∷ KillNode 1 ∷ Lose 1 o1_1 ∷
    Evict 1 o1_1 ∷ Tick 1 ∷ NoticeNode 1 1 ∷ Deliver 1 ∷ Commit 1 ∷ [])

-- the log, the messages and the jobs
abbrev pub each_refused_run : Seen
each_refused_run =
    record {
      log =
          Opened 1 1
          ∷ Begun a1_0_0 1
          ∷ In (Claim 0) 0
          ∷ Refused NoWorker
          ∷ In (Claim 2) 0
          ∷ Refused NoWorker
          ∷ In (Commit 1) 0
          ∷ Refused NoJob
          ∷ In (Claim 1) 0
          ∷ In (Claim 1) 0
          ∷ Refused NotReady
          ∷ In (Commit 1) 0
          ∷ Born o1_1 a1_0_0 birth_1_1
          ∷ In (Commit 1) 0
          ∷ Refused NoJob
          ∷ In (Commit 0) 0
          ∷ Refused NoJob
          ∷ In (Deliver 0) 0
          ∷ Refused NoMessage
          ∷ In (Deliver 2) 0
          ∷ Refused NoMessage
          ∷ In (Tick 2) 0
          ∷ Refused NoWorker
          ∷ In (Notice 2 2) 0
          ∷ Refused NoWorker
          ∷ In (Notice 1 2) 0
          ∷ Refused NotDead
          ∷ In (Notice 1 1) 0
          ∷ Refused NotDead
          ∷ In (NoticeNode 2 2) 0
          ∷ Refused NoWorker
          ∷ In (NoticeNode 1 2) 0
          ∷ Refused NotDead
          ∷ In (NoticeNode 1 1) 0
          ∷ Refused NotDead
          ∷ In (Evict 0 o1_1) 0
          ∷ Refused NoNode
          ∷ In (Evict 2 o1_1) 0
          ∷ Refused NoNode
          ∷ In (Evict 1 o1_1) 0
          ∷ Refused NoCopy
          ∷ In (Lose 2 o1_1) 0
          ∷ Refused NoNode
          ∷ In (Lose 1 o1_1) 0
          ∷ Refused NoCopy
          ∷ In (Kill 2) 0
          ∷ Refused NoWorker
          ∷ In (KillNode 2) 0
          ∷ Refused NoNode
          ∷ In (KillNode 1) 0
          ∷ In (Kill 1) 0
          ∷ Refused NoWorker
          ∷ In (KillNode 1) 0
          ∷ Refused NoNode
          ∷ In (Lose 1 o1_1) 0
          ∷ Refused NoNode
          ∷ In (Evict 1 o1_1) 0
          ∷ Refused NoNode
          ∷ In (Tick 1) 0
          ∷ Refused NoWorker
          ∷ In (NoticeNode 1 1) 0
          ∷ Refused NoWorker
          ∷ In (Deliver 1) 0
          ∷ In (Commit 1) 0
          ∷ Refused NoJob
          ∷ [];
      envelopes =
          envelope (TheWorker 1) (TheNode 1) (Ask a1_1_0 0)
          ∷ [];
      given =
          job 1 a1_0_0 main_birth o1_1 [] [] []
          ∷ [];
    }
