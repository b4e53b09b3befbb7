-- A kill of no worker, and a commit of a dead worker's job.
-- `return get remote(0) one();`
-- 10 events, 20 entries, 3 messages, 2 jobs.
use Rattle.std.specs.Prelude.{List, [], codes, ◌∷◌}
use Rattle.meaning.specs.Values.{Birth, Task, Val, main_birth}
use Rattle.event_log.specs.Entries.{Begun, Born, Claim, Commit, Deliver, Faulted, In, Kill, Notice, Opened, Refused, Released, Resolved, RetriesUsed}
use Rattle.event_log.specs.Entries.{NoWorker, Stale}
use Rattle.protocol.specs.Sets.{fault}
use Rattle.protocol.specs.Messages.{Ask, Give, Push, TheNode, TheWorker, envelope}
use Rattle.protocol.specs.Jobs.{AtEnd, AtGet}
use Rattle.protocol.specs.Plays.{Does, Doing, Line, Seen, Settles, does_all, doing}
use Rattle.protocol_rows.specs.Writing.{a1_0_0, a1_1_0, done, int, job, o1_1, o2_1}

-- what makes o1.1
abbrev pub birth_1_1 : Birth
birth_1_1 = Task (codes "one") [] 1 0 0

-- what each job comes to
abbrev pub dead_commit_doings : List Doing
dead_commit_doings =
    doing 1 (done (birth_1_1 ∷ []) [] (AtGet o1_1))
    ∷ doing 2 (done [] [] (AtEnd (Val (int 1) ∷ [])))
    ∷ []

-- the lines of the event file
abbrev pub dead_commit_lines : List Line
dead_commit_lines =
    Does (Kill 2)
    ∷ Settles (2 ∷ [])
    ∷ Does (Claim 2)
    ∷ Does (Kill 2)
    ∷ Does (Commit 2)
    ∷ Does (Notice 1 2)
    ∷ Settles []
    ∷ []

-- the events, one by one
abbrev pub dead_commit_events : List Line
dead_commit_events =
    does_all
    (Kill 2 ∷ Claim 1 ∷ Commit 1 ∷ Deliver 1 ∷ Deliver 2 ∷ Deliver 3 ∷ Claim 2 ∷ Kill 2 ∷ Commit 2 ∷ Notice 1 2 ∷ [])

-- the log, the messages and the jobs
abbrev pub dead_commit_run : Seen
dead_commit_run =
    record {
      log =
          Opened 1 1
          ∷ Begun a1_0_0 1
          ∷ In (Kill 2) 0
          ∷ Refused NoWorker
          ∷ In (Claim 1) 0
          ∷ In (Commit 1) 0
          ∷ Born o1_1 a1_0_0 birth_1_1
          ∷ In (Deliver 1) 0
          ∷ Opened 2 1
          ∷ In (Deliver 2) 0
          ∷ Begun a1_1_0 2
          ∷ In (Deliver 3) 0
          ∷ In (Claim 2) 0
          ∷ In (Kill 2) 0
          ∷ In (Commit 2) 0
          ∷ Refused Stale
          ∷ In (Notice 1 2) 0
          ∷ Resolved o1_1 (fault RetriesUsed o1_1)
          ∷ Faulted a1_0_0 o1_1 (fault RetriesUsed o1_1)
          ∷ Released o1_1
          ∷ [];
      envelopes =
          envelope (TheWorker 1) (TheNode 1) (Ask a1_1_0 0)
          ∷ envelope (TheNode 1) (TheWorker 1) (Give a1_1_0 0 2)
          ∷ envelope (TheWorker 1) (TheWorker 2) (Push a1_1_0 birth_1_1)
          ∷ [];
      given =
          job 1 a1_0_0 main_birth o1_1 [] [] []
          ∷ job 2 a1_1_0 birth_1_1 o2_1 [] [] []
          ∷ [];
    }
