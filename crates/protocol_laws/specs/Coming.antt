-- Events one after the other, and what is asked of those who hand in what was done on a job.
use Rattle.std.specs.Prelude.{◌≡◌, List, [], ◌∷◌, ◌++◌, Some}
use Rattle.event_log.specs.Entries.{Commit, Entry, Event}
use Rattle.event_log.specs.Rules.{Setting}
use Rattle.holding_steps.specs.of_protocol.Answers.{answer, logged, whole_after}
use Rattle.holding_steps.specs.of_protocol.Jobs.{JobRecord, CommitInput, OfJob}
use Rattle.holding_steps.specs.of_protocol.Numbered.{item_at}
use Rattle.holding_steps.specs.of_protocol.Tables.{Out, Execution, Worker}
use Rattle.holding_steps.specs.of_protocol.Cluster.{ClusterState, worker_at}
use Rattle.protocol_legal.specs.Done.{IsTrue}
use Rattle.protocol_owed.specs.Runs.{Handing}

abbrev pub log_after : List Entry → ClusterState → List Handing → List Entry
log_after log c [] = log
log_after log c (x ∷ xs) = log_after (log ++ logged x.event x.seat (answer c x.event x.handed)) (whole_after c (answer c x.event x.handed)) xs

abbrev pub all_after : ClusterState → List Handing → ClusterState
all_after c [] = c
all_after c (x ∷ xs) = all_after (whole_after c (answer c x.event x.handed)) xs

-- what is handed in with the commit of a job goes on as the replay of its attempt does
abbrev pub IsRight : Setting → ClusterState → Event → CommitInput → Type 0
IsRight s c (Commit j) (OfJob d) =
    (g : JobRecord) (x : Worker) (run : Execution) →
    item_at c.jobs j ≡ Some g → worker_at c g.worker ≡ Some x → x.run ≡ Some run → run.phase ≡ Out j → IsTrue s run d
IsRight s c e handed = Unit {0}

abbrev pub AllRight : Setting → ClusterState → List Handing → Type 0
AllRight s c [] = Unit {0}
AllRight s c (x ∷ xs) = IsRight s c x.event x.handed × AllRight s (whole_after c (answer c x.event x.handed)) xs
