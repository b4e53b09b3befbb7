-- What attempts did so far begins what their tasks do.
use Rattle.std.specs.Prelude.{◌≡◌, ℕ, true, Some}
use Rattle.meaning.specs.Syntax.{Script}
use Rattle.protocol_core.specs.SameJobs.{IsInPace}
use Rattle.protocol.specs.Tables.{Execution, Worker}
use Rattle.protocol.specs.Cluster.{ClusterState, worker_at}

-- what each attempt of a live worker bore and printed begins what its task does on its answers
abbrev pub AreInPace : Script → ClusterState → Type 0
AreInPace script c = (w : ℕ) (x : Worker) (run : Execution) → worker_at c w ≡ Some x → x.is_live ≡ true → x.run ≡ Some run → IsInPace script run
