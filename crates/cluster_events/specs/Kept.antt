-- What is kept of a worker and its node, for an event that may be refused while it is applied.
use Rattle.std.specs.Prelude.{◌≡◌, Some, slice_get, slice_set, ℕ}
use Rattle.step_laws.specs.Limits.{whole_within}
use Rattle.protocol.specs.Nodes.{Node}
use Rattle.protocol.specs.Steps.{WorkerContext}
use Rattle.protocol.specs.Tables.{Worker}
use Rattle.protocol.specs.Cluster.{ClusterState, after_worker}
use Rattle.cluster_events.specs.declared.acting.Kept.{Kept}

-- the whole with others in the places of the worker and the node
abbrev pub with_others : ClusterState → ℕ → ℕ → Worker → Node → ClusterState
with_others c i j w n = record c { workers = slice_set c.workers i w; nodes = slice_set c.nodes j n }

-- it is the worker and the node at these places
abbrev pub IsKept : Kept → ClusterState → ℕ → ℕ → Type 0
IsKept k c i j = (slice_get c.workers i ≡ Some k.worker) × (slice_get c.nodes j ≡ Some k.node)

-- the whole with the worker and the node that were kept, of which this is what is left while others stand in their places
abbrev pub IsLeft : Kept → ClusterState → ℕ → ℕ → Worker → Node → ClusterState → Type 0
IsLeft k c i j w n left = (left ≡ with_others c i j w n) × IsKept k c i j

-- the whole after the worker and its node were put into what is left, unless that passes a limit
abbrev pub put_into : ℕ → ClusterState → ClusterState → ℕ → ℕ → WorkerContext → ClusterState
put_into made c left w n h = whole_within made c (after_worker left w n h)
