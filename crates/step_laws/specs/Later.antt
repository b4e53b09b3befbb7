-- What an event changes in the whole beside the steps of a worker and a node.
use Rattle.std.specs.Prelude.{List, slice_set, true, ℕ}
use Rattle.protocol.specs.Jobs.{JobRecord}
use Rattle.protocol.specs.Cluster.{Transition, ClusterState}

-- the jobs and the number of objects
abbrev pub counted : ℕ → List JobRecord → ClusterState → ClusterState
counted made jobs c = record c { made = made; jobs = jobs }

abbrev pub counted_on : ℕ → List JobRecord → Transition → Transition
counted_on made jobs m = record m { whole = counted made jobs m.whole }

-- a mark on a message that was there before
abbrev pub marked : ℕ → ClusterState → ClusterState
marked i c = record c { delivered = slice_set c.delivered i true }

abbrev pub marked_on : ℕ → Transition → Transition
marked_on i m = record m { whole = marked i m.whole }
