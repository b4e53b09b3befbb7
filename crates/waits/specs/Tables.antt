-- What the tables of a run say.
use Rattle.std.specs.Prelude.{Bool, List, None, Option, Some, [], false, ℕ, ◌&&◌, ◌==◌, ◌∷◌}
use Rattle.std.specs.List.{list_any}
use Rattle.event_log.specs.Entries.{Attempt}
use Rattle.event_log.specs.Events.{from_one}
use Rattle.event_log.specs.Words.{same_attempt}
use Rattle.protocol_data.specs.declared.node.AskKey.{AskKey}
use Rattle.protocol_data.specs.declared.node.Node.{Node}
use Rattle.protocol_data.specs.declared.tables.Holding.{Holding}
use Rattle.protocol_data.specs.declared.tables.Execution.{Execution}
use Rattle.protocol_data.specs.declared.tables.Worker.{Worker}
use Rattle.protocol_data.specs.declared.cluster_state.ClusterState.{ClusterState}

-- workers, nodes and objects by number, from 1 on
abbrev pub worker_at : ClusterState → ℕ → Option Worker
worker_at c w = from_one c.workers w

abbrev pub node_at : ClusterState → ℕ → Option Node
node_at c n = from_one c.nodes n

abbrev pub is_live : Option Worker → Bool
is_live None = false
is_live (Some x) = x.is_live

abbrev pub is_live_node : Option Node → Bool
is_live_node None = false
is_live_node (Some x) = x.is_live

abbrev pub is_one : ℕ → List ℕ → Bool
is_one w xs = list_any (λ v. v == w) xs

-- who has a slot of the node
abbrev pub holders_of : Option Node → List ℕ
holders_of None = []
holders_of (Some x) = x.scheduler.slot_holders

abbrev pub holders_at : ClusterState → ℕ → List ℕ
holders_at c n = holders_of (node_at c n)

abbrev pub is_ask_of : Attempt → ℕ → AskKey → Bool
is_ask_of a t key = same_attempt key.attempt a && (key.hops == t)

-- the ask waits at the node for a slot
abbrev pub is_queued : Attempt → ℕ → Option Node → Bool
is_queued a t None = false
is_queued a t (Some x) = list_any (is_ask_of a t) x.scheduler.queue

-- the attempt that the worker runs, or ran last
abbrev pub run_of : Option Worker → Option Execution
run_of None = None
run_of (Some x) = x.run

abbrev pub is_run_of : Attempt → Option Execution → Bool
is_run_of a None = false
is_run_of a (Some r) = same_attempt r.attempt a

-- that attempt is the one
abbrev pub runs : ClusterState → ℕ → Attempt → Bool
runs c w a = is_run_of a (run_of (worker_at c w))

abbrev pub first_hold_in : List Holding → Option Holding
first_hold_in [] = None
first_hold_in (h ∷ hs) = Some h

-- the first Hold of a run that no HoldAck has answered
abbrev pub first_hold_of : Option Execution → Option Holding
first_hold_of None = None
first_hold_of (Some r) = first_hold_in r.holds

abbrev pub first_hold : ClusterState → ℕ → Option Holding
first_hold c w = first_hold_of (run_of (worker_at c w))
