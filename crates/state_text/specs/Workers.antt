-- The lines of a worker: what it is for, what its attempt does, and which Holds it waits for.
use Rattle.std.specs.Prelude.{Bool, List, None, Option, Some, [], codes, false, if◌then◌else◌, slice_get, ℕ, ◌+◌, ◌++◌, ◌==◌, ◌∷◌}
use Rattle.std.specs.List.{flat_map, list_any}
use Rattle.std.specs.Fmt.{decimal}
use Rattle.meaning.specs.Values.{Id}
use Rattle.ids.specs.Texts.{object_text}
use Rattle.event_log.specs.Entries.{Attempt, Entry}
use Rattle.event_log.specs.Events.{from_one}
use Rattle.event_log.specs.Words.{births}
use Rattle.log_text.specs.Attempts.{named_text}
use Rattle.protocol_data.specs.declared.node.Lease.{Lease}
use Rattle.protocol_data.specs.declared.node.Node.{Node}
use Rattle.protocol_data.specs.declared.tables.Fetching.{Fetching}
use Rattle.protocol_data.specs.declared.tables.Holding.{Holding}
use Rattle.protocol_data.specs.declared.tables.Phase.{Phase}
use Rattle.protocol_data.specs.declared.tables.Phase.TheVariants.{HasEnded, HasFaulted, Out, Ready, Waits}
use Rattle.protocol_data.specs.declared.tables.Execution.{Execution}
use Rattle.protocol_data.specs.declared.tables.Worker.{Worker}
use Rattle.protocol_data.specs.declared.cluster_state.ClusterState.{ClusterState}
use Rattle.state_text.specs.Below.{below, worker_count}

abbrev pub node_at : ClusterState → ℕ → Option Node
node_at c n = from_one c.nodes n

-- worker w has a slot of the node
abbrev pub has_slot : ℕ → Option Node → Bool
has_slot w None = false
has_slot w (Some x) = list_any (λ v. v == w) x.scheduler.slot_holders

-- the node may give it
abbrev pub is_idle : ℕ → Option Node → Bool
is_idle w None = false
is_idle w (Some x) = list_any (λ v. v == w) x.scheduler.idle

abbrev pub lease_in : ℕ → List Lease → Option Attempt
lease_in w [] = None
lease_in w (l ∷ ls) = if l.worker == w then Some l.attempt else lease_in w ls

-- the attempt to which the node gave it last
abbrev pub lease_at : ℕ → Option Node → Option Attempt
lease_at w None = None
lease_at w (Some x) = lease_in w x.scheduler.leases

abbrev pub given_note : List Entry → Option Attempt → List ℕ
given_note log None = codes ", given to nobody\n"
given_note log (Some a) = codes ", given to " ++ (named_text (births log) a ++ codes "\n")

abbrev pub idle_note : List Entry → Bool → Option Attempt → List ℕ
idle_note log idle lease = if idle then codes ", idle\n" else given_note log lease

unfoldable pub standing_text : List Entry → ClusterState → ℕ → ℕ → List ℕ
standing_text log c w n =
    if w == 1 then codes ", driver\n" else idle_note log (is_idle w (node_at c n)) (lease_at w (node_at c n))

-- w1: alive, on n1, driver; w2: alive, on n1, idle; w3: alive, on n2, given to a1.2#0 (f)
unfoldable pub alive_head : ℕ → ℕ → List ℕ
alive_head w n = codes "w" ++ (decimal w ++ (codes ": alive, on n" ++ decimal n))

abbrev pub live_head : List Entry → ClusterState → ℕ → ℕ → List ℕ
live_head log c w n = alive_head w n ++ standing_text log c w n

abbrev pub ready_note : ℕ → Bool → List ℕ
ready_note n slot = if slot then codes " is ready\n" else codes " waits for a slot of n" ++ (decimal n ++ codes "\n")

abbrev pub wait_note : Id → Option Fetching → List ℕ
wait_note o None = codes " waits for " ++ (object_text o ++ codes "\n")
wait_note o (Some f) = codes " waits for " ++ (object_text o ++ (codes ", asked n" ++ (decimal f.node ++ codes " for a copy\n")))

abbrev pub ended_note : Bool → List ℕ
ended_note acknowledged = if acknowledged then codes " ended\n" else codes " ended, not acknowledged\n"

abbrev pub faulted_note : Bool → List ℕ
faulted_note acknowledged = if acknowledged then codes " ended with a fault\n" else codes " ended with a fault, not acknowledged\n"

abbrev pub phase_text : ClusterState → ℕ → ℕ → Bool → Phase → List ℕ
phase_text c w n acknowledged Ready = ready_note n (has_slot w (node_at c n))
phase_text c w n acknowledged (Out j) = codes " took job " ++ (decimal j ++ codes "\n")
phase_text c w n acknowledged (Waits o f) = wait_note o f
phase_text c w n acknowledged (HasEnded contents) = ended_note acknowledged
phase_text c w n acknowledged (HasFaulted fault) = faulted_note acknowledged

-- w3: waits until w4 knows that o1.2 has o4.1
unfoldable pub hold_line : ℕ → Holding → List ℕ
hold_line w h =
    codes "w"
    ++ (decimal w
    ++ (codes ": waits until w"
    ++ (decimal h.object.owner
    ++ (codes " knows that " ++ (object_text h.holder ++ (codes " has " ++ (object_text h.object ++ codes "\n")))))))

abbrev pub holds_text : ℕ → List Holding → List ℕ
holds_text w holds = flat_map (hold_line w) holds

-- w2: a1.2#0 (f) waits for o1.1, asked n2 for a copy
unfoldable pub run_text : List Entry → ClusterState → ℕ → ℕ → Execution → List ℕ
run_text log c w n r =
    codes "w" ++ (decimal w ++ codes ": ")
    ++ (named_text (births log) r.attempt ++ (phase_text c w n r.is_acknowledged r.phase ++ holds_text w r.holds))

abbrev pub any_run_text : List Entry → ClusterState → ℕ → ℕ → Option Execution → List ℕ
any_run_text log c w n None = []
any_run_text log c w n (Some r) = run_text log c w n r

abbrev pub worker_text : List Entry → ClusterState → ℕ → Worker → List ℕ
worker_text log c w x =
    if x.is_live
    then live_head log c w x.node ++ any_run_text log c w x.node x.run
    else codes "w" ++ (decimal w ++ (codes ": dead, on n" ++ (decimal x.node ++ codes "\n")))

abbrev pub worker_lines_of : List Entry → ClusterState → ℕ → Option Worker → List ℕ
worker_lines_of log c w None = []
worker_lines_of log c w (Some x) = worker_text log c w x

-- of the worker at a place
unfoldable pub worker_lines : List Entry → ClusterState → ℕ → List ℕ
worker_lines log c place = worker_lines_of log c (place + 1) (slice_get c.workers place)

unfoldable pub workers_text : List Entry → ClusterState → List ℕ
workers_text log c = below (worker_lines log c) (worker_count c)
