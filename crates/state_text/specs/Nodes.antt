-- The lines of a node: its slots, the workers on it, and who waits for a slot.
use Rattle.std.specs.Prelude.{List, None, Option, Some, [], codes, if◌then◌else◌, length, slice_get, ℕ, ◌+◌, ◌++◌, ◌==◌, ◌∷◌}
use Rattle.std.specs.List.{flat_map}
use Rattle.std.specs.Fmt.{decimal}
use Rattle.event_log.specs.Entries.{Attempt, Entry}
use Rattle.event_log.specs.Words.{births}
use Rattle.log_text.specs.Attempts.{named_text}
use Rattle.protocol_data.specs.declared.node.AskKey.{AskKey}
use Rattle.protocol_data.specs.declared.node.Node.{Node}
use Rattle.protocol_data.specs.declared.tables.Worker.{Worker}
use Rattle.protocol_data.specs.declared.cluster_state.ClusterState.{ClusterState}
use Rattle.state_text.specs.Below.{below, worker_count, worker_word, worker_words}
use Rattle.state_text.specs.Copies.{copies_text}

-- who has the slots that are taken
abbrev pub taken_note : List ℕ → List ℕ
taken_note [] = codes "\n"
taken_note (w ∷ ws) = codes " by" ++ (worker_words (w ∷ ws) ++ codes "\n")

-- n1: alive, 1 of 2 slots taken by w1; or n1: dead
abbrev pub node_head : ℕ → Node → List ℕ
node_head n x =
    if x.is_live
    then
    codes "n"
    ++ (decimal n
    ++ (codes ": alive, "
    ++ (decimal (length x.scheduler.slot_holders) ++ (codes " of " ++ (decimal x.scheduler.slots ++ codes " slots taken")))))
    ++ taken_note x.scheduler.slot_holders
    else (codes "n" ++ (decimal n ++ codes ": dead\n"))

abbrev pub on_node_of : ℕ → ℕ → Option Worker → List ℕ
on_node_of n w None = []
on_node_of n w (Some x) = if x.node == n then worker_word w else []

-- the worker at a place, if it is on the node
unfoldable pub on_node : ℕ → ClusterState → ℕ → List ℕ
on_node n c place = on_node_of n (place + 1) (slice_get c.workers place)

abbrev pub all_on : ℕ → ClusterState → List ℕ
all_on n c = below (on_node n c) (worker_count c)

-- n1: workers w1 w2
abbrev pub workers_line : ℕ → ClusterState → List ℕ
workers_line n c = codes "n" ++ (decimal n ++ codes ": workers") ++ (all_on n c ++ codes "\n")

-- n1: w2 waits for a slot
unfoldable pub answered_line : ℕ → ℕ → List ℕ
answered_line n w = codes "n" ++ (decimal n ++ (codes ": w" ++ (decimal w ++ codes " waits for a slot\n")))

abbrev pub answered_text : ℕ → List ℕ → List ℕ
answered_text n ws = flat_map (answered_line n) ws

-- n1: a1.3#0 (f) waits for a slot
unfoldable pub ask_line : List Entry → ℕ → Attempt → List ℕ
ask_line log n a = codes "n" ++ (decimal n ++ codes ": ") ++ (named_text (births log) a ++ codes " waits for a slot\n")

abbrev pub ask_lines : List Entry → ℕ → AskKey → List ℕ
ask_lines log n key = ask_line log n key.attempt

abbrev pub asks_text : List Entry → ℕ → List AskKey → List ℕ
asks_text log n queue = flat_map (ask_lines log n) queue

-- first who was answered, then who asks: in this order slots are given
abbrev pub live_text : List Entry → ClusterState → ℕ → Node → List ℕ
live_text log c n x =
    if x.is_live
    then answered_text n x.scheduler.answered ++ (asks_text log n x.scheduler.queue ++ copies_text n x.store c)
    else []

abbrev pub node_text : List Entry → ClusterState → ℕ → Node → List ℕ
node_text log c n x = node_head n x ++ (workers_line n c ++ live_text log c n x)

abbrev pub node_lines_of : List Entry → ClusterState → ℕ → Option Node → List ℕ
node_lines_of log c n None = []
node_lines_of log c n (Some x) = node_text log c n x

-- of the node at a place
unfoldable pub node_lines : List Entry → ClusterState → ℕ → List ℕ
node_lines log c place = node_lines_of log c (place + 1) (slice_get c.nodes place)

unfoldable pub nodes_text : List Entry → ClusterState → List ℕ
nodes_text log c = below (node_lines log c) (length c.nodes)
