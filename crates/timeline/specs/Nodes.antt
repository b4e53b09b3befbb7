-- The nodes of a run, and their names.
use Rattle.std.specs.Prelude.{ℕ, zero, suc, Bool, nat_lt, if◌then◌else◌, List, [], ◌∷◌, ◌++◌, codes}
use Rattle.std.specs.Fmt.{decimal}
use Rattle.serde_json.specs.Data.{Data}
use Rattle.event_log.specs.Events.{refused_next}
use Rattle.log_entries.specs.declared.event.Event.{Event}
use Rattle.log_entries.specs.declared.event.Event.TheVariants.{Lose, KillNode}
use Rattle.event_log.specs.Entries.{Entry, In, Opened}
use Rattle.protocol_data.specs.declared.message.Envelope.{Envelope}
use Rattle.protocol_data.specs.declared.message.Endpoint.{Endpoint}
use Rattle.protocol_data.specs.declared.message.Endpoint.TheVariants.{TheWorker, TheNode}
use Rattle.timeline.specs.Marks.{name_data}

abbrev pub greater : ℕ → ℕ → ℕ
greater m n = if nat_lt m n then n else m

-- ---- the greatest number of a node

abbrev pub node_in_endpoint : Endpoint → ℕ
node_in_endpoint (TheWorker w) = 0
node_in_endpoint (TheNode n) = n

abbrev pub node_in_event : Event → ℕ
node_in_event (Lose n o) = n
node_in_event (KillNode n) = n
node_in_event _ = 0

-- `refused` says of an event that it is refused
abbrev pub node_in_entry : Entry → Bool → ℕ
node_in_entry (Opened w n) refused = n
node_in_entry (In e seat) refused = if refused then 0 else node_in_event e
node_in_entry _ refused = 0

abbrev pub greatest_in_log : ℕ → List Entry → ℕ
greatest_in_log n [] = n
greatest_in_log n (x ∷ rest) = greatest_in_log (greater n (node_in_entry x (refused_next rest))) rest

abbrev pub greatest_in_envelopes : ℕ → List Envelope → ℕ
greatest_in_envelopes n [] = n
greatest_in_envelopes n (l ∷ ls) = greatest_in_envelopes (greater (greater n (node_in_endpoint l.sender)) (node_in_endpoint l.receiver)) ls

abbrev pub greatest_node : List Envelope → List Entry → ℕ
greatest_node envelopes log = greatest_in_log (greatest_in_envelopes 0 envelopes) log

-- ---- their names

abbrev pub node_name : ℕ → List ℕ
node_name n = codes "n" ++ decimal n

-- the node, and its own row
abbrev pub node_names : ℕ → List Data
node_names n = name_data (node_name n) (codes "process_name") n 0 ∷ name_data (node_name n) (codes "thread_name") n 0 ∷ []

-- those of the first nodes
abbrev pub names_of : ℕ → List Data
names_of zero = []
names_of (suc n) = names_of n ++ node_names (suc n)
