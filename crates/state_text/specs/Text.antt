-- What is alive in a run.
use Rattle.std.specs.Prelude.{List, [], codes, ℕ, ◌+◌, ◌++◌, ◌∷◌}
use Rattle.std.specs.Fmt.{decimal}
use Rattle.event_log.specs.Entries.{Entry, In}
use Rattle.protocol_data.specs.declared.cluster_state.ClusterState.{ClusterState}
use Rattle.state_text.specs.Nodes.{nodes_text}
use Rattle.state_text.specs.Objects.{all_objects_text}
use Rattle.state_text.specs.Workers.{workers_text}

abbrev pub counted : Entry → ℕ
counted (In e seat) = 1
counted _ = 0

-- the events, refused ones too
abbrev pub event_count : List Entry → ℕ
event_count [] = 0
event_count (x ∷ rest) = counted x + event_count rest

-- behind event 12 of 30
unfoldable pub head_text : List Entry → ℕ → List ℕ
head_text log all = codes "behind event " ++ (decimal (event_count log) ++ (codes " of " ++ (decimal all ++ codes "\n")))

-- of a run's log and its tables, where so many events come in all
unfoldable pub state_text : List Entry → ClusterState → ℕ → List ℕ
state_text log c all = head_text log all ++ (nodes_text log c ++ (workers_text log c ++ all_objects_text log c))
