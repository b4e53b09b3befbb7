-- What is left of an event that may pass a limit: it is taken, or nothing happens.
use Rattle.std.specs.Prelude.{Bool, List, None, Option, Some, if◌then◌else◌, length, ℕ}
use Rattle.protocol.specs.of_event_log.Entries.{Entry}
use Rattle.protocol.specs.Cluster.{Transition, ClusterState}
use Rattle.step_laws.specs.Opens.{fits}

-- the nodes and workers are within the limits, and so many objects are
abbrev pub is_within : ℕ → ClusterState → Bool
is_within made c = fits (length c.nodes) (length c.workers) made

-- the whole after an event that is taken unless it passes a limit
abbrev pub whole_within : ℕ → ClusterState → Transition → ClusterState
whole_within made c m = if is_within made m.whole then m.whole else c

-- what it logs where it is taken
abbrev pub entries_within : ℕ → Transition → Option (List Entry)
entries_within made m = if is_within made m.whole then Some m.out.entries else None

-- the whole after an event, and what it logs, where it counts the objects itself
abbrev pub whole_limited : ClusterState → Transition → ClusterState
whole_limited c m = whole_within m.whole.made c m

abbrev pub entries_limited : Transition → Option (List Entry)
entries_limited m = entries_within m.whole.made m
