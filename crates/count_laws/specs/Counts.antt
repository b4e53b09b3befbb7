-- How many nodes, workers and objects there are by the log, and how many there would be behind an event.
use Rattle.std.specs.Prelude.{ℕ, ◌+◌, Bool, ◌&&◌, List, [], ◌∷◌, length, nat_lt}
use Rattle.meaning.specs.Births.{Bearing}
use Rattle.meaning.specs.Values.{results_of}
use Rattle.event_log.specs.Entries.{Commit, Entry, Event}
use Rattle.event_log.specs.Events.{join_in, joins}
use Rattle.event_log.specs.Rules.{Setting}
use Rattle.event_log.specs.Words.{births, opened}
use Rattle.protocol.specs.Events.{happens, objects_made}
use Rattle.protocol.specs.Jobs.{CommitInput, OfJob}
use Rattle.protocol.specs.Cluster.{ClusterState}

pub record Counts : Type 0 where
  pub nodes : ℕ
  pub workers : ℕ
  pub objects : ℕ

-- how many objects were born: one for each result
abbrev pub objects_born : List Bearing → ℕ
objects_born [] = 0
objects_born (b ∷ bs) = results_of b.birth + objects_born bs

-- the nodes that there were at first and those that joined; the workers that were opened; main's object and those that were born
abbrev pub counted : Setting → List Entry → Counts
counted s log = record { nodes = s.nodes + length (joins log); workers = length (opened log); objects = objects_born (births log) }

-- at most 64 nodes, 1,024 workers and 1,000,000 objects
abbrev pub is_within : Counts → Bool
is_within n = nat_lt n.nodes 65 && nat_lt n.workers 1025 && nat_lt n.objects 1000001

-- how many objects the event bears: a commit those that what was done on its job bore, any other event none
abbrev pub borne : Event → CommitInput → ℕ
borne (Commit j) (OfJob d) = objects_made d.births
borne e handed = 0

-- how many workers the event would open
abbrev pub would_open : ClusterState → Event → CommitInput → ℕ
would_open c e handed = length (opened (happens c e handed).out.entries)

-- how many there would be behind the event: one node more where it is a join, the workers that it would open, the objects that it bears
abbrev pub behind : Counts → ClusterState → Event → CommitInput → Counts
behind n c e handed = record { nodes = n.nodes + length (join_in e); workers = n.workers + would_open c e handed; objects = n.objects + borne e handed }
