-- The copies in a node's store, in order of the ids of their objects.
use Rattle.std.specs.Prelude.{Bool, List, None, Option, Some, [], codes, false, if◌then◌else◌, is_some, length, slice_get, true, ℕ, ◌+◌, ◌++◌}
use Rattle.std.specs.List.{find}
use Rattle.std.specs.Fmt.{decimal}
use Rattle.meaning.specs.Values.{Id}
use Rattle.ids.specs.Texts.{attempt_text, object_text}
use Rattle.event_log.specs.Entries.{main_object}
use Rattle.event_log.specs.Words.{attempt}
use Rattle.protocol_data.specs.Shelves.{is_sought}
use Rattle.protocol_data.specs.declared.store.Store.{Store}
use Rattle.protocol_data.specs.declared.tables.ObjectSource.{ObjectSource}
use Rattle.protocol_data.specs.declared.tables.ObjectSource.TheVariants.{Beside, ByTask, WasPut}
use Rattle.protocol_data.specs.declared.tables.Object.{Object}
use Rattle.protocol_data.specs.declared.tables.Worker.{Worker}
use Rattle.protocol_data.specs.declared.cluster_state.ClusterState.{ClusterState}
use Rattle.state_text.specs.Below.{below, worker_count}
use Rattle.state_text.specs.Tasks.{number_at}

-- a copy of the content of attempt k of the object, 0 for what was put
abbrev pub has_primary : Store → Id → ℕ → Bool
has_primary s o k = is_some (find (is_sought o (Some k)) s.primaries)

abbrev pub has_secondary : Store → Id → ℕ → Bool
has_secondary s o k = is_some (find (is_sought o (Some k)) s.secondaries)

-- by a1.2#0, an attempt of the task that stands with the object of that serial; nothing for what was put
abbrev pub copy_note_by : ℕ → Option ℕ → ℕ → List ℕ
copy_note_by owner None k = codes "\n"
copy_note_by owner (Some serial) k = codes " by " ++ (attempt_text (attempt (record { owner = owner; serial = serial }) k) ++ codes "\n")

unfoldable pub copy_note : Option ℕ → Id → ℕ → List ℕ
copy_note first o k = copy_note_by o.owner first k

-- n1: primary copy of o1.2 by a1.2#0
abbrev pub primary_line : ℕ → Store → Option ℕ → Id → ℕ → List ℕ
primary_line n s first o k =
    if has_primary s o k then codes "n" ++ (decimal n ++ (codes ": primary copy of " ++ object_text o)) ++ copy_note first o k else []

-- n2: secondary copy of o1.1
abbrev pub secondary_line : ℕ → Store → Option ℕ → Id → ℕ → List ℕ
secondary_line n s first o k =
    if has_secondary s o k then codes "n" ++ (decimal n ++ (codes ": secondary copy of " ++ object_text o)) ++ copy_note first o k else []

unfoldable pub copy_lines : ℕ → Store → Option ℕ → Id → ℕ → List ℕ
copy_lines n s first o k = primary_line n s first o k ++ secondary_line n s first o k

-- of the attempts up to that number
abbrev pub made_copies : ℕ → Store → ℕ → Id → ℕ → List ℕ
made_copies n s first o k = below (copy_lines n s (Some first) o) k ++ copy_lines n s (Some first) o k

-- of a further result, whose task has that number
abbrev pub beside_copies : ℕ → Store → ℕ → Id → Option ℕ → List ℕ
beside_copies n s first o None = []
beside_copies n s first o (Some k) = made_copies n s first o k

-- of all attempts of its task up to the present one
abbrev pub object_copies : ℕ → Store → List Object → Id → ObjectSource → List ℕ
object_copies n s objects o WasPut = copy_lines n s None o 0
object_copies n s objects o (ByTask task) = made_copies n s o.serial o task.number
object_copies n s objects o (Beside first) = beside_copies n s first o (number_at objects first)

abbrev pub row_copies_of : ℕ → Store → List Object → Id → Option Object → List ℕ
row_copies_of n s objects o None = []
row_copies_of n s objects o (Some x) = object_copies n s objects o x.source

-- of worker w's object at a place
unfoldable pub row_copies : ℕ → Store → ℕ → List Object → ℕ → List ℕ
row_copies n s w objects place = row_copies_of n s objects (record { owner = w; serial = place + 1 }) (slice_get objects place)

abbrev pub copies_of : ℕ → Store → ℕ → Worker → List ℕ
copies_of n s w x = below (row_copies n s w x.objects) (length x.objects)

abbrev pub worker_copies_of : ℕ → Store → ℕ → Option Worker → List ℕ
worker_copies_of n s w None = []
worker_copies_of n s w (Some x) = copies_of n s w x

-- of the worker's at a place
unfoldable pub worker_copies : ℕ → Store → ClusterState → ℕ → List ℕ
worker_copies n s c place = worker_copies_of n s (place + 1) (slice_get c.workers place)

abbrev pub owned_copies : ℕ → Store → ClusterState → List ℕ
owned_copies n s c = below (worker_copies n s c) (worker_count c)

-- main's own first
abbrev pub copies_text : ℕ → Store → ClusterState → List ℕ
copies_text n s c = copy_lines n s (Some main_object.serial) main_object 0 ++ owned_copies n s c
