-- The lines of an object: what makes it, how far that is, and where its content is.
use Rattle.std.specs.Prelude.{Bool, List, None, Option, Some, [], codes, if◌then◌else◌, false, length, not, slice_get, true, ℕ, ◌&&◌, ◌+◌, ◌++◌, ◌∷◌}
use Rattle.std.specs.Fmt.{decimal}
use Rattle.meaning.specs.Births.{birth_at}
use Rattle.meaning.specs.Values.{Birth, Id, Name, Outcome, Task}
use Rattle.ids.specs.Texts.{attempt_text, object_text}
use Rattle.event_log.specs.Entries.{Entry, Fault}
use Rattle.event_log.specs.Words.{attempt, births}
use Rattle.log_words.specs.Faults.{fault_words}
use Rattle.protocol_data.specs.declared.tables.ObjectSource.{ObjectSource}
use Rattle.protocol_data.specs.declared.tables.ObjectSource.TheVariants.{Beside, ByTask, WasPut}
use Rattle.protocol_data.specs.declared.tables.Object.{Object}
use Rattle.protocol_data.specs.declared.tables.Progress.{Progress}
use Rattle.protocol_data.specs.declared.tables.Progress.TheVariants.{AskedAt, AtRest, RunsOn}
use Rattle.protocol_data.specs.declared.tables.Worker.{Worker}
use Rattle.protocol_data.specs.declared.cluster_state.ClusterState.{ClusterState}
use Rattle.state_text.specs.Below.{below, node_words, worker_count}
use Rattle.holder_text.specs.Holders.{askers_text, frame_line, holders_text}
use Rattle.state_text.specs.Tasks.{is_pending_at}

abbrev pub function_name : Option Birth → Name
function_name (Some (Task g args depth retries others)) = g
function_name _ = []

-- the first object of the task that makes it too
abbrev pub first_of : Id → ℕ → Id
first_of o serial = record { owner = o.owner; serial = serial }

abbrev pub source_text : List Entry → Id → ObjectSource → List ℕ
source_text log o WasPut = codes "put"
source_text log o (ByTask task) = codes "made by " ++ function_name (birth_at (births log) o)
source_text log o (Beside serial) = codes "made by " ++ function_name (birth_at (births log) (first_of o serial))

-- settled by attempt k of the task that stands with the object
abbrev pub settled_by : Id → ℕ → List ℕ
settled_by o k = codes ", settled by " ++ (attempt_text (attempt o k) ++ codes "\n")

abbrev pub settled_note : Id → ObjectSource → ℕ → List ℕ
settled_note o WasPut k = codes ", settled\n"
settled_note o (ByTask task) k = settled_by o k
settled_note o (Beside serial) k = settled_by (first_of o serial) k

-- the content is with the owner, or at a node
abbrev pub is_somewhere : List ℕ → Option Outcome → Bool
is_somewhere locations (Some c) = true
is_somewhere [] None = false
is_somewhere (n ∷ ns) None = true

abbrev pub found_text : Id → Object → ℕ → Bool → List ℕ
found_text o x k somewhere = if somewhere then settled_note o x.source k else codes ", lost\n"

abbrev pub rest_of : Id → Object → Option ℕ → List ℕ
rest_of o x None = codes ", at rest\n"
rest_of o x (Some k) = found_text o x k (is_somewhere x.locations x.kept)

-- no attempt is under way
abbrev pub rest_text : Id → Object → List ℕ
rest_text o x = rest_of o x x.settled

abbrev pub progress_text : Id → Object → ℕ → Progress → List ℕ
progress_text o x k AtRest = rest_text o x
progress_text o x k (AskedAt t n) =
    codes ", pending: " ++ (attempt_text (attempt o k) ++ (codes " asked n" ++ (decimal n ++ codes " for a worker\n")))
progress_text o x k (RunsOn v n) = codes ", pending: " ++ (attempt_text (attempt o k) ++ (codes " began on w" ++ (decimal v ++ codes "\n")))

abbrev pub comes_with : Id → List ℕ
comes_with o = codes ", comes with " ++ (object_text o ++ codes "\n")

-- a further result whose content isn't there comes with the first, where an attempt is asked for or under way
abbrev pub beside_state : Id → Object → Id → Bool → List ℕ
beside_state o x first pending = if pending && not (is_somewhere x.locations x.kept) then comes_with first else rest_text o x

-- beside the objects of its owner
abbrev pub made_state : List Object → Id → Object → ObjectSource → List ℕ
made_state objects o x WasPut = rest_text o x
made_state objects o x (ByTask task) = progress_text o x task.number task.progress
made_state objects o x (Beside serial) = beside_state o x (first_of o serial) (is_pending_at objects serial)

abbrev pub resolved_note : Fault → List ℕ
resolved_note f = codes ", resolved: " ++ (fault_words f ++ codes "\n")

abbrev pub end_text : List Object → Id → Object → Option Fault → List ℕ
end_text objects o x None = made_state objects o x x.source
end_text objects o x (Some f) = resolved_note f

unfoldable pub stands_text : List Object → Id → Object → List ℕ
stands_text objects o x = if x.is_released then codes ", released\n" else end_text objects o x x.fault

unfoldable pub dead_note : Id → List ℕ
dead_note o = codes ", owner w" ++ (decimal o.owner ++ codes ", dead\n")

unfoldable pub owner_head : Id → List ℕ
owner_head o = codes ", owner w" ++ decimal o.owner

-- what a dead owner knew is gone with it
abbrev pub owner_note : Worker → Id → Object → List ℕ
owner_note w o x = if w.is_live then owner_head o ++ stands_text w.objects o x else dead_note o

-- o1.2: made by f, owner w1, pending: a1.2#0 began on w2
unfoldable pub object_head : List Entry → Worker → Id → Object → List ℕ
object_head log w o x = object_text o ++ codes ": " ++ (source_text log o x.source ++ owner_note w o x)

-- o1.2: 1 of 3 retries used
abbrev pub used_line : Id → ℕ → Option Birth → List ℕ
used_line o k (Some (Task g args depth retries others)) =
    object_text o ++ (codes ": " ++ (decimal k ++ (codes " of " ++ (decimal retries ++ codes " retries used\n"))))
used_line o k _ = []

abbrev pub retries_line : List Entry → Id → ObjectSource → List ℕ
retries_line log o WasPut = []
retries_line log o (ByTask task) = used_line o task.number (birth_at (births log) o)
retries_line log o (Beside serial) = []

unfoldable pub placed_head : Id → List ℕ
placed_head o = object_text o ++ codes ": copies at"

-- o1.2: copies at n1 n2
abbrev pub placed_text : Id → List ℕ → List ℕ
placed_text o ns = placed_head o ++ (node_words ns ++ codes "\n")

abbrev pub copies_line : Id → List ℕ → List ℕ
copies_line o [] = []
copies_line o (n ∷ ns) = placed_text o (n ∷ ns)

abbrev pub kept_line : Id → Option Outcome → List ℕ
kept_line o None = []
kept_line o (Some c) = object_text o ++ codes ": small, kept by its owner\n"

-- what a live owner knows of it
unfoldable pub live_lines : List Entry → Worker → Id → Object → List ℕ
live_lines log w o x =
    retries_line log o x.source
    ++ (copies_line o x.locations
    ++ (kept_line o x.kept
    ++ (holders_text log o x.removed x.added ++ (frame_line log w o x.bearer ++ askers_text o x.askers))))

abbrev pub object_text_of : List Entry → Worker → Id → Object → List ℕ
object_text_of log w o x = object_head log w o x ++ (if w.is_live then live_lines log w o x else [])

abbrev pub row_lines_of : List Entry → Worker → Id → Option Object → List ℕ
row_lines_of log w o None = []
row_lines_of log w o (Some x) = object_text_of log w o x

-- of worker v's object at a place
unfoldable pub row_lines : List Entry → ℕ → Worker → ℕ → List ℕ
row_lines log v w place = row_lines_of log w (record { owner = v; serial = place + 1 }) (slice_get w.objects place)

abbrev pub objects_text : List Entry → ℕ → Worker → List ℕ
objects_text log v w = below (row_lines log v w) (length w.objects)

abbrev pub worker_objects_of : List Entry → ℕ → Option Worker → List ℕ
worker_objects_of log v None = []
worker_objects_of log v (Some w) = objects_text log v w

-- of the objects of the worker at a place
unfoldable pub worker_objects : List Entry → ClusterState → ℕ → List ℕ
worker_objects log c place = worker_objects_of log (place + 1) (slice_get c.workers place)

-- of each object of each owner, in order of ids
unfoldable pub all_objects_text : List Entry → ClusterState → List ℕ
all_objects_text log c = below (worker_objects log c) (worker_count c)
