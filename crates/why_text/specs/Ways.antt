-- The way from an object to the one in which its fault began.
use Rattle.std.specs.Prelude.{Bool, List, None, Option, Some, [], if◌then◌else◌, ◌&&◌, ◌++◌, ◌||◌, ◌∷◌}
use Rattle.std.specs.List.{filter, flat_map, list_any}
use Rattle.meaning.specs.Births.{same_id}
use Rattle.meaning.specs.Values.{Id}
use Rattle.task_spec.specs.Dereferenced.{dereferenced_in}
use Rattle.event_log.specs.Entries.{Born, Entry, Faulted}
use Rattle.event_log.specs.Words.{births}
use Rattle.report_text.specs.of_report_lines.Main.{first}
use Rattle.log_words.specs.of_made_objects.Made.{objects_made}
use Rattle.log_words.specs.Tasks.{task_of}

-- the object at whose get an attempt that is named by the other ended with a fault that began in z
unfoldable pub lacked_in : Id → Id → Entry → List Id
lacked_in z task (Faulted a y f) = if same_id a.object task && same_id f.object z then y ∷ [] else []
lacked_in z task _ = []

abbrev pub is_found : List Id → Id → Bool
is_found found p = list_any (λ q. same_id q p) found

-- it is z, or one of those from which z is reached
abbrev pub leads : Id → List Id → Id → Bool
leads z found p = same_id p z || is_found found p

-- the objects that are born, if one of their dereferenced arguments leads to z
unfoldable pub leading_in : Id → List Id → Entry → List Id
leading_in z found (Born o a b) = if list_any (leads z found) (dereferenced_in b) then objects_made o b else []
leading_in z found _ = []

-- the objects from which z is reached by dereferenced arguments, in birth order, behind those that were found
abbrev pub leading_from : Id → List Id → List Entry → List Id
leading_from z found [] = found
leading_from z found (x ∷ rest) = leading_from z (found ++ leading_in z found x) rest

-- the dereferenced arguments of the task with that first object that lead to z
unfoldable pub argument_in : Id → List Id → Id → Entry → List Id
argument_in z found task (Born p a b) = if same_id p task then filter (leads z found) (dereferenced_in b) else []
argument_in z found task _ = []

abbrev pub argument_among : List Entry → Id → Id → List Id → Option Id
argument_among log z task found = first (flat_map (argument_in z found task) log)

-- the first of them
abbrev pub argument_to : List Entry → Id → Id → Option Id
argument_to log z task = argument_among log z task (leading_from z [] log)

abbrev pub id_or : Option Id → Id → Id
id_or None z = z
id_or (Some y) z = y

-- the next object on the way from a result of that task to z: the one that an attempt of it lacked; else, where the result was given up since what it
-- stands on is lost, the argument that leads there; else z itself
abbrev pub next_from : List Entry → Id → Id → Id
next_from log z task = id_or (first (flat_map (lacked_in z task) log)) (id_or (argument_to log z task) z)

unfoldable pub next_cause : List Entry → Id → Id → Id
next_cause log z o = next_from log z (task_of (births log) o)
