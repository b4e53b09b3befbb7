-- The task of which an object is a result, and the objects of a task, listed.
use Rattle.std.specs.Prelude.{ℕ, if◌then◌else◌, List, [], ◌∷◌, ◌++◌, codes, Option, Some, None}
use Rattle.std.specs.List.{flat_map}
use Rattle.report.specs.ValueTexts.{id_text}
use Rattle.meaning.specs.Values.{Id, Birth}
use Rattle.meaning.specs.Births.{Bearing, is_made_by, Part, part_at}
use Rattle.made_objects.specs.Made.{objects_made}
use Rattle.report_text.specs.of_event_log.Entries.{Entry, Born}

abbrev pub first_or : Id → Option Part → Id
first_or o None = o
first_or o (Some p) = p.born.object

-- the first object of the birth of which it is a result, by which the attempts of its task are named; one that was never born stands for itself
unfoldable pub task_of : List Bearing → Id → Id
task_of births o = first_or o (part_at births o)

-- the first object of the birth, if it makes the object
abbrev pub task_in : Id → Entry → List Id
task_in o (Born p a b) = if is_made_by (record { object = p; birth = b }) o then p ∷ [] else []
task_in o _ = []

-- an object behind the first
abbrev pub other_object : Id → List ℕ
other_object o = codes ", " ++ id_text o

-- o1.2, o1.3
abbrev pub listed_text : List Id → List ℕ
listed_text [] = []
listed_text (o ∷ os) = id_text o ++ flat_map other_object os

-- the objects of the birth whose first object is this, in order
unfoldable pub objects_text : Id → Birth → List ℕ
objects_text o b = listed_text (objects_made o b)
