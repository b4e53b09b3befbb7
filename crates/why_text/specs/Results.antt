-- The results of the task that an attempt runs.
use Rattle.std.specs.Prelude.{◌-◌, Bool, false, List, Option, Some, None, slice_get}
use Rattle.meaning.specs.Values.{Id, Outcome}
use Rattle.meaning.specs.Births.{Bearing, objects_at}
use Rattle.values.specs.Cells.{is_small}
use Rattle.event_log.specs.Entries.{Attempt}
use Rattle.log_text.specs.Mentions.{is_in_content}

-- the objects of the task, in order
abbrev pub objects_of : List Bearing → Attempt → List Id
objects_of births a = objects_at births a.object

abbrev pub is_in_one : Id → Option Outcome → Bool
is_in_one o None = false
is_in_one o (Some c) = is_in_content o c

-- the object stands in the content of e, of those with which the attempt ended
unfoldable pub is_in_result : Id → Attempt → List Outcome → Id → Bool
is_in_result o a cs e = is_in_one o (slice_get cs (e.serial - a.object.serial))

abbrev pub is_small_one : Option Outcome → Bool
is_small_one None = false
is_small_one (Some c) = is_small c

-- the content of the object is small, of those with which the attempt ended
unfoldable pub is_small_result : Attempt → List Outcome → Id → Bool
is_small_result a cs o = is_small_one (slice_get cs (o.serial - a.object.serial))
