-- Sets of attempts: tables of objects whose first attempt is in the set, and a list of further attempts.
use Rattle.std.specs.Prelude.{ℕ, Bool, false, List, [], Option, None, Some, ◌&&◌, ◌||◌, ◌==◌, ◌+◌, ◌*◌, nat_lt, slice_get}
use Rattle.std.specs.List.{list_any}
use Rattle.meaning.specs.Values.{Id}
use Rattle.ids.specs.Attempts.{Attempt, same_attempt}
use Rattle.report_lines.specs.declared.attempt_set.AttemptSet.{AttemptSet}

abbrev pub or_false : Option Bool → Bool
or_false None = false
or_false (Some b) = b

abbrev pub or_empty : Option (List Bool) → List Bool
or_empty None = []
or_empty (Some row) = row

-- what stands at the place; past the end nothing is set
abbrev pub is_set : List Bool → ℕ → Bool
is_set row n = or_false (slice_get row n)

-- the owner's row; past the end of the table rows are empty
abbrev pub row_of : List (List Bool) → ℕ → List Bool
row_of rows owner = or_empty (slice_get rows owner)

-- the table has the object
abbrev pub is_marked : List (List Bool) → Id → Bool
is_marked rows o = is_set (row_of rows o.owner) o.serial

-- the object's owner and serial are low enough for the table
abbrev pub can_be_marked : Id → Bool
can_be_marked o = nat_lt o.owner 4096 && nat_lt o.serial 16777216

-- of each owner the flat table has eight places side by side, for its lowest serials
abbrev pub low_place : Id → ℕ
low_place o = o.owner * 8 + o.serial

-- the object's owner is low enough for the flat table, and its serial has a place there
abbrev pub is_low : Id → Bool
is_low o = nat_lt o.owner 4096 && nat_lt o.serial 8

-- the flat table has the object
abbrev pub is_low_marked : List Bool → Id → Bool
is_low_marked lows o = nat_lt o.serial 8 && is_set lows (low_place o)

-- whether the attempt is in the set: a table has its object, if it is the first attempt of it, or the list has it
abbrev pub has : AttemptSet → Attempt → Bool
has set a = ((a.number == 0) && (is_low_marked set.lows a.object || is_marked set.firsts a.object)) || list_any (λ b. same_attempt a b) set.others.keys
