-- The rows of the asks that were answered, and marks of objects: one that has no mark was surely never asked for.
use Rattle.std.specs.Prelude.{Bool, List, None, Option, Some, [], false, nat_lt, not, slice_get, ℕ, ◌&&◌, ◌||◌, ◌∷◌, ◌≡◌, true}
use Rattle.meaning.specs.Values.{Id}
use Rattle.protocol_data.specs.Noted.{is_that_ask, serial_or}
use Rattle.protocol_data.specs.declared.node.AskKey.{AskKey}
use Rattle.protocol_data.specs.declared.node.Asked.{Asked}

-- the asks of the rows that were not taken out
abbrev pub there : List (Option Asked) → List Asked
there [] = []
there (None ∷ rows) = there rows
there (Some x ∷ rows) = x ∷ there rows

-- the row is of that ask
abbrev pub is_that_row : AskKey → Option Asked → Bool
is_that_row k None = false
is_that_row k (Some x) = is_that_ask k x

-- the list, or the empty one where there is none
abbrev pub marks_or : Option (List ℕ) → List ℕ
marks_or None = []
marks_or (Some marks) = marks

-- there is a mark at that place
abbrev pub has_mark : List ℕ → ℕ → Bool
has_mark marks n = nat_lt 0 (serial_or (slice_get marks n))

-- the object's owner and serial are low enough for a mark
abbrev pub can_be_marked : Id → Bool
can_be_marked o = nat_lt o.owner 4096 && nat_lt o.serial 16777216

-- the object may have been asked for: it has a mark, unless its numbers are too high for one
abbrev pub may_be_marked : List (List ℕ) → Id → Bool
may_be_marked marks o = not (can_be_marked o) || has_mark (marks_or (slice_get marks o.owner)) o.serial

-- each ask's object may have been asked for
abbrev pub AreMarked : List (List ℕ) → List Asked → Type 0
AreMarked marks [] = Unit {0}
AreMarked marks (x ∷ xs) = (may_be_marked marks x.key.attempt.object ≡ true) × AreMarked marks xs
