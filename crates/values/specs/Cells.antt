-- How many cells a content takes. A small one is put in no store: its owner keeps it.
use Rattle.std.specs.Prelude.{Bool, None, Option, Some, if◌then◌else◌, nat_lt, not, ℕ, ◌+◌}
use Rattle.ids.specs.of_meaning.Values.{Int, Items, Known, Named, Outcome, Trapped, Val, Value, Values, more, none}

-- an integer and an id take one each, a list one and those of its items
abbrev mutual
  pub cells : Value → ℕ
  cells (Int n) = 1
  cells (Items vs) = 1 + cells_among vs
  cells (Named o) = 1
  cells (Known c) = 1

  pub cells_among : Values → ℕ
  cells_among none = 0
  cells_among (more v vs) = cells v + cells_among vs

-- a trap takes one
abbrev pub cells_in : Outcome → ℕ
cells_in (Val v) = cells v
cells_in (Trapped t) = 1

-- at most 8 cells
unfoldable pub is_small : Outcome → Bool
is_small c = not (nat_lt 8 (cells_in c))

-- the content, if it is small
abbrev pub if_small : Outcome → Option Outcome
if_small c = if is_small c then Some c else None
