use Rattle.std.proofs.Common.{◌≡◌, ◌<◌, ◌≤◌, ℕ, Some, true, length}
use Rattle.std.specs.Prelude.{slice_get}
use Rattle.indexmap.specs.IndexMap.{values}
use Rattle.protocol_data.specs.Unneeded.{IsNotKept, IsSearched}
use Rattle.protocol_data.proofs.search.look_over.Given as goal

-- what need not be looked at is kept; each has its mark still; of those that are marked before the place none is kept; and the place goes on with each turn
abbrev pub invariant-loop-turn : goal.invariant-loop-turn
invariant-loop-turn l =
    ((seen : ℕ) → IsSearched (values l.rows) seen l.fn.changed l.bearer l.own → IsSearched (values l.rows) seen l.changed l.bearer l.own)
    × (length l.changed ≡ length l.fn.changed)
    × ((i : ℕ) → i < l.place → slice_get l.changed i ≡ Some true → IsNotKept (values l.rows) i l.bearer l.own)
    × (l.turn ≤ l.place)
