use Rattle.std.proofs.Common.{◌≡◌, ℕ, ◌<◌, Some, Option, false}
use Rattle.std.specs.Prelude.{slice_get}
use Rattle.protocol_data.specs.declared.node.Asked.{Asked}
use Rattle.protocol_data.specs.Marked.{is_that_row}
use Rattle.protocol_data.proofs.asks.place_of.Given as goal

-- no row before the place is that ask's
abbrev pub invariant-loop-place : goal.invariant-loop-place
invariant-loop-place l = (i : ℕ) (r : Option Asked) → i < l.place → slice_get l.rows i ≡ Some r → is_that_row l.key r ≡ false
