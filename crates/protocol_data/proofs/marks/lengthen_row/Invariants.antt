use Rattle.std.proofs.Common.{◌≡◌, ℕ, ◌≤◌, length}
use Rattle.std.specs.Prelude.{slice_get}
use Rattle.protocol_data.specs.Noted.{serial_or}
use Rattle.protocol_data.proofs.marks.lengthen_row.Given as goal

-- the row is long enough up to the place, and what was in it stays
abbrev pub invariant-loop-at : goal.invariant-loop-at
invariant-loop-at l = (l.at ≤ length l.row) × ((i : ℕ) → serial_or (slice_get l.row i) ≡ serial_or (slice_get l.initial.row i))
