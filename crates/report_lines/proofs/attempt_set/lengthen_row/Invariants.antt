use Rattle.std.proofs.Common.{◌≡◌, ℕ, ◌≤◌, length}
use Rattle.report_lines.specs.Sets.{is_set}
use Rattle.report_lines.proofs.attempt_set.lengthen_row.Given as goal

-- the row is long enough up to the place, and what was in it stays
abbrev pub invariant-loop-at : goal.invariant-loop-at
invariant-loop-at l = (l.at ≤ length l.row) × ((n : ℕ) → is_set l.row n ≡ is_set l.initial.row n)
