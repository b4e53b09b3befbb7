use Rattle.std.proofs.Common.{◌≡◌, ℕ, ◌≤◌, length}
use Rattle.report_lines.specs.Sets.{row_of}
use Rattle.report_lines.proofs.attempt_set.lengthen.Given as goal

-- there are rows up to the place, and those that were there stay
abbrev pub invariant-loop-at : goal.invariant-loop-at
invariant-loop-at l = (l.at ≤ length l.rows) × ((i : ℕ) → row_of l.rows i ≡ row_of l.initial.rows i)
