use Rattle.std.proofs.Common.{◌+◌, ◌≤◌}
use Rattle.refusal_reasons.proofs.line.piece_at.Given as goal

-- the line that is open begins before, and there are no more lines than bytes
abbrev pub invariant-loop-i : goal.invariant-loop-i
invariant-loop-i l = (l.start ≤ l.i) × (l.at ≤ l.i + 1)
