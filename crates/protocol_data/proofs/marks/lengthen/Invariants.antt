use Rattle.std.proofs.Common.{◌≡◌, ℕ, ◌≤◌, length}
use Rattle.std.specs.Prelude.{slice_get}
use Rattle.protocol_data.specs.Marked.{marks_or}
use Rattle.protocol_data.proofs.marks.lengthen.Given as goal

-- there are rows up to the place, and those that were there stay
abbrev pub invariant-loop-at : goal.invariant-loop-at
invariant-loop-at l = (l.at ≤ length l.marks) × ((i : ℕ) → marks_or (slice_get l.marks i) ≡ marks_or (slice_get l.initial.marks i))
