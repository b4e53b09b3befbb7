use Rattle.std.proofs.Common.{◌≡◌, ℕ, ◌≤◌, length}
use Rattle.std.specs.Prelude.{slice_get}
use Rattle.protocol_data.specs.Idle.{is_up}
use Rattle.protocol_data.proofs.idle_workers.lengthen.Given as goal

-- there are marks up to the place, and those that were there stay
abbrev pub invariant-loop-at : goal.invariant-loop-at
invariant-loop-at l = (l.at ≤ length l.marks) × ((i : ℕ) → is_up (slice_get l.marks i) ≡ is_up (slice_get l.initial.marks i))
