use Rattle.std.proofs.Common.{◌≡◌, ℕ, ◌≤◌, length}
use Rattle.std.specs.Prelude.{slice_get}
use Rattle.protocol_data.specs.Noted.{serial_or}
use Rattle.protocol_data.proofs.leases.lengthen_to.Given as goal

-- there are entries up to the place, and those that were there stay
abbrev pub invariant-loop-place : goal.invariant-loop-place
invariant-loop-place l = (l.place ≤ length l.places) × ((i : ℕ) → serial_or (slice_get l.places i) ≡ serial_or (slice_get l.initial.places i))
