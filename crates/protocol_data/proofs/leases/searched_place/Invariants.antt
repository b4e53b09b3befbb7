use Rattle.std.proofs.Common.{◌≡◌, ℕ, ◌<◌, Some, Option, false}
use Rattle.std.specs.Prelude.{slice_get}
use Rattle.protocol_data.specs.declared.node.Lease.{Lease}
use Rattle.protocol_data.specs.Leased.{is_row_of}
use Rattle.protocol_data.proofs.leases.searched_place.Given as goal

-- no row before the place is that worker's
abbrev pub invariant-loop-place : goal.invariant-loop-place
invariant-loop-place l = (i : ℕ) (r : Option Lease) → i < l.place → slice_get l.rows i ≡ Some r → is_row_of l.worker r ≡ false
