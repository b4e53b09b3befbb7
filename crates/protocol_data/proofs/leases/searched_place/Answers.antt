use Rattle.std.proofs.Common.{arith}
use Rattle.protocol_data.proofs.Leasing.{none_up_to}
use Rattle.protocol_data.proofs.leases.searched_place.Goals as goal

pub returns-clause-none : goal.returns-clause-none
returns-clause-none c = none_up_to _ _ _ c.loop-place.invariant (omega (arith, c.loop-place-test.false, c.len-place-end.ensures))
