use Rattle.std.proofs.Common.{◌≡◌, drop}
use Rattle.fault_lists.specs.Tables.{first_of}
use Rattle.fault_lists.proofs.tried.first_of.Given as goal

abbrev pub invariant-loop-one : goal.invariant-loop-one
invariant-loop-one l = first_of l.kind l.tried ≡ first_of l.kind (drop l.one-index l.tried)
