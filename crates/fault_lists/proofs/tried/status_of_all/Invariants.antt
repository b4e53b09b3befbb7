use Rattle.std.proofs.Common.{◌≡◌, drop}
use Rattle.fault_lists.specs.Tables.{status_of_all}
use Rattle.fault_lists.proofs.tried.status_of_all.Given as goal

abbrev pub invariant-loop-one : goal.invariant-loop-one
invariant-loop-one l = status_of_all l.tried ≡ status_of_all (drop l.one-index l.tried)
