use Rattle.std.proofs.Common.{◌≡◌, ◌+◌, ◌≤◌, drop}
use Rattle.fault_lists.specs.Tables.{count_of}
use Rattle.fault_lists.proofs.tried.count_of.Given as goal

abbrev pub invariant-loop-one : goal.invariant-loop-one
invariant-loop-one l = record {
  found : l.count + count_of l.kind (drop l.one-index l.tried) ≡ count_of l.kind l.tried;
  few : l.count ≤ l.one-index;
}
