use Rattle.std.proofs.Common.{◌≡◌, ◌+◌, ◌≤◌, drop}
use Rattle.fault_lists.specs.Ends.{attempts_in}
use Rattle.fault_lists.proofs.ending.attempts_in.Given as goal

abbrev pub invariant-loop-entry : goal.invariant-loop-entry
invariant-loop-entry l = record {
  found : l.count + attempts_in (drop l.entry-index l.log) ≡ attempts_in l.log;
  few : l.count ≤ l.entry-index;
}
