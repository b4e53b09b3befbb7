use Rattle.std.proofs.Common.{◌≡◌, ◌+◌, ◌≤◌, drop}
use Rattle.run_watch.specs.Counts.{results_in}
use Rattle.run_watch.proofs.counts.results_in.Given as goal

abbrev pub invariant-loop-entry : goal.invariant-loop-entry
invariant-loop-entry l = record {
  found : l.count + results_in (drop l.entry-index l.log) ≡ results_in l.log;
  few : l.count ≤ l.entry-index;
}
