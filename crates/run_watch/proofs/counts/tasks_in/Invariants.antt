use Rattle.std.proofs.Common.{◌≡◌, ◌+◌, ◌≤◌, drop}
use Rattle.run_watch.specs.Counts.{tasks_in}
use Rattle.run_watch.proofs.counts.tasks_in.Given as goal

abbrev pub invariant-loop-entry : goal.invariant-loop-entry
invariant-loop-entry l = record {
  found : l.count + tasks_in (drop l.entry-index l.log) ≡ tasks_in l.log;
  few : l.count ≤ l.entry-index;
}
