use Rattle.std.proofs.Common.{◌≡◌, ◌+◌, ◌≤◌, drop}
use Rattle.run_watch.specs.Counts.{events_in}
use Rattle.run_watch.proofs.counts.events_in.Given as goal

abbrev pub invariant-loop-entry : goal.invariant-loop-entry
invariant-loop-entry l = record {
  found : l.count + events_in (drop l.entry-index l.log) ≡ events_in l.log;
  few : l.count ≤ l.entry-index;
}
