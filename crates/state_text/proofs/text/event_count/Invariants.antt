use Rattle.std.proofs.Common.{◌≡◌, ◌+◌, ◌≤◌, drop}
use Rattle.state_text.specs.Text.{event_count}
use Rattle.state_text.proofs.text.event_count.Given as goal

abbrev pub invariant-loop-entry : goal.invariant-loop-entry
invariant-loop-entry l = record {
  found : l.count + event_count (drop l.entry-index l.log) ≡ event_count l.log;
  few : l.count ≤ l.entry-index;
}
