use Rattle.std.proofs.Common.{◌≡◌, ◌+◌, ◌≤◌, drop}
use Rattle.summary_text.specs.Events.{came_count}
use Rattle.summary_text.proofs.events.came_count.Given as goal

abbrev pub invariant-loop-entry : goal.invariant-loop-entry
invariant-loop-entry l = record {
  found : l.count + came_count l.word (drop l.entry-index l.log) ≡ came_count l.word l.log;
  few : l.count ≤ l.entry-index;
}
