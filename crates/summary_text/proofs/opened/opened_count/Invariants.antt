use Rattle.std.proofs.Common.{◌≡◌, ◌+◌, ◌≤◌, drop}
use Rattle.summary_text.specs.Opened.{opened_count}
use Rattle.summary_text.proofs.opened.opened_count.Given as goal

abbrev pub invariant-loop-entry : goal.invariant-loop-entry
invariant-loop-entry l = record {
  found : l.count + opened_count (drop l.entry-index l.log) ≡ opened_count l.log;
  few : l.count ≤ l.entry-index;
}
