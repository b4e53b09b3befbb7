use Rattle.std.proofs.Common.{◌≡◌, ◌+◌, ◌≤◌, drop}
use Rattle.summary_text.specs.Opened.{node_count}
use Rattle.summary_text.proofs.opened.node_count.Given as goal

abbrev pub invariant-loop-place : goal.invariant-loop-place
invariant-loop-place l = record {
  found : l.count + node_count (drop l.place l.log) ≡ node_count l.log;
  few : l.count ≤ l.place;
}
