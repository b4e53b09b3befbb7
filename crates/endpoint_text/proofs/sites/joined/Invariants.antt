use Rattle.std.proofs.Common.{◌≡◌, ◌≤◌, ◌+◌, drop}
use Rattle.endpoint_text.specs.Nodes.{joined}
use Rattle.endpoint_text.proofs.sites.joined.Given as goal

abbrev pub invariant-loop-place : goal.invariant-loop-place
invariant-loop-place l = record {
  counted : l.count + joined (drop l.place l.log) ≡ joined l.log;
  few : l.count ≤ l.place;
}
