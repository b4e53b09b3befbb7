use Rattle.std.proofs.Common.{◌≡◌, ◌+◌, ◌≤◌, drop}
use Rattle.message_counts.specs.Counts.{deliveries}
use Rattle.message_counts.proofs.counts.deliveries.Given as goal

abbrev pub invariant-loop-place : goal.invariant-loop-place
invariant-loop-place l = record {
  found : l.count + deliveries l.kind l.envelopes (drop l.place l.log) ≡ deliveries l.kind l.envelopes l.log;
  few : l.count ≤ l.place;
}
