use Rattle.std.proofs.Common.{◌≡◌, ◌+◌, ◌≤◌, drop}
use Rattle.message_counts.specs.Counts.{sent_count}
use Rattle.message_counts.proofs.counts.sent_count.Given as goal

abbrev pub invariant-loop-envelope : goal.invariant-loop-envelope
invariant-loop-envelope l = record {
  found : l.count + sent_count l.kind (drop l.envelope-index l.envelopes) ≡ sent_count l.kind l.envelopes;
  few : l.count ≤ l.envelope-index;
}
