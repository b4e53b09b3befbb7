use Rattle.std.proofs.Common.{◌≡◌, drop}
use Rattle.timeline.specs.Endpoints.{with_senders}
use Rattle.timeline.proofs.endpoints.add_senders.Given as goal

abbrev pub invariant-loop-envelope : goal.invariant-loop-envelope
invariant-loop-envelope l = with_senders l.endpoints.items (drop l.envelope-index l.envelopes) ≡ with_senders l.fn.endpoints.items l.envelopes
