use Rattle.std.proofs.Common.{◌≡◌, drop}
use Rattle.timeline.specs.Nodes.{greatest_in_envelopes}
use Rattle.timeline.proofs.nodes.greatest_in_envelopes.Given as goal

abbrev pub invariant-loop-envelope : goal.invariant-loop-envelope
invariant-loop-envelope l = greatest_in_envelopes l.most (drop l.envelope-index l.envelopes) ≡ greatest_in_envelopes 0 l.envelopes
