use Rattle.std.proofs.Common.{◌≡◌, drop}
use Rattle.endpoint_text.specs.Deaths.{first_given}
use Rattle.endpoint_text.proofs.deaths.first_given.Given as goal

abbrev pub invariant-loop-envelope : goal.invariant-loop-envelope
invariant-loop-envelope l = first_given l.envelopes l.worker ≡ first_given (drop l.envelope-index l.envelopes) l.worker
