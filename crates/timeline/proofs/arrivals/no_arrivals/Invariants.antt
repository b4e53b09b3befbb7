use Rattle.std.proofs.Common.{◌≡◌, map, take}
use Rattle.timeline.proofs.arrivals.no_arrivals.Given as goal

abbrev pub invariant-loop-envelope : goal.invariant-loop-envelope
invariant-loop-envelope l = l.all.items ≡ map (λ x. 0) (take l._envelope-index l.envelopes)
