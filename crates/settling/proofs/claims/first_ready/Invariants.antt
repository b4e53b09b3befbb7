use Rattle.std.proofs.Common.{◌≡◌, ◌+◌, ◌≤◌, drop}
use Rattle.protocol.specs.Settling.{first_ready}
use Rattle.settling.proofs.claims.first_ready.Given as goal

abbrev pub invariant-loop-turn : goal.invariant-loop-turn
invariant-loop-turn l = (first_ready l.whole l.but (l.place + 1) (drop l.place l.whole.workers) ≡ first_ready l.whole l.but 1 l.whole.workers) × (l.turn ≤ l.place)
