use Rattle.std.proofs.Common.{◌≡◌, ◌+◌, ◌≤◌, drop}
use Rattle.protocol.specs.Settling.{first_job}
use Rattle.settling.proofs.commits.first_job.Given as goal

abbrev pub invariant-loop-turn : goal.invariant-loop-turn
invariant-loop-turn l = (first_job l.but (l.place + 1) (drop l.place l.workers) ≡ first_job l.but 1 l.workers) × (l.turn ≤ l.place)
