use Rattle.std.proofs.Common.{◌≡◌, drop}
use Rattle.protocol.specs.Sets.{has}
use Rattle.settling.proofs.commits.has_number.Given as goal

abbrev pub invariant-loop-worker : goal.invariant-loop-worker
invariant-loop-worker l = has (drop l.worker-index l.worker-items) l.number ≡ has l.worker-items l.number
