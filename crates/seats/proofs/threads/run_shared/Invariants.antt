use Rattle.std.proofs.Common.{◌≡◌}
use Rattle.seats.proofs.threads.run_shared.Given as goal

-- the run stays shared by as many seats
abbrev pub invariant-loop : goal.invariant-loop
invariant-loop g l = l.shared ≡ l.fn.n
