use Rattle.std.proofs.Common.{◌≡◌}
use Rattle.seats.proofs.working.work.Given as goal

-- it stays the same seat
abbrev pub invariant-loop : goal.invariant-loop
invariant-loop g l = l.seat.number ≡ l.fn.seat.number
