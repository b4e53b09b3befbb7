use Rattle.std.proofs.Common.{◌≡◌, ◌-◌}
use Rattle.protocol.specs.Asking.{first_live}
use Rattle.owner_steps.proofs.again.first_live.Given as goal

-- from the next node on, in as many turns as are left, the search ends at the same node
abbrev pub invariant-loop-turn : goal.invariant-loop-turn
invariant-loop-turn l = first_live l.worker l.count (l.count - l.turn) l.next ≡ first_live l.worker l.count l.count l.fn.node
