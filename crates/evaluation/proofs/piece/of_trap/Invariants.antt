use Rattle.std.proofs.Common.{◌≡◌, ◌-◌, ◌++◌}
use Rattle.meaning.specs.Values.{Aborted, outcomes}
use Rattle.values.specs.Values.{trap_of}
use Rattle.evaluation.proofs.piece.of_trap.Given as goal

-- the contents so far, and those that are left
abbrev pub invariant-loop : goal.invariant-loop
invariant-loop l = l.contents ++ outcomes (l.count - l.counter) (Aborted (trap_of l.trap)) ≡ outcomes l.count (Aborted (trap_of l.trap))
