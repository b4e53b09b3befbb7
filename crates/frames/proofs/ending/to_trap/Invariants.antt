use Rattle.std.proofs.Common.{◌≡◌, ◌-◌, ◌++◌, map}
use Rattle.meaning.specs.Values.{Known, Aborted, outcomes}
use Rattle.values.specs.Values.{trap_of}
use Rattle.frames.specs.Values.{value_of}
use Rattle.frames.proofs.ending.to_trap.Given as goal

-- the references so far, and those that are left
abbrev pub invariant-loop : goal.invariant-loop
invariant-loop l = map value_of l.references.items ++ map Known (outcomes (l.count - l.counter) (Aborted (trap_of l.trap))) ≡ map Known (outcomes l.count (Aborted (trap_of l.trap)))
