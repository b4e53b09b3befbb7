use Rattle.std.proofs.Common.{◌≡◌, ◌++◌, map, drop}
use Rattle.frame_laws.specs.Law.{values_in, marks_in}
use Rattle.frames.specs.Values.{value_of}
use Rattle.frames.specs.Machines.{argument_of}
use Rattle.frames.proofs.start.first_registers.Given as goal

-- the values so far, with those that are left
abbrev pub invariant-loop-argument : goal.invariant-loop-argument
invariant-loop-argument l =
    map value_of l.registers.items ++ values_in (map argument_of (drop l.argument-index l.arguments)) ≡ values_in (map argument_of l.arguments)

-- and the marks
abbrev pub invariant-loop-argument-2 : goal.invariant-loop-argument-2
invariant-loop-argument-2 l =
    map value_of l.registers.items ++ marks_in (map argument_of (drop l.argument-index l.arguments))
    ≡ values_in (map argument_of l.arguments) ++ marks_in (map argument_of l.arguments)
