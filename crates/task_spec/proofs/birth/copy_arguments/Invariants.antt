use Rattle.std.proofs.Common.{◌≡◌, map, take}
use Rattle.task_spec.specs.Births.{argument_of}
use Rattle.task_spec.proofs.birth.copy_arguments.Given as goal

abbrev pub invariant-loop-argument : goal.invariant-loop-argument
invariant-loop-argument l = map argument_of l.copies ≡ map argument_of (take l.argument-index l.arguments)
