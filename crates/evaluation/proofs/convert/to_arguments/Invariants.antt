use Rattle.std.proofs.Common.{◌≡◌, map, take}
use Rattle.task_spec.specs.Births.{argument_of as task_argument}
use Rattle.frames.specs.Machines.{argument_of}
use Rattle.evaluation.proofs.convert.to_arguments.Given as goal

abbrev pub invariant-loop-argument : goal.invariant-loop-argument
invariant-loop-argument l = map task_argument l.copies ≡ map argument_of (take l.argument-index l.arguments)
