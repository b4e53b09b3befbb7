use Rattle.std.proofs.Common.{◌≡◌, map, take}
use Rattle.task_spec.specs.Births.{argument_of as task_argument}
use Rattle.frames.specs.Machines.{argument_of}
use Rattle.evaluation.proofs.convert.from_arguments.Given as goal

abbrev pub invariant-loop-argument : goal.invariant-loop-argument
invariant-loop-argument l = map argument_of l.copies ≡ map task_argument (take l.argument-index l.arguments)
