use Rattle.std.proofs.Common.{◌≡◌, map, take}
use Rattle.task_spec.specs.Births.{argument_of}
use Rattle.task_spec.proofs.same.are_same_arguments.Given as goal

abbrev pub invariant-loop-i : goal.invariant-loop-i
invariant-loop-i l = map argument_of (take l.i l.a) ≡ map argument_of (take l.i l.b)
