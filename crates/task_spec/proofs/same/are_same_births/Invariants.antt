use Rattle.std.proofs.Common.{◌≡◌, map, take}
use Rattle.task_spec.specs.Births.{birth_of}
use Rattle.task_spec.proofs.same.are_same_births.Given as goal

abbrev pub invariant-loop-i : goal.invariant-loop-i
invariant-loop-i l = map birth_of (take l.i l.a) ≡ map birth_of (take l.i l.b)
