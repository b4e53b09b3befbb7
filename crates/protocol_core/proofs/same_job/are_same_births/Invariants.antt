use Rattle.std.proofs.Common.{◌≡◌, map, take}
use Rattle.std.specs.Arc.{arc_value}
use Rattle.task_spec.specs.Births.{birth_of}
use Rattle.protocol_core.proofs.same_job.are_same_births.Given as goal

abbrev pub invariant-loop-i : goal.invariant-loop-i
invariant-loop-i l = map birth_of (map arc_value (take l.i l.births)) ≡ map birth_of (map arc_value (take l.i l.held))
