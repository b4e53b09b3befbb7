use Rattle.std.proofs.Common.{◌≡◌, map, take}
use Rattle.std.specs.Arc.{arc_value}
use Rattle.values.specs.Values.{value_of}
use Rattle.protocol_core.proofs.same_job.are_same_prints.Given as goal

abbrev pub invariant-loop-i : goal.invariant-loop-i
invariant-loop-i l = map value_of (map arc_value (take l.i l.prints)) ≡ map value_of (map arc_value (take l.i l.held))
