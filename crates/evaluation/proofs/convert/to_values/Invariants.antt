use Rattle.std.proofs.Common.{◌≡◌, map, take}
use Rattle.values.specs.Values.{value_of as task_value}
use Rattle.frames.specs.Values.{value_of}
use Rattle.evaluation.proofs.convert.to_values.Given as goal

abbrev pub invariant-loop-value : goal.invariant-loop-value
invariant-loop-value l = map task_value l.copies.items ≡ map value_of (take l.value-index l.values)
