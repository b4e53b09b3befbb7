use Rattle.std.proofs.Common.{◌≡◌, map, take}
use Rattle.values.specs.Values.{value_of as task_value}
use Rattle.frames.specs.Values.{value_of}
use Rattle.evaluation.proofs.convert.+from_value.Given as goal

abbrev pub invariant-loop-item : goal.invariant-loop-item
invariant-loop-item l = map value_of l.values.items ≡ map task_value (take l.item-index l.item-items)
