use Rattle.std.proofs.Common.{◌≡◌, map, take}
use Rattle.values.specs.Values.{value_of as task_value}
use Rattle.frames.specs.Values.{value_of}
use Rattle.evaluation.proofs.convert.+to_value.Given as goal

abbrev pub invariant-loop-item : goal.invariant-loop-item
invariant-loop-item l = map task_value l.values.items ≡ map value_of (take l.item-index l.item-items)
