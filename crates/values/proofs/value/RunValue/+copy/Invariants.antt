use Rattle.std.proofs.Common.{◌≡◌, map, take}
use Rattle.values.specs.Values.{value_of}
use Rattle.values.proofs.value.RunValue.+copy.Given as goal

abbrev pub invariant-loop-item : goal.invariant-loop-item
invariant-loop-item l = map value_of l.copies.items ≡ map value_of (take l.item-index l.item-items)
