use Rattle.std.proofs.Common.{◌≡◌, map, take}
use Rattle.values.specs.Values.{value_of}
use Rattle.values.proofs.+same.Given as goal

abbrev pub invariant-same::are_same_values-loop-i : goal.invariant-same::are_same_values-loop-i
invariant-same::are_same_values-loop-i l = map value_of (take l.i l.a) ≡ map value_of (take l.i l.b)
