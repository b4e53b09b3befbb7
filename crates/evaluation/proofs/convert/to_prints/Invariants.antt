use Rattle.std.proofs.Common.{◌≡◌, map, take}
use Rattle.frames.specs.Values.{value_of}
use Rattle.evaluation.proofs.convert.to_prints.Given as goal

abbrev pub invariant-loop-value : goal.invariant-loop-value
invariant-loop-value l = l.prints ≡ map value_of (take l.value-index l.values)
