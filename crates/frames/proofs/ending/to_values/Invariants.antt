use Rattle.std.proofs.Common.{◌≡◌, ◌-◌, ◌++◌, map, drop}
use Rattle.meaning.specs.Values.{Known, Returned, outcomes}
use Rattle.frames.specs.Values.{value_of}
use Rattle.frames.proofs.ending.to_values.Given as goal

-- the references so far, and those that are left
abbrev pub invariant-loop-place : goal.invariant-loop-place
invariant-loop-place l = map value_of l.references.items ++ map Known (outcomes (l.count - l.place) (Returned (map value_of (drop l.place l.values)))) ≡ map Known (outcomes l.count (Returned (map value_of l.values)))
