use Rattle.std.proofs.Common.{◌≡◌, ◌-◌, ◌++◌, map, drop}
use Rattle.meaning.specs.Values.{Returned, outcomes}
use Rattle.frames.specs.Values.{value_of}
use Rattle.evaluation.proofs.piece.of_values.Given as goal

-- the contents so far, and those that are left
abbrev pub invariant-loop-place : goal.invariant-loop-place
invariant-loop-place l =
    l.contents ++ outcomes (l.count - l.place) (Returned (map value_of (drop l.place l.values)))
    ≡ outcomes l.count (Returned (map value_of l.values))
