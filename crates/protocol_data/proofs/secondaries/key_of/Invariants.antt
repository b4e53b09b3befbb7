use Rattle.std.proofs.Common.{◌≡◌, None}
use Rattle.std.specs.List.{find}
use Rattle.protocol_data.specs.Recent.{copies_of}
use Rattle.protocol_data.specs.Shelves.{is_sought}
use Rattle.protocol_data.proofs.secondaries.key_of.Given as goal

-- the object's copy is found among those that are left where it is found in the whole cache
abbrev pub invariant-loop-key : goal.invariant-loop-key
invariant-loop-key l =
    (goal.iterator-loop-key).can_next l.rest
    × (goal.iterator-loop-key).is_finite l.rest
    × (find (is_sought l.object None) (copies_of l.rest) ≡ find (is_sought l.object None) (copies_of l.cache.entries))
