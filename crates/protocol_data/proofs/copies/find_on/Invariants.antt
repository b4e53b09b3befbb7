use Rattle.std.proofs.Common.{◌≡◌, drop}
use Rattle.std.specs.List.{find}
use Rattle.protocol_data.specs.Shelves.{AreShelved, copies_on, is_sought}
use Rattle.protocol_data.proofs.copies.find_on.Given as goal

-- the copy is found on the shelves that are left where it is found on all; and these have their bounds
abbrev pub invariant-loop-shelf : goal.invariant-loop-shelf
invariant-loop-shelf l =
    (find (is_sought l.object l.number) (copies_on (drop l.shelf-index l.shelf-items)) ≡ find (is_sought l.object l.number) (copies_on l.shelf-items))
    × AreShelved (drop l.shelf-index l.shelf-items)
