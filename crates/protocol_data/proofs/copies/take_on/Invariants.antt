use Rattle.std.proofs.Common.{◌≡◌, length}
use Rattle.protocol_data.specs.Shelves.{AreShelved, HaveNoneBefore, copies_on, without}
use Rattle.protocol_data.proofs.copies.take_on.Given as goal

-- the shelves before the place have none of that copy, no other copy is gone, and each shelf keeps its bounds
abbrev pub invariant-loop-place : goal.invariant-loop-place
invariant-loop-place l =
    AreShelved l.shelves
    × (length l.shelves ≡ length l.initial.shelves)
    × HaveNoneBefore l.object l.number l.place l.shelves
    × (without l.object l.number (copies_on l.shelves) ≡ without l.object l.number (copies_on l.initial.shelves))
