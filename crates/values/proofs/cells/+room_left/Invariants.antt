use Rattle.std.proofs.Common.{◌≡◌, ◌+◌, take}
use Rattle.values.proofs.Counting.{cells_of_items}
use Rattle.values.proofs.cells.+room_left.Given as goal

-- the cells of the items so far and the room that is left are the room at first, but for the list's own cell
abbrev pub invariant-loop-item : goal.invariant-loop-item
invariant-loop-item l = 1 + cells_of_items (take l.item-index l.item-items) + l.left ≡ l.fn.room
