use Rattle.std.proofs.Common.{◌≡◌, take}
use Rattle.sequence.proofs.Seq.copy.Given as goal

abbrev pub invariant-loop-item : goal.invariant-loop-item
invariant-loop-item g l = l.other ≡ take l.item-index l.item-items
