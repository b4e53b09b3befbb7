use Rattle.std.proofs.Common.{◌≡◌, take}
use Rattle.seats.specs.Turns.{busy}
use Rattle.seats.proofs.outs.busy.Given as goal

abbrev pub invariant-loop-x : goal.invariant-loop-x
invariant-loop-x l = l.workers ≡ busy (take l.x-index l.out)
