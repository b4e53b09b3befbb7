use Rattle.std.proofs.Common.{◌≡◌, drop}
use Rattle.waits.specs.Links.{first_holder_link}
use Rattle.waits.proofs.slots.first_holder_link.Given as goal

abbrev pub invariant-loop-worker : goal.invariant-loop-worker
invariant-loop-worker l =
    first_holder_link l.whole l.slot_holders ≡ first_holder_link l.whole (drop l.worker-index l.slot_holders)
