use Rattle.std.proofs.Common.{◌≡◌, drop}
use Rattle.protocol.specs.Holders.{first_born}
use Rattle.worker_steps.proofs.collection.first_born.Given as goal

abbrev pub invariant-loop-other : goal.invariant-loop-other
invariant-loop-other l = first_born l.least (drop l.other-index l.other-items) ≡ first_born l.fn.first l.other-items
