use Rattle.std.proofs.Common.{◌≡◌, drop}
use Rattle.protocol.specs.Holders.{drops_holders}
use Rattle.worker_steps.proofs.collection.drop_holders.Given as goal

abbrev pub invariant-loop-holder : goal.invariant-loop-holder
invariant-loop-holder l = drops_holders l.here l.object (drop l.holder-index l.holder-items) ≡ drops_holders l.initial.here l.object l.holder-items
