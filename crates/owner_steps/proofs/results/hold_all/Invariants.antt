use Rattle.std.proofs.Common.{◌≡◌}
use Rattle.protocol.specs.Holders.{holds_ids}
use Rattle.owner_steps.specs.Each.{each_own}
use Rattle.owner_steps.proofs.results.hold_all.Given as goal

abbrev pub invariant-loop-serial : goal.invariant-loop-serial
invariant-loop-serial l =
    each_own (λ g e. holds_ids g e l.ids) l.here l.serial l.end ≡ each_own (λ g e. holds_ids g e l.ids) l.initial.here l.from l.end
