use Rattle.std.proofs.Common.{◌≡◌, ◌++◌, drop, map, not}
use Rattle.std.specs.Prelude.{◌==◌}
use Rattle.std.specs.List.{filter}
use Rattle.protocol.specs.Holders.{holding}
use Rattle.worker_steps.proofs.collection.add_passed.Given as goal

-- the pairs so far with those of the foreign ids that are left
abbrev pub invariant-loop-id : goal.invariant-loop-id
invariant-loop-id l =
    l.passed ++ map (holding l.holder) (filter (λ o. not (o.owner == l.me)) (drop l.id-index l.id-items))
    ≡ l.initial.passed ++ map (holding l.holder) (filter (λ o. not (o.owner == l.me)) l.id-items)
