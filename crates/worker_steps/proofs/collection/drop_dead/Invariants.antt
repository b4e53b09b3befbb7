use Rattle.std.proofs.Common.{◌≡◌, ◌+◌, ◌-◌}
use Rattle.protocol.specs.Steps.{each_from, own_id, own_object}
use Rattle.protocol.specs.Holders.{drops_dead_by}
use Rattle.worker_steps.proofs.collection.drop_dead.Given as goal

-- going through the objects from the place on ends as going through all
abbrev pub invariant-loop-place : goal.invariant-loop-place
invariant-loop-place l =
    each_from (λ g k. drops_dead_by g l.worker (own_id g k) (own_object g k)) l.here (l.place + 1) (l.count - l.place)
    ≡ each_from (λ g k. drops_dead_by g l.worker (own_id g k) (own_object g k)) l.initial.here 1 l.count
