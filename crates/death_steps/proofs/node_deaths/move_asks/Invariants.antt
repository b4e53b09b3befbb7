use Rattle.std.proofs.Common.{◌≡◌, ◌+◌, ◌-◌}
use Rattle.protocol.specs.Tables.{task_of}
use Rattle.protocol.specs.Steps.{each_from, own_object}
use Rattle.protocol.specs.Notices.{moves_ask}
use Rattle.death_steps.proofs.node_deaths.move_asks.Given as goal

-- going through the objects from the place on ends as going through all
abbrev pub invariant-loop-place : goal.invariant-loop-place
invariant-loop-place l =
    each_from (λ g k. moves_ask g l.node k (task_of (own_object g k))) l.here (l.place + 1) (l.count - l.place)
    ≡ each_from (λ g k. moves_ask g l.node k (task_of (own_object g k))) l.initial.here 1 l.count
