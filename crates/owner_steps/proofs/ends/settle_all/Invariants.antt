use Rattle.std.proofs.Common.{◌≡◌, ◌-◌, ◌≤◌, drop}
use Rattle.protocol.specs.Sets.{object_id}
use Rattle.protocol.specs.Ends.{settles}
use Rattle.owner_steps.proofs.ends.settle_all.Given as goal

-- settling the objects that are left with the results that are left ends as settling all
abbrev pub invariant-loop-serial : goal.invariant-loop-serial
invariant-loop-serial l =
    (settles l.here (object_id l.fn.object.owner l.serial) l.number l.node (l.end - l.serial) (drop l.place l.results)
    ≡ settles l.initial.here l.fn.object l.number l.node (l.end - l.fn.object.serial) l.results)
    × (l.place ≤ l.serial)
