use Rattle.std.proofs.Common.{◌≡◌, ◌+◌, drop}
use Rattle.protocol.specs.Events.{objects_made}
use Rattle.cluster_events.proofs.births.with_made.Given as goal

-- the count so far with the objects of the births that are left
abbrev pub invariant-loop-birth : goal.invariant-loop-birth
invariant-loop-birth l = l.all + objects_made (drop l.birth-index l.birth-items) ≡ l.fn.made + objects_made l.birth-items
