use Rattle.std.proofs.Common.{◌≡◌, ◌++◌, ◌-◌}
use Rattle.contexts.specs.of_protocol.Sets.{repeated}
use Rattle.contexts.specs.of_protocol.Tables.{new_worker}
use Rattle.cluster_steps.proofs.put_back.add_workers.Given as goal

abbrev pub invariant-loop-turn : goal.invariant-loop-turn
invariant-loop-turn l = l.workers ++ repeated (l.count - l.turn) (new_worker l.node) ≡ l.initial.workers ++ repeated l.count (new_worker l.node)
