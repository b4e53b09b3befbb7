use Rattle.std.proofs.Common.{◌≡◌, ◌++◌, drop}
use Rattle.contexts.specs.of_protocol.Cluster.{undelivered}
use Rattle.cluster_steps.proofs.put_back.add_undelivered.Given as goal

abbrev pub invariant-loop-envelope : goal.invariant-loop-envelope
invariant-loop-envelope l = l.delivered ++ undelivered (drop l._envelope-index l._envelope-items) ≡ l.initial.delivered ++ undelivered l._envelope-items
