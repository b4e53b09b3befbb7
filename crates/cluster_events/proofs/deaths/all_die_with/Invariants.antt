use Rattle.std.proofs.Common.{◌≡◌, ◌++◌, map}
use Rattle.protocol.specs.Events.{dies_with}
use Rattle.cluster_events.proofs.deaths.all_die_with.Given as goal

abbrev pub invariant-loop-worker : goal.invariant-loop-worker
invariant-loop-worker l = l.others ++ map (dies_with l.node) l.worker-iterator.rest.items ≡ map (dies_with l.node) l.fn.workers
