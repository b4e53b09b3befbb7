use Rattle.std.proofs.Common.{◌≡◌, drop}
use Rattle.contexts.specs.of_protocol.Tables.{live_location}
use Rattle.worker_tables.proofs.locations.live_location.Given as goal

abbrev pub invariant-loop-node : goal.invariant-loop-node
invariant-loop-node l = live_location l.worker (drop l.node-index l.node-items) ≡ live_location l.worker l.node-items
