use Rattle.std.proofs.Common.{◌≡◌, drop}
use Rattle.protocol.specs.Locations.{adds_locations}
use Rattle.worker_steps.proofs.locations.add_locations_of.Given as goal

abbrev pub invariant-loop-node : goal.invariant-loop-node
invariant-loop-node l = adds_locations l.here l.object l.number (drop l.node-index l.node-items) ≡ adds_locations l.initial.here l.object l.number l.node-items
