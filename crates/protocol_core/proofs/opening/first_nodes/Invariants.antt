use Rattle.std.proofs.Common.{◌≡◌, ◌++◌, ◌-◌}
use Rattle.protocol.specs.Nodes.{new_node}
use Rattle.protocol.specs.Sets.{repeated}
use Rattle.protocol_core.proofs.opening.first_nodes.Given as goal

-- the nodes so far with as many new ones as are left
abbrev pub invariant-loop-turn : goal.invariant-loop-turn
invariant-loop-turn l = l.all ++ repeated (l.nodes - l.turn) (new_node l.slots) ≡ repeated l.nodes (new_node l.slots)
