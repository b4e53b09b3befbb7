-- The nodes with which a run begins.
use Rattle.std.specs.Prelude.{ℕ, List}
use Rattle.protocol.specs.Nodes.{Node, new_node}
use Rattle.protocol.specs.Sets.{repeated}

-- so many nodes with so many slots each, before the driver has one
abbrev pub new_nodes : ℕ → ℕ → List Node
new_nodes nodes slots = repeated nodes (new_node slots)
