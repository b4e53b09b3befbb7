-- Clusters: how many nodes there are at first, and how many slots each has.
use Rattle.std.specs.Prelude.{ℕ, ◌≤◌}

pub record Size : Type 0 where
  pub nodes : ℕ
  pub slots : ℕ

-- both are from 1 to 64
pub record IsCluster (c : Size) : Type 0 where
  pub a_node : 1 ≤ c.nodes
  pub nodes : c.nodes ≤ 64
  pub a_slot : 1 ≤ c.slots
  pub slots : c.slots ≤ 64
