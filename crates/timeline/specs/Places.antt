-- In which row something of a worker or a node is shown.
use Rattle.std.specs.Prelude.{ℕ, if◌then◌else◌, ◌==◌, List, [], ◌∷◌}
use Rattle.protocol_data.specs.declared.message.Endpoint.{Endpoint}
use Rattle.protocol_data.specs.declared.message.Endpoint.TheVariants.{TheWorker, TheNode}
use Rattle.timeline.specs.declared.rows.Row.{Row}

-- the worker's node; 0 where it was never opened
abbrev pub home : List Row → ℕ → ℕ
home [] w = 0
home (r ∷ rows) w = if r.worker == w then r.node else home rows w

abbrev pub process : List Row → Endpoint → ℕ
process rows (TheWorker w) = home rows w
process rows (TheNode n) = n

-- a node's own row is 0
abbrev pub thread : Endpoint → ℕ
thread (TheWorker w) = w
thread (TheNode n) = 0
