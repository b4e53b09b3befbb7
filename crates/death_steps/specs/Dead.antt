-- Which attempts the death of a worker or of a node breaks.
use Rattle.std.specs.Prelude.{Bool}
use Rattle.protocol.specs.Messages.{Endpoint, TheNode, TheWorker}
use Rattle.protocol.specs.Tables.{Progress}
use Rattle.protocol.specs.Notices.{runs_on_node, runs_on_worker}

-- the present attempt of a task runs on the worker, or the node gave it the worker that it runs on
abbrev pub runs_on : Endpoint → Progress → Bool
runs_on (TheWorker v) = runs_on_worker v
runs_on (TheNode m) = runs_on_node m
