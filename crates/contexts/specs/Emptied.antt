-- What stands where an event found no memory.
use Rattle.std.specs.Prelude.{[]}
use Rattle.protocol.specs.Nodes.{new_node, no_out}
use Rattle.protocol.specs.Tables.{new_worker}
use Rattle.protocol_data.specs.declared.node.NodeContext.{NodeContext}
use Rattle.protocol_data.specs.declared.tables.WorkerContext.{WorkerContext}
use Rattle.protocol_data.specs.declared.cluster_state.ClusterState.{ClusterState}

-- of a node in the event: no node, with no slots, with nothing logged and nothing sent
abbrev pub nothing_there : NodeContext
nothing_there = record { number = 0; nodes = 0; workers = 0; opened = 0; node = new_node 0; out = no_out }

-- of a worker and its node in the event: nobody's new worker on no node, with nothing logged and nothing sent
abbrev pub nothing_here : WorkerContext
nothing_here = record { me = 0; worker = new_worker 0; there = nothing_there }

-- of workers, nodes, messages and jobs
abbrev pub nothing_left : ClusterState
nothing_left = record { slots = 0; nodes = []; workers = []; made = 0; network = []; delivered = []; jobs = [] }
