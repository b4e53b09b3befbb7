-- The whole run: nodes and workers by number, the network, and the jobs that were given out. An event of a worker takes that worker and its
-- node out, lets the worker do its step and then release what it can, and puts both back, with the workers that were opened and the messages
-- that were sent.
use Rattle.std.specs.Prelude.{Bool, List, None, Option, Some, [], false, length, map, ℕ, ◌++◌, ◌∷◌}
use Rattle.protocol_data.specs.of_meaning.Values.{main_birth}
use Rattle.protocol_data.specs.of_event_log.Entries.{main_attempt}
use Rattle.protocol.specs.Numbered.{changed_at, item_at}
use Rattle.protocol.specs.Sets.{object_id, repeated}
use Rattle.protocol.specs.Messages.{Envelope}
use Rattle.protocol.specs.Nodes.{Node, NodeContext, new_node, no_out}
use Rattle.protocol.specs.Tables.{Execution, Worker, new_run, new_worker}
use Rattle.protocol.specs.Steps.{WorkerContext}
use Rattle.protocol.specs.Releases.{release_step}
pub use Rattle.protocol_data.specs.declared.cluster_state.ClusterState.{ClusterState}
pub use Rattle.protocol_data.specs.declared.cluster_state.Transition.{Transition}

-- nothing was logged or sent
abbrev pub moved : ClusterState → Transition
moved c = record { whole = c; out = no_out }

-- the node of that number
abbrev pub node_at : ClusterState → ℕ → Option Node
node_at c n = item_at c.nodes n

-- the worker of that number
abbrev pub worker_at : ClusterState → ℕ → Option Worker
worker_at c w = item_at c.workers w

-- ---- a node's step

-- the node in an event, before anything happens
abbrev pub there : ClusterState → ℕ → Node → NodeContext
there c n node = record { number = n; nodes = length c.nodes; workers = length c.workers; opened = 0; node = node; out = no_out }

-- none of these was delivered yet
abbrev pub undelivered : List Envelope → List Bool
undelivered ls = map (λ _. false) ls

-- a node is put back, with what it made
abbrev pub after_node : ClusterState → ℕ → NodeContext → Transition
after_node c n h =
    record {
      whole = record c {
        nodes = changed_at c.nodes n (λ _. h.node);
        workers = c.workers ++ repeated h.opened (new_worker n);
        network = c.network ++ h.out.envelopes;
        delivered = c.delivered ++ undelivered h.out.envelopes;
      };
      out = h.out;
    }

-- the step of a node that there is
abbrev pub node_does_by : ClusterState → ℕ → (NodeContext → NodeContext) → Option Node → Transition
node_does_by c n f None = moved c
node_does_by c n f (Some node) = after_node c n (f (there c n node))

-- an event of a node: its step alone
abbrev pub node_does : ClusterState → ℕ → (NodeContext → NodeContext) → Transition
node_does c n f = node_does_by c n f (node_at c n)

-- ---- a worker's step

-- the worker with its node in an event, before anything happens
abbrev pub here : ClusterState → ℕ → Worker → Node → WorkerContext
here c w worker node = record { me = w; worker = worker; there = there c worker.node node }

-- worker and node are put back, with what they made
abbrev pub after_worker : ClusterState → ℕ → ℕ → WorkerContext → Transition
after_worker c w n h = after_node (record c { workers = changed_at c.workers w (λ _. h.worker) }) n h.there

-- the step of a worker whose node there is
abbrev pub worker_does_at : ClusterState → ℕ → Worker → (WorkerContext → WorkerContext) → Option Node → Transition
worker_does_at c w worker f None = moved c
worker_does_at c w worker f (Some node) = after_worker c w worker.node (release_step (f (here c w worker node)))

-- the step of a worker that there is
abbrev pub worker_does_by : ClusterState → ℕ → (WorkerContext → WorkerContext) → Option Worker → Transition
worker_does_by c w f None = moved c
worker_does_by c w f (Some worker) = worker_does_at c w worker f (node_at c worker.node)

-- an event of a worker: its step, then what can be released
abbrev pub worker_does : ClusterState → ℕ → (WorkerContext → WorkerContext) → Transition
worker_does c w f = worker_does_by c w f (worker_at c w)

-- ---- the opening

-- main's attempt as it begins
abbrev pub main_run : Execution
main_run = new_run main_attempt main_birth (object_id 1 1)

-- worker 1 on node 1 runs main
abbrev pub driver : Worker
driver = record (new_worker 1) { run = Some main_run; began = main_attempt ∷ [] }

-- node 1 has given the driver a slot
abbrev pub with_driver : List Node → List Node
with_driver nodes = changed_at nodes 1 (λ node. record node { scheduler = record node.scheduler { slot_holders = 1 ∷ [] } })

-- so many nodes with so many slots each, as a run begins
abbrev pub first_whole : ℕ → ℕ → ClusterState
first_whole nodes slots =
    record {
      slots = slots;
      nodes = with_driver (repeated nodes (new_node slots));
      workers = driver ∷ [];
      made = 1;
      network = [];
      delivered = [];
      jobs = [];
    }
