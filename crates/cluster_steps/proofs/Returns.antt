-- What is taken out and put back.
use Rattle.std.proofs.Common.{◌≡◌, ℕ, ◌+◌, ◌<◌, length, ◌++◌, List, Option, Some, None, sym, ap, ◌∙◌}
use Rattle.std.specs.Prelude.{slice_get, slice_set}
use Rattle.number_lists.proofs.Places.{item_there, blank_over}
use Rattle.contexts.specs.of_protocol.Numbered.{changed_at}
use Rattle.contexts.specs.of_protocol.Sets.{repeated}
use Rattle.contexts.specs.of_protocol.Nodes.{Node, NodeContext}
use Rattle.contexts.specs.of_protocol.Tables.{Worker, new_worker}
use Rattle.contexts.specs.of_protocol.Steps.{WorkerContext}
use Rattle.contexts.specs.of_protocol.Releases.{release_step}
use Rattle.contexts.specs.of_protocol.Cluster.{ClusterState, Transition, after_node, after_worker, here, moved, node_at, worker_at, node_does, node_does_by, there, worker_does, worker_does_at, worker_does_by}

abbrev with_nodes : Transition → List Node → Transition
with_nodes m xs = record m { whole = record m.whole { nodes = xs } }

abbrev with_workers : Transition → List Worker → Transition
with_workers m ws = record m { whole = record m.whole { workers = ws } }

abbrev workers_after : ClusterState → ℕ → WorkerContext → List Worker → List Worker
workers_after c n h ws = ws ++ repeated h.there.opened (new_worker n)

-- a node's step is what is done with it outside
pub node_done : (c left : ClusterState) (i n : ℕ) (d node : Node) (f : NodeContext → NodeContext) (t h : NodeContext) → i < length c.nodes → n ≡ 1 + i → left ≡ record c { nodes = slice_set c.nodes i d }
    → slice_get c.nodes i ≡ Some node → t ≡ there c n node → h ≡ f t → after_node left n h ≡ node_does c n f
node_done c left i n d node f t h r e l g te he =
    ap (λ b. after_node b n h) l
    ∙ ap (with_nodes (after_node c n h)) (blank_over c.nodes i n d h.node r e)
    ∙ ap (λ k. after_node c n k) (he ∙ ap f te)
    ∙ sym (ap (λ o. node_does_by c n f o) (item_there c.nodes i n node e g))

-- a worker's step is what is done with it and its node outside
pub worker_done : (c left : ClusterState) (i j w : ℕ) (d worker : Worker) (b node : Node) (f : WorkerContext → WorkerContext) (t h : WorkerContext) → i < length c.workers → w ≡ 1 + i → j < length c.nodes → worker.node ≡ 1 + j
    → left ≡ record c { workers = slice_set c.workers i d; nodes = slice_set c.nodes j b }
    → slice_get c.workers i ≡ Some worker → slice_get c.nodes j ≡ Some node → t ≡ here c w worker node → h ≡ release_step (f t)
    → after_worker left w worker.node h ≡ worker_does c w f
worker_done c left i j w d worker b node f t h r e q u l g k te he =
    let n = worker.node in
    ap (λ a. after_worker a w n h) l
    ∙ ap (λ ws. with_nodes (with_workers (after_worker c w n h) (workers_after c n h ws)) (changed_at (slice_set c.nodes j b) n (λ _. h.there.node))) (blank_over c.workers i w d h.worker r e)
    ∙ ap (with_nodes (after_worker c w n h)) (blank_over c.nodes j n b h.there.node q u)
    ∙ ap (λ a. after_worker c w n a) (he ∙ ap (λ a. release_step (f a)) te)
    ∙ sym (ap (λ o. worker_does_by c w f o) (item_there c.workers i w worker e g) ∙ ap (λ o. worker_does_at c w worker f o) (item_there c.nodes j n node u k))

-- no such worker
pub worker_none : (c : ClusterState) (w : ℕ) (f : WorkerContext → WorkerContext) → worker_at c w ≡ None → worker_does c w f ≡ moved c
worker_none c w f e = ap (λ o. worker_does_by c w f o) e

-- its node isn't there
pub node_none : (c : ClusterState) (i w : ℕ) (worker : Worker) (f : WorkerContext → WorkerContext) → w ≡ 1 + i → slice_get c.workers i ≡ Some worker → node_at c worker.node ≡ None → worker_does c w f ≡ moved c
node_none c i w worker f e g h = ap (λ o. worker_does_by c w f o) (item_there c.workers i w worker e g) ∙ ap (λ o. worker_does_at c w worker f o) h

same_some : {X : Type 0} (x y : X) (o : Option X) → o ≡ Some x → o ≡ Some y → x ≡ y
same_some x y o e f = let g : Some x ≡ Some y = sym e ∙ f in cc

abbrev pub taken : ClusterState → ℕ → ℕ → Worker → Node → WorkerContext
taken c w n worker node = record { me = w; worker = worker; there = there c n node }

-- what was taken out is the worker that was read
pub taken_here : (c : ClusterState) (i w : ℕ) (worker other : Worker) (node : Node) (t : WorkerContext) → slice_get c.workers i ≡ Some worker → slice_get c.workers i ≡ Some other
    → t ≡ taken c w worker.node other node → t ≡ here c w worker node
taken_here c i w worker other node t g k e = e ∙ ap (λ x. taken c w worker.node x node) (same_some other worker (slice_get c.workers i) k g)
