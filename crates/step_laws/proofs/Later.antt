-- What an event changes in the whole beside the worker's and the node's step may be changed after that step.
use Rattle.std.proofs.Common.{◌≡◌, ℕ, zero, suc, ◌+◌, ◌<◌, ◌≤◌, Bool, true, false, List, [], ◌∷◌, ◌++◌, length, Option, Some, None, refl, sym, ap, ◌∙◌, arith}
use Rattle.std.specs.Prelude.{if◌then◌else◌, slice_get, slice_set}
use Rattle.protocol.specs.Numbered.{changed_at, changed_by, item_at}
use Rattle.step_laws.specs.Later.{counted, counted_on, marked, marked_on}
use Rattle.protocol.specs.Jobs.{JobRecord}
use Rattle.protocol.specs.Nodes.{Node, NodeContext, no_out}
use Rattle.protocol.specs.Tables.{Worker}
use Rattle.protocol.specs.Steps.{WorkerContext}
use Rattle.protocol.specs.Releases.{release_step}
use Rattle.protocol.specs.Messages.{Envelope, Endpoint, TheNode, TheWorker}
use Rattle.protocol.specs.Deliveries.{reached}
use Rattle.protocol.specs.Slots.{node_reached}
use Rattle.protocol.specs.Events.{delivered, delivered_by, delivered_to, is_live_node, is_live_worker}
use Rattle.protocol.specs.Cluster.{Transition, ClusterState, after_node, here, moved, node_at, node_does, node_does_by, there, undelivered, worker_at, worker_does, worker_does_at, worker_does_by}

counted_at : (c : ClusterState) (made w : ℕ) (jobs : List JobRecord) (f : WorkerContext → WorkerContext) (x : Worker) (o : Option Node)
    → worker_does_at (counted made jobs c) w x f o ≡ counted_on made jobs (worker_does_at c w x f o)
counted_at c made w jobs f x None = refl
counted_at c made w jobs f x (Some node) = refl

counted_by : (c : ClusterState) (made w : ℕ) (jobs : List JobRecord) (f : WorkerContext → WorkerContext) (o : Option Worker)
    → worker_does_by (counted made jobs c) w f o ≡ counted_on made jobs (worker_does_by c w f o)
counted_by c made w jobs f None = refl
counted_by c made w jobs f (Some x) = counted_at c made w jobs f x (node_at c x.node)

pub counted_later : (c : ClusterState) (made w : ℕ) (jobs : List JobRecord) (f : WorkerContext → WorkerContext) → worker_does (counted made jobs c) w f ≡ counted_on made jobs (worker_does c w f)
counted_later c made w jobs f = counted_by c made w jobs f (worker_at c w)

pub made_kept : (c : ClusterState) (w : ℕ) (f : WorkerContext → WorkerContext) → (worker_does c w f).whole.made ≡ c.made
made_kept c w f = ap (λ m. m.whole.made) (counted_later c c.made w c.jobs f)

pub jobs_kept : (c : ClusterState) (w : ℕ) (f : WorkerContext → WorkerContext) → (worker_does c w f).whole.jobs ≡ c.jobs
jobs_kept c w f = ap (λ m. m.whole.jobs) (counted_later c c.made w c.jobs f)

set_before : {X : Type 0} (xs ys : List X) (i : ℕ) (x : X) → i < length xs → slice_set (xs ++ ys) i x ≡ slice_set xs i x ++ ys
set_before [] ys i x less = absurd (omega arith)
set_before (z ∷ zs) ys zero x less = refl
set_before (z ∷ zs) ys (suc i) x less = ap (λ us. z ∷ us) (set_before zs ys i x (omega arith))

abbrev with_marks : Transition → List Bool → Transition
with_marks m bs = record m { whole = record m.whole { delivered = bs } }

marked_after : (c : ClusterState) (i n : ℕ) (h : NodeContext) → i < length c.delivered → after_node (marked i c) n h ≡ marked_on i (after_node c n h)
marked_after c i n h less = ap (with_marks (after_node c n h)) (sym (set_before c.delivered (undelivered h.out.envelopes) i true less))

marked_node_by : (c : ClusterState) (i n : ℕ) (f : NodeContext → NodeContext) (o : Option Node) → i < length c.delivered → node_does_by (marked i c) n f o ≡ marked_on i (node_does_by c n f o)
marked_node_by c i n f None less = refl
marked_node_by c i n f (Some node) less = marked_after c i n (f (there c n node)) less

pub marked_node : (c : ClusterState) (i n : ℕ) (f : NodeContext → NodeContext) → i < length c.delivered → node_does (marked i c) n f ≡ marked_on i (node_does c n f)
marked_node c i n f less = marked_node_by c i n f (node_at c n) less

marked_at : (c : ClusterState) (i w : ℕ) (f : WorkerContext → WorkerContext) (x : Worker) (o : Option Node) → i < length c.delivered → worker_does_at (marked i c) w x f o ≡ marked_on i (worker_does_at c w x f o)
marked_at c i w f x None less = refl
marked_at c i w f x (Some node) less =
    let h : WorkerContext = release_step (f (here c w x node)) in
    marked_after (record c { workers = changed_at c.workers w (λ _. h.worker) }) i x.node h.there less

marked_by : (c : ClusterState) (i w : ℕ) (f : WorkerContext → WorkerContext) (o : Option Worker) → i < length c.delivered → worker_does_by (marked i c) w f o ≡ marked_on i (worker_does_by c w f o)
marked_by c i w f None less = refl
marked_by c i w f (Some x) less = marked_at c i w f x (node_at c x.node) less

pub marked_worker : (c : ClusterState) (i w : ℕ) (f : WorkerContext → WorkerContext) → i < length c.delivered → worker_does (marked i c) w f ≡ marked_on i (worker_does c w f)
marked_worker c i w f less = marked_by c i w f (worker_at c w) less

unchanged_by : {X : Type 0} (xs : List X) (n : ℕ) (f : X → X) → changed_by xs n f None ≡ xs
unchanged_by xs zero f = refl
unchanged_by xs (suc i) f = refl

unchanged : {X : Type 0} (xs : List X) (n : ℕ) (f : X → X) → item_at xs n ≡ None → changed_at xs n f ≡ xs
unchanged xs n f e = ap (changed_by xs n f) e ∙ unchanged_by xs n f

set_past : {X : Type 0} (x : X) (xs : List X) (i : ℕ) → length xs ≤ i → slice_set xs i x ≡ xs
set_past x [] i h = refl
set_past x (y ∷ ys) zero h = absurd (omega arith)
set_past x (y ∷ ys) (suc i) h = ap (λ zs. y ∷ zs) (set_past x ys i (omega arith))

to_worker : (c : ClusterState) (i w : ℕ) (f : WorkerContext → WorkerContext) (b : Bool) → i < length c.delivered
    → (if b then worker_does (marked i c) w f else record { whole = marked i c; out = no_out }) ≡ marked_on i (if b then worker_does c w f else moved c)
to_worker c i w f true less = marked_worker c i w f less
to_worker c i w f false less = refl

to_node : (c : ClusterState) (i n : ℕ) (f : NodeContext → NodeContext) (b : Bool) → i < length c.delivered
    → (if b then node_does (marked i c) n f else record { whole = marked i c; out = no_out }) ≡ marked_on i (if b then node_does c n f else moved c)
to_node c i n f true less = marked_node c i n f less
to_node c i n f false less = refl

pub marked_delivery : (c : ClusterState) (i : ℕ) (l : Envelope) (p : Endpoint) → i < length c.delivered → delivered_to (marked i c) l p ≡ marked_on i (delivered_to c l p)
marked_delivery c i l (TheWorker w) less = to_worker c i w (λ h. reached h l.sender l.message) (is_live_worker (worker_at c w)) less
marked_delivery c i l (TheNode n) less = to_node c i n (λ h. node_reached h l.sender l.message) (is_live_node (node_at c n)) less

set_there : {X : Type 0} (xs : List X) (i n : ℕ) (f : X → X) (x : X) → n ≡ 1 + i → slice_get xs i ≡ Some x → changed_at xs n f ≡ slice_set xs i (f x)
set_there xs i n f x e g = let s : n ≡ suc i = omega (arith, e) in ap (λ m. changed_at xs m f) s ∙ ap (changed_by xs (suc i) f) g

one_on : (y : Bool) (ys : List Bool) (i : ℕ) (o : Option Bool) → changed_by ys (suc i) (λ _. true) o ≡ slice_set ys i true → changed_by (y ∷ ys) (suc (suc i)) (λ _. true) o ≡ y ∷ slice_set ys i true
one_on y ys i None e = ap (λ zs. y ∷ zs) e
one_on y ys i (Some z) e = refl

within : (bs : List Bool) (i : ℕ) → i < length bs → changed_by bs (suc i) (λ _. true) (slice_get bs i) ≡ slice_set bs i true
within [] i less = absurd (omega arith)
within (y ∷ ys) zero less = refl
within (y ∷ ys) (suc i) less = one_on y ys i (slice_get ys i) (within ys i (omega arith))

set_mark : (bs : List Bool) (i n : ℕ) → i < length bs → n ≡ 1 + i → changed_at bs n (λ _. true) ≡ slice_set bs i true
set_mark bs i n less e = let s : n ≡ suc i = omega (arith, e) in ap (λ m. changed_at bs m (λ _. true)) s ∙ within bs i less

-- the mark is set after the message was handed over
pub delivered_later : (c : ClusterState) (i k : ℕ) (l : Envelope) → i < length c.delivered → k ≡ 1 + i → item_at c.network k ≡ Some l → delivered c k ≡ marked_on i (delivered_to c l l.receiver)
delivered_later c i k l less e g =
    ap (delivered_by c k) g ∙ ap (λ bs. delivered_to (record c { delivered = bs }) l l.receiver) (set_mark c.delivered i k less e) ∙ marked_delivery c i l l.receiver less

-- there is no place for the mark
pub delivered_unmarked : (c : ClusterState) (k : ℕ) (l : Envelope) → item_at c.delivered k ≡ None → item_at c.network k ≡ Some l → delivered c k ≡ delivered_to c l l.receiver
delivered_unmarked c k l e g = ap (delivered_by c k) g ∙ ap (λ bs. delivered_to (record c { delivered = bs }) l l.receiver) (unchanged c.delivered k (λ _. true) e)

pub marked_past : (c : ClusterState) (i : ℕ) → length c.delivered ≤ i → marked i c ≡ c
marked_past c i less = ap (λ bs. record c { delivered = bs }) (set_past true c.delivered i less)
