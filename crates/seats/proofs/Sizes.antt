-- The slots of each node, and the nodes at first, are the same behind each event.
use Rattle.std.proofs.Common.{◌≡◌, ◌+◌, ℕ, true, false, Bool, [], ◌∷◌, ◌++◌, length, List, Option, Some, None, refl, sym, ap, ◌∙◌, subst, inl, inr}
use Rattle.std.specs.Prelude.{if◌then◌else◌}
use Rattle.segment.specs.Jobs.{Done}
use Rattle.event_log.specs.Entries.{Event, Claim, Commit, Deliver, Tick, Notice, NoticeNode, Evict, Lose, Kill, KillNode, Join}
use Rattle.event_log.specs.Entries.{Limit}
use Rattle.protocol.specs.Numbered.{changed_at, item_at}
use Rattle.protocol.specs.Messages.{Envelope, Endpoint, TheWorker, TheNode}
use Rattle.protocol.specs.Jobs.{JobRecord, CommitInput, Nothing, OfAnother, OfJob}
use Rattle.protocol.specs.Nodes.{Node, NodeContext}
use Rattle.protocol.specs.Tables.{Worker}
use Rattle.protocol.specs.Steps.{WorkerContext}
use Rattle.protocol.specs.Slots.{forgets, node_reached}
use Rattle.protocol.specs.Commits.{claim_step, commit_step}
use Rattle.protocol.specs.Notices.{notice_step, notice_node_step}
use Rattle.protocol.specs.Ticks.{tick_step}
use Rattle.protocol.specs.Deliveries.{reached}
use Rattle.protocol.specs.Cluster.{ClusterState, Transition, moved, node_at, worker_at, node_does, node_does_by, worker_does, worker_does_by, worker_does_at}
use Rattle.protocol.specs.Events.{committed_by, objects_made, with_committed, delivered_by, delivered_to, with_delivered, is_live_worker, is_live_node, killed_by, dead, happens}
use Rattle.protocol.specs.Refusals.{is_within_limits, refusal}
use Rattle.protocol.specs.Answers.{decided, given_out, whole_after, takes}
use Rattle.protocol.specs.Answers as answers
use Rattle.log_entries.specs.declared.refusal.Refusal.{Refusal}
use Rattle.log_entries.specs.declared.refusal.Refusal.TheVariants as refusals
use Rattle.run_paths.specs.of_protocol_board.Cores.{RunState, Reply, Refuses, Answers, Follows}
use Rattle.seats.specs.Ends.{GoesOn}
use Rattle.seats.specs.Turns.{KeepsOut, given_up_by, or_first}
use Rattle.seats.specs.declared.outs.JobOut.{JobOut}

-- ---- the slots of each node

worker_does_at-slots : (c : ClusterState) (w : ℕ) (x : Worker) (f : WorkerContext → WorkerContext) (node : Option Node) → (worker_does_at c w x f node).whole.slots ≡ c.slots
worker_does_at-slots c w x f None = refl
worker_does_at-slots c w x f (Some node) = refl

worker_does_by-slots : (c : ClusterState) (w : ℕ) (f : WorkerContext → WorkerContext) (x : Option Worker) → (worker_does_by c w f x).whole.slots ≡ c.slots
worker_does_by-slots c w f None = refl
worker_does_by-slots c w f (Some x) = worker_does_at-slots c w x f (node_at c x.node)

worker_does-slots : (c : ClusterState) (w : ℕ) (f : WorkerContext → WorkerContext) → (worker_does c w f).whole.slots ≡ c.slots
worker_does-slots c w f = worker_does_by-slots c w f (worker_at c w)

node_does_by-slots : (c : ClusterState) (n : ℕ) (f : NodeContext → NodeContext) (node : Option Node) → (node_does_by c n f node).whole.slots ≡ c.slots
node_does_by-slots c n f None = refl
node_does_by-slots c n f (Some node) = refl

if_slots : (c : ClusterState) (b : Bool) (x y : Transition) → x.whole.slots ≡ c.slots → y.whole.slots ≡ c.slots → (if b then x else y).whole.slots ≡ c.slots
if_slots c true x y e f = e
if_slots c false x y e f = f

committed_by-slots : (c : ClusterState) (j : ℕ) (handed : CommitInput) (g : Option JobRecord) → (committed_by c j handed g).whole.slots ≡ c.slots
committed_by-slots c j (OfJob d) (Some g) = worker_does-slots (with_committed c j (objects_made d.births)) g.worker (λ h. commit_step h d)
committed_by-slots c j (OfJob d) None = refl
committed_by-slots c j Nothing g = refl
committed_by-slots c j OfAnother g = refl

delivered_to-slots : (c : ClusterState) (l : Envelope) (to : Endpoint) → (delivered_to c l to).whole.slots ≡ c.slots
delivered_to-slots c l (TheWorker w) =
    let f : WorkerContext → WorkerContext = λ h. reached h l.sender l.message in
    if_slots c (is_live_worker (worker_at c w)) (worker_does c w f) (moved c) (worker_does-slots c w f) refl
delivered_to-slots c l (TheNode n) =
    let f : NodeContext → NodeContext = λ h. node_reached h l.sender l.message in
    if_slots c (is_live_node (node_at c n)) (node_does c n f) (moved c) (node_does_by-slots c n f (node_at c n)) refl

delivered_by-slots : (c : ClusterState) (k : ℕ) (l : Option Envelope) → (delivered_by c k l).whole.slots ≡ c.slots
delivered_by-slots c k None = refl
delivered_by-slots c k (Some l) = delivered_to-slots (with_delivered c k) l l.receiver

killed_by-slots : (c : ClusterState) (w : ℕ) (x : Option Worker) → (killed_by c w x).whole.slots ≡ c.slots
killed_by-slots c w None = refl
killed_by-slots c w (Some x) =
    let d : ClusterState = record c { workers = changed_at c.workers w dead } in
    node_does_by-slots d x.node (λ h. forgets h w) (node_at d x.node)

happens-slots : (c : ClusterState) (e : Event) (handed : CommitInput) → (happens c e handed).whole.slots ≡ c.slots
happens-slots c (Claim w) handed =
    let d : ClusterState = record c { jobs = c.jobs ++ record { worker = w; is_committed = false } ∷ [] } in
    worker_does-slots d w (λ h. claim_step h (length c.jobs + 1))
happens-slots c (Commit j) handed = committed_by-slots c j handed (item_at c.jobs j)
happens-slots c (Deliver k) handed = delivered_by-slots c k (item_at c.network k)
happens-slots c (Tick w) handed = worker_does-slots c w tick_step
happens-slots c (Notice w v) handed = worker_does-slots c w (λ h. notice_step h v)
happens-slots c (NoticeNode w n) handed = worker_does-slots c w (λ h. notice_node_step h n)
happens-slots c (Evict n o) handed = refl
happens-slots c (Lose n o) handed = refl
happens-slots c (Kill w) handed = killed_by-slots c w (worker_at c w)
happens-slots c (KillNode n) handed = refl
happens-slots c Join handed = refl

limited-slots : (c : ClusterState) (e : Event) (handed : CommitInput) (b : Bool) →
    (whole_after c (if b then takes (happens c e handed) (given_out c e) else answers.Refuses Limit)).slots ≡ c.slots
limited-slots c e handed true = happens-slots c e handed
limited-slots c e handed false = refl

decided-slots : (c : ClusterState) (e : Event) (handed : CommitInput) (o : Option Refusal) → (whole_after c (decided c e handed o)).slots ≡ c.slots
decided-slots c e handed None = limited-slots c e handed (is_within_limits (happens c e handed).whole)
decided-slots c e handed (Some code) = refl

-- ---- behind an event

still : (slots : ℕ) (before after : RunState) (g : Option Refusal) → after.whole.slots ≡ before.whole.slots → after.is_halted ≡ false → GoesOn slots before g →
    GoesOn slots after g
still slots before after None same goes h = (same ∙ h.0, goes)
still slots before after (Some refusal) same goes h = tt

no_memory : (slots : ℕ) (c : RunState) (g : Option Refusal) (r : Refusal) → GoesOn slots c (or_first g r)
no_memory slots c None r = tt
no_memory slots c (Some refusal) r = tt

heeded : (slots : ℕ) (c : RunState) (told : Reply) (g : Option Refusal) → GoesOn slots c g → GoesOn slots c (given_up_by told g)
heeded slots c (Refuses refusals.Limit) g h = no_memory slots c g refusals.Limit
heeded slots c (Refuses refusals.Halted) g h = no_memory slots c g refusals.Halted
heeded slots c (Refuses refusals.NoMemory) g h = no_memory slots c g refusals.NoMemory
heeded slots c told g h = h

pub slots_behind : (slots : ℕ) (before after : RunState) (e : Event) (seat : ℕ) (done : Option Done) (told : Reply) (g : Option Refusal) →
    Answers before e seat done after told → GoesOn slots before g → GoesOn slots after (given_up_by told g)
slots_behind slots before after e seat done told g answers h = by_halt before.is_halted refl
  where
    follows : Follows before e seat done after told → GoesOn slots after (given_up_by told g)
    follows (inl out) = subst (λ t. GoesOn slots after (given_up_by t g)) (sym out.told_so) (no_memory slots after g refusals.NoMemory)
    follows (inr (handed, is_handed, is)) =
        let same = ap (λ (c : ClusterState). c.slots) is.whole ∙ decided-slots before.whole e handed (refusal before.whole e handed) in
        heeded slots after told g (still slots before after g same is.goes_on h)

    by_halt : (b : Bool) → before.is_halted ≡ b → GoesOn slots after (given_up_by told g)
    by_halt true f = subst (λ t. GoesOn slots after (given_up_by t g)) (sym (answers.halted f).1) (no_memory slots after g refusals.Halted)
    by_halt false f = follows (answers.follows f)

-- and where there is no memory to keep that a job is out
pub slots_kept : (slots : ℕ) (c : RunState) (e : Event) (told : Reply) (out : List JobOut) (g : Option Refusal) (out_now : List JobOut) (g_now : Option Refusal) →
    GoesOn slots c (given_up_by told g) → KeepsOut e told out g out_now g_now → GoesOn slots c g_now
slots_kept slots c e told out g out_now g_now h (inl kept) = subst (GoesOn slots c) (sym kept.1) h
slots_kept slots c e told out g out_now g_now h (inr kept) = subst (GoesOn slots c) (sym kept.1) (no_memory slots c (given_up_by told g) refusals.NoMemory)

-- ---- the nodes at first

pub same_nodes : (before after : RunState) (e : Event) (seat : ℕ) (done : Option Done) (told : Reply) → Answers before e seat done after told →
    after.first_nodes ≡ before.first_nodes
same_nodes before after e seat done told answers = by_halt before.is_halted refl
  where
    follows : Follows before e seat done after told → after.first_nodes ≡ before.first_nodes
    follows (inl out) = out.nodes
    follows (inr (handed, is_handed, is)) = is.nodes

    by_halt : (b : Bool) → before.is_halted ≡ b → after.first_nodes ≡ before.first_nodes
    by_halt true f = ap (λ (r : RunState). r.first_nodes) (answers.halted f).0
    by_halt false f = follows (answers.follows f)
