-- The jobs of the whole behind an event: one more behind a claim that is taken.
use Rattle.std.proofs.Common.{◌≡◌, ℕ, ◌+◌, true, false, Bool, [], ◌∷◌, ◌++◌, length, Option, Some, None, refl, ap, ◌∙◌, arith, length-append}
use Rattle.std.specs.Prelude.{if◌then◌else◌, ◌&&◌}
use Rattle.sequence.proofs.Places.{and_left, and_right}
use Rattle.event_log.specs.Entries.{Event, Claim, Commit, Deliver, Tick, Notice, NoticeNode, Evict, Lose, Kill, KillNode, Join}
use Rattle.event_log.specs.Entries.{NoWorker, NotReady}
use Rattle.event_log.specs.Events.{claim_in}
use Rattle.protocol.specs.Numbered.{changed_at, item_at}
use Rattle.protocol.specs.Messages.{Envelope, Endpoint, TheWorker, TheNode}
use Rattle.protocol.specs.Jobs.{JobRecord, CommitInput, Job, Nothing, OfAnother, OfJob}
use Rattle.protocol.specs.Nodes.{Node, NodeContext}
use Rattle.protocol.specs.Tables.{Execution, Worker}
use Rattle.protocol.specs.Steps.{WorkerContext}
use Rattle.protocol.specs.Slots.{forgets, node_reached}
use Rattle.protocol.specs.Commits.{claim_step, commit_step}
use Rattle.protocol.specs.Notices.{notice_step, notice_node_step}
use Rattle.protocol.specs.Ticks.{tick_step}
use Rattle.protocol.specs.Deliveries.{reached}
use Rattle.protocol.specs.Cluster.{ClusterState, Transition, moved, node_at, worker_at, node_does, node_does_by, worker_does, worker_does_by, worker_does_at}
use Rattle.protocol.specs.Events.{as_committed, committed_by, objects_made, with_committed, delivered_by, delivered_to}
use Rattle.protocol.specs.Events.{with_delivered, is_live_worker, is_live_node, killed_by, dead, happens}
use Rattle.protocol.specs.Refusals.{has_slot, is_ready, is_ready_on, is_ready_run, or_refusal, refusal, unless}
use Rattle.protocol.specs.Answers.{given_out, job_at, job_by, job_of}
use Rattle.protocol_owed.proofs.FullNodes.{changed-length}

-- ---- how many there are

worker_does_at-jobs : (c : ClusterState) (w : ℕ) (x : Worker) (f : WorkerContext → WorkerContext) (node : Option Node) → (worker_does_at c w x f node).whole.jobs ≡ c.jobs
worker_does_at-jobs c w x f None = refl
worker_does_at-jobs c w x f (Some node) = refl

worker_does_by-jobs : (c : ClusterState) (w : ℕ) (f : WorkerContext → WorkerContext) (x : Option Worker) → (worker_does_by c w f x).whole.jobs ≡ c.jobs
worker_does_by-jobs c w f None = refl
worker_does_by-jobs c w f (Some x) = worker_does_at-jobs c w x f (node_at c x.node)

worker_does-jobs : (c : ClusterState) (w : ℕ) (f : WorkerContext → WorkerContext) → (worker_does c w f).whole.jobs ≡ c.jobs
worker_does-jobs c w f = worker_does_by-jobs c w f (worker_at c w)

node_does_by-jobs : (c : ClusterState) (n : ℕ) (f : NodeContext → NodeContext) (node : Option Node) → (node_does_by c n f node).whole.jobs ≡ c.jobs
node_does_by-jobs c n f None = refl
node_does_by-jobs c n f (Some node) = refl

if_jobs : (c : ClusterState) (b : Bool) (x y : Transition) → x.whole.jobs ≡ c.jobs → y.whole.jobs ≡ c.jobs → (if b then x else y).whole.jobs ≡ c.jobs
if_jobs c true x y e f = e
if_jobs c false x y e f = f

committed_by-jobs : (c : ClusterState) (j : ℕ) (handed : CommitInput) (g : Option JobRecord) → length (committed_by c j handed g).whole.jobs ≡ length c.jobs
committed_by-jobs c j (OfJob d) (Some g) = ap length (worker_does-jobs (with_committed c j (objects_made d.births)) g.worker (λ h. commit_step h d))
    ∙ changed-length c.jobs j as_committed
committed_by-jobs c j (OfJob d) None = refl
committed_by-jobs c j Nothing g = refl
committed_by-jobs c j OfAnother g = refl

delivered_to-jobs : (c : ClusterState) (l : Envelope) (to : Endpoint) → (delivered_to c l to).whole.jobs ≡ c.jobs
delivered_to-jobs c l (TheWorker w) =
    let f : WorkerContext → WorkerContext = λ h. reached h l.sender l.message in
    if_jobs c (is_live_worker (worker_at c w)) (worker_does c w f) (moved c) (worker_does-jobs c w f) refl
delivered_to-jobs c l (TheNode n) =
    let f : NodeContext → NodeContext = λ h. node_reached h l.sender l.message in
    if_jobs c (is_live_node (node_at c n)) (node_does c n f) (moved c) (node_does_by-jobs c n f (node_at c n)) refl

delivered_by-jobs : (c : ClusterState) (k : ℕ) (l : Option Envelope) → (delivered_by c k l).whole.jobs ≡ c.jobs
delivered_by-jobs c k None = refl
delivered_by-jobs c k (Some l) = delivered_to-jobs (with_delivered c k) l l.receiver

killed_by-jobs : (c : ClusterState) (w : ℕ) (x : Option Worker) → (killed_by c w x).whole.jobs ≡ c.jobs
killed_by-jobs c w None = refl
killed_by-jobs c w (Some x) =
    let d : ClusterState = record c { workers = changed_at c.workers w dead } in
    node_does_by-jobs d x.node (λ h. forgets h w) (node_at d x.node)

same_jobs : (c : ClusterState) (m : Transition) → m.whole.jobs ≡ c.jobs → length m.whole.jobs ≡ length c.jobs + 0
same_jobs c m e = let f : length m.whole.jobs ≡ length c.jobs = ap length e in omega (arith, f)

pub happens-jobs : (c : ClusterState) (e : Event) (handed : CommitInput) → length (happens c e handed).whole.jobs ≡ length c.jobs + length (claim_in e)
happens-jobs c (Claim w) handed =
    let d : ClusterState = record c { jobs = c.jobs ++ record { worker = w; is_committed = false } ∷ [] } in
    ap length (worker_does-jobs d w (λ h. claim_step h (length c.jobs + 1))) ∙ length-append c.jobs (record { worker = w; is_committed = false } ∷ [])
happens-jobs c (Commit j) handed = let e = committed_by-jobs c j handed (item_at c.jobs j) in omega (arith, e)
happens-jobs c (Deliver k) handed = same_jobs c (happens c (Deliver k) handed) (delivered_by-jobs c k (item_at c.network k))
happens-jobs c (Tick w) handed = same_jobs c (happens c (Tick w) handed) (worker_does-jobs c w tick_step)
happens-jobs c (Notice w v) handed = same_jobs c (happens c (Notice w v) handed) (worker_does-jobs c w (λ h. notice_step h v))
happens-jobs c (NoticeNode w n) handed = same_jobs c (happens c (NoticeNode w n) handed) (worker_does-jobs c w (λ h. notice_node_step h n))
happens-jobs c (Evict n o) handed = omega arith
happens-jobs c (Lose n o) handed = omega arith
happens-jobs c (Kill w) handed = same_jobs c (happens c (Kill w) handed) (killed_by-jobs c w (worker_at c w))
happens-jobs c (KillNode n) handed = omega arith
happens-jobs c Join handed = omega arith

-- ---- the job that a claim gives out

-- it has that number
abbrev pub Gives : Option Job → ℕ → Type 0
Gives given n = (job : Job) × (given ≡ Some job) × (job.number ≡ n)

by_ready : (n : ℕ) (run : Option Execution) → is_ready_run run ≡ true → Gives (job_by n run) n
by_ready n None e = absurd (cc)
by_ready n (Some run) e = (job_of n run, refl, refl)

at_ready : (c : ClusterState) (w n : ℕ) (x : Option Worker) → is_ready_on c w x ≡ true → Gives (job_at n x) n
at_ready c w n None e = absurd (cc)
at_ready c w n (Some x) e = by_ready n x.run (and_right x.is_live (is_ready_run x.run)
    (and_left (x.is_live && is_ready_run x.run) (has_slot w (node_at c x.node)) e))

ready_if_none : (l r : Bool) → or_refusal (unless l NoWorker) (unless r NotReady) ≡ None → r ≡ true
ready_if_none true true e = refl
ready_if_none true false e = absurd (cc)
ready_if_none false r e = absurd (cc)

-- a claim that isn't refused gives out the job with the next number
pub claim_gives : (c : ClusterState) (w : ℕ) (handed : CommitInput) → refusal c (Claim w) handed ≡ None → Gives (given_out c (Claim w)) (length c.jobs + 1)
claim_gives c w handed e = at_ready c w (length c.jobs + 1) (worker_at c w) (ready_if_none (is_live_worker (worker_at c w)) (is_ready c w) e)
