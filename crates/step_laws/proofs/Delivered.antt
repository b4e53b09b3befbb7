-- A message that was delivered stays so, whatever event comes.
use Rattle.std.proofs.Common.{◌≡◌, ℕ, zero, suc, ◌+◌, ◌≤◌, Bool, true, false, List, [], ◌∷◌, ◌++◌, length, drop, Option, Some, None, refl, ap, sym, ◌∙◌, ◌<◌, arith}
use Rattle.std.specs.Prelude.{if◌then◌else◌, slice_get, slice_set}
use Rattle.protocol.specs.of_event_log.Entries.{Claim, Commit, Deliver, Event, Evict, Join, Kill, KillNode, Limit, Lose, Notice, NoticeNode, Refusal, Tick}
use Rattle.protocol.specs.Answers.{Refuses, answer, decided, given_out, takes, whole_after}
use Rattle.protocol.specs.Commits.{claim_step, commit_step}
use Rattle.protocol.specs.Deliveries.{reached}
use Rattle.protocol.specs.Events.{committed_by, dead, delivered_by, delivered_to, happens, is_live_node, is_live_worker, killed_by, with_committed, with_delivered, objects_made}
use Rattle.protocol.specs.Jobs.{JobRecord, CommitInput, Job, Nothing, OfAnother, OfJob}
use Rattle.protocol.specs.Messages.{Envelope, Endpoint, TheNode, TheWorker}
use Rattle.protocol.specs.Nodes.{Node, NodeContext}
use Rattle.protocol.specs.Notices.{notice_node_step, notice_step}
use Rattle.protocol.specs.Numbered.{changed_at, changed_by, item_at}
use Rattle.protocol.specs.Refusals.{is_within_limits, refusal}
use Rattle.protocol.specs.Releases.{release_step}
use Rattle.protocol.specs.Settling.{first_false}
use Rattle.protocol.specs.Slots.{forgets, node_reached}
use Rattle.protocol.specs.Steps.{WorkerContext}
use Rattle.protocol.specs.Tables.{Worker}
use Rattle.protocol.specs.Ticks.{tick_step}
use Rattle.protocol.specs.Cluster.{Transition, ClusterState, here, moved, node_at, node_does, node_does_by, there, undelivered, worker_at, worker_does, worker_does_at, worker_does_by}
use Rattle.step_laws.specs.Cursors.{IsAtFirst, IsPast, OneFirst}

-- that message was delivered
abbrev Was : ClusterState → ℕ → Type 0
Was c i = slice_get c.delivered i ≡ Some true

in_front : {X : Type 0} (xs ys : List X) (i : ℕ) (x : X) → slice_get xs i ≡ Some x → slice_get (xs ++ ys) i ≡ Some x
in_front [] ys i x e = absurd cc
in_front (z ∷ zs) ys zero x e = e
in_front (z ∷ zs) ys (suc i) x e = in_front zs ys i x e

set_true : (bs : List Bool) (j i : ℕ) → slice_get bs i ≡ Some true → slice_get (slice_set bs j true) i ≡ Some true
set_true [] j i e = e
set_true (b ∷ bs) zero zero e = refl
set_true (b ∷ bs) zero (suc i) e = e
set_true (b ∷ bs) (suc j) zero e = e
set_true (b ∷ bs) (suc j) (suc i) e = set_true bs j i e

changed_true : (bs : List Bool) (k i : ℕ) (o : Option Bool) → slice_get bs i ≡ Some true → slice_get (changed_by bs k (λ _. true) o) i ≡ Some true
changed_true bs zero i o e = e
changed_true bs (suc j) i None e = e
changed_true bs (suc j) i (Some b) e = set_true bs j i e

node_by : (c : ClusterState) (n i : ℕ) (f : NodeContext → NodeContext) (o : Option Node) → Was c i → Was (node_does_by c n f o).whole i
node_by c n i f None e = e
node_by c n i f (Some node) e = in_front c.delivered (undelivered (f (there c n node)).out.envelopes) i true e

node_keeps : (c : ClusterState) (n i : ℕ) (f : NodeContext → NodeContext) → Was c i → Was (node_does c n f).whole i
node_keeps c n i f e = node_by c n i f (node_at c n) e

worker_beside : (c : ClusterState) (w i : ℕ) (f : WorkerContext → WorkerContext) (x : Worker) (o : Option Node) → Was c i → Was (worker_does_at c w x f o).whole i
worker_beside c w i f x None e = e
worker_beside c w i f x (Some node) e = in_front c.delivered (undelivered (release_step (f (here c w x node))).there.out.envelopes) i true e

worker_by : (c : ClusterState) (w i : ℕ) (f : WorkerContext → WorkerContext) (o : Option Worker) → Was c i → Was (worker_does_by c w f o).whole i
worker_by c w i f None e = e
worker_by c w i f (Some x) e = worker_beside c w i f x (node_at c x.node) e

worker_keeps : (c : ClusterState) (w i : ℕ) (f : WorkerContext → WorkerContext) → Was c i → Was (worker_does c w f).whole i
worker_keeps c w i f e = worker_by c w i f (worker_at c w) e

committed_keeps : (c : ClusterState) (j i : ℕ) (handed : CommitInput) (o : Option JobRecord) → Was c i → Was (committed_by c j handed o).whole i
committed_keeps c j i (OfJob d) (Some g) e = worker_keeps (with_committed c j (objects_made d.births)) g.worker i (λ h. commit_step h d) e
committed_keeps c j i (OfJob d) None e = e
committed_keeps c j i Nothing o e = e
committed_keeps c j i OfAnother o e = e

to_worker : (c : ClusterState) (i w : ℕ) (f : WorkerContext → WorkerContext) (b : Bool) → Was c i → Was (if b then worker_does c w f else moved c).whole i
to_worker c i w f true e = worker_keeps c w i f e
to_worker c i w f false e = e

to_node : (c : ClusterState) (i n : ℕ) (f : NodeContext → NodeContext) (b : Bool) → Was c i → Was (if b then node_does c n f else moved c).whole i
to_node c i n f true e = node_keeps c n i f e
to_node c i n f false e = e

delivered_keeps : (c : ClusterState) (i : ℕ) (l : Envelope) (p : Endpoint) → Was c i → Was (delivered_to c l p).whole i
delivered_keeps c i l (TheWorker w) e = to_worker c i w (λ h. reached h l.sender l.message) (is_live_worker (worker_at c w)) e
delivered_keeps c i l (TheNode n) e = to_node c i n (λ h. node_reached h l.sender l.message) (is_live_node (node_at c n)) e

envelope_keeps : (c : ClusterState) (k i : ℕ) (o : Option Envelope) → Was c i → Was (delivered_by c k o).whole i
envelope_keeps c k i None e = e
envelope_keeps c k i (Some l) e = delivered_keeps (with_delivered c k) i l l.receiver (changed_true c.delivered k i (item_at c.delivered k) e)

killed_keeps : (c : ClusterState) (w i : ℕ) (o : Option Worker) → Was c i → Was (killed_by c w o).whole i
killed_keeps c w i None e = e
killed_keeps c w i (Some x) e = node_keeps (record c { workers = changed_at c.workers w dead }) x.node i (λ h. forgets h w) e

happens_keeps : (c : ClusterState) (i : ℕ) (e : Event) (handed : CommitInput) → Was c i → Was (happens c e handed).whole i
happens_keeps c i (Claim w) handed p = worker_keeps (record c { jobs = c.jobs ++ record { worker = w; is_committed = false } ∷ [] }) w i (λ h. claim_step h (length c.jobs + 1)) p
happens_keeps c i (Commit j) handed p = committed_keeps c j i handed (item_at c.jobs j) p
happens_keeps c i (Deliver k) handed p = envelope_keeps c k i (item_at c.network k) p
happens_keeps c i (Tick w) handed p = worker_keeps c w i tick_step p
happens_keeps c i (Notice w v) handed p = worker_keeps c w i (λ h. notice_step h v) p
happens_keeps c i (NoticeNode w n) handed p = worker_keeps c w i (λ h. notice_node_step h n) p
happens_keeps c i (Evict n o) handed p = p
happens_keeps c i (Lose n o) handed p = p
happens_keeps c i (Kill w) handed p = killed_keeps c w i (worker_at c w) p
happens_keeps c i (KillNode n) handed p = p
happens_keeps c i Join handed p = p

limited_keeps : (c : ClusterState) (i : ℕ) (m : Transition) (given : Option Job) (b : Bool) → Was c i → Was m.whole i → Was (whole_after c (if b then takes m given else Refuses Limit)) i
limited_keeps c i m given true p q = q
limited_keeps c i m given false p q = p

decided_keeps : (c : ClusterState) (i : ℕ) (e : Event) (handed : CommitInput) (o : Option Refusal) → Was c i → Was (whole_after c (decided c e handed o)) i
decided_keeps c i e handed None p = limited_keeps c i (happens c e handed) (given_out c e) (is_within_limits (happens c e handed).whole) p (happens_keeps c i e handed p)
decided_keeps c i e handed (Some code) p = p

answer_keeps : (c : ClusterState) (i : ℕ) (e : Event) (handed : CommitInput) → Was c i → Was (whole_after c (answer c e handed)) i
answer_keeps c i e handed p = decided_keeps c i e handed (refusal c e handed) p

-- so a cursor stays right
pub past_after : (c : ClusterState) (k : ℕ) (e : Event) (handed : CommitInput) → IsPast k c.delivered → IsPast k (whole_after c (answer c e handed)).delivered
past_after c k e handed p = λ i less. answer_keeps c i e handed (p i less)

-- ---- the search may begin at the cursor

some_is : {X : Type 0} (x y : X) → Some x ≡ Some y → x ≡ y
some_is x y e = cc

drop_there : {X : Type 0} (xs : List X) (i : ℕ) (x : X) → slice_get xs i ≡ Some x → drop i xs ≡ x ∷ drop (suc i) xs
drop_there [] i x e = absurd cc
drop_there (y ∷ ys) zero x e = ap (λ z. z ∷ ys) (some_is y x e)
drop_there (y ∷ ys) (suc i) x e = drop_there ys i x e

pub search_from : (k : ℕ) (bs : List Bool) → IsPast k bs → first_false 1 bs ≡ first_false (k + 1) (drop k bs)
search_from zero bs p = refl
search_from (suc k) bs p =
    let s : k + 1 ≡ suc k = omega arith in
    search_from k bs (λ i less. p i (omega (arith, less)))
    ∙ ap (first_false (k + 1)) (drop_there bs k true (p k (omega arith)))
    ∙ ap (λ n. first_false (n + 1) (drop (suc k) bs)) s

pub one_further : (k : ℕ) (bs : List Bool) → IsPast k bs → slice_get bs k ≡ Some true → IsPast (k + 1) bs
one_further k bs p e = λ i less. grind (arith, e, p i)

-- a cursor is no further than the messages
pub past_within : (k : ℕ) (bs : List Bool) → IsPast k bs → k ≤ length bs
past_within zero bs p = omega arith
past_within (suc k) [] p = let there : slice_get [] 0 ≡ Some true = p 0 (omega arith) in absurd cc
past_within (suc k) (b ∷ bs) p = let rest = past_within k bs (λ i less. p (suc i) (omega (arith, less))) in omega (arith, rest)

-- ---- the first message that was never delivered

-- one that wasn't, behind such as were
pub first_undelivered : (k : ℕ) (bs : List Bool) (b : Bool) → IsPast k bs → slice_get bs k ≡ Some b → b ≡ false → IsAtFirst k bs
first_undelivered k bs b p there undelivered = record { past = p; stops = λ e. true_false (sym (some_is b true (sym there ∙ e)) ∙ undelivered) }
  where
    true_false : true ≡ false → ⊥
    true_false e = cc

none_behind : (bs : List Bool) → slice_get bs (length bs) ≡ Some true → ⊥
none_behind [] e = cc
none_behind (b ∷ bs) e = none_behind bs e

-- or there is none
pub all_delivered : (bs : List Bool) → IsPast (length bs) bs → IsAtFirst (length bs) bs
all_delivered bs p = record { past = p; stops = none_behind bs }

-- nothing is before the first message
pub past_none : (bs : List Bool) → IsPast zero bs
past_none bs = λ i less. absurd (omega (arith, less))

-- and where none was sent it is the first that wasn't delivered
pub first_of_none : (bs : List Bool) → bs ≡ [] → IsAtFirst zero bs
first_of_none bs none = record { past = past_none bs; stops = λ e. no_item (sym (ap (λ xs. slice_get xs zero) none) ∙ e) }
  where
    no_item : ◌≡◌ {A = Option Bool} None (Some true) → ⊥
    no_item e = cc

-- no cursor at the first one is before another
not_before : (i k : ℕ) (bs : List Bool) → IsAtFirst i bs → IsAtFirst k bs → i < k → ⊥
not_before i k bs at_i at_k less = at_i.stops (at_k.past i less)

pub one_first : OneFirst
one_first i k bs at_i at_k = omega (arith, not_before i k bs at_i at_k, not_before k i bs at_k at_i)
