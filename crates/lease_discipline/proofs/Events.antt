-- Every event keeps the leases in order.
use Rattle.std.proofs.Common.{◌≡◌, ◌≢◌, ℕ, zero, suc, ◌+◌, List, [], ◌∷◌, ◌++◌, length, map, Some, None, Option, refl, ap, sym, subst, ◌∙◌, ◌⊎◌, inl, inr}
use Rattle.std.proofs.Common.{arith, append-nil}
use Rattle.std.specs.Prelude.{Bool, true, false, if◌then◌else◌, slice_get, slice_set, not, ◌&&◌, ◌==◌}
use Rattle.std.proofs.lemmas.Bool.{both_ways, false_from_ne_true}
use Rattle.sequence.proofs.Places.{and_left, and_right, slice_get-last}
use Rattle.meaning.proofs.BirthLaws.{at_test}
use Rattle.event_log.specs.Entries.{Attempt, Event, Claim, Commit, Deliver, Tick, Notice, NoticeNode, Evict, Lose, Kill, KillNode, Join}
use Rattle.event_log.specs.Entries.{Refusal, NotReady, NoJob, Stale, Limit}
use Rattle.event_log.specs.Breaks.{Among}
use Rattle.protocol_laws.specs.of_protocol.Numbered.{item_at, changed_at, changed_by}
use Rattle.protocol_laws.specs.of_protocol.Sets.{repeated}
use Rattle.protocol_laws.specs.of_protocol.Messages.{Envelope, envelope, Message, Endpoint, TheWorker, TheNode, Ask, Give, Elsewhere, Wait, Back, Push, Finished, FinishedAck, Failed}
use Rattle.protocol_laws.specs.of_protocol.Messages.{Where, At, Gone, Fetch, CopyOf, Missing, Hold, HoldAck, Unhold}
use Rattle.protocol_laws.specs.of_protocol.Jobs.{JobRecord, CommitInput, Job, Nothing, OfAnother, OfJob}
use Rattle.protocol_laws.specs.of_protocol.Nodes.{Node, Scheduler, NodeContext, new_node, new_scheduler}
use Rattle.protocol_laws.specs.of_protocol.Tables.{Out, Worker, has_stopped, new_worker}
use Rattle.protocol_laws.specs.of_protocol.Steps.{WorkerContext}
use Rattle.protocol_laws.specs.of_protocol.Slots.{forgets, node_reached}
use Rattle.protocol_laws.specs.of_protocol.Releases.{release_step}
use Rattle.protocol_laws.specs.of_protocol.Cluster.{ClusterState, Transition, moved, node_at, worker_at, there, here, after_node, after_worker, node_does, node_does_by, worker_does}
use Rattle.protocol_laws.specs.of_protocol.Cluster.{worker_does_by, worker_does_at}
use Rattle.protocol_laws.specs.of_protocol.Commits.{claim_step, commit_step}
use Rattle.protocol_laws.specs.of_protocol.Notices.{notice_step, notice_node_step}
use Rattle.protocol_laws.specs.of_protocol.Ticks.{tick_step}
use Rattle.protocol_laws.specs.of_protocol.Deliveries.{reached}
use Rattle.protocol_laws.specs.of_protocol.Events.{as_committed, claimed, committed_by, with_committed, delivered_by, delivered_to, with_delivered, is_live_worker, objects_made}
use Rattle.protocol_laws.specs.of_protocol.Events.{is_live_node, killed_by, dead, dies_with, happens}
use Rattle.protocol_laws.specs.of_protocol.Answers.{Refuses, answer, decided, takes, given_out, whole_after}
use Rattle.protocol_laws.specs.of_protocol.Refusals.{commit_refusal, has_slot, is_of_job, is_out_by, is_ready, is_ready_on, is_ready_run, is_within_limits}
use Rattle.protocol_laws.specs.of_protocol.Refusals.{no_worker, or_refusal, refusal, unless}
use Rattle.protocol_laws.proofs.of_protocol_owed.Nodes.{changed_cases, push_cases, nothing_past, there_still, there_more}
use Rattle.protocol_laws.proofs.of_protocol_owed.Envelopes.{among-append_cases, among-more}
use Rattle.protocol_laws.proofs.of_protocol_owed.CourseEvents.{append_split, one_of}
use Rattle.protocol_laws.proofs.of_protocol_owed.CourseAll.{both_passed, passed}
use Rattle.protocol_laws.proofs.of_protocol_owed.CourseRuns.{OutOf, out_of}
use Rattle.protocol_laws.proofs.of_smallest_steps.Smallest.{AnyPassed}
use Rattle.lease_discipline.specs.Discipline.{Look, Gave, IsOfNode, KeepsLeases, NodeKeeps, WorkerKeeps, WorkersKeep}
use Rattle.lease_discipline.proofs.Tame.{item_mapped}
use Rattle.lease_discipline.proofs.Follows.{AllFollow, Follows, JobsStay, More, follow_grows, gave_more, jobs_more, node_follows, stays}
use Rattle.lease_discipline.proofs.Follows.{true_more}
use Rattle.lease_discipline.proofs.Moves.{notice_step-kept, notice_node_step-kept, reached-kept, release_step-kept, tick_step-kept, IsHeardFrom}
use Rattle.lease_discipline.proofs.Theres.{Goes, forgets_goes, reached_goes}
use Rattle.lease_discipline.proofs.Heres.{Does, IsToldBy, IsOverOf, IsGivenBy, by_number, changed_elsewhere, does_kept, mine}
use Rattle.lease_discipline.proofs.Own.{claim_does, commit_does, push_does}

-- ---- lists

set_same : {X : Type 0} (xs : List X) (i : ℕ) (x : X) → slice_get xs i ≡ Some x → slice_set xs i x ≡ xs
set_same [] i x e = absurd (cc)
set_same (y ∷ xs) zero x e = let same : y ≡ x = cc in ap (λ z. z ∷ xs) (sym same)
set_same (y ∷ xs) (suc i) x e = ap (λ zs. y ∷ zs) (set_same xs i x e)

pub changed_same : {X : Type 0} (xs : List X) (n : ℕ) (x : X) → item_at xs n ≡ Some x → changed_at xs n (λ _. x) ≡ xs
changed_same xs zero x e = absurd (cc)
changed_same xs (suc i) x e = ap (changed_by xs (suc i) (λ _. x)) e ∙ set_same xs i x e

item_last : {X : Type 0} (xs : List X) (x : X) → item_at (xs ++ x ∷ []) (length xs + 1) ≡ Some x
item_last xs x =
    let f : ◌≡◌ {A = ℕ} (length xs + 1) (suc (length xs)) = omega arith in
    ap (item_at (xs ++ x ∷ [])) f ∙ slice_get-last xs x (length xs) refl

pub among_at : (xs : List Envelope) (k : ℕ) (l : Envelope) → item_at xs k ≡ Some l → Among l xs
among_at xs zero l e = absurd (cc)
among_at xs (suc i) l e = (i, e)

-- ---- the end of a node's event

-- the leases of a node of which nobody changed, and that sent nothing
other_node : (look next : Look) (s t : List Envelope) (m : ℕ) (sch : Scheduler) → More s t →
    ((w : ℕ) (y : Worker) → next w ≡ Some y → y.node ≡ m → look w ≡ Some y) → ((w : ℕ) (x : Worker) → look w ≡ Some x → x.node ≡ m → next w ≡ Some x) →
    ((a : Attempt) (w : ℕ) → Gave t m a w → Gave s m a w) → ((a : Attempt) (w : ℕ) → Gave t m a w → IsOfNode next m w) →
    NodeKeeps look s m sch → NodeKeeps next t m sch
other_node look next s t m sch more back forth old own k = record {
  idle = λ w e.
      let i = k.idle w e in
      record { worker = i.worker; there = forth w i.worker i.there i.home; home = i.home; free = i.free; slotless = i.slotless; unanswered = i.unanswered };
  promised = λ w y a at live gave unbegun.
      let i = own a w gave in
      let f : ◌≡◌ {A = Option Worker} (Some i.worker) (Some y) = sym i.there ∙ at in
      let is : i.worker ≡ y = cc in
      k.promised w y a (back w y at (ap (λ (x : Worker). x.node) (sym is) ∙ i.home)) live (old a w gave) unbegun;
  busy = λ w y run at home e over. k.busy w y run (back w y at home) home e over;
  replied = λ key w e. gave_more s t m key.attempt w more (k.replied key w e);
}

-- what a look before the event has in common with the one after it: all but workers of this node
pub record IsBeside (n : ℕ) (old next : Look) : Type 0 where
  pub back : (w : ℕ) (y : Worker) → next w ≡ Some y → (y.node ≡ n) ⊎ (old w ≡ Some y)
  pub forth : (w : ℕ) (x : Worker) → old w ≡ Some x → (x.node ≡ n) ⊎ (next w ≡ Some x)

module _ (d : ClusterState) (old : Look) (n : ℕ) (node : Node) (t : NodeContext) (stood : node_at d n ≡ Some node) (goes : Goes d.jobs d.workers d.network n t)
    (others : (m : ℕ) (other : Node) → node_at d m ≡ Some other → NodeKeeps old d.network m other.scheduler)
    (homes : (w : ℕ) (x : Worker) → old w ≡ Some x → (k : Node) × (node_at d x.node ≡ Some k))
    (beside : IsBeside n old (λ w. item_at (d.workers ++ repeated t.opened (new_worker n)) w)) where
  abbrev after : ClusterState
  after = (after_node d n t).whole

  still_there : (m : ℕ) → (k : Node) × (node_at d m ≡ Some k) → (k : Node) × (node_at after m ≡ Some k)
  still_there m (k, e) = there_still d.nodes n m (λ _. t.node) k e

  not_this : (x m : ℕ) → x ≡ m → x ≡ n → m ≢ n → ⊥
  not_this x m e f apart = apart (sym e ∙ f)

  elsewhere : (m : ℕ) (k : Node) → m ≢ n → node_at d m ≡ Some k → NodeKeeps (worker_at after) after.network m k.scheduler
  elsewhere m k apart at =
      other_node old (worker_at after) d.network after.network m k.scheduler
      (λ l i. among-more d.network t.out.envelopes l i)
      (λ w y e home. elim (beside.back w y e) [ inl here ↦ absurd (not_this y.node m home here apart) | inr before ↦ before ])
      (λ w x e home. elim (beside.forth w x e) [ inl here ↦ absurd (not_this x.node m home here apart) | inr now ↦ now ])
      (λ a w gave. elim (among-append_cases d.network t.out.envelopes _ gave.1) [ inl i ↦ (gave.0, i) | inr i ↦ absurd (apart (goes.alone _ m i refl)) ])
      (λ a w gave. goes.workers.envelopes _ gave.1) (others m k at)

  pub node_ends : KeepsLeases after
  node_ends = record {
    workers = goes.workers;
    nodes = λ m k e. elim (changed_cases d.nodes n m (λ _. t.node) k e) [
      | inl (same, _, _, is) ↦
          subst (λ (i : ℕ). NodeKeeps (worker_at after) after.network i k.scheduler) (sym same)
          (subst (λ (x : Node). NodeKeeps (worker_at after) after.network n x.scheduler) (sym is) goes.there)
      | inr (apart, at) ↦ elsewhere m k apart at
    ];
    homes = λ w y e. elim (beside.back w y e) [
      | inl here ↦ subst (λ (m : ℕ). (k : Node) × (node_at after m ≡ Some k)) (sym here) (still_there n (node, stood))
      | inr before ↦ still_there y.node (homes w y before)
    ];
  }

-- ---- an event of a node

-- nothing was made yet
node_begins : (d : ClusterState) (n : ℕ) (node : Node) → node_at d n ≡ Some node → KeepsLeases d → Goes d.jobs d.workers d.network n (there d n node)
node_begins d n node at k = record {
  number = refl;
  counted = refl;
  workers = subst (λ xs. WorkersKeep d.jobs (λ w. item_at xs w) (d.network ++ [])) (sym (append-nil d.workers))
      (subst (WorkersKeep d.jobs (worker_at d)) (sym (append-nil d.network)) k.workers);
  there = subst (λ xs. NodeKeeps (λ w. item_at xs w) (d.network ++ []) n node.scheduler) (sym (append-nil d.workers))
      (subst (λ ls. NodeKeeps (worker_at d) ls n node.scheduler) (sym (append-nil d.network)) (k.nodes n node at));
  alone = λ l m h e. let f = h.1 in absurd (cc);
}

node_beside : (d : ClusterState) (n opened : ℕ) → IsBeside n (worker_at d) (λ w. item_at (d.workers ++ repeated opened (new_worker n)) w)
node_beside d n opened = record {
  back = λ w y e. elim (append_split d.workers (repeated opened (new_worker n)) w y e) [
    | inl f ↦ inr f
    | inr (_, (i, f)) ↦ inl (ap (λ (x : Worker). x.node) (sym (one_of i opened w (new_worker n) y f)))
  ];
  forth = λ w x e. inr (there_more d.workers (repeated opened (new_worker n)) w x e);
}

node_event : (d : ClusterState) (n : ℕ) (f : NodeContext → NodeContext) →
    ((node : Node) → node_at d n ≡ Some node → (t : NodeContext) → Goes d.jobs d.workers d.network n t → Goes d.jobs d.workers d.network n (f t)) →
    KeepsLeases d → KeepsLeases (node_does d n f).whole
node_event d n f goes k = by_node (node_at d n) refl
  where
    by_node : (o : Option Node) → node_at d n ≡ o → KeepsLeases (node_does_by d n f o).whole
    by_node None e = k
    by_node (Some node) e =
        let t : NodeContext = there d n node in
        node_ends d (worker_at d) n node (f t) e (goes node e t (node_begins d n node e k)) k.nodes k.homes (node_beside d n (f t).opened)

-- ---- an event of a worker

module _ (c : ClusterState) (me : ℕ) (x : Worker) (node : Node) (at : worker_at c me ≡ Some x) (home : node_at c x.node ≡ Some node) (k : KeepsLeases c) where
  abbrev n : ℕ
  n = x.node

  worker_begins : Does c me n x at (here c me x node)
  worker_begins =
      let same : changed_at c.workers me (λ _. x) ≡ c.workers = changed_same c.workers me x at in
      let all : changed_at c.workers me (λ _. x) ++ [] ≡ c.workers = append-nil (changed_at c.workers me (λ _. x)) ∙ same in
      record {
        who = refl;
        home = refl;
        goes = record {
          number = refl;
          counted = ap length (sym same);
          workers = subst (λ xs. WorkersKeep c.jobs (λ w. item_at xs w) (c.network ++ [])) (sym all)
              (subst (WorkersKeep c.jobs (worker_at c)) (sym (append-nil c.network)) k.workers);
          there = subst (λ xs. NodeKeeps (λ w. item_at xs w) (c.network ++ []) n node.scheduler) (sym all)
              (subst (λ ls. NodeKeeps (worker_at c) ls n node.scheduler) (sym (append-nil c.network)) (k.nodes n node home));
          alone = λ l m h e. let f = h.1 in absurd (cc);
        };
      }

  worker_beside : (h : WorkerContext) → Does c me n x at h →
      IsBeside n (worker_at c) (λ w. item_at (changed_at c.workers me (λ _. h.worker) ++ repeated h.there.opened (new_worker n)) w)
  worker_beside h d = record {
    back = λ w y e. elim (append_split (changed_at c.workers me (λ _. h.worker)) (repeated h.there.opened (new_worker n)) w y e) [
      | inl f ↦ elim (changed_cases c.workers me w (λ _. h.worker) y f) [
        | inl (_, _, _, is) ↦ inl (ap (λ (z : Worker). z.node) is ∙ d.home)
        | inr (_, before) ↦ inr before
      ]
      | inr (_, (i, f)) ↦ inl (ap (λ (z : Worker). z.node) (sym (one_of i h.there.opened w (new_worker n) y f)))
    ];
    forth = λ w y e. elim (by_number w me) [
      | inl same ↦
          let f : ◌≡◌ {A = Option Worker} (Some x) (Some y) = sym at ∙ subst (λ v. worker_at c v ≡ Some y) same e in
          let is : x ≡ y = cc in
          inl (ap (λ (z : Worker). z.node) (sym is))
      | inr apart ↦ inr (there_more (changed_at c.workers me (λ _. h.worker)) (repeated h.there.opened (new_worker n)) w y
          (changed_elsewhere c.workers me w (λ _. h.worker) y apart e))
    ];
  }

  worker_ends : (h : WorkerContext) → Does c me n x at h → KeepsLeases (after_worker c me n h).whole
  worker_ends h d =
      node_ends (record c { workers = changed_at c.workers me (λ _. h.worker) }) (worker_at c) n node h.there home d.goes k.nodes k.homes (worker_beside h d)

  pub worker_event_at : (f : WorkerContext → WorkerContext) → (Does c me n x at (here c me x node) → Does c me n x at (f (here c me x node))) →
      KeepsLeases (worker_does_at c me x f (Some node)).whole
  worker_event_at f step =
      let g : WorkerContext = f (here c me x node) in
      worker_ends (release_step g)
      (release_step-kept (IsToldBy c me n x at) (IsOverOf c me n x at) (IsGivenBy c me n x at) AnyPassed (Does c me n x at) (does_kept c me n x at) g
      (step worker_begins))

-- a step of whichever worker
abbrev Steps : ClusterState → ℕ → (WorkerContext → WorkerContext) → Type 0
Steps c w f = (x : Worker) (at : worker_at c w ≡ Some x) (node : Node) → Does c w x.node x at (here c w x node) → Does c w x.node x at (f (here c w x node))

worker_event : (c : ClusterState) (w : ℕ) (f : WorkerContext → WorkerContext) → Steps c w f → KeepsLeases c → KeepsLeases (worker_does c w f).whole
worker_event c w f steps k = by_worker (worker_at c w) refl
  where
    by_node : (x : Worker) → worker_at c w ≡ Some x → (o : Option Node) → node_at c x.node ≡ o → KeepsLeases (worker_does_at c w x f o).whole
    by_node x at None e = k
    by_node x at (Some node) e = worker_event_at c w x node at e k f (steps x at node)

    by_worker : (o : Option Worker) → worker_at c w ≡ o → KeepsLeases (worker_does_by c w f o).whole
    by_worker None at = k
    by_worker (Some x) at = by_node x at (node_at c x.node) refl

-- ---- claims and commits

with_jobs : (c : ClusterState) (jobs : List JobRecord) (made : ℕ) → JobsStay c.jobs jobs → KeepsLeases c → KeepsLeases (record c { jobs = jobs; made = made })
with_jobs c jobs made stay k =
    let w = k.workers in
    record {
      workers = record { each = λ i x e. jobs_more c.jobs jobs c.network i x stay (w.each i x e); envelopes = w.envelopes };
      nodes = k.nodes;
      homes = k.homes;
    }

pub ready_run : (c : ClusterState) (w : ℕ) (x : Worker) → worker_at c w ≡ Some x → is_ready c w ≡ true → is_ready_run x.run ≡ true
ready_run c w x at e =
    let f : is_ready_on c w (Some x) ≡ true = ap (is_ready_on c w) (sym at) ∙ e in
    and_right x.is_live (is_ready_run x.run) (and_left (x.is_live && is_ready_run x.run) (has_slot w (node_at c x.node)) f)

claim_event : (c : ClusterState) (w : ℕ) → or_refusal (no_worker c w) (unless (is_ready c w) NotReady) ≡ None → KeepsLeases c → KeepsLeases (claimed c w).whole
claim_event c w e k =
    let g : JobRecord = record { worker = w; is_committed = false } in
    let jobs : List JobRecord = c.jobs ++ g ∷ [] in
    let ready : is_ready c w ≡ true = passed (is_ready c w) NotReady (both_passed (no_worker c w) (unless (is_ready c w) NotReady) e).1 in
    worker_event (record c { jobs = jobs }) w (λ h. claim_step h (length c.jobs + 1))
    (λ x at node d. claim_does (record c { jobs = jobs }) w x.node x at (here (record c { jobs = jobs }) w x node) (length c.jobs + 1)
    (ready_run c w x at ready) (g, item_last c.jobs g, refl) d)
    (with_jobs c jobs c.made (λ j h i. (h, there_more c.jobs (g ∷ []) j h i, refl)) k)

committed_stay : (jobs : List JobRecord) (j : ℕ) → JobsStay jobs (changed_at jobs j as_committed)
committed_stay jobs j i g e =
    let f = there_still jobs j i as_committed g e in
    (f.0, f.1, worker_of (elim (changed_cases jobs j i as_committed f.0 f.1) [ inl (_, h, at, is) ↦ inl (h, at, is) | inr (_, at) ↦ inr at ]))
  where
    worker_of : {h : JobRecord} → ((y : JobRecord) × (item_at jobs i ≡ Some y) × (h ≡ as_committed y)) ⊎ (item_at jobs i ≡ Some h) → h.worker ≡ g.worker
    worker_of (inl (y, at, is)) = let f : ◌≡◌ {A = Option JobRecord} (Some g) (Some y) = sym e ∙ at in let same : g ≡ y = cc in
        ap (λ (z : JobRecord). z.worker) is ∙ ap (λ (z : JobRecord). z.worker) (sym same)
    worker_of (inr at) = let f = sym at ∙ e in cc

commit_event : (c : ClusterState) (j : ℕ) (handed : CommitInput) (g : Option JobRecord) → commit_refusal c j handed g ≡ None → KeepsLeases c →
    KeepsLeases (committed_by c j handed g).whole
commit_event c j Nothing g e k = k
commit_event c j OfAnother g e k = k
commit_event c j (OfJob o) None e k = k
commit_event c j (OfJob o) (Some g) e k =
    let open_job : Bool = not g.is_committed && is_of_job (OfJob o) in
    let both = both_passed (unless (open_job && is_out_by (worker_at c g.worker) j) NoJob) (unless (is_live_worker (worker_at c g.worker)) Stale) e in
    let out : is_out_by (worker_at c g.worker) j ≡ true =
    and_right open_job (is_out_by (worker_at c g.worker) j) (passed (open_job && is_out_by (worker_at c g.worker) j) NoJob both.0) in
    let d : ClusterState = with_committed c j (objects_made o.births) in
    worker_event d g.worker (λ h. commit_step h o)
    (λ x at node does.
    let run : OutOf x.run j = out_of x.run j (ap (λ y. is_out_by y j) (sym at) ∙ out) in
    let over : run.run.is_over ≡ false = false_from_ne_true _ (λ i. let s = (mine d g.worker x.node x at (here d g.worker x node) does).stopped run.run run.at i in
    let f : has_stopped (Out j) ≡ true = ap has_stopped (sym run.out) ∙ s in absurd (cc)) in
    commit_does d g.worker x.node x at (here d g.worker x node) o run.run run.at over does)
    (with_jobs c (changed_at c.jobs j as_committed) (c.made + objects_made o.births) (committed_stay c.jobs j) k)

-- ---- deliveries

module _ (c : ClusterState) (w : ℕ) (x : Worker) (at : worker_at c w ≡ Some x) (node : Node) (live : x.is_live ≡ true) where
  abbrev P : WorkerContext → Type 0
  P = Does c w x.node x at

  abbrev start : WorkerContext
  start = here c w x node

  abbrev Heard : Endpoint → Message → Type 0
  Heard = IsHeardFrom (IsToldBy c w x.node x at) (IsOverOf c w x.node x at) (IsGivenBy c w x.node x at) AnyPassed P (does_kept c w x.node x at) start

  heard_worker : (u : ℕ) (m : Message) → Among (envelope (TheWorker u) (TheWorker w) m) c.network → P start → Heard (TheWorker u) m
  heard_worker u (Push a spec) came d = push_does c w x.node x at start a spec live u came d
  heard_worker u (Finished a n rs) came d = record { to = TheWorker w; message = Finished a n rs; came = came; tells = λ look sent i. i }
  heard_worker u (Failed a f) came d = record { to = TheWorker w; message = Failed a f; came = came; tells = λ look sent i. i }
  heard_worker u (FinishedAck a) came d = record { from = TheWorker u; came = came }
  heard_worker u (Ask a t) came d = tt
  heard_worker u (Give a t v) came d = tt
  heard_worker u (Elsewhere a t n) came d = tt
  heard_worker u (Wait a t) came d = tt
  heard_worker u (Back a) came d = tt
  heard_worker u (Where o) came d = tt
  heard_worker u (At o number ns kept) came d = tt
  heard_worker u (Gone o f) came d = tt
  heard_worker u (Fetch o number) came d = tt
  heard_worker u (CopyOf o number b) came d = tt
  heard_worker u (Missing o number n) came d = tt
  heard_worker u (Hold e o) came d = tt
  heard_worker u (HoldAck e o) came d = tt
  heard_worker u (Unhold e o why) came d = tt

  heard_node : (n : ℕ) (m : Message) → Among (envelope (TheNode n) (TheWorker w) m) c.network → Heard (TheNode n) m
  heard_node n (Give a t v) came = λ own. (t, subst (λ u. Among (envelope (TheNode n) (TheWorker u) (Give a t v)) c.network) (sym own) came)
  heard_node n (Push a spec) came = tt
  heard_node n (Finished a m rs) came = tt
  heard_node n (Failed a f) came = tt
  heard_node n (FinishedAck a) came = tt
  heard_node n (Ask a t) came = tt
  heard_node n (Elsewhere a t m) came = λ own i _ _ _ _. tt
  heard_node n (Wait a t) came = tt
  heard_node n (Back a) came = tt
  heard_node n (Where o) came = tt
  heard_node n (At o number ns kept) came = tt
  heard_node n (Gone o f) came = tt
  heard_node n (Fetch o number) came = tt
  heard_node n (CopyOf o number b) came = tt
  heard_node n (Missing o number m) came = tt
  heard_node n (Hold e o) came = tt
  heard_node n (HoldAck e o) came = tt
  heard_node n (Unhold e o why) came = tt

  heard_from : (from : Endpoint) (m : Message) → Among (envelope from (TheWorker w) m) c.network → P start → Heard from m
  heard_from (TheWorker u) m came d = heard_worker u m came d
  heard_from (TheNode n) m came d = heard_node n m came

  reached_does : (from : Endpoint) (m : Message) → Among (envelope from (TheWorker w) m) c.network → P start → P (reached start from m)
  reached_does from m came d =
      reached-kept (IsToldBy c w x.node x at) (IsOverOf c w x.node x at) (IsGivenBy c w x.node x at) AnyPassed P (does_kept c w x.node x at) start from m
      (heard_from from m came d) d

with_marks : (c : ClusterState) (k : ℕ) → KeepsLeases c → KeepsLeases (with_delivered c k)
with_marks c k l = record { workers = l.workers; nodes = l.nodes; homes = l.homes }

envelope_event : (c : ClusterState) (s to : Endpoint) (m : Message) → Among (envelope s to m) c.network → KeepsLeases c →
    KeepsLeases (delivered_to c (envelope s to m) to).whole
envelope_event c s (TheWorker w) m came k =
    at_test (λ b. is_live_worker (worker_at c w) ≡ b → KeepsLeases (if b then worker_does c w (λ h. reached h s m) else moved c).whole)
    (is_live_worker (worker_at c w))
    (λ _ e. worker_event c w (λ h. reached h s m)
    (λ x at node d.
    let live : x.is_live ≡ true = ap is_live_worker (sym at) ∙ e in
    reached_does c w x at node live s m came d) k)
    (λ _ _. k) refl
envelope_event c s (TheNode n) m came k =
    at_test (λ b. KeepsLeases (if b then node_does c n (λ h. node_reached h s m) else moved c).whole) (is_live_node (node_at c n))
    (λ _. node_event c n (λ h. node_reached h s m) (λ node at t g. reached_goes c.jobs c.workers c.network n t s m
    (g.workers.envelopes (envelope s (TheNode n) m) (among-more c.network t.out.envelopes _ came)) g) k)
    (λ _. k)

deliver_event : (c : ClusterState) (k : ℕ) (l : Option Envelope) → item_at c.network k ≡ l → KeepsLeases c → KeepsLeases (delivered_by c k l).whole
deliver_event c k None at l = l
deliver_event c k (Some x) at l = envelope_event (with_delivered c k) x.sender x.receiver x.message (among_at c.network k x at) (with_marks c k l)

-- ---- deaths

dies : (x : Worker) → Follows x (dead x)
dies x = record { node = refl; live = λ e. absurd (cc); began = refl; going = λ r e over. (r, e, refl, over) }

-- workers that follow the ones before, beside nodes with the same schedulers
pub followed : (c : ClusterState) (workers : List Worker) (nodes : List Node) → AllFollow (worker_at c) (λ w. item_at workers w) →
    ((w : ℕ) (y : Worker) → item_at workers w ≡ Some y → WorkerKeeps c.jobs c.network w y) →
    ((n : ℕ) (node : Node) → item_at nodes n ≡ Some node → (old : Node) × (node_at c n ≡ Some old) × (node.scheduler ≡ old.scheduler)) →
    ((n : ℕ) (node : Node) → node_at c n ≡ Some node → (next : Node) × (item_at nodes n ≡ Some next)) → KeepsLeases c →
    KeepsLeases (record c { workers = workers; nodes = nodes })
followed c workers nodes all each back forth k =
    let look : Look = λ w. item_at workers w in
    record {
      workers = record {
        each = each;
        envelopes = λ l i. true_more (worker_at c) look c.network c.network (follow_grows (worker_at c) look all) (λ _ j. j) l
            (k.workers.envelopes l i);
      };
      nodes = λ n node e.
          let b = back n node e in
          node_follows (worker_at c) look c.network n node.scheduler all (subst (NodeKeeps (worker_at c) c.network n) (sym b.2) (k.nodes n b.0 b.1));
      homes = λ w y e.
          let b = all.back w y e in
          let h = k.homes w b.0 b.1 in
          subst (λ (m : ℕ). (node : Node) × (item_at nodes m ≡ Some node)) (sym b.2.node) (forth b.0.node h.0 h.1);
    }

dead_keeps : (c : ClusterState) (w : ℕ) (x : Worker) → WorkerKeeps c.jobs c.network w x → WorkerKeeps c.jobs c.network w (dead x)
dead_keeps c w x k = record { began = k.began; present = k.present; stopped = k.stopped; out = k.out; runs = k.runs }

killed_follow : (c : ClusterState) (w : ℕ) → AllFollow (worker_at c) (λ v. item_at (changed_at c.workers w dead) v)
killed_follow c w = record {
  back = λ v y e. elim (changed_cases c.workers w v dead y e) [
    | inl (_, x, at, is) ↦ (x, at, subst (Follows x) (sym is) (dies x))
    | inr (_, at) ↦ (y, at, stays y)
  ];
  forth = λ v x e.
      let f = there_still c.workers w v dead x e in
      (f.0, f.1, by_case v x e f.0 (elim (changed_cases c.workers w v dead f.0 f.1) [ inl (_, y, at, is) ↦ inl (y, at, is) | inr (_, at) ↦ inr at ]));
}
  where
    by_case : (v : ℕ) (x : Worker) → worker_at c v ≡ Some x → (y : Worker) →
        ((z : Worker) × (item_at c.workers v ≡ Some z) × (y ≡ dead z)) ⊎ (item_at c.workers v ≡ Some y) → Follows x y
    by_case v x e y (inl (z, at, is)) = let f : ◌≡◌ {A = Option Worker} (Some x) (Some z) = sym e ∙ at in let same : x ≡ z = cc in
        subst (Follows x) (ap dead same ∙ sym is) (dies x)
    by_case v x e y (inr at) = let f : ◌≡◌ {A = Option Worker} (Some x) (Some y) = sym e ∙ at in let same : x ≡ y = cc in subst (Follows x) same (stays x)

kill_event : (c : ClusterState) (w : ℕ) (o : Option Worker) → worker_at c w ≡ o → KeepsLeases c → KeepsLeases (killed_by c w o).whole
kill_event c w None at k = k
kill_event c w (Some x) at k =
    let workers : List Worker = changed_at c.workers w dead in
    let d : ClusterState = record c { workers = workers } in
    let dies_first : KeepsLeases d =
    followed c workers c.nodes (killed_follow c w)
    (λ v y e. elim (changed_cases c.workers w v dead y e) [
      | inl (_, z, f, is) ↦ subst (WorkerKeeps c.jobs c.network v) (sym is) (dead_keeps c v z (k.workers.each v z f))
      | inr (_, f) ↦ k.workers.each v y f
    ])
    (λ n node e. (node, e, refl)) (λ n node e. (node, e)) k in
    node_event d x.node (λ t. forgets t w)
    (λ node e t g. forgets_goes d.jobs d.workers d.network x.node t w
    (λ a wanted. dead_unwanted t.opened wanted.worker wanted.there wanted.lives) g) dies_first
  where
    dead_unwanted : (opened : ℕ) (y : Worker) → item_at (changed_at c.workers w dead ++ repeated opened (new_worker x.node)) w ≡ Some y → y.is_live ≡ true → ⊥
    dead_unwanted opened y e live =
        let f = there_more (changed_at c.workers w dead) (repeated opened (new_worker x.node)) w (dead x) (dead_now (there_still c.workers w w dead x at)) in
        let g : ◌≡◌ {A = Option Worker} (Some (dead x)) (Some y) = sym f ∙ e in
        let same : dead x ≡ y = cc in
        both_ways y.is_live (ap (λ (z : Worker). z.is_live) (sym same)) live
      where
        dead_now : (y : Worker) × (item_at (changed_at c.workers w dead) w ≡ Some y) → item_at (changed_at c.workers w dead) w ≡ Some (dead x)
        dead_now (y, i) = elim (changed_cases c.workers w w dead y i) [
          | inl (_, z, j, is) ↦ let l : ◌≡◌ {A = Option Worker} (Some x) (Some z) = sym at ∙ j in let same : x ≡ z = cc in
              i ∙ ap (λ u. Some u) (is ∙ ap dead (sym same))
          | inr (apart, _) ↦ absurd (apart refl)
        ]

same_schedulers : (c : ClusterState) (n : ℕ) (f : Node → Node) → ((node : Node) → (f node).scheduler ≡ node.scheduler) →
    (m : ℕ) (node : Node) → item_at (changed_at c.nodes n f) m ≡ Some node → (old : Node) × (node_at c m ≡ Some old) × (node.scheduler ≡ old.scheduler)
same_schedulers c n f same m node e = elim (changed_cases c.nodes n m f node e) [
  | inl (_, x, at, is) ↦ (x, at, ap (λ (y : Node). y.scheduler) is ∙ same x)
  | inr (_, at) ↦ (node, at, refl)
]

falls_follow : (n : ℕ) (x : Worker) (b : Bool) → Follows x (if b then dead x else x)
falls_follow n x true = dies x
falls_follow n x false = stays x

get_map : {X Y : Type 0} (f : X → Y) (xs : List X) (i : ℕ) (x : X) → slice_get xs i ≡ Some x → slice_get (map f xs) i ≡ Some (f x)
get_map f [] i x e = absurd (cc)
get_map f (y ∷ xs) zero x e = let same : y ≡ x = cc in ap (λ z. Some (f z)) same
get_map f (y ∷ xs) (suc i) x e = get_map f xs i x e

pub item_map : {X Y : Type 0} (f : X → Y) (xs : List X) (n : ℕ) (x : X) → item_at xs n ≡ Some x → item_at (map f xs) n ≡ Some (f x)
item_map f xs zero x e = absurd (cc)
item_map f xs (suc i) x e = get_map f xs i x e

kill_node_event : (c : ClusterState) (n : ℕ) (f : Node → Node) → ((node : Node) → (f node).scheduler ≡ node.scheduler) → KeepsLeases c →
    KeepsLeases (record c { nodes = changed_at c.nodes n f; workers = map (dies_with n) c.workers })
kill_node_event c n f same k =
    followed c (map (dies_with n) c.workers) (changed_at c.nodes n f)
    (record {
      back = λ w y e. let r = item_mapped (dies_with n) c.workers w y e in (r.0, r.1, subst (Follows r.0) (sym r.2) (falls_follow n r.0 (r.0.node == n)));
      forth = λ w x e. (dies_with n x, item_map (dies_with n) c.workers w x e, falls_follow n x (x.node == n));
    })
    (λ w y e.
    let r = item_mapped (dies_with n) c.workers w y e in
    subst (WorkerKeeps c.jobs c.network w) (sym r.2)
    (at_test (λ b. WorkerKeeps c.jobs c.network w (if b then dead r.0 else r.0)) (r.0.node == n) (λ _. dead_keeps c w r.0 (k.workers.each w r.0 r.1))
    (λ _. k.workers.each w r.0 r.1)))
    (λ m node e. same_schedulers c n f same m node e) (λ m node e. there_still c.nodes n m f node e) k

store_event : (c : ClusterState) (n : ℕ) (f : Node → Node) → ((node : Node) → (f node).scheduler ≡ node.scheduler) → KeepsLeases c →
    KeepsLeases (record c { nodes = changed_at c.nodes n f })
store_event c n f same k =
    followed c c.workers (changed_at c.nodes n f) (record { back = λ w y e. (y, e, stays y); forth = λ w x e. (x, e, stays x) }) k.workers.each
    (λ m node e. same_schedulers c n f same m node e) (λ m node e. there_still c.nodes n m f node e) k

-- ---- a node that comes

join_event : (c : ClusterState) → KeepsLeases c → KeepsLeases (record c { nodes = c.nodes ++ new_node c.slots ∷ [] })
join_event c k = record {
  workers = k.workers;
  nodes = λ n node e. elim (push_cases c.nodes n (new_node c.slots) node e) [
    | inl old ↦ k.nodes n node old
    | inr (last, is) ↦ subst (λ (x : Node). NodeKeeps (worker_at c) c.network n x.scheduler) is (new_keeps n (nothing_past c.nodes n (omega (arith, last))))
  ];
  homes = λ w x e. let h = k.homes w x e in (h.0, there_more c.nodes (new_node c.slots ∷ []) x.node h.0 h.1);
}
  where
    -- it has given nobody, since nobody is there
    new_keeps : (n : ℕ) → node_at c n ≡ None → NodeKeeps (worker_at c) c.network n (new_scheduler c.slots)
    new_keeps n none = record {
      idle = λ w e. absurd (cc);
      promised = λ w x a at live gave unbegun.
          let i : IsOfNode (worker_at c) n w = k.workers.envelopes _ gave.1 in
          let h = k.homes w i.worker i.there in
          let f : node_at c n ≡ Some h.0 = ap (node_at c) (sym i.home) ∙ h.1 in
          absurd (cc);
      busy = λ w x run at home e over b f. absurd (cc);
      replied = λ key w e. absurd (cc);
    }

-- ---- every event

pub happens_keeps : (c : ClusterState) (e : Event) (handed : CommitInput) → refusal c e handed ≡ None → KeepsLeases c → KeepsLeases (happens c e handed).whole
happens_keeps c (Claim w) handed e k = claim_event c w e k
happens_keeps c (Commit j) handed e k = commit_event c j handed (item_at c.jobs j) e k
happens_keeps c (Deliver i) handed e k = deliver_event c i (item_at c.network i) refl k
happens_keeps c (Tick w) handed e k = worker_event c w tick_step
    (λ x at node d. tick_step-kept (IsToldBy c w x.node x at) (IsOverOf c w x.node x at) (IsGivenBy c w x.node x at) AnyPassed (Does c w x.node x at)
    (does_kept c w x.node x at) (here c w x node) d) k
happens_keeps c (Notice w v) handed e k = worker_event c w (λ h. notice_step h v)
    (λ x at node d. notice_step-kept (IsToldBy c w x.node x at) (IsOverOf c w x.node x at) (IsGivenBy c w x.node x at) AnyPassed (Does c w x.node x at)
    (does_kept c w x.node x at) (here c w x node) v d) k
happens_keeps c (NoticeNode w n) handed e k = worker_event c w (λ h. notice_node_step h n)
    (λ x at node d. notice_node_step-kept (IsToldBy c w x.node x at) (IsOverOf c w x.node x at) (IsGivenBy c w x.node x at) AnyPassed (Does c w x.node x at)
    (does_kept c w x.node x at) (here c w x node) n (λ a i. tt) d) k
happens_keeps c (Evict n o) handed e k = store_event c n _ (λ _. refl) k
happens_keeps c (Lose n o) handed e k = store_event c n _ (λ _. refl) k
happens_keeps c (Kill w) handed e k = kill_event c w (worker_at c w) refl k
happens_keeps c (KillNode n) handed e k = kill_node_event c n _ (λ _. refl) k
happens_keeps c Join handed e k = join_event c k

limited_keeps : (c : ClusterState) (m : Transition) (b : Bool) (given : Option Job) → KeepsLeases c → KeepsLeases m.whole →
    KeepsLeases (whole_after c (if b then takes m given else Refuses Limit))
limited_keeps c m true given k l = l
limited_keeps c m false given k l = k

decided_keeps : (c : ClusterState) (e : Event) (handed : CommitInput) (code : Option Refusal) → refusal c e handed ≡ code → KeepsLeases c →
    KeepsLeases (whole_after c (decided c e handed code))
decided_keeps c e handed None unrefused k = limited_keeps c (happens c e handed) (is_within_limits (happens c e handed).whole) (given_out c e) k
    (happens_keeps c e handed unrefused k)
decided_keeps c e handed (Some code) refused k = k

pub events_keep : (c : ClusterState) (e : Event) (handed : CommitInput) → KeepsLeases c → KeepsLeases (whole_after c (answer c e handed))
events_keep c e handed k = decided_keeps c e handed (refusal c e handed) refl k
