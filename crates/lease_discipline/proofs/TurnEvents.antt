-- Every event leaves its slot to a worker whose turn it is.
use Rattle.std.proofs.Common.{◌≡◌, ℕ, ◌+◌, List, [], ◌∷◌, ◌++◌, length, map, Some, None, Option, refl, ap, sym, subst, ◌∙◌, ◌⊎◌, inl, inr, append-nil}
use Rattle.std.proofs.Common.{arith}
use Rattle.std.specs.Prelude.{Bool, true, false, if◌then◌else◌, not, ◌&&◌, ◌==◌}
use Rattle.std.proofs.lemmas.Bool.{both_ways}
use Rattle.sequence.proofs.Places.{and_right}
use Rattle.meaning.proofs.BirthLaws.{at_test}
use Rattle.meaning.specs.Values.{Birth}
use Rattle.event_log.specs.Entries.{Attempt, Event, Claim, Commit, Deliver, Tick, Notice, NoticeNode, Evict, Lose, Kill, KillNode, Join}
use Rattle.event_log.specs.Entries.{Refusal, NotReady, NoJob, Stale, Limit}
use Rattle.protocol_laws.specs.of_protocol.Numbered.{item_at, changed_at}
use Rattle.protocol_laws.specs.of_protocol.Sets.{repeated}
use Rattle.protocol_laws.specs.of_protocol.Messages.{Envelope, envelope, Message, Endpoint, TheWorker, TheNode, Ask, Give, Elsewhere, Wait, Back, Push, Finished, FinishedAck, Failed}
use Rattle.protocol_laws.specs.of_protocol.Messages.{Where, At, Gone, Fetch, CopyOf, Missing, Hold, HoldAck, Unhold}
use Rattle.protocol_laws.specs.of_protocol.Jobs.{JobRecord, CommitInput, Job, Nothing, OfAnother, OfJob}
use Rattle.protocol_laws.specs.of_protocol.Nodes.{Node, Scheduler, NodeContext, new_node, new_scheduler}
use Rattle.protocol_laws.specs.of_protocol.Tables.{Worker, new_worker}
use Rattle.protocol_laws.specs.of_protocol.Steps.{WorkerContext}
use Rattle.protocol_laws.specs.of_protocol.Runs.{begins_run, is_free, push_reached}
use Rattle.protocol_laws.specs.of_protocol.Slots.{forgets, node_reached}
use Rattle.protocol_laws.specs.of_protocol.Releases.{release_step}
use Rattle.protocol_laws.specs.of_protocol.Cluster.{ClusterState, Transition, moved, node_at, worker_at, there, here, after_node, node_does, node_does_by, worker_does}
use Rattle.protocol_laws.specs.of_protocol.Cluster.{worker_does_by, worker_does_at}
use Rattle.protocol_laws.specs.of_protocol.Commits.{claim_step, commit_step}
use Rattle.protocol_laws.specs.of_protocol.Notices.{notice_step, notice_node_step}
use Rattle.protocol_laws.specs.of_protocol.Ticks.{tick_step}
use Rattle.protocol_laws.specs.of_protocol.Deliveries.{reached}
use Rattle.protocol_laws.specs.of_protocol.Events.{claimed, committed_by, with_committed, delivered_by, delivered_to, with_delivered, is_live_worker, is_live_node, killed_by, objects_made}
use Rattle.protocol_laws.specs.of_protocol.Events.{dead, dies_with, happens}
use Rattle.protocol_laws.specs.of_protocol.Answers.{Refuses, answer, decided, takes, given_out, whole_after}
use Rattle.protocol_laws.specs.of_protocol.Refusals.{commit_refusal, has_slot, is_of_job, is_out_by, is_ready, is_ready_on, is_ready_run, is_within_limits, no_worker}
use Rattle.protocol_laws.specs.of_protocol.Refusals.{or_refusal, refusal, unless}
use Rattle.protocol_laws.specs.of_protocol_owed.Courses.{has_begun}
use Rattle.protocol_laws.proofs.of_protocol_owed.Nodes.{changed_cases, nothing_past, push_cases}
use Rattle.protocol_laws.proofs.of_protocol_owed.CourseEvents.{append_split, one_of}
use Rattle.protocol_laws.proofs.of_protocol_owed.CourseAll.{both_passed, passed}
use Rattle.protocol_laws.proofs.of_protocol_owed.CourseRuns.{OutOf, out_of}
use Rattle.protocol_laws.proofs.of_smallest_steps.Smallest.{AnyOver, AnyPassed, AnyTold}
use Rattle.lease_discipline.specs.Discipline.{KeepsLeases, Look}
use Rattle.lease_discipline.specs.Slots.{HasTurn, KeepsSlots}
use Rattle.lease_discipline.proofs.Tame.{item_mapped}
use Rattle.lease_discipline.proofs.Moves.{notice_step-kept, notice_node_step-kept, reached-kept, release_step-kept, tick_step-kept, IsHeardFrom, IsKept}
use Rattle.lease_discipline.proofs.Events.{changed_same}
use Rattle.lease_discipline.proofs.Laws.{promise}
use Rattle.lease_discipline.proofs.Turns.{Anyone, NoLossBut, NoTurn, Others, Turns, claim_turns, commit_turns, forgets_lose, push_turns, reached_lose}
use Rattle.lease_discipline.proofs.Turns.{stopped_no_turn, turns_after, turns_kept}

abbrev pub GivenBy : ℕ → ℕ → Attempt → ℕ → Type 0
GivenBy n t a w = Unit {0}

-- workers of other nodes are the same
other_turns : (look next : Look) (m : ℕ) (s : Scheduler) → ((w : ℕ) (y : Worker) → next w ≡ Some y → y.node ≡ m → look w ≡ Some y) → HasTurn look m s →
    HasTurn next m s
other_turns look next m s back t = record {
  out = λ w y j at home live out. t.out w y j (back w y at home) home live out;
  ready = λ w y at home live ready. t.ready w y (back w y at home) home live ready;
}

-- ---- the end of a node's event

module _ (d : ClusterState) (old : Look) (n : ℕ) (t : NodeContext) (now : HasTurn (λ w. item_at (d.workers ++ repeated t.opened (new_worker n)) w) n t.node.scheduler)
    (others : (m : ℕ) (k : Node) → node_at d m ≡ Some k → HasTurn old m k.scheduler)
    (back : (w : ℕ) (y : Worker) → item_at (d.workers ++ repeated t.opened (new_worker n)) w ≡ Some y → (y.node ≡ n) ⊎ (old w ≡ Some y)) where
  turns_end : KeepsSlots (after_node d n t).whole
  turns_end m k e = elim (changed_cases d.nodes n m (λ _. t.node) k e) [
    | inl (same, _, _, is) ↦
        subst (λ (i : ℕ). HasTurn (worker_at (after_node d n t).whole) i k.scheduler) (sym same)
        (subst (λ (x : Node). HasTurn (worker_at (after_node d n t).whole) n x.scheduler) (sym is) now)
    | inr (apart, at) ↦ other_turns old (worker_at (after_node d n t).whole) m k.scheduler
        (λ w y there home. elim (back w y there) [ inl here ↦ absurd (apart (sym home ∙ here)) | inr before ↦ before ]) (others m k at)
  ]

-- ---- an event of a node

node_back : (d : ClusterState) (n opened w : ℕ) (y : Worker) → item_at (d.workers ++ repeated opened (new_worker n)) w ≡ Some y →
    (new_worker n ≡ y) ⊎ (worker_at d w ≡ Some y)
node_back d n opened w y e = elim (append_split d.workers (repeated opened (new_worker n)) w y e) [
  | inl f ↦ inr f
  | inr (_, (i, f)) ↦ inl (one_of i opened w (new_worker n) y f)
]

-- whoever loses its slot is dead
node_turns : (d : ClusterState) (n : ℕ) (f : NodeContext → NodeContext) (b : ℕ → Type 0) → ((t : NodeContext) → NoLossBut b t.node.scheduler (f t).node.scheduler) →
    ((w : ℕ) (y : Worker) → worker_at d w ≡ Some y → y.is_live ≡ true → b w) → KeepsSlots d → KeepsSlots (node_does d n f).whole
node_turns d n f b less alive k = by_node (node_at d n) refl
  where
    by_node : (o : Option Node) → node_at d n ≡ o → KeepsSlots (node_does_by d n f o).whole
    by_node None e = k
    by_node (Some node) e =
        let t : NodeContext = f (there d n node) in
        turns_end d (worker_at d) n t
        (turns_after b (worker_at d) (λ w. item_at (d.workers ++ repeated t.opened (new_worker n)) w) n node.scheduler t.node.scheduler
        (λ w y at live. elim (node_back d n t.opened w y at) [
          | inl new ↦ inr (subst NoTurn new (stopped_no_turn (new_worker n) refl))
          | inr before ↦ inl (before, alive w y before live)
        ]) (less (there d n node)) (k n node e)) k
        (λ w y at. elim (node_back d n t.opened w y at) [ inl new ↦ inl (ap (λ (x : Worker). x.node) (sym new)) | inr before ↦ inr before ])

-- ---- an event of a worker

module _ (c : ClusterState) (me : ℕ) (x : Worker) (node : Node) (at : worker_at c me ≡ Some x) (home : node_at c x.node ≡ Some node) (k : KeepsSlots c) where
  abbrev n : ℕ
  n = x.node

  abbrev P : WorkerContext → Type 0
  P = Turns c me n x at

  kept : IsKept AnyTold AnyOver GivenBy AnyPassed P
  kept = turns_kept c me n x at AnyTold AnyOver GivenBy

  turns_begin : P (here c me x node)
  turns_begin =
      let all : changed_at c.workers me (λ _. x) ++ [] ≡ c.workers = append-nil (changed_at c.workers me (λ _. x)) ∙ changed_same c.workers me x at in
      record { who = refl; home = refl; turns = subst (λ xs. HasTurn (λ w. item_at xs w) n node.scheduler) (sym all) (k n node home) }

  worker_back : (h : WorkerContext) → h.worker.node ≡ n → (w : ℕ) (y : Worker) →
      item_at (changed_at c.workers me (λ _. h.worker) ++ repeated h.there.opened (new_worker n)) w ≡ Some y →
      (y.node ≡ n) ⊎ (worker_at c w ≡ Some y)
  worker_back h there w y e = elim (append_split (changed_at c.workers me (λ _. h.worker)) (repeated h.there.opened (new_worker n)) w y e) [
    | inl f ↦ elim (changed_cases c.workers me w (λ _. h.worker) y f) [
      | inl (_, _, _, is) ↦ inl (ap (λ (z : Worker). z.node) is ∙ there)
      | inr (_, before) ↦ inr before
    ]
    | inr (_, (i, f)) ↦ inl (ap (λ (z : Worker). z.node) (sym (one_of i h.there.opened w (new_worker n) y f)))
  ]

  worker_turns_at : (f : WorkerContext → WorkerContext) → (P (here c me x node) → P (f (here c me x node))) → KeepsSlots (worker_does_at c me x f (Some node)).whole
  worker_turns_at f step =
      let g : WorkerContext = f (here c me x node) in
      let h : WorkerContext = release_step g in
      let p : P h = release_step-kept AnyTold AnyOver GivenBy AnyPassed P kept g (step turns_begin) in
      turns_end (record c { workers = changed_at c.workers me (λ _. h.worker) }) (worker_at c) n h.there p.turns k (λ w y e. worker_back h p.home w y e)

abbrev Steps : ClusterState → ℕ → (WorkerContext → WorkerContext) → Type 0
Steps c w f = (x : Worker) (at : worker_at c w ≡ Some x) (node : Node) → node_at c x.node ≡ Some node → Turns c w x.node x at (here c w x node) →
    Turns c w x.node x at (f (here c w x node))

worker_turns : (c : ClusterState) (w : ℕ) (f : WorkerContext → WorkerContext) → Steps c w f → KeepsSlots c → KeepsSlots (worker_does c w f).whole
worker_turns c w f steps k = by_worker (worker_at c w) refl
  where
    by_node : (x : Worker) → worker_at c w ≡ Some x → (o : Option Node) → node_at c x.node ≡ o → KeepsSlots (worker_does_at c w x f o).whole
    by_node x at None e = k
    by_node x at (Some node) e = worker_turns_at c w x node at e k f (steps x at node e)

    by_worker : (o : Option Worker) → worker_at c w ≡ o → KeepsSlots (worker_does_by c w f o).whole
    by_worker None at = k
    by_worker (Some x) at = by_node x at (node_at c x.node) refl

-- ---- claims and commits

claim_event : (c : ClusterState) (w : ℕ) → or_refusal (no_worker c w) (unless (is_ready c w) NotReady) ≡ None → KeepsSlots c → KeepsSlots (claimed c w).whole
claim_event c w e k =
    let jobs : List JobRecord = c.jobs ++ record { worker = w; is_committed = false } ∷ [] in
    let d : ClusterState = record c { jobs = jobs } in
    let ready : is_ready c w ≡ true = passed (is_ready c w) NotReady (both_passed (no_worker c w) (unless (is_ready c w) NotReady) e).1 in
    worker_turns d w (λ h. claim_step h (length c.jobs + 1))
    (λ x at node home t.
    let f : is_ready_on c w (Some x) ≡ true = ap (is_ready_on c w) (sym at) ∙ ready in
    let slot : has_slot w (Some node) ≡ true = ap (has_slot w) (sym home) ∙ and_right (x.is_live && is_ready_run x.run) (has_slot w (node_at c x.node)) f in
    claim_turns d w x.node x at (here d w x node) (length c.jobs + 1) slot t) k

commit_event : (c : ClusterState) (j : ℕ) (handed : CommitInput) (g : Option JobRecord) → commit_refusal c j handed g ≡ None → KeepsSlots c →
    KeepsSlots (committed_by c j handed g).whole
commit_event c j Nothing g e k = k
commit_event c j OfAnother g e k = k
commit_event c j (OfJob o) None e k = k
commit_event c j (OfJob o) (Some g) e k =
    let open_job : Bool = not g.is_committed && is_of_job (OfJob o) in
    let both = both_passed (unless (open_job && is_out_by (worker_at c g.worker) j) NoJob) (unless (is_live_worker (worker_at c g.worker)) Stale) e in
    let out : is_out_by (worker_at c g.worker) j ≡ true =
    and_right open_job (is_out_by (worker_at c g.worker) j) (passed (open_job && is_out_by (worker_at c g.worker) j) NoJob both.0) in
    let live : is_live_worker (worker_at c g.worker) ≡ true = passed (is_live_worker (worker_at c g.worker)) Stale both.1 in
    let d : ClusterState = with_committed c j (objects_made o.births) in
    worker_turns d g.worker (λ h. commit_step h o)
    (λ x at node home t.
    let run : OutOf x.run j = out_of x.run j (ap (λ y. is_out_by y j) (sym at) ∙ out) in
    commit_turns d g.worker x.node x at (here d g.worker x node) o run.run j run.at run.out (ap is_live_worker (sym at) ∙ live) t) k

-- ---- deliveries

module _ (c : ClusterState) (i w : ℕ) (from : Endpoint) (x : Worker) (at : worker_at c w ≡ Some x) (node : Node) (home : node_at c x.node ≡ Some node)
    (live : x.is_live ≡ true) (leases : KeepsLeases c) where
  abbrev start : WorkerContext
  start = here c w x node

  abbrev Q : WorkerContext → Type 0
  Q = Turns c w x.node x at

  abbrev q_kept : IsKept AnyTold AnyOver GivenBy AnyPassed Q
  q_kept = turns_kept c w x.node x at AnyTold AnyOver GivenBy

  push_heard : (a : Attempt) (spec : Birth) → item_at c.network i ≡ Some (envelope from (TheWorker w) (Push a spec)) → Q start → Q (push_reached start a spec)
  push_heard a spec sent t =
      at_test (λ b. (is_free x.run && not (has_begun a x.began)) ≡ b → Q (if b then begins_run start a spec else start))
      (is_free x.run && not (has_begun a x.began))
      (λ _ e. push_turns c w x.node x at start a spec (promise c leases i w from a spec x node sent at home live
      (negated (has_begun a x.began) (and_right (is_free x.run) (not (has_begun a x.began)) e))).slot t)
      (λ _ _. t) refl
    where
      negated : (b : Bool) → not b ≡ true → b ≡ false
      negated true e = absurd (cc)
      negated false e = refl

  heard_worker : (u : ℕ) → from ≡ TheWorker u → (m : Message) → item_at c.network i ≡ Some (envelope from (TheWorker w) m) → Q start →
      IsHeardFrom AnyTold AnyOver GivenBy AnyPassed Q q_kept start (TheWorker u) m
  heard_worker u e (Push a spec) sent t = push_heard a spec sent t
  heard_worker u e (Finished a n rs) sent t = tt
  heard_worker u e (Failed a f) sent t = tt
  heard_worker u e (FinishedAck a) sent t = tt
  heard_worker u e (Ask a j) sent t = tt
  heard_worker u e (Give a j v) sent t = tt
  heard_worker u e (Elsewhere a j n) sent t = tt
  heard_worker u e (Wait a j) sent t = tt
  heard_worker u e (Back a) sent t = tt
  heard_worker u e (Where o) sent t = tt
  heard_worker u e (At o number ns content) sent t = tt
  heard_worker u e (Gone o f) sent t = tt
  heard_worker u e (Fetch o number) sent t = tt
  heard_worker u e (CopyOf o number b) sent t = tt
  heard_worker u e (Missing o number n) sent t = tt
  heard_worker u e (Hold h o) sent t = tt
  heard_worker u e (HoldAck h o) sent t = tt
  heard_worker u e (Unhold h o why) sent t = tt

  heard_node : (n : ℕ) (m : Message) → IsHeardFrom AnyTold AnyOver GivenBy AnyPassed Q q_kept start (TheNode n) m
  heard_node n (Give a j v) = λ _. tt
  heard_node n (Push a spec) = tt
  heard_node n (Finished a m rs) = tt
  heard_node n (Failed a f) = tt
  heard_node n (FinishedAck a) = tt
  heard_node n (Ask a j) = tt
  heard_node n (Elsewhere a j m) = λ own i _ _ _ _. tt
  heard_node n (Wait a j) = tt
  heard_node n (Back a) = tt
  heard_node n (Where o) = tt
  heard_node n (At o number ns content) = tt
  heard_node n (Gone o f) = tt
  heard_node n (Fetch o number) = tt
  heard_node n (CopyOf o number b) = tt
  heard_node n (Missing o number m) = tt
  heard_node n (Hold h o) = tt
  heard_node n (HoldAck h o) = tt
  heard_node n (Unhold h o why) = tt

  reached_turns : (m : Message) → item_at c.network i ≡ Some (envelope from (TheWorker w) m) → Q start → Q (reached start from m)
  reached_turns m sent t = by_endpoint from refl
    where
      by_endpoint : (s : Endpoint) → from ≡ s → Q (reached start s m)
      by_endpoint (TheWorker u) e = reached-kept AnyTold AnyOver GivenBy AnyPassed Q q_kept start (TheWorker u) m (heard_worker u e m sent t) t
      by_endpoint (TheNode n) e = reached-kept AnyTold AnyOver GivenBy AnyPassed Q q_kept start (TheNode n) m (heard_node n m) t

envelope_event : (c : ClusterState) (i : ℕ) (s to : Endpoint) (m : Message) → item_at c.network i ≡ Some (envelope s to m) → KeepsLeases c → KeepsSlots c →
    KeepsSlots (delivered_to c (envelope s to m) to).whole
envelope_event c i s (TheWorker w) m sent leases k =
    at_test (λ b. is_live_worker (worker_at c w) ≡ b → KeepsSlots (if b then worker_does c w (λ h. reached h s m) else moved c).whole)
    (is_live_worker (worker_at c w))
    (λ _ e. worker_turns c w (λ h. reached h s m) (λ x at node home t. reached_turns c i w s x at node home (ap is_live_worker (sym at) ∙ e) leases m sent t) k)
    (λ _ _. k) refl
envelope_event c i s (TheNode n) m sent leases k =
    at_test (λ b. KeepsSlots (if b then node_does c n (λ h. node_reached h s m) else moved c).whole) (is_live_node (node_at c n))
    (λ _. node_turns c n (λ h. node_reached h s m) Anyone (λ t. reached_lose t s m) (λ w y at live. tt) k) (λ _. k)

deliver_event : (c : ClusterState) (i : ℕ) (l : Option Envelope) → item_at c.network i ≡ l → KeepsLeases c → KeepsSlots c → KeepsSlots (delivered_by c i l).whole
deliver_event c i None at leases k = k
deliver_event c i (Some x) at leases k =
    envelope_event (with_delivered c i) i x.sender x.receiver x.message at (record { workers = leases.workers; nodes = leases.nodes; homes = leases.homes }) k

-- ---- deaths

not_dead : (x y : Worker) → y ≡ dead x → y.is_live ≡ true → ⊥
not_dead x y e live = both_ways y.is_live (ap (λ (z : Worker). z.is_live) e) live

kill_event : (c : ClusterState) (w : ℕ) (o : Option Worker) → worker_at c w ≡ o → KeepsSlots c → KeepsSlots (killed_by c w o).whole
kill_event c w None at k = k
kill_event c w (Some x) at k =
    let d : ClusterState = record c { workers = changed_at c.workers w dead } in
    node_turns d x.node (λ t. forgets t w) (Others w) (λ t. forgets_lose t w)
    (λ v y there live same. elim (changed_cases c.workers w v dead y there) [ inl (_, z, _, is) ↦ not_dead z y is live | inr (apart, _) ↦ apart (sym same) ])
    (λ n node e. turns_after Anyone (worker_at c) (worker_at d) n node.scheduler node.scheduler
    (λ v y there live. elim (changed_cases c.workers w v dead y there) [
      | inl (_, z, _, is) ↦ absurd (not_dead z y is live)
      | inr (_, before) ↦ inl
          (before, tt)
    ])
    (record { slot_holders = λ v _ i. i; answered = λ v _ i. inr i }) (k n node e))

survivor : (x y : Worker) (b : Bool) → y ≡ (if b then dead x else x) → y.is_live ≡ true → x ≡ y
survivor x y true e live = absurd (not_dead x y e live)
survivor x y false e live = sym e

kill_node_event : (c : ClusterState) (n : ℕ) (f : Node → Node) → ((node : Node) → (f node).scheduler ≡ node.scheduler) → KeepsSlots c →
    KeepsSlots (record c { nodes = changed_at c.nodes n f; workers = map (dies_with n) c.workers })
kill_node_event c n f same k m node e =
    let next : Look = λ w. item_at (map (dies_with n) c.workers) w in
    let of_node : (old : Node) → node_at c m ≡ Some old → node.scheduler ≡ old.scheduler → HasTurn next m node.scheduler = λ old at is.
    subst (HasTurn next m) (sym is)
    (turns_after Anyone (worker_at c) next m old.scheduler old.scheduler
    (λ w y there live.
    let r = item_mapped (dies_with n) c.workers w y there in
    inl (subst (λ z. worker_at c w ≡ Some z) (survivor r.0 y (r.0.node == n) r.2 live) r.1, tt))
    (record { slot_holders = λ v _ i. i; answered = λ v _ i. inr i }) (k m old at)) in
    elim (changed_cases c.nodes n m f node e) [
      | inl (_, old, at, is) ↦ of_node old at (ap (λ (y : Node). y.scheduler) is ∙ same old)
      | inr (_, at) ↦ of_node node at refl
    ]

store_event : (c : ClusterState) (n : ℕ) (f : Node → Node) → ((node : Node) → (f node).scheduler ≡ node.scheduler) → KeepsSlots c →
    KeepsSlots (record c { nodes = changed_at c.nodes n f })
store_event c n f same k m node e = elim (changed_cases c.nodes n m f node e) [
  | inl (_, old, at, is) ↦ subst (HasTurn (worker_at c) m) (sym (ap (λ (y : Node). y.scheduler) is ∙ same old)) (k m old at)
  | inr (_, at) ↦ k m node at
]

-- nobody is on a node that comes
join_event : (c : ClusterState) → KeepsLeases c → KeepsSlots c → KeepsSlots (record c { nodes = c.nodes ++ new_node c.slots ∷ [] })
join_event c leases k n node e = elim (push_cases c.nodes n (new_node c.slots) node e) [
  | inl old ↦ k n node old
  | inr (last, is) ↦ subst (λ (x : Node). HasTurn (worker_at c) n x.scheduler) is (nobody n (nothing_past c.nodes n (omega (arith, last))))
]
  where
    nobody : (n : ℕ) → node_at c n ≡ None → HasTurn (worker_at c) n (new_scheduler c.slots)
    nobody n none =
        let absent : (w : ℕ) (x : Worker) → worker_at c w ≡ Some x → x.node ≡ n → ⊥ = λ w x at home.
        let h = leases.homes w x at in let f : node_at c n ≡ Some h.0 = ap (node_at c) (sym home) ∙ h.1 in not_there (node_at c n) h.0 none f in
        record { out = λ w x j at home live out. absurd (absent w x at home); ready = λ w x at home live ready. absurd (absent w x at home) }
      where
        not_there : (o : Option Node) (x : Node) → o ≡ None → o ≡ Some x → ⊥
        not_there o x e f = cc

-- ---- every event

pub happens_turns : (c : ClusterState) (e : Event) (handed : CommitInput) → refusal c e handed ≡ None → KeepsLeases c → KeepsSlots c → KeepsSlots (happens c e handed).whole
happens_turns c (Claim w) handed e leases k = claim_event c w e k
happens_turns c (Commit j) handed e leases k = commit_event c j handed (item_at c.jobs j) e k
happens_turns c (Deliver i) handed e leases k = deliver_event c i (item_at c.network i) refl leases k
happens_turns c (Tick w) handed e leases k =
    worker_turns c w tick_step (λ x at node home t. tick_step-kept AnyTold AnyOver GivenBy AnyPassed (Turns c w x.node x at)
    (turns_kept c w x.node x at AnyTold AnyOver GivenBy) (here c w x node) t) k
happens_turns c (Notice w v) handed e leases k =
    worker_turns c w (λ h. notice_step h v) (λ x at node home t. notice_step-kept AnyTold AnyOver GivenBy AnyPassed (Turns c w x.node x at)
    (turns_kept c w x.node x at AnyTold AnyOver GivenBy) (here c w x node) v t) k
happens_turns c (NoticeNode w n) handed e leases k =
    worker_turns c w (λ h. notice_node_step h n) (λ x at node home t. notice_node_step-kept AnyTold AnyOver GivenBy AnyPassed (Turns c w x.node x at)
    (turns_kept c w x.node x at AnyTold AnyOver GivenBy) (here c w x node) n (λ a i. tt) t) k
happens_turns c (Evict n o) handed e leases k = store_event c n _ (λ _. refl) k
happens_turns c (Lose n o) handed e leases k = store_event c n _ (λ _. refl) k
happens_turns c (Kill w) handed e leases k = kill_event c w (worker_at c w) refl k
happens_turns c (KillNode n) handed e leases k = kill_node_event c n _ (λ _. refl) k
happens_turns c Join handed e leases k = join_event c leases k

limited_turns : (c : ClusterState) (m : Transition) (b : Bool) (given : Option Job) → KeepsSlots c → KeepsSlots m.whole →
    KeepsSlots (whole_after c (if b then takes m given else Refuses Limit))
limited_turns c m true given k l = l
limited_turns c m false given k l = k

decided_turns : (c : ClusterState) (e : Event) (handed : CommitInput) (code : Option Refusal) → refusal c e handed ≡ code → KeepsLeases c → KeepsSlots c →
    KeepsSlots (whole_after c (decided c e handed code))
decided_turns c e handed None unrefused leases k =
    limited_turns c (happens c e handed) (is_within_limits (happens c e handed).whole) (given_out c e) k (happens_turns c e handed unrefused leases k)
decided_turns c e handed (Some code) refused leases k = k

pub events_keep_turns : (c : ClusterState) (e : Event) (handed : CommitInput) → KeepsLeases c → KeepsSlots c → KeepsSlots (whole_after c (answer c e handed))
events_keep_turns c e handed leases k = decided_turns c e handed (refusal c e handed) refl leases k
