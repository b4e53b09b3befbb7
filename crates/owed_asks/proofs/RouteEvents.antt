-- Every event sends asks as it should.
use Rattle.std.proofs.Common.{◌≡◌, ℕ, zero, suc, ◌+◌, List, [], ◌∷◌, ◌++◌, length, map, Some, None, Option, refl, ap, sym, subst, ◌∙◌, inl, inr, append-nil}
use Rattle.std.specs.Prelude.{Bool, true, false, if◌then◌else◌, not, ◌&&◌, ◌==◌}
use Rattle.std.specs.List.{list_any}
use Rattle.meaning.proofs.BirthLaws.{at_test}
use Rattle.meaning.specs.Values.{Birth, Outcome}
use Rattle.event_log.specs.Commits.{commit_entries}
use Rattle.event_log.specs.Entries.{Attempt, Entry, Event, Claim, Commit, Deliver, Tick, Notice, NoticeNode, Evict, Lose, Kill, KillNode, Join}
use Rattle.event_log.specs.Entries.{Refusal, Limit}
use Rattle.event_log.specs.Words.{same_attempt}
use Rattle.event_log.specs.Breaks.{Among}
use Rattle.protocol.specs.Numbered.{item_at, changed_at}
use Rattle.protocol.specs.Sets.{repeated}
use Rattle.protocol.specs.Messages.{Envelope, envelope, Message, Endpoint, TheWorker, TheNode, Ask, Give, Elsewhere, Wait, Back, Push, Finished, FinishedAck, Failed}
use Rattle.protocol.specs.Messages.{Where, At, Gone, Fetch, CopyOf, Missing, Hold, HoldAck, Unhold}
use Rattle.protocol.specs.Jobs.{AtEnd, AtGet, JobRecord, CommitInput, Job, Nothing, OfAnother, OfJob, Outcomes, Stopped, stop_of}
use Rattle.protocol.specs.Nodes.{Node, NodeContext}
use Rattle.protocol.specs.Slots.{forgets, node_reached}
use Rattle.protocol.specs.Tables.{HasEnded, Out, OwnTask, Execution, Waits, Worker, new_worker, task_of}
use Rattle.protocol.specs.Steps.{WorkerContext, logs_all, with_phase, with_run}
use Rattle.protocol.specs.Runs.{begins_run, is_free, leaves_if_free, push_reached}
use Rattle.protocol.specs.Commits.{keeps_contents, bears_all, claim_by, claim_step, commit_by, commit_step, ends, next_id_here, stops_by, with_outcomes}
use Rattle.protocol.specs.Notices.{notice_step, notice_node_step}
use Rattle.protocol.specs.Ticks.{tick_step}
use Rattle.protocol.specs.Releases.{release_step}
use Rattle.protocol.specs.Deliveries.{reached}
use Rattle.protocol.specs.Cluster.{ClusterState, Transition, first_whole, here, moved, node_at, node_does, node_does_by, there, worker_at, worker_does, after_node}
use Rattle.protocol.specs.Cluster.{worker_does_at, worker_does_by}
use Rattle.protocol.specs.Events.{committed_by, dead, delivered_by, delivered_to, dies_with, happens, is_live_node, is_live_worker, killed_by, with_committed, objects_made}
use Rattle.protocol.specs.Events.{with_delivered}
use Rattle.protocol.specs.Answers.{Refuses, answer, decided, given_out, takes, whole_after}
use Rattle.protocol.specs.Refusals.{is_within_limits, refusal}
use Rattle.protocol_owed.proofs.Nodes.{changed_cases}
use Rattle.protocol_owed.proofs.CourseEvents.{append_split, one_of}
use Rattle.protocol_owed.proofs.Envelopes.{among-more, among-nothing}
use Rattle.smallest_steps.proofs.Smallest.{AnyOver, AnyPassed, AnyTold}
use Rattle.lease_discipline.proofs.Tame.{item_mapped}
use Rattle.lease_discipline.proofs.Moves.{IsHeardFrom, IsKept, bears_all-kept, keeps_contents-kept, leaves_if_free-kept, needs-kept, notice_node_step-kept}
use Rattle.lease_discipline.proofs.Moves.{notice_step-kept, reached-kept, release_step-kept, tick_step-kept}
use Rattle.lease_discipline.proofs.Opening.{only_driver}
use Rattle.lease_discipline.proofs.TurnEvents.{GivenBy}
use Rattle.owed_asks.specs.Routes.{AsksFollow, IsRouted, KeepsRoutes, OwnerAsks}
use Rattle.smallest_steps.proofs.NodeMoves.{KeepsThere, forgets-kept, node_reached-kept}
use Rattle.owed_asks.proofs.Routing.{AsksNothing, NodeSays, Routes, RoutesOf, asked_more, node_quiet, nothing_yet, owner_more, owner_same, routes_kept}
use Rattle.owed_asks.proofs.Routing.{same_routes, says_kept, slot_back_routes}

-- ---- a node is put back, with what it made

new_asks : (sent : List Envelope) (v m : ℕ) → OwnerAsks sent v (new_worker m)
new_asks sent v m = record { standing = λ k task t n e _. absurd (no_task k task e); first = λ k task e _ _. absurd (no_task k task e) }
  where
    no_task : (k : ℕ) (task : OwnTask) → task_of (item_at (new_worker m).objects k) ≡ Some task → ⊥
    no_task zero task e = cc
    no_task (suc i) task e = cc

module _ (d : ClusterState) (n : ℕ) (t : NodeContext) (envelopes : (l : Envelope) → Among l (d.network ++ t.out.envelopes) → IsRouted l)
    (follow : AsksFollow (d.network ++ t.out.envelopes))
    (owners : (v : ℕ) (x : Worker) → worker_at d v ≡ Some x → OwnerAsks (d.network ++ t.out.envelopes) v x) where
  routes_end : KeepsRoutes (after_node d n t).whole
  routes_end = record {
    envelopes = envelopes;
    follow = follow;
    owners = λ v y e. elim (append_split d.workers (repeated t.opened (new_worker n)) v y e) [
      | inl f ↦ owners v y f
      | inr (_, (i, f)) ↦ subst (OwnerAsks (d.network ++ t.out.envelopes) v) (one_of i t.opened v (new_worker n) y f) (new_asks
          (d.network ++ t.out.envelopes) v n)
    ];
  }

node_routes : (d : ClusterState) (n : ℕ) (f : NodeContext → NodeContext) → ((Q : NodeContext → Type 0) → KeepsThere Q → (t : NodeContext) → Q t → Q (f t)) → KeepsRoutes d →
    KeepsRoutes (node_does d n f).whole
node_routes d n f moves k = by_node (node_at d n)
  where
    by_node : (o : Option Node) → KeepsRoutes (node_does_by d n f o).whole
    by_node None = k
    by_node (Some node) =
        let t : NodeContext = f (there d n node) in
        let says : NodeSays d n n [] t = moves (NodeSays d n n []) (says_kept d n n []) (there d n node) (nothing_yet d n n (there d n node)) in
        let quiet : AsksNothing d.network (d.network ++ t.out.envelopes) =
        subst (λ ls. AsksNothing ls (d.network ++ t.out.envelopes)) (append-nil d.network) (node_quiet d n n [] t says) in
        routes_end d n t (λ l e. elim (quiet.routed l e) [ inl old ↦ k.envelopes l old | inr new ↦ new ])
        (λ a i m e. let g = k.follow a i m (quiet.asked a (i + 1) m e) in (g.0, asked_more d.network (d.network ++ t.out.envelopes) a i g.0 quiet.more g.1))
        (λ v x at. owner_more d.network (d.network ++ t.out.envelopes) v x quiet.more (k.owners v x at))

-- ---- an event of a worker

abbrev Steps : ClusterState → ℕ → (WorkerContext → WorkerContext) → Type 0
Steps c w f = (x : Worker) (node : Node) → Routes c w x.node (here c w x node) → Routes c w x.node (f (here c w x node))

worker_routes : (c : ClusterState) (w : ℕ) (f : WorkerContext → WorkerContext) → Steps c w f → KeepsRoutes c → KeepsRoutes (worker_does c w f).whole
worker_routes c w f steps k = by_worker (worker_at c w) refl
  where
    with_node : (x : Worker) → worker_at c w ≡ Some x → (node : Node) → KeepsRoutes (worker_does_at c w x f (Some node)).whole
    with_node x at node =
        let start : WorkerContext = here c w x node in
        let begins : Routes c w x.node start = subst (λ ls. RoutesOf c w x.node w x ls) (sym (append-nil c.network))
        (record { who = refl; home = refl; envelopes = k.envelopes; follow = k.follow; mine = k.owners w x at }) in
        let g : WorkerContext = release_step (f start) in
        let a : Routes c w x.node g = release_step-kept AnyTold AnyOver GivenBy AnyPassed (Routes c w x.node)
        (routes_kept c w x.node AnyTold AnyOver GivenBy) (f start)
        (steps x node begins) in
        routes_end (record c { workers = changed_at c.workers w (λ _. g.worker) }) x.node g.there a.envelopes a.follow
        (λ v y e. elim (changed_cases c.workers w v (λ _. g.worker) y e) [
          | inl (same, _, _, is) ↦ subst (λ i. OwnerAsks (c.network ++ g.there.out.envelopes) i y) (sym same)
              (subst (OwnerAsks (c.network ++ g.there.out.envelopes) w) (sym is) a.mine)
          | inr (_, before) ↦ owner_more c.network (c.network ++ g.there.out.envelopes) v y (λ l. among-more c.network g.there.out.envelopes l)
              (k.owners v y before)
        ])

    by_node : (x : Worker) → worker_at c w ≡ Some x → (o : Option Node) → KeepsRoutes (worker_does_at c w x f o).whole
    by_node x at None = k
    by_node x at (Some node) = with_node x at node

    by_worker : (o : Option Worker) → worker_at c w ≡ o → KeepsRoutes (worker_does_by c w f o).whole
    by_worker None at = k
    by_worker (Some x) at = by_node x at (node_at c x.node)

module _ (c : ClusterState) (me n : ℕ) where
  abbrev R : WorkerContext → Type 0
  R = Routes c me n

  abbrev R_kept : IsKept AnyTold AnyOver GivenBy AnyPassed R
  R_kept = routes_kept c me n AnyTold AnyOver GivenBy

  same : (h : WorkerContext) (y : Worker) → y.node ≡ h.worker.node → y.objects ≡ h.worker.objects → R h → RoutesOf c me n h.me y (c.network ++ h.there.out.envelopes)
  same h y node e q = same_routes c me n h.me h.worker y (c.network ++ h.there.out.envelopes) node (λ k. ap (λ ys. task_of (item_at ys k)) e) q

  push_routes : (h : WorkerContext) (a : Attempt) (spec : Birth) → R h → R (push_reached h a spec)
  push_routes h a spec q =
      at_test (λ b. R (if b then begins_run h a spec else h)) (is_free h.worker.run && not (list_any (λ b. same_attempt b a) h.worker.began))
      (λ _. same h (begins_run h a spec).worker refl refl q) (λ _. q)

  claim_routes : (h : WorkerContext) (j : ℕ) → R h → R (claim_step h j)
  claim_routes h j q = by_run h.worker.run
    where
      by_run : (r : Option Execution) → R (claim_by h j r)
      by_run None = q
      by_run (Some run) = same h (with_phase h run (Out j)).worker refl refl q

  ends_routes : (h : WorkerContext) (run : Execution) (cs : List Outcome) → R h → R (ends h run cs)
  ends_routes h run cs q =
      let g : WorkerContext = with_phase h run (HasEnded cs) in
      let held : WorkerContext = keeps_contents g run.attempt.object run.attempt.number cs in
      slot_back_routes c me n (leaves_if_free held)
      (leaves_if_free-kept AnyTold AnyOver GivenBy AnyPassed R R_kept held
      (keeps_contents-kept AnyTold AnyOver GivenBy AnyPassed R R_kept g run.attempt.object run.attempt.number cs (same h g.worker refl refl q)))

  stops_routes : (h : WorkerContext) (stop : Stopped) (r : Option Execution) → R h → R (stops_by h stop r)
  stops_routes h stop None q = q
  stops_routes h (AtGet y) (Some run) q = needs-kept AnyTold AnyOver GivenBy AnyPassed R R_kept h run y (same h (with_phase h run
      (Waits y None)).worker refl refl q)
  stops_routes h (AtEnd cs) (Some run) q = ends_routes h run cs q

  commit_routes : (h : WorkerContext) (o : Outcomes) → R h → R (commit_step h o)
  commit_routes h o q = by_run h.worker.run
    where
      by_run : (r : Option Execution) → R (commit_by h o r)
      by_run None = q
      by_run (Some run) =
          let es : List Entry = commit_entries run.attempt (next_id_here h) o.births o.prints (stop_of o.stop) in
          let g : WorkerContext = logs_all (with_run h (with_outcomes run o)) es in
          let borne : WorkerContext = bears_all g run.attempt o.births in
          stops_routes borne o.stop borne.worker.run
          (bears_all-kept AnyTold AnyOver GivenBy AnyPassed R R_kept g run.attempt o.births (same h (with_run h (with_outcomes run o)).worker refl refl q))

  heard_worker : (h : WorkerContext) (u : ℕ) (m : Message) → R h → IsHeardFrom AnyTold AnyOver GivenBy AnyPassed R R_kept h (TheWorker u) m
  heard_worker h u (Push a spec) q = push_routes h a spec q
  heard_worker h u (Finished a k rs) q = tt
  heard_worker h u (Failed a f) q = tt
  heard_worker h u (FinishedAck a) q = tt
  heard_worker h u (Ask a j) q = tt
  heard_worker h u (Give a j v) q = tt
  heard_worker h u (Elsewhere a j k) q = tt
  heard_worker h u (Wait a j) q = tt
  heard_worker h u (Back a) q = tt
  heard_worker h u (Where o) q = tt
  heard_worker h u (At o number ns kept) q = tt
  heard_worker h u (Gone o f) q = tt
  heard_worker h u (Fetch o number) q = tt
  heard_worker h u (CopyOf o number b) q = tt
  heard_worker h u (Missing o number k) q = tt
  heard_worker h u (Hold e o) q = tt
  heard_worker h u (HoldAck e o) q = tt
  heard_worker h u (Unhold e o why) q = tt

  heard_node : (h : WorkerContext) (k : ℕ) (m : Message) → IsHeardFrom AnyTold AnyOver GivenBy AnyPassed R R_kept h (TheNode k) m
  heard_node h k (Give a j v) = λ _. tt
  heard_node h k (Push a spec) = tt
  heard_node h k (Finished a m rs) = tt
  heard_node h k (Failed a f) = tt
  heard_node h k (FinishedAck a) = tt
  heard_node h k (Ask a j) = tt
  heard_node h k (Elsewhere a j m) = λ own i _ _ _ _. tt
  heard_node h k (Wait a j) = tt
  heard_node h k (Back a) = tt
  heard_node h k (Where o) = tt
  heard_node h k (At o number ns kept) = tt
  heard_node h k (Gone o f) = tt
  heard_node h k (Fetch o number) = tt
  heard_node h k (CopyOf o number b) = tt
  heard_node h k (Missing o number m) = tt
  heard_node h k (Hold e o) = tt
  heard_node h k (HoldAck e o) = tt
  heard_node h k (Unhold e o why) = tt

  reached_routes : (h : WorkerContext) (from : Endpoint) (m : Message) → R h → R (reached h from m)
  reached_routes h (TheWorker u) m q = reached-kept AnyTold AnyOver GivenBy AnyPassed R R_kept h (TheWorker u) m (heard_worker h u m q) q
  reached_routes h (TheNode k) m q = reached-kept AnyTold AnyOver GivenBy AnyPassed R R_kept h (TheNode k) m (heard_node h k m) q

-- ---- each event

envelope_event : (c : ClusterState) (s to : Endpoint) (m : Message) → KeepsRoutes c → KeepsRoutes (delivered_to c (envelope s to m) to).whole
envelope_event c s (TheWorker w) m k =
    at_test (λ b. KeepsRoutes (if b then worker_does c w (λ h. reached h s m) else moved c).whole) (is_live_worker (worker_at c w))
    (λ _. worker_routes c w (λ h. reached h s m) (λ x node q. reached_routes c w x.node (here c w x node) s m q) k) (λ _. k)
envelope_event c s (TheNode n) m k =
    at_test (λ b. KeepsRoutes (if b then node_does c n (λ h. node_reached h s m) else moved c).whole) (is_live_node (node_at c n))
    (λ _. node_routes c n (λ h. node_reached h s m) (λ Q kept t q. node_reached-kept Q kept t s m q) k) (λ _. k)

deliver_event : (c : ClusterState) (i : ℕ) (l : Option Envelope) → KeepsRoutes c → KeepsRoutes (delivered_by c i l).whole
deliver_event c i None k = k
deliver_event c i (Some x) k =
    envelope_event (with_delivered c i) x.sender x.receiver x.message (record { envelopes = k.envelopes; follow = k.follow; owners = k.owners })

commit_event : (c : ClusterState) (j : ℕ) (handed : CommitInput) (g : Option JobRecord) → KeepsRoutes c → KeepsRoutes (committed_by c j handed g).whole
commit_event c j Nothing g k = k
commit_event c j OfAnother g k = k
commit_event c j (OfJob o) None k = k
commit_event c j (OfJob o) (Some g) k =
    let d : ClusterState = with_committed c j (objects_made o.births) in
    worker_routes d g.worker (λ h. commit_step h o) (λ x node q. commit_routes d g.worker x.node (here d g.worker x node) o q)
    (record { envelopes = k.envelopes; follow = k.follow; owners = k.owners })

-- the same routes beside workers that changed otherwise
changed_routes : (c : ClusterState) (workers : List Worker) (nodes : List Node) →
    ((v : ℕ) (y : Worker) → item_at workers v ≡ Some y → (x : Worker) × (worker_at c v ≡ Some x) × (y.objects ≡ x.objects) × (y.node ≡ x.node)) →
    KeepsRoutes c → KeepsRoutes (record c { workers = workers; nodes = nodes })
changed_routes c workers nodes back k = record {
  envelopes = k.envelopes;
  follow = k.follow;
  owners = λ v y e.
      let b = back v y e in
      owner_same c.network v b.0 y b.3 (λ i. ap (λ ys. task_of (item_at ys i)) b.2) (k.owners v b.0 b.1);
}

dies_same : (x : Worker) (b : Bool) → ((if b then dead x else x).objects ≡ x.objects) × ((if b then dead x else x).node ≡ x.node)
dies_same x true = (refl, refl)
dies_same x false = (refl, refl)

kill_event : (c : ClusterState) (w : ℕ) (o : Option Worker) → KeepsRoutes c → KeepsRoutes (killed_by c w o).whole
kill_event c w None k = k
kill_event c w (Some x) k =
    let workers : List Worker = changed_at c.workers w dead in
    node_routes (record c { workers = workers }) x.node (λ t. forgets t w) (λ Q kept t q. forgets-kept Q kept t w q)
    (changed_routes c workers c.nodes (λ v y e. elim (changed_cases c.workers w v dead y e) [
      | inl (_, z, at, is) ↦ (z, at, ap (λ (u : Worker). u.objects) is, ap (λ (u : Worker). u.node) is)
      | inr (_, at) ↦ (y, at, refl, refl)
    ]) k)

kill_node_event : (c : ClusterState) (n : ℕ) (nodes : List Node) → KeepsRoutes c → KeepsRoutes (record c { workers = map (dies_with n) c.workers; nodes = nodes })
kill_node_event c n nodes k =
    changed_routes c (map (dies_with n) c.workers) nodes (λ v y e.
    let r = item_mapped (dies_with n) c.workers v y e in
    let d = dies_same r.0 (r.0.node == n) in
    (r.0, r.1, ap (λ (u : Worker). u.objects) r.2 ∙ d.0, ap (λ (u : Worker). u.node) r.2 ∙ d.1)) k

happens_routes : (c : ClusterState) (e : Event) (handed : CommitInput) → KeepsRoutes c → KeepsRoutes (happens c e handed).whole
happens_routes c (Claim w) handed k =
    let d : ClusterState = record c { jobs = c.jobs ++ record { worker = w; is_committed = false } ∷ [] } in
    worker_routes d w (λ h. claim_step h (length c.jobs + 1)) (λ x node q. claim_routes d w x.node (here d w x node) (length c.jobs + 1) q)
    (record { envelopes = k.envelopes; follow = k.follow; owners = k.owners })
happens_routes c (Commit j) handed k = commit_event c j handed (item_at c.jobs j) k
happens_routes c (Deliver i) handed k = deliver_event c i (item_at c.network i) k
happens_routes c (Tick w) handed k =
    worker_routes c w tick_step (λ x node q. tick_step-kept AnyTold AnyOver GivenBy AnyPassed (Routes c w x.node) (routes_kept c w x.node AnyTold AnyOver GivenBy)
    (here c w x node) q) k
happens_routes c (Notice w v) handed k =
    worker_routes c w (λ h. notice_step h v) (λ x node q. notice_step-kept AnyTold AnyOver GivenBy AnyPassed (Routes c w x.node)
    (routes_kept c w x.node AnyTold AnyOver GivenBy) (here c w x node) v q) k
happens_routes c (NoticeNode w n) handed k =
    worker_routes c w (λ h. notice_node_step h n) (λ x node q. notice_node_step-kept AnyTold AnyOver GivenBy AnyPassed (Routes c w x.node)
    (routes_kept c w x.node AnyTold AnyOver GivenBy) (here c w x node) n (λ a t. tt) q) k
happens_routes c (Evict n o) handed k = record { envelopes = k.envelopes; follow = k.follow; owners = k.owners }
happens_routes c (Lose n o) handed k = record { envelopes = k.envelopes; follow = k.follow; owners = k.owners }
happens_routes c (Kill w) handed k = kill_event c w (worker_at c w) k
happens_routes c (KillNode n) handed k = kill_node_event c n _ k
happens_routes c Join handed k = record { envelopes = k.envelopes; follow = k.follow; owners = k.owners }

limited_routes : (c : ClusterState) (m : Transition) (b : Bool) (given : Option Job) → KeepsRoutes c → KeepsRoutes m.whole →
    KeepsRoutes (whole_after c (if b then takes m given else Refuses Limit))
limited_routes c m true given k l = l
limited_routes c m false given k l = k

decided_routes : (c : ClusterState) (e : Event) (handed : CommitInput) (code : Option Refusal) → KeepsRoutes c → KeepsRoutes (whole_after c (decided c e handed code))
decided_routes c e handed None k =
    limited_routes c (happens c e handed) (is_within_limits (happens c e handed).whole) (given_out c e) k (happens_routes c e handed k)
decided_routes c e handed (Some code) k = k

pub events_keep_routes : (c : ClusterState) (e : Event) (handed : CommitInput) → KeepsRoutes c → KeepsRoutes (whole_after c (answer c e handed))
events_keep_routes c e handed k = decided_routes c e handed (refusal c e handed) k

-- ---- the opening

pub opening_keeps_routes : (nodes slots : ℕ) → KeepsRoutes (first_whole nodes slots)
opening_keeps_routes nodes slots = record {
  envelopes = λ l e. absurd (among-nothing l e);
  follow = λ a t n e. absurd (among-nothing _ e.1);
  owners = λ v x e. record {
    standing = λ k task t n at _. absurd (no_task v x e k task at);
    first = λ k task at _ _. absurd (no_task v x e k task at);
  };
}
  where
    none : (k : ℕ) (task : OwnTask) → task_of (item_at (new_worker 1).objects k) ≡ Some task → ⊥
    none zero task e = cc
    none (suc i) task e = cc

    no_task : (v : ℕ) (x : Worker) → worker_at (first_whole nodes slots) v ≡ Some x → (k : ℕ) (task : OwnTask) → task_of (item_at x.objects k) ≡ Some task → ⊥
    no_task v x e k task at = none k task (ap (λ (z : Worker). task_of (item_at z.objects k)) (only_driver v x e).1 ∙ at)
