-- Asks are in order in every run.
use Rattle.std.proofs.Common.{◌≡◌, ℕ, zero, suc, ◌+◌, List, [], ◌∷◌, ◌++◌, length, map, Some, None, Option, refl, ap, sym, subst, ◌∙◌, ◌⊎◌}
use Rattle.std.proofs.Common.{inl, inr}
use Rattle.std.specs.Prelude.{Bool, true, false, if◌then◌else◌, not, ◌==◌}
use Rattle.meaning.proofs.BirthLaws.{at_test}
use Rattle.event_log.specs.Entries.{Attempt, Event, Claim, Commit, Deliver, Tick, Notice, NoticeNode, Evict, Lose, Kill, KillNode, Join}
use Rattle.event_log.specs.Entries.{Refusal, NotDead, Limit}
use Rattle.event_log.specs.Breaks.{Among}
use Rattle.protocol_laws.specs.of_protocol.Numbered.{item_at, changed_at}
use Rattle.protocol_laws.specs.of_protocol.Sets.{repeated}
use Rattle.protocol_laws.specs.of_protocol.Messages.{Envelope, envelope, Message, Endpoint, TheWorker, TheNode, Ask, Give, Elsewhere, Wait, Back, Push, Finished, FinishedAck, Failed}
use Rattle.protocol_laws.specs.of_protocol.Messages.{Where, At, Gone, Fetch, CopyOf, Missing, Hold, HoldAck, Unhold}
use Rattle.protocol_laws.specs.of_protocol.Jobs.{JobRecord, CommitInput, Job, Nothing, OfAnother, OfJob}
use Rattle.protocol_laws.specs.of_protocol.Nodes.{AskKey, AskReply, Node, NodeContext, new_node}
use Rattle.meaning.specs.Values.{Outcome}
use Rattle.protocol_laws.specs.of_protocol.Nodes.{with_scheduler}
use Rattle.protocol_laws.specs.of_protocol.Stores.{copy_in}
use Rattle.protocol_laws.specs.of_protocol.Slots.{fetched, may_be_idle, with_idle}
use Rattle.protocol_laws.specs.of_protocol.Slots.{ask_key, forgets, node_reached, reply_to}
use Rattle.protocol_laws.specs.of_protocol.Tables.{OwnTask, Worker, task_of}
use Rattle.protocol_laws.specs.of_protocol.Cluster.{ClusterState, Transition, driver, first_whole, here, moved, node_at, node_does, node_does_by, there, worker_at, worker_does}
use Rattle.protocol_laws.specs.of_protocol.Commits.{claim_step, commit_step}
use Rattle.protocol_laws.specs.of_protocol.Notices.{notice_step, notice_node_step}
use Rattle.protocol_laws.specs.of_protocol.Ticks.{tick_step}
use Rattle.protocol_laws.specs.of_protocol.Deliveries.{reached}
use Rattle.protocol_laws.specs.of_protocol.Events.{committed_by, with_committed, delivered_by, delivered_to, with_delivered, is_live_worker, is_live_node, killed_by, objects_made}
use Rattle.protocol_laws.specs.of_protocol.Events.{dead, dies_with, happens}
use Rattle.protocol_laws.specs.of_protocol.Answers.{Refuses, decided, takes, given_out, whole_after}
use Rattle.protocol_laws.specs.of_protocol.Refusals.{is_dead_node, is_within_limits, no_worker, refusal, unless}
use Rattle.protocol_laws.specs.of_protocol_owed.Runs.{Handing, Running, after_event, after_events, opening_run}
use Rattle.protocol_laws.proofs.of_protocol_owed.CourseAll.{both_passed, passed}
use Rattle.protocol_laws.proofs.of_protocol_owed.Envelopes.{among-append_cases, among-more, among-nothing, among-push_cases}
use Rattle.protocol_laws.proofs.of_protocol_owed.Moves as M
use Rattle.protocol_laws.proofs.of_protocol_owed.Nodes as N
use Rattle.protocol_laws.proofs.of_protocol_owed.Nodes.{NodesAreRight, answered-right, changed_cases, there_more, there_still}
use Rattle.protocol_laws.proofs.of_protocol_owed.NodeMoves.{IsKeptThere, forgets-kept, node_reached-kept}
use Rattle.protocol_laws.proofs.of_protocol_owed.Opening.{opens-right}
use Rattle.lease_discipline.specs.Asks as A
use Rattle.lease_discipline.specs.Asks.{IsDeadNode, KeepsAsks, LawOfLastAsks, OwnsAsks}
use Rattle.lease_discipline.specs.Discipline.{KeepsLeases, Pushed}
use Rattle.lease_discipline.proofs.Tame.{item_mapped}
use Rattle.lease_discipline.proofs.Moves.{notice_step-kept, notice_node_step-kept, tick_step-kept}
use Rattle.lease_discipline.proofs.Asking.{Asks, GivenOf, OverBy, PassedBy, ToldOf, TouchesOnly, Nobody, asks_kept, closed_more, owns_more, owns_same}
use Rattle.lease_discipline.proofs.Asking.{touched_before}
use Rattle.lease_discipline.proofs.AskEvents.{asked_keys, asks_end, claim_asks, commit_asks, forgets_keys, last_dead, owns_dead, reached_asks}
use Rattle.lease_discipline.proofs.AskEvents.{worker_event}
use Rattle.protocol_laws.proofs.of_step_laws.Places.{counted}
use Rattle.protocol_laws.proofs.of_protocol_owed.CourseEvents.{one_of}
use Rattle.lease_discipline.proofs.Events.{among_at, events_keep, item_map}
use Rattle.lease_discipline.proofs.Opening.{only_driver, opens}
use Rattle.lease_discipline.proofs.Turns.{sch}

-- ---- an event of a node

abbrev Says : NodeContext → Type 0
Says t = (l : Envelope) → Among l t.out.envelopes → (k : ℕ) × (l.sender ≡ TheNode k)

says_only : IsKeptThere Says
says_only = record {
  opens = λ t w q. q;
  says = λ t w m q l e. elim (among-push_cases t.out.envelopes _ l e) [ inl f ↦ q l f | inr f ↦ (t.number, ap (λ (x : Envelope). x.sender) f) ];
  scheduler = λ t s q. q;
  store = λ t s q. q;
}

no_node : (u k : ℕ) → ◌≡◌ {A = Endpoint} (TheWorker u) (TheNode k) → ⊥
no_node u k e = cc

says_quiet : (net : List Envelope) (t : NodeContext) → Says t → TouchesOnly Nobody net (net ++ t.out.envelopes)
says_quiet net t q = record {
  more = λ l e. among-more net t.out.envelopes l e;
  asked = λ a i n e. elim (among-append_cases net t.out.envelopes _ e.1) [ inl f ↦ inl (e.0, f) | inr f ↦ let s = q _ f in absurd (no_node e.0 s.0 s.1) ];
  pushed = λ a w e. elim (among-append_cases net t.out.envelopes _ e.2) [ inl f ↦ inl (e.0, e.1, f) | inr f ↦ let s = q _ f in absurd (no_node e.0 s.0 s.1) ];
}

abbrev Alive : Bool → NodeContext → Type 0
Alive b t = t.node.is_live ≡ b

alive_kept : (b : Bool) → IsKeptThere (Alive b)
alive_kept b = record { opens = λ t w e. e; says = λ t w m e. e; scheduler = λ t s e. e; store = λ t s e. e }

-- a node's step beside workers whose tasks are the same
node_asks : (c d : ClusterState) (n : ℕ) (f : NodeContext → NodeContext) → d.nodes ≡ c.nodes → d.network ≡ c.network →
    ((Q : NodeContext → Type 0) → IsKeptThere Q → (t : NodeContext) → Q t → Q (f t)) →
    ((v : ℕ) (y : Worker) → worker_at d v ≡ Some y → OwnsAsks (IsDeadNode c) d.network v y) →
    ((v : ℕ) (y : Worker) → worker_at c v ≡ Some y → (z : Worker) × (worker_at d v ≡ Some z)) →
    ((node : Node) → node_at d n ≡ Some node → (k : AskKey) (x : AskReply) → reply_to (sch (f (there d n node))) k ≡ Some x → A.Asked d.network k.attempt k.hops n) →
    KeepsAsks c → KeepsAsks d → KeepsAsks (node_does d n f).whole
node_asks c d n f nodes network moves mine too asked k kd = by_node (node_at d n) refl
  where
    by_node : (o : Option Node) → node_at d n ≡ o → KeepsAsks (node_does_by d n f o).whole
    by_node None e = kd
    by_node (Some node) e =
        let t : NodeContext = f (there d n node) in
        let quiet : TouchesOnly Nobody d.network (d.network ++ t.out.envelopes) =
        says_quiet d.network t (moves Says says_only (there d n node) (λ l i. absurd (among-nothing l i))) in
        asks_end c d n node t e nodes network (moves (Alive node.is_live) (alive_kept node.is_live) (there d n node) refl) k
        (λ v y at. owns_more (IsDeadNode c) Nobody d.network (d.network ++ t.out.envelopes) v y quiet (λ i j g. g) (mine v y at)) too
        (λ a w g. elim (quiet.pushed a w g) [
          | inl h ↦ closed_more (IsDeadNode c) Nobody d.network (d.network ++ t.out.envelopes) a w quiet (λ i. i)
              (subst (λ ls. A.IsClosed (IsDeadNode c) ls a w) (sym network) (k.closed a w (subst (λ ls. Pushed ls a w) network h)))
          | inr h ↦ absurd h
        ])
        (λ a g. elim (touched_before Nobody d.network (d.network ++ t.out.envelopes) a quiet g) [
          | inl h ↦ k.owned a
              (subst (λ ls. A.Touched ls a) network h)
          | inr h ↦ absurd h
        ])
        (λ key x r. let q = asked node e key x r in (q.0, among-more d.network t.out.envelopes (envelope (TheWorker q.0) (TheNode n) (Ask key.attempt key.hops)) q.1))

-- what a node answers after a message, it was asked
reached_keys : (d : ClusterState) (n : ℕ) (node : Node) (from : Endpoint) (m : Message) → node_at d n ≡ Some node → KeepsAsks d →
    Among (envelope from (TheNode n) m) d.network →
    (k : AskKey) (x : AskReply) → reply_to (sch (node_reached (there d n node) from m)) k ≡ Some x → A.Asked d.network k.attempt k.hops n
reached_keys d n node (TheNode i) m at keeps came k x e = keeps.nodes n node k x at e
reached_keys d n node (TheWorker u) (Ask a i) at keeps came k x e =
    elim (asked_keys (there d n node) (ask_key a i) (reply_to node.scheduler (ask_key a i)) k x e) [
      | inl f ↦ keeps.nodes n node k f.0 at f.1
      | inr same ↦ subst (λ (j : AskKey). A.Asked d.network j.attempt j.hops n) same (u, came)
    ]
reached_keys d n node (TheWorker u) (Back a) at keeps came k x e =
    at_test (λ b. reply_to (sch (if b then with_scheduler (there d n node) (with_idle node.scheduler u) else there d n node)) k ≡ Some x →
    A.Asked d.network k.attempt k.hops n)
    (may_be_idle node.scheduler u a) (λ _ f. keeps.nodes n node k x at f) (λ _ f. keeps.nodes n node k x at f) e
reached_keys d n node (TheWorker u) (Fetch o number) at keeps came k x e = by_copy (copy_in node.store o number) e
  where
    by_copy : (o' : Option Outcome) → reply_to (sch (fetched (there d n node) o number u o')) k ≡ Some x → A.Asked d.network k.attempt k.hops n
    by_copy None f = keeps.nodes n node k x at f
    by_copy (Some y) f = keeps.nodes n node k x at f
reached_keys d n node (TheWorker u) (Unhold i o why) at keeps came k x e = keeps.nodes n node k x at e
reached_keys d n node (TheWorker u) (Give a i v) at keeps came k x e = keeps.nodes n node k x at e
reached_keys d n node (TheWorker u) (Elsewhere a i v) at keeps came k x e = keeps.nodes n node k x at e
reached_keys d n node (TheWorker u) (Wait a i) at keeps came k x e = keeps.nodes n node k x at e
reached_keys d n node (TheWorker u) (Push a i) at keeps came k x e = keeps.nodes n node k x at e
reached_keys d n node (TheWorker u) (Finished a i rs) at keeps came k x e = keeps.nodes n node k x at e
reached_keys d n node (TheWorker u) (FinishedAck a) at keeps came k x e = keeps.nodes n node k x at e
reached_keys d n node (TheWorker u) (Failed a i) at keeps came k x e = keeps.nodes n node k x at e
reached_keys d n node (TheWorker u) (Where o) at keeps came k x e = keeps.nodes n node k x at e
reached_keys d n node (TheWorker u) (At o i v kept) at keeps came k x e = keeps.nodes n node k x at e
reached_keys d n node (TheWorker u) (Gone o i) at keeps came k x e = keeps.nodes n node k x at e
reached_keys d n node (TheWorker u) (CopyOf o i v) at keeps came k x e = keeps.nodes n node k x at e
reached_keys d n node (TheWorker u) (Missing o i v) at keeps came k x e = keeps.nodes n node k x at e
reached_keys d n node (TheWorker u) (Hold i o) at keeps came k x e = keeps.nodes n node k x at e
reached_keys d n node (TheWorker u) (HoldAck i o) at keeps came k x e = keeps.nodes n node k x at e

-- ---- each event

as_before : (c : ClusterState) (jobs : List JobRecord) (made : ℕ) (delivered : List Bool) → KeepsAsks c →
    KeepsAsks (record c { jobs = jobs; made = made; delivered = delivered })
as_before c jobs made delivered k = record { nodes = k.nodes; owners = k.owners; closed = k.closed; owned = k.owned }

right_still : (c : ClusterState) (jobs : List JobRecord) (made : ℕ) (delivered : List Bool) → NodesAreRight c →
    NodesAreRight (record c { jobs = jobs; made = made; delivered = delivered })
right_still c jobs made delivered r = record { each = r.each; senders = r.senders }

envelope_event : (c : ClusterState) (s to : Endpoint) (m : Message) → Among (envelope s to m) c.network → NodesAreRight c → KeepsLeases c → KeepsAsks c →
    KeepsAsks (delivered_to c (envelope s to m) to).whole
envelope_event c s (TheWorker w) m came right leases k =
    at_test (λ b. KeepsAsks (if b then worker_does c w (λ h. reached h s m) else moved c).whole) (is_live_worker (worker_at c w))
    (λ _. worker_event c w (λ h. reached h s m) (λ P kept h p. M.reached-kept P kept h s m p)
    (λ x at node home q. reached_asks c w x at node home k right leases s m came q) right k) (λ _. k)
envelope_event c s (TheNode n) m came right leases k =
    at_test (λ b. KeepsAsks (if b then node_does c n (λ h. node_reached h s m) else moved c).whole) (is_live_node (node_at c n))
    (λ _. node_asks c c n (λ h. node_reached h s m) refl refl (λ Q kept t q. node_reached-kept Q kept t s m q) k.owners (λ v y e. (y, e))
    (λ node e key x r. reached_keys c n node s m e k came key x r) k k) (λ _. k)

-- the same asks beside workers and nodes that changed otherwise
changed_asks : (c : ClusterState) (workers : List Worker) (nodes : List Node) →
    ((v : ℕ) (y : Worker) → item_at workers v ≡ Some y → (x : Worker) × (worker_at c v ≡ Some x) × (y.objects ≡ x.objects)) →
    ((v : ℕ) (x : Worker) → worker_at c v ≡ Some x → (y : Worker) × (item_at workers v ≡ Some y)) →
    ((n : ℕ) (node : Node) (k : AskKey) (x : AskReply) → item_at nodes n ≡ Some node → reply_to node.scheduler k ≡ Some x →
    (old : Node) × (node_at c n ≡ Some old) × (reply_to old.scheduler k ≡ Some x)) →
    ((n : ℕ) → IsDeadNode c n → IsDeadNode (record c { workers = workers; nodes = nodes }) n) → KeepsAsks c →
    KeepsAsks (record c { workers = workers; nodes = nodes })
changed_asks c workers nodes back forth replies dead_too k =
    let d : ClusterState = record c { workers = workers; nodes = nodes } in
    record {
      nodes = λ n node key x e r. let o = replies n node key x e r in k.nodes n o.0 key x o.1 o.2;
      owners = λ v y e.
          let b = back v y e in
          owns_dead (IsDeadNode c) (IsDeadNode d) c.network v y dead_too
          (owns_same (IsDeadNode c) c.network v b.0 y (λ i. ap (λ ys. task_of (item_at ys i)) b.2) (k.owners v b.0 b.1));
      closed = λ a w e. let q = k.closed a w e in record {
        hops = q.hops;
        node = q.node;
        given = q.given;
        last = last_dead (IsDeadNode c) (IsDeadNode d) c.network a q.hops q.node dead_too q.last;
      };
      owned = λ a e. let y = k.owned a e in forth _ y.0 y.1;
    }

same_dead : (c : ClusterState) (n : ℕ) (f : Node → Node) → ((node : Node) → node.is_live ≡ false → (f node).is_live ≡ false) → (workers : List Worker) (m : ℕ) →
    IsDeadNode c m →
    IsDeadNode (record c { workers = workers; nodes = changed_at c.nodes n f }) m
same_dead c n f stays workers m (k, at, off) =
    let g = there_still c.nodes n m f k at in
    (g.0, g.1, by_case g.0 (elim (changed_cases c.nodes n m f g.0 g.1) [ inl (_, x, e, is) ↦ inl (x, e, is) | inr (_, e) ↦ inr e ]))
  where
    by_case : (y : Node) → ((x : Node) × (node_at c m ≡ Some x) × (y ≡ f x)) ⊎ (node_at c m ≡ Some y) → y.is_live ≡ false
    by_case y (inl (x, e, is)) = let h : ◌≡◌ {A = Option Node} (Some k) (Some x) = sym at ∙ e in let i : k ≡ x = cc in
        ap (λ (z : Node). z.is_live) is ∙ stays x (ap (λ (z : Node). z.is_live) (sym i) ∙ off)
    by_case y (inr e) = let h : ◌≡◌ {A = Option Node} (Some k) (Some y) = sym at ∙ e in let i : k ≡ y = cc in ap (λ (z : Node). z.is_live) (sym i) ∙ off

same_replies : (c : ClusterState) (n : ℕ) (f : Node → Node) → ((node : Node) → (f node).scheduler ≡ node.scheduler) → (m : ℕ) (node : Node) (k : AskKey) (x : AskReply) →
    item_at (changed_at c.nodes n f) m ≡ Some node → reply_to node.scheduler k ≡ Some x →
    (old : Node) × (node_at c m ≡ Some old) × (reply_to old.scheduler k ≡ Some x)
same_replies c n f same m node k x e r = elim (changed_cases c.nodes n m f node e) [
  | inl (_, old, at, is) ↦ (old, at, ap (λ s. reply_to s k) (sym (ap (λ (y : Node). y.scheduler) is ∙ same old)) ∙ r)
  | inr (_, at) ↦ (node, at, r)
]

-- the same tables of a dead worker
dies_same : (x : Worker) (b : Bool) → (if b then dead x else x).objects ≡ x.objects
dies_same x true = refl
dies_same x false = refl

dead_back : (c : ClusterState) (w v : ℕ) (y : Worker) → item_at (changed_at c.workers w dead) v ≡ Some y →
    (x : Worker) × (worker_at c v ≡ Some x) × (y.objects ≡ x.objects)
dead_back c w v y e = elim (changed_cases c.workers w v dead y e) [
  | inl (_, x, at, is) ↦ (x, at, ap (λ (z : Worker). z.objects) is)
  | inr (_, at) ↦ (y, at, refl)
]

same_nodes_replies : (c : ClusterState) (n : ℕ) (node : Node) (k : AskKey) (x : AskReply) → node_at c n ≡ Some node → reply_to node.scheduler k ≡ Some x →
    (old : Node) × (node_at c n ≡ Some old) × (reply_to old.scheduler k ≡ Some x)
same_nodes_replies c n node k x e r = (node, e, r)

kill_event : (c : ClusterState) (w : ℕ) (o : Option Worker) → NodesAreRight c → KeepsAsks c → KeepsAsks (killed_by c w o).whole
kill_event c w None right k = k
kill_event c w (Some x) right k =
    let workers : List Worker = changed_at c.workers w dead in
    let d : ClusterState = record c { workers = workers } in
    let forth : (v : ℕ) (y : Worker) → worker_at c v ≡ Some y → (z : Worker) × (item_at workers v ≡ Some z) = λ v y e. there_still c.workers w v dead y e in
    node_asks c d x.node (λ t. forgets t w) refl refl (λ Q kept t q. forgets-kept Q kept t w q)
    (λ v y e. let b = dead_back c w v y e in owns_same (IsDeadNode c) c.network v b.0 y (λ i. ap (λ ys. task_of (item_at ys i)) b.2) (k.owners v b.0 b.1)) forth
    (λ node e key r f.
    let old = forgets_keys (there d x.node node) w (right.each x.node node e).queue key r f in
    k.nodes x.node node key old.0 e old.1) k
    (changed_asks c workers c.nodes (dead_back c w) forth (same_nodes_replies c) (λ n q. q) k)

join_event : (c : ClusterState) → KeepsAsks c → KeepsAsks (record c { nodes = c.nodes ++ new_node c.slots ∷ [] })
join_event c k =
    changed_asks c c.workers (c.nodes ++ new_node c.slots ∷ []) (λ v y e. (y, e, refl)) (λ v y e. (y, e))
    (λ n node key x e r. elim (N.push_cases c.nodes n (new_node c.slots) node e) [
      | inl at ↦ (node, at, r)
      | inr (_, is) ↦ absurd (nothing_asked key x (ap (λ (y : Node). reply_to y.scheduler key) is ∙ r))
    ])
    (λ n q. (q.0, there_more c.nodes (new_node c.slots ∷ []) n q.0 q.1, q.2)) k
  where
    nothing_asked : (key : AskKey) (x : AskReply) → reply_to (new_node c.slots).scheduler key ≡ Some x → ⊥
    nothing_asked key x e = cc

commit_event : (c : ClusterState) (j : ℕ) (handed : CommitInput) (g : Option JobRecord) → NodesAreRight c → KeepsAsks c → KeepsAsks (committed_by c j handed g).whole
commit_event c j Nothing g right k = k
commit_event c j OfAnother g right k = k
commit_event c j (OfJob o) None right k = k
commit_event c j (OfJob o) (Some g) right k =
    let d : ClusterState = with_committed c j (objects_made o.births) in
    worker_event d g.worker (λ h. commit_step h o) (λ P kept h p. M.commit_step-kept P kept h o p)
    (λ x at node home q. commit_asks d g.worker x at (here d g.worker x node) o q)
    (record { each = right.each; senders = right.senders }) (record { nodes = k.nodes; owners = k.owners; closed = k.closed; owned = k.owned })

deliver_event : (c : ClusterState) (i : ℕ) (l : Option Envelope) → item_at c.network i ≡ l → NodesAreRight c → KeepsLeases c → KeepsAsks c →
    KeepsAsks (delivered_by c i l).whole
deliver_event c i None at right leases k = k
deliver_event c i (Some x) at right leases k =
    envelope_event (with_delivered c i) x.sender x.receiver x.message (among_at c.network i x at) (record { each = right.each; senders = right.senders })
    (record { workers = leases.workers; nodes = leases.nodes; homes = leases.homes })
    (record { nodes = k.nodes; owners = k.owners; closed = k.closed; owned = k.owned })

-- what a notice of a node tells is true
dead_by : (c : ClusterState) (n : ℕ) (o : Option Node) → node_at c n ≡ o → is_dead_node o ≡ true → IsDeadNode c n
dead_by c n None e f = absurd (cc)
dead_by c n (Some node) e f = (node, e, negated node.is_live f)
  where
    negated : (b : Bool) → not b ≡ true → b ≡ false
    negated true g = absurd (cc)
    negated false g = refl

happens_asks : (c : ClusterState) (e : Event) (handed : CommitInput) → refusal c e handed ≡ None → NodesAreRight c → KeepsLeases c → KeepsAsks c →
    KeepsAsks (happens c e handed).whole
happens_asks c (Claim w) handed e right leases k =
    let d : ClusterState = record c { jobs = c.jobs ++ record { worker = w; is_committed = false } ∷ [] } in
    worker_event d w (λ h. claim_step h (length c.jobs + 1)) (λ P kept h p. M.claim_step-kept P kept h (length c.jobs + 1) p)
    (λ x at node home q. claim_asks d w x at (here d w x node) (length c.jobs + 1) q)
    (record { each = right.each; senders = right.senders }) (record { nodes = k.nodes; owners = k.owners; closed = k.closed; owned = k.owned })
happens_asks c (Commit j) handed e right leases k = commit_event c j handed (item_at c.jobs j) right k
happens_asks c (Deliver i) handed e right leases k = deliver_event c i (item_at c.network i) refl right leases k
happens_asks c (Tick w) handed e right leases k =
    worker_event c w tick_step (λ P kept h p. M.tick_step-kept P kept h p)
    (λ x at node home q. tick_step-kept (ToldOf c w x at (IsDeadNode c)) (OverBy c w x at (IsDeadNode c)) (GivenOf c w x at (IsDeadNode c))
    (PassedBy c w x at (IsDeadNode c))
    (Asks c w x at (IsDeadNode c)) (asks_kept c w x at (IsDeadNode c)) (here c w x node) q) right k
happens_asks c (Notice w v) handed e right leases k =
    worker_event c w (λ h. notice_step h v) (λ P kept h p. M.notice_step-kept P kept h v p)
    (λ x at node home q. notice_step-kept (ToldOf c w x at (IsDeadNode c)) (OverBy c w x at (IsDeadNode c)) (GivenOf c w x at (IsDeadNode c))
    (PassedBy c w x at (IsDeadNode c))
    (Asks c w x at (IsDeadNode c)) (asks_kept c w x at (IsDeadNode c)) (here c w x node) v q) right k
happens_asks c (NoticeNode w n) handed e right leases k =
    let off : IsDeadNode c n = dead_by c n (node_at c n) refl
    (passed (is_dead_node (node_at c n)) NotDead (both_passed (no_worker c w) (unless (is_dead_node (node_at c n)) NotDead) e).1) in
    worker_event c w (λ h. notice_node_step h n) (λ P kept h p. M.notice_node_step-kept P kept h n p)
    (λ x at node home q. notice_node_step-kept (ToldOf c w x at (IsDeadNode c)) (OverBy c w x at (IsDeadNode c)) (GivenOf c w x at (IsDeadNode c))
    (PassedBy c w x at (IsDeadNode c))
    (Asks c w x at (IsDeadNode c)) (asks_kept c w x at (IsDeadNode c)) (here c w x node) n (λ a t. inr off) q) right k
happens_asks c (Evict n o) handed e right leases k =
    changed_asks c c.workers _ (λ v y i. (y, i, refl)) (λ v y i. (y, i)) (same_replies c n _ (λ _. refl)) (same_dead c n _ (λ _ i. i) c.workers) k
happens_asks c (Lose n o) handed e right leases k =
    changed_asks c c.workers _ (λ v y i. (y, i, refl)) (λ v y i. (y, i)) (same_replies c n _ (λ _. refl)) (same_dead c n _ (λ _ i. i) c.workers) k
happens_asks c (Kill w) handed e right leases k = kill_event c w (worker_at c w) right k
happens_asks c (KillNode n) handed e right leases k =
    changed_asks c (map (dies_with n) c.workers) _
    (λ v y i. let r = item_mapped (dies_with n) c.workers v y i in (r.0, r.1, ap (λ (z : Worker). z.objects) r.2 ∙ dies_same r.0 (r.0.node == n)))
    (λ v x i. (dies_with n x, item_map (dies_with n) c.workers v x i)) (same_replies c n _ (λ _. refl))
    (same_dead c n _ (λ _ _. refl) (map (dies_with n) c.workers)) k
happens_asks c Join handed e right leases k = join_event c k

limited_asks : (c : ClusterState) (m : Transition) (b : Bool) (given : Option Job) → KeepsAsks c → KeepsAsks m.whole →
    KeepsAsks (whole_after c (if b then takes m given else Refuses Limit))
limited_asks c m true given k l = l
limited_asks c m false given k l = k

decided_asks : (c : ClusterState) (e : Event) (handed : CommitInput) (code : Option Refusal) → refusal c e handed ≡ code → NodesAreRight c → KeepsLeases c → KeepsAsks c →
    KeepsAsks (whole_after c (decided c e handed code))
decided_asks c e handed None unrefused right leases k =
    limited_asks c (happens c e handed) (is_within_limits (happens c e handed).whole) (given_out c e) k (happens_asks c e handed unrefused right leases k)
decided_asks c e handed (Some code) refused right leases k = k

-- ---- runs

opens-asks : (nodes slots : ℕ) → KeepsAsks (first_whole nodes slots)
opens-asks nodes slots = record {
  nodes = λ n node k x e r. absurd (elim (changed_cases (repeated nodes (new_node slots)) 1 n with_slot node e) [
    | inl (_, y, at, is) ↦ nothing_asked k x (ap (λ (z : Node). reply_to z.scheduler k) (ap with_slot (new n y at) ∙ sym is) ∙ r)
    | inr (_, at) ↦ nothing_asked k x (ap (λ (z : Node). reply_to z.scheduler k) (new n node at) ∙ r)
  ]);
  owners = λ v y e. record {
    none = λ k i _ f. untouched _ f;
    later = λ k i task _ _ f. untouched _ f;
    newborn = λ k spec _ f. untouched _ f;
    stands = λ k task t n _ _ i m f. absurd (among-nothing _ f.1);
    unpushed = λ k task t n w _ _ f. among-nothing _ f.2;
    runs = λ k task w n at _. absurd (no_task k task (ap (λ (z : Worker). task_of (item_at z.objects k)) (only_driver v y e).1 ∙ at));
    begun = λ k task w n at _ _. no_task k task (ap (λ (z : Worker). task_of (item_at z.objects k)) (only_driver v y e).1 ∙ at);
  };
  closed = λ a w e. absurd (among-nothing _ e.2);
  owned = λ a e. absurd (untouched a e);
}
  where
    with_slot : Node → Node
    with_slot x = record x { scheduler = record x.scheduler { slot_holders = 1 ∷ [] } }

    new : (n : ℕ) (y : Node) → item_at (repeated nodes (new_node slots)) n ≡ Some y → new_node slots ≡ y
    new n y at = one_of 1 nodes n (new_node slots) y (counted (repeated nodes (new_node slots)) n at)

    nothing_asked : (key : AskKey) (x : AskReply) → reply_to (new_node slots).scheduler key ≡ Some x → ⊥
    nothing_asked key x e = cc

    untouched : (a : Attempt) → A.Touched [] a → ⊥
    untouched a (inl e) = among-nothing _ e.2.1
    untouched a (inr e) = among-nothing _ e.1.2

    no_task : (k : ℕ) (task : OwnTask) → task_of (item_at driver.objects k) ≡ Some task → ⊥
    no_task zero task e = cc
    no_task (suc i) task e = cc

runs_asks : (r : Running) (gs : List Handing) → NodesAreRight r.whole → KeepsLeases r.whole → KeepsAsks r.whole → KeepsAsks (after_events r gs).whole
runs_asks r [] right leases k = k
runs_asks r (g ∷ gs) right leases k =
    runs_asks (after_event r g) gs (answered-right r.whole g.event g.handed right) (events_keep r.whole g.event g.handed leases)
    (decided_asks r.whole g.event g.handed (refusal r.whole g.event g.handed) refl right leases k)

pub law_of_last_asks : LawOfLastAsks
law_of_last_asks nodes slots some slot gs = runs_asks (opening_run nodes slots) gs (opens-right nodes slots slot) (opens nodes slots some)
    (opens-asks nodes slots)
