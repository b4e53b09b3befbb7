-- Every event leaves the copies in the stores, but for those that an Unhold or a loss takes; and what it makes is in the store of its node.
use Rattle.std.proofs.Common.{◌≡◌, ℕ, ◌+◌, ◌<◌, List, [], ◌∷◌, ◌++◌, length, Some, None, Option, refl, ap, sym, subst, ◌∙◌, ◌⊎◌, inl, inr, arith}
use Rattle.std.specs.Prelude.{Bool, true, false, if◌then◌else◌, not, ◌&&◌, ◌||◌}
use Rattle.std.specs.List.{filter, list_any}
use Rattle.sequence.proofs.Places.{and_right}
use Rattle.meaning.proofs.BirthLaws.{at_test, same_id-true}
use Rattle.meaning.specs.Births.{same_id}
use Rattle.meaning.specs.Values.{Id, Outcome}
use Rattle.event_log.specs.Commits.{commit_entries}
use Rattle.event_log.specs.Entries.{Claim, Commit, Deliver, Entry, Event, Evict, In, Join, Kill, KillNode, Lose, NoJob, Notice, NoticeNode, Refusal, Stale}
use Rattle.event_log.specs.Entries.{Tick}
use Rattle.event_log.specs.Events.{node_of}
use Rattle.event_log.specs.Rules.{Setting}
use Rattle.event_log.specs.Words.{attempt, worker_of}
use Rattle.event_log.proofs.Extending.{node_of-more}
use Rattle.protocol.specs.Commits.{claim_step, commit_step, next_id_here}
use Rattle.protocol.specs.Deliveries.{reached}
use Rattle.protocol.specs.Events.{committed_by, dead, delivered_by, delivered_to, happens, is_live_node, is_live_worker, killed_by, objects_made}
use Rattle.protocol.specs.Events.{with_committed, with_delivered}
use Rattle.protocol.specs.Jobs.{JobRecord, CommitInput, Nothing, OfAnother, OfJob, Outcomes, stop_of}
use Rattle.protocol.specs.Messages.{Ask, At, Back, CopyOf, Elsewhere, Failed, Fetch, Finished, FinishedAck, Give, Gone, Hold, HoldAck, Envelope, envelope, Message}
use Rattle.protocol.specs.Messages.{Missing, Endpoint, Push, Reason, TheNode, TheWorker, Unhold, Wait, Where}
use Rattle.protocol.specs.Nodes.{Node, NodeContext, new_node}
use Rattle.protocol.specs.Notices.{notice_node_step, notice_step}
use Rattle.protocol.specs.Numbered.{changed_at, item_at}
use Rattle.protocol.specs.Refusals.{commit_refusal, is_of_job, is_out_by, or_refusal, refusal, unless}
use Rattle.protocol.specs.Releases.{release_step}
use Rattle.protocol.specs.Slots.{ask_key, fetched, forgets, node_reached, node_reached_from, reply_to}
use Rattle.protocol.specs.Steps.{WorkerContext}
use Rattle.protocol.specs.Stores.{Copy, Store, copy_in, is_copy_of, is_of, without_copies}
use Rattle.protocol.specs.Tables.{Execution, Worker}
use Rattle.protocol.specs.Ticks.{tick_step}
use Rattle.protocol.specs.Cluster.{Transition, ClusterState, after_worker, here, moved, node_at, node_does, node_does_by, there, worker_at, worker_does, worker_does_at, worker_does_by}
use Rattle.owed_asks.specs.of_protocol_legal.Made.{IsEndedAt, IsPutAt}
use Rattle.owed_asks.specs.of_protocol_legal.Whole.{Between}
use Rattle.protocol_owed.proofs.CourseAll.{LiveOne, both_passed, live_one, passed}
use Rattle.protocol_owed.proofs.CourseRuns.{OutOf, out_of}
use Rattle.protocol_owed.proofs.Envelopes.{among-nothing}
use Rattle.protocol_owed.proofs.Nodes.{changed_cases, push_cases}
use Rattle.owed_asks.specs.of_lease_discipline.Told.{IsInStep}
use Rattle.owed_asks.proofs.of_lease_discipline.Told.{locations}
use Rattle.owed_laws.proofs.CommitCopies as C
use Rattle.owed_laws.proofs.CommitCopies.{IsStored, stored_stays}
use Rattle.owed_laws.proofs.Made.{runs_more}
use Rattle.owed_laws.proofs.MadeCopies.{IsNewEnd, IsNewIn, IsNewPut, Stays, StaysThere, stays_kept, there_stays}
use Rattle.smallest_steps.proofs.SlotMoves as S
use Rattle.owed_laws.proofs.StoreMoves as M
use Rattle.owed_laws.proofs.StoreMoves.{IsKept, Stores, copy_same, looked_keeps}

-- ---- what an event leaves

-- the event takes the object's copies at the node: it brings word of its release there, or is their loss
abbrev pub TakesCopies : List Envelope → Event → ℕ → Id → Type 0
TakesCopies sent e n o =
    ((i : ℕ) × (from : Endpoint) × (x : Id) × (why : Reason) × (e ≡ Deliver i) × (item_at sent i ≡ Some (envelope from (TheNode n) (Unhold x o why))))
    ⊎ (e ≡ Lose n o)

-- a node of before, with its copies but those that the event takes
pub record WasThere (c : ClusterState) (e : Event) (n : ℕ) (next : Node) : Type 0 where
  pub node : Node
  pub at : node_at c n ≡ Some node
  pub keeps : (o : Id) (number : ℕ) → Stores node.store o number → Stores next.store o number ⊎ TakesCopies c.network e n o

-- after the event each node is one of before, or new, with a greater number
abbrev pub NodesKeep : ClusterState → Event → List Node → Type 0
NodesKeep c e after = (n : ℕ) (next : Node) → item_at after n ≡ Some next → WasThere c e n next ⊎ (length c.nodes < n)

-- and the copies of what it makes are there
pub record Makes (c : ClusterState) (later : List Entry) (e : Event) (m : Transition) : Type 0 where
  pub nodes : NodesKeep c e m.whole.nodes
  pub puts : (n : ℕ) (node : Node) → node_at m.whole n ≡ Some node → (o : Id) (number : ℕ) → IsPutAt later o number n → IsNewPut m.out.entries o number →
      Stores node.store o number
  pub ends : (n : ℕ) (node : Node) → node_at m.whole n ≡ Some node → (o : Id) (number : ℕ) (p : IsEndedAt later o number n) → IsNewEnd m.out.entries p.part.born.object o number →
      Stores node.store o number

abbrev MakesNothing : List Entry → Type 0
MakesNothing es = (o : Id) (number : ℕ) → (IsNewPut es o number → ⊥) × ((first : Id) → IsNewEnd es first o number → ⊥)

none_made : MakesNothing []
none_made o number = (λ p. among-nothing _ p.2, λ first p. among-nothing _ p.ended)

same_node : (x y : Node) → ◌≡◌ {A = Option Node} (Some x) (Some y) → x ≡ y
same_node x y e = cc

same_number : (m n : ℕ) → ◌≡◌ {A = Option ℕ} (Some m) (Some n) → m ≡ n
same_number m n e = cc

-- ---- copies of another object stay

kept_apart : (o p : Id) (number : ℕ) → same_id p o ≡ false → (xs : List Copy) → list_any (is_copy_of p number) xs ≡ true →
    list_any (is_copy_of p number) (filter (λ x. not (is_of o x)) xs) ≡ true
kept_apart o p number apart [] h = absurd (cc)
kept_apart o p number apart (x ∷ xs) h =
    let rest : list_any (is_copy_of p number) xs ≡ true → list_any (is_copy_of p number) (filter (λ y. not (is_of o y)) xs) ≡ true =
    kept_apart o p number apart xs in
    at_test (λ t. is_of o x ≡ t → list_any (is_copy_of p number) (if not t then x ∷ filter (λ y. not (is_of o y)) xs else filter (λ y. not (is_of o y)) xs) ≡ true)
    (is_of o x) (λ _ e. others rest e (is_copy_of p number x) refl h) (λ _ e. this rest (is_copy_of p number x) h) refl
  where
    this : (list_any (is_copy_of p number) xs ≡ true → list_any (is_copy_of p number) (filter (λ y. not (is_of o y)) xs) ≡ true) → (a : Bool) →
        (a || list_any (is_copy_of p number) xs) ≡ true → (a || list_any (is_copy_of p number) (filter (λ y. not (is_of o y)) xs)) ≡ true
    this rest true f = refl
    this rest false f = rest f

    others : (list_any (is_copy_of p number) xs ≡ true → list_any (is_copy_of p number) (filter (λ y. not (is_of o y)) xs) ≡ true) → is_of o x ≡ true →
        (a : Bool) → is_copy_of p number x ≡ a → (a || list_any (is_copy_of p number) xs) ≡ true →
        list_any (is_copy_of p number) (filter (λ y. not (is_of o y)) xs) ≡ true
    others rest e true f g =
        let same : x.object ≡ p = (copy_same p number x f).0 in
        let t : same_id p o ≡ true = subst (λ z. same_id z o ≡ true) same e in
        absurd (cc)
    others rest e false f g = rest g

-- the object's copies go, and no others
without_keeps : (s : Store) (o p : Id) (number : ℕ) → Stores s p number → Stores (without_copies s o) p number ⊎ (p ≡ o)
without_keeps s o p number h =
    at_test (λ t. same_id p o ≡ t → Stores (without_copies s o) p number ⊎ (p ≡ o)) (same_id p o)
    (λ _ e. inr (same_id-true p o e)) (λ _ e. inl (kept_apart o p number e s.primaries h)) refl

-- ---- events that make nothing

module _ (c : ClusterState) (e : Event) where
  abbrev Silent : Transition → Type 0
  Silent m = NodesKeep c e m.whole.nodes × MakesNothing m.out.entries

  all_there : NodesKeep c e c.nodes
  all_there n next at = inl (record { node = next; at = at; keeps = λ o number p. inl p })

  nothing : (d : ClusterState) → d.nodes ≡ c.nodes → Silent (moved d)
  nothing d same = (subst (NodesKeep c e) (sym same) all_there, none_made)

  changed_there : (m : ℕ) (f : Node → Node) →
      ((node : Node) → node_at c m ≡ Some node → (o : Id) (number : ℕ) → Stores node.store o number → Stores (f node).store o number ⊎ TakesCopies c.network e m o) →
      NodesKeep c e (changed_at c.nodes m f)
  changed_there m f step n next at = elim (changed_cases c.nodes m n f next at) [
    | inl (same, node, was, is) ↦ inl (record {
      node = node;
      at = was;
      keeps = λ o number p. subst (λ (i : ℕ). Stores next.store o number ⊎ TakesCopies c.network e i o) (sym same)
          (subst (λ (x : Node). Stores x.store o number ⊎ TakesCopies c.network e m o) (sym is)
          (step node (subst (λ i. node_at c i ≡ Some node) same was) o number p));
    })
    | inr (_, was) ↦ inl (record { node = next; at = was; keeps = λ o number p. inl p })
  ]

  -- what a step at a node leaves of its store
  record Leaves (n : ℕ) (before : Store) (t : NodeContext) : Type 0 where
    keeps : (o : Id) (number : ℕ) → Stores before o number → Stores t.node.store o number ⊎ TakesCopies c.network e n o
    none : MakesNothing t.out.entries

  stays_leaves : (n : ℕ) (before : Store) (t : NodeContext) → StaysThere before [] t → Leaves n before t
  stays_leaves n before t p = record {
    keeps = λ o number q. inl (p.copies o number q);
    none = λ o number. (λ q. (none_made o number).0 (p.puts o number q), λ first q. (none_made o number).1 first (p.ends first o number q));
  }

  begun : (d : ClusterState) (n : ℕ) (node : Node) → StaysThere node.store [] (there d n node)
  begun d n node = record { copies = λ o number q. q; puts = λ o number q. q; ends = λ first o number q. q }

  node_changed : (d : ClusterState) → d.nodes ≡ c.nodes → (n : ℕ) (node : Node) → node_at d n ≡ Some node → (t : NodeContext) →
      ((o : Id) (number : ℕ) → Stores node.store o number → Stores t.node.store o number ⊎ TakesCopies c.network e n o) →
      NodesKeep c e (changed_at d.nodes n (λ _. t.node))
  node_changed d same n node at t keeps =
      subst (λ ns. NodesKeep c e (changed_at ns n (λ _. t.node))) (sym same)
      (changed_there n (λ _. t.node) (λ other was.
      subst (λ (x : Node). (o : Id) (number : ℕ) → Stores x.store o number → Stores t.node.store o number ⊎ TakesCopies c.network e n o)
      (same_node node other (sym at ∙ ap (λ ns. item_at ns n) same ∙ was)) keeps))

  node_silent : (d : ClusterState) → d.nodes ≡ c.nodes → (n : ℕ) (f : NodeContext → NodeContext) → ((node : Node) → Leaves n node.store (f (there d n node))) → Silent (node_does d n f)
  node_silent d same n f step = by_node (node_at d n) refl
    where
      by_node : (o : Option Node) → node_at d n ≡ o → Silent (node_does_by d n f o)
      by_node None at = nothing d same
      by_node (Some node) at = (node_changed d same n node at (f (there d n node)) (step node).keeps, (step node).none)

  worker_silent : (d : ClusterState) → d.nodes ≡ c.nodes → (w : ℕ) (f : WorkerContext → WorkerContext) → ((P : WorkerContext → Type 0) → IsKept P → (h : WorkerContext) → P h → P (f h)) →
      Silent (worker_does d w f)
  worker_silent d same w f step = by_worker (worker_at d w)
    where
      by_home : (x : Worker) (o : Option Node) → node_at d x.node ≡ o → Silent (worker_does_at d w x f o)
      by_home x None at = nothing d same
      by_home x (Some node) at =
          let h : WorkerContext = here d w x node in
          let g : WorkerContext = release_step (f h) in
          let kept = stays_kept node.store [] in
          let end : Stays node.store [] g = M.release_step-kept (Stays node.store []) kept (f h) (step (Stays node.store []) kept h (begun d x.node node)) in
          let left : Leaves x.node node.store g.there = stays_leaves x.node node.store g.there end in
          (node_changed d same x.node node at g.there left.keeps, left.none)

      by_worker : (o : Option Worker) → Silent (worker_does_by d w f o)
      by_worker None = nothing d same
      by_worker (Some x) = by_home x (node_at d x.node) refl

pub makes_none : (c : ClusterState) (later : List Entry) (e : Event) (m : Transition) → NodesKeep c e m.whole.nodes → MakesNothing m.out.entries → Makes c later e m
makes_none c later e m nodes none = record {
  nodes = nodes;
  puts = λ n node at o number p new. absurd ((none o number).0 new);
  ends = λ n node at o number p new. absurd ((none o number).1 p.part.born.object new);
}

-- ---- deliveries

module _ (c : ClusterState) (i : ℕ) (l : Envelope) (sent : item_at c.network i ≡ Some l) where
  -- an envelope that reaches a node
  module _ (n : ℕ) (to : l.receiver ≡ TheNode n) (d : ClusterState) (node : Node) where
    abbrev t : NodeContext
    t = there d n node

    abbrev Left : NodeContext → Type 0
    Left h = Leaves c (Deliver i) n node.store h

    stays : (h : NodeContext) → StaysThere node.store [] h → Left h
    stays h p = stays_leaves c (Deliver i) n node.store h p

    start : StaysThere node.store [] t
    start = begun c (Deliver i) d n node

    is_envelope : (from : Endpoint) (m : Message) → l.sender ≡ from → l.message ≡ m → l ≡ envelope from (TheNode n) m
    is_envelope from m e f = ap (λ p. envelope p l.receiver l.message) e ∙ ap (λ p. envelope from p l.message) to ∙ ap (envelope from (TheNode n)) f

    by_fetch : (o : Id) (number w : ℕ) (x : Option Outcome) → Left (fetched t o number w x)
    by_fetch o number w None = stays (fetched t o number w None) (record { copies = start.copies; puts = start.puts; ends = start.ends })
    by_fetch o number w (Some x) =
        stays (fetched t o number w (Some x)) (record { copies = λ p k q. looked_keeps node.store o number p k q; puts = start.puts; ends = start.ends })

    by_message : (w : ℕ) (m : Message) → l.sender ≡ TheWorker w → l.message ≡ m → Left (node_reached_from t w m)
    by_message w (Ask a k) e f = stays (node_reached_from t w (Ask a k)) (S.asked_by-kept (StaysThere node.store []) (there_stays node.store []) t
        (ask_key a k) (reply_to node.scheduler (ask_key a k)) start)
    by_message w (Back a) e f =
        stays (node_reached_from t w (Back a)) (S.is_back-kept (StaysThere node.store []) (there_stays node.store []) t w a start)
    by_message w (Fetch o number) e f = by_fetch o number w (copy_in node.store o number)
    by_message w (Unhold x o why) e f = record {
      keeps = λ p number q. elim (without_keeps node.store o p number q) [
        | inl stored ↦ inl stored
        | inr same ↦ inr (inl (
          i,
          TheWorker w,
          x,
          why,
          refl,
          subst (λ z. item_at c.network i ≡ Some (envelope (TheWorker w) (TheNode n) (Unhold x z why))) (sym same)
              (sent ∙ ap (λ z. Some z) (is_envelope (TheWorker w) (Unhold x o why) e f)),
        ))
      ];
      none = none_made;
    }
    by_message w (Give a k v) e f = stays t start
    by_message w (Elsewhere a k m) e f = stays t start
    by_message w (Wait a k) e f = stays t start
    by_message w (Push a spec) e f = stays t start
    by_message w (Finished a m rs) e f = stays t start
    by_message w (FinishedAck a) e f = stays t start
    by_message w (Failed a g) e f = stays t start
    by_message w (Where o) e f = stays t start
    by_message w (At o number ns kept) e f = stays t start
    by_message w (Gone o g) e f = stays t start
    by_message w (CopyOf o number x) e f = stays t start
    by_message w (Missing o number m) e f = stays t start
    by_message w (Hold x o) e f = stays t start
    by_message w (HoldAck x o) e f = stays t start

    by_sender : (p : Endpoint) (m : Message) → l.sender ≡ p → l.message ≡ m → Left (node_reached t p m)
    by_sender (TheWorker w) m e f = by_message w m e f
    by_sender (TheNode k) m e f = stays t start

    reached_leaves : Left (node_reached t l.sender l.message)
    reached_leaves = by_sender l.sender l.message refl refl

  delivered_silent : (to : Endpoint) → l.receiver ≡ to → Silent c (Deliver i) (delivered_to (with_delivered c i) l to)
  delivered_silent (TheWorker w) to =
      at_test (λ b. Silent c (Deliver i) (if b then worker_does (with_delivered c i) w (λ h. reached h l.sender l.message) else moved (with_delivered c i)))
      (is_live_worker (worker_at c w))
      (λ _. worker_silent c (Deliver i) (with_delivered c i) refl w (λ h. reached h l.sender l.message) (λ P kept h p. M.reached-kept P kept h l.sender l.message p))
      (λ _. nothing c (Deliver i) (with_delivered c i) refl)
  delivered_silent (TheNode n) to =
      at_test (λ b. Silent c (Deliver i) (if b then node_does (with_delivered c i) n (λ h. node_reached h l.sender l.message) else moved (with_delivered c i)))
      (is_live_node (node_at c n))
      (λ _. node_silent c (Deliver i) (with_delivered c i) refl n (λ h. node_reached h l.sender l.message) (λ node. reached_leaves n to (with_delivered c i) node))
      (λ _. nothing c (Deliver i) (with_delivered c i) refl)

deliver_silent : (c : ClusterState) (i : ℕ) (o : Option Envelope) → item_at c.network i ≡ o → Silent c (Deliver i) (delivered_by c i o)
deliver_silent c i None at = nothing c (Deliver i) c refl
deliver_silent c i (Some l) at = delivered_silent c i l at l.receiver refl

-- ---- a commit

module _ (s : Setting) (log : List Entry) (c : ClusterState) (b : Between s log c) (j seat : ℕ) (d : Outcomes) (me : ℕ) (x : Worker) (at : worker_at c me ≡ Some x)
    (live : x.is_live ≡ true) (node : Node) (home : node_at c x.node ≡ Some node) (run : Execution) (runs : x.run ≡ Some run) where
  abbrev base : ClusterState
  base = with_committed c j (objects_made d.births)

  abbrev before_commit : WorkerContext
  before_commit = here base me x node

  abbrev after_commit : WorkerContext
  after_commit = release_step (commit_step before_commit d)

  abbrev commit_made : List Entry
  commit_made = commit_entries run.attempt (next_id_here before_commit) d.births d.prints (stop_of d.stop)

  abbrev committed_so : Transition
  committed_so = after_worker base me x.node after_commit

  abbrev log_after : List Entry
  log_after = log ++ In (Commit j) seat ∷ after_commit.there.out.entries

  left_there : Stays node.store commit_made after_commit
  left_there = M.release_step-kept (Stays node.store commit_made) (stays_kept node.store commit_made) (commit_step before_commit d) (C.commit_stays before_commit d run runs refl)

  stored_last : (o : Id) (number : ℕ) → IsNewIn commit_made o number → Stores after_commit.there.node.store o number
  stored_last o number new = M.release_step-kept (IsStored o number) (stored_stays o number) (commit_step before_commit d) (C.new_stored before_commit d run runs o number new)

  -- the worker's node
  at_home : (n : ℕ) (next : Node) → node_at committed_so.whole n ≡ Some next → x.node ≡ n → after_commit.there.node ≡ next
  at_home n next there same = elim (changed_cases c.nodes x.node n (λ _. after_commit.there.node) next there) [
    | inl (_, _, _, is) ↦ sym is
    | inr (apart, _) ↦ absurd (apart (sym same))
  ]

  placed : node_of me log_after ≡ Some x.node
  placed = node_of-more log (In (Commit j) seat ∷ after_commit.there.out.entries) me x.node (locations s log c b me x at)

  commit_nodes : NodesKeep c (Commit j) committed_so.whole.nodes
  commit_nodes = node_changed c (Commit j) base refl x.node node home after_commit.there (λ o number p. inl (left_there.copies o number p))

  pub commit_makes : Makes c log_after (Commit j) committed_so
  commit_makes = record {
    nodes = commit_nodes;
    puts = λ n next there o number p new.
        let i = left_there.puts o number new in
        let own : o.owner ≡ me = C.new_put_own before_commit d run runs o number i in
        let same : x.node ≡ n = same_number x.node n (sym placed ∙ ap (λ w. node_of w log_after) (sym own) ∙ p.home) in
        subst (λ (y : Node). Stores y.store o number) (at_home n next there same) (stored_last o number (inl i));
    ends = λ n next there o number p new.
        let first : Id = p.part.born.object in
        let i = left_there.ends first o number new in
        let is : run.attempt ≡ attempt first number = C.new_end_own before_commit d run runs first o number i in
        let old : worker_of (attempt first number) log ≡ Some me =
        ap (λ a. worker_of a log) (sym is) ∙ ((b.knows.workers me x at live).run run runs).runs in
        let own : me ≡ p.worker =
        same_number me p.worker (sym (runs_more log (Commit j) seat after_commit.there.out.entries (attempt first number) me old) ∙ p.runs) in
        let same : x.node ≡ n = same_number x.node n (sym placed ∙ ap (λ w. node_of w log_after) own ∙ p.home) in
        subst (λ (y : Node). Stores y.store o number) (at_home n next there same) (stored_last o number (inr (first, i)));
  }

-- ---- every event

module _ (s : Setting) (log : List Entry) (c : ClusterState) (before : IsInStep s log c) (seat : ℕ) where
  abbrev After : Event → Transition → List Entry
  After e m = log ++ In e seat ∷ m.out.entries

  silent : (e : Event) (m : Transition) → Silent c e m → Makes c (After e m) e m
  silent e m p = makes_none c (After e m) e m p.0 p.1

  unhanded : (j : ℕ) (b d : Bool) (o : Option Refusal) → or_refusal (unless (d && false && b) NoJob) o ≡ None → Makes c (After (Commit j) (moved c)) (Commit j) (moved c)
  unhanded j b true o f = absurd (cc)
  unhanded j b false o f = absurd (cc)

  commits_make : (j : ℕ) (handed : CommitInput) (g : Option JobRecord) → commit_refusal c j handed g ≡ None →
      Makes c (After (Commit j) (committed_by c j handed g)) (Commit j) (committed_by c j handed g)
  commits_make j handed None e = absurd (cc)
  commits_make j Nothing (Some g) e = unhanded j (is_out_by (worker_at c g.worker) j) (not g.is_committed) (unless (is_live_worker (worker_at c g.worker)) Stale) e
  commits_make j OfAnother (Some g) e = unhanded j (is_out_by (worker_at c g.worker) j) (not g.is_committed) (unless (is_live_worker (worker_at c g.worker)) Stale) e
  commits_make j (OfJob o) (Some g) e =
      let open_job : Bool = not g.is_committed && is_of_job (OfJob o) in
      let both = both_passed (unless (open_job && is_out_by (worker_at c g.worker) j) NoJob) (unless (is_live_worker (worker_at c g.worker)) Stale) e in
      let out : is_out_by (worker_at c g.worker) j ≡ true =
      and_right open_job (is_out_by (worker_at c g.worker) j) (passed (open_job && is_out_by (worker_at c g.worker) j) NoJob both.0) in
      let x : LiveOne (worker_at c g.worker) = live_one (worker_at c g.worker) (passed (is_live_worker (worker_at c g.worker)) Stale both.1) in
      let n = before.leases.homes g.worker x.worker x.at in
      let run : OutOf x.worker.run j = out_of x.worker.run j (ap (λ y. is_out_by y j) (sym x.at) ∙ out) in
      let d : ClusterState = with_committed c j (objects_made o.births) in
      let same : worker_does d g.worker (λ h. commit_step h o) ≡ after_worker d g.worker x.worker.node (release_step (commit_step (here d g.worker x.worker n.0) o)) =
      ap (worker_does_by d g.worker (λ h. commit_step h o)) x.at ∙ ap (worker_does_at d g.worker x.worker (λ h. commit_step h o)) n.1 in
      subst (λ (m : Transition). Makes c (After (Commit j) m) (Commit j) m) (sym same)
      (commit_makes s log c before.sound.between j seat o g.worker x.worker x.at x.lives n.0 n.1 run.run run.at)

  killed_silent : (w : ℕ) (o : Option Worker) → Silent c (Kill w) (killed_by c w o)
  killed_silent w None = nothing c (Kill w) c refl
  killed_silent w (Some x) =
      let d : ClusterState = record c { workers = changed_at c.workers w dead } in
      node_silent c (Kill w) d refl x.node (λ h. forgets h w) (λ node. stays_leaves c (Kill w) x.node node.store (forgets (there d x.node node) w)
      (S.forgets-kept (StaysThere node.store []) (there_stays node.store []) (there d x.node node) w (begun c (Kill w) d x.node node)))

  joined_keep : NodesKeep c Join (c.nodes ++ new_node c.slots ∷ [])
  joined_keep n next at = elim (push_cases c.nodes n (new_node c.slots) next at) [
    | inl was ↦ all_there c Join n next was
    | inr (number, _) ↦ inr (omega (arith, number))
  ]

  pub event_makes : (e : Event) (handed : CommitInput) → refusal c e handed ≡ None → Makes c (After e (happens c e handed)) e (happens c e handed)
  event_makes (Claim w) handed e =
      silent (Claim w) (happens c (Claim w) handed) (worker_silent c (Claim w) (record c { jobs = c.jobs ++ record { worker = w; is_committed = false } ∷ [] }) refl w
      (λ h. claim_step h (length c.jobs + 1)) (λ P kept h p. M.claim_step-kept P kept h (length c.jobs + 1) p))
  event_makes (Commit j) handed e = commits_make j handed (item_at c.jobs j) e
  event_makes (Deliver i) handed e = silent (Deliver i) (happens c (Deliver i) handed) (deliver_silent c i (item_at c.network i) refl)
  event_makes (Tick w) handed e =
      silent (Tick w) (happens c (Tick w) handed) (worker_silent c (Tick w) c refl w tick_step (λ P kept h p. M.tick_step-kept P kept h p))
  event_makes (Notice w v) handed e =
      silent (Notice w v) (happens c (Notice w v) handed) (worker_silent c (Notice w v) c refl w (λ h. notice_step h v) (λ P kept h p. M.notice_step-kept P kept h v p))
  event_makes (NoticeNode w n) handed e = silent (NoticeNode w n) (happens c (NoticeNode w n) handed)
      (worker_silent c (NoticeNode w n) c refl w (λ h. notice_node_step h n) (λ P kept h p. M.notice_node_step-kept P kept h n p))
  event_makes (Evict n o) handed e =
      silent (Evict n o) (happens c (Evict n o) handed) (changed_there c (Evict n o) n _ (λ node at p number q. inl q), none_made)
  event_makes (Lose n o) handed e = silent (Lose n o) (happens c (Lose n o) handed) (
    changed_there c (Lose n o) n _ (λ node at p number q.
        elim (without_keeps node.store o p number q) [ inl stored ↦ inl stored | inr same ↦ inr (inr (ap (Lose n) (sym same))) ]),
    none_made,
  )
  event_makes (Kill w) handed e = silent (Kill w) (happens c (Kill w) handed) (killed_silent w (worker_at c w))
  event_makes (KillNode n) handed e =
      silent (KillNode n) (happens c (KillNode n) handed) (changed_there c (KillNode n) n _ (λ node at p number q. inl q), none_made)
  event_makes Join handed e = silent Join (happens c Join handed) (joined_keep, none_made)
