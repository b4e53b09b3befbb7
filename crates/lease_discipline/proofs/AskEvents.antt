-- Every event keeps asks in order.
use Rattle.std.proofs.Common.{◌≡◌, ℕ, zero, suc, ◌+◌, List, [], ◌∷◌, ◌++◌, Some, None, Option, refl, ap, sym, subst, ◌∙◌, ◌⊎◌, inl}
use Rattle.std.proofs.Common.{inr, arith, append-nil}
use Rattle.std.specs.Prelude.{Bool, true, false, if◌then◌else◌, ◌||◌, nat_lt, not}
use Rattle.std.specs.List.{list_any}
use Rattle.sequence.proofs.Places.{or_left}
use Rattle.meaning.proofs.BirthLaws.{at_test}
use Rattle.meaning.specs.Values.{Outcome}
use Rattle.event_log.specs.Commits.{commit_entries}
use Rattle.event_log.specs.Entries.{Attempt}
use Rattle.event_log.specs.Breaks.{Among}
use Rattle.protocol_laws.specs.of_protocol.Numbered.{item_at, changed_at}
use Rattle.event_log.specs.Words.{attempt}
use Rattle.protocol_laws.proofs.of_protocol_owed.Nodes.{changed_cases, there_more, there_still}
use Rattle.protocol_laws.proofs.of_protocol_owed.CourseEvents.{append_split, one_of}
use Rattle.protocol_laws.proofs.of_protocol_owed.Envelopes.{among-more}
use Rattle.protocol_laws.specs.of_protocol.Sets.{object_id}
use Rattle.protocol_laws.specs.of_protocol.Sets.{first_item, has, least, repeated, rest_of}
use Rattle.protocol_laws.specs.of_protocol.Messages.{Envelope, envelope, Message, Endpoint, TheWorker, TheNode, Ask, Give, Elsewhere, Wait, Back, Push, Finished, FinishedAck, Failed}
use Rattle.protocol_laws.specs.of_protocol.Messages.{Where, At, Gone, Fetch, CopyOf, Missing, Hold, HoldAck, Unhold}
use Rattle.protocol_laws.specs.of_protocol.Jobs.{Outcomes}
use Rattle.protocol_laws.specs.of_protocol.Nodes.{AskKey, AskReply, Asked, Node, Queued, Scheduler, SentOn, NodeContext, with_scheduler}
use Rattle.protocol_laws.specs.of_protocol.Slots.{ask_key, asked_by, asks_slot, forgets, frees, gives_worker, grants, grants_next, grants_queued, has_free_slot}
use Rattle.protocol_laws.specs.of_protocol.Slots.{has_no_slot_for, leases_idle}
use Rattle.protocol_laws.specs.of_protocol.Slots.{next_in_circle, queues, replies_anew, reply_to, same_key, with_answered}
use Rattle.protocol_laws.specs.of_protocol.Slots.{without_slot, without_worker}
use Rattle.protocol_laws.specs.of_protocol.Tables.{AskedAt, OwnTask, Worker, new_worker, task_of}
use Rattle.protocol_laws.specs.of_protocol.Steps.{WorkerContext, object_at}
use Rattle.protocol_laws.specs.of_protocol.Cluster.{ClusterState, node_at, worker_at, there, here, after_node}
use Rattle.protocol_laws.specs.of_protocol_owed.Turns.{IsAnswer}
use Rattle.protocol_laws.proofs.of_protocol_owed.Asks.{QueueIsRight, Stands, has_key, reply_in, reply-other, same_key-refl, same_key-true, with_reply_in}
use Rattle.protocol_laws.proofs.of_protocol_owed.Nodes.{NodesAreRight}
use Rattle.lease_discipline.specs.Asks as A
use Rattle.meaning.specs.Values.{Birth}
use Rattle.std.specs.Prelude.{◌&&◌}
use Rattle.event_log.specs.Entries.{Entry}
use Rattle.event_log.specs.Words.{same_attempt}
use Rattle.protocol_laws.specs.of_protocol.Commits.{keeps_contents, bears_all, claim_by, claim_step, commit_by, commit_step, ends, next_id_here, stops_by, with_outcomes}
use Rattle.protocol_laws.specs.of_protocol.Deliveries.{reached}
use Rattle.protocol_laws.specs.of_protocol.Jobs.{AtEnd, AtGet, Stopped, stop_of}
use Rattle.protocol_laws.specs.of_protocol.Releases.{release_step}
use Rattle.protocol_laws.specs.of_protocol.Runs.{begins_run, is_free, leaves_if_free, push_reached}
use Rattle.protocol_laws.specs.of_protocol.Steps.{logs_all, with_phase, with_run}
use Rattle.protocol_laws.specs.of_protocol.Tables.{HasEnded, Out, Execution, Waits}
use Rattle.protocol_laws.specs.of_protocol.Cluster.{worker_does, worker_does_at, worker_does_by}
use Rattle.protocol_laws.proofs.of_protocol_owed.Moves as M
use Rattle.protocol_laws.proofs.of_protocol_owed.Nodes as N
use Rattle.protocol_laws.proofs.of_protocol_owed.NodeMoves.{IsKeptThere, asks_slot-kept, frees-kept}
use Rattle.lease_discipline.proofs.Moves.{IsHeardFrom, IsKept, bears_all-kept, keeps_contents-kept, leaves_if_free-kept, needs-kept, reached-kept, release_step-kept}
use Rattle.lease_discipline.proofs.Asking.{Asks, AsksOf, GivenOf, OverBy, PassedBy, ToldOf, asks_kept, frees_asks, own_task, same_asks}
use Rattle.lease_discipline.specs.Asks.{IsDeadNode, IsLast, IsPassed, KeepsAsks, OwnsAsks}
use Rattle.lease_discipline.specs.Discipline.{IsDone, KeepsLeases, Pushed}
use Rattle.lease_discipline.proofs.Turns.{sch}

-- ---- what a node was asked

abbrev pub Keys : Scheduler → Scheduler → Type 0
Keys s t = (j : AskKey) (x : AskReply) → reply_to t j ≡ Some x → (y : AskReply) × (reply_to s j ≡ Some y)

-- but for one more
abbrev pub KeysAnd : AskKey → Scheduler → Scheduler → Type 0
KeysAnd k s t = (j : AskKey) (x : AskReply) → reply_to t j ≡ Some x → ((y : AskReply) × (reply_to s j ≡ Some y)) ⊎ (k ≡ j)

pub same_keys : (s : Scheduler) → Keys s s
same_keys s j x e = (x, e)

replied_keys : (asks : List Asked) (k : AskKey) (x : AskReply) (j : AskKey) (y : AskReply) → reply_in (with_reply_in asks k x) j ≡ Some y →
    ((z : AskReply) × (reply_in asks j ≡ Some z)) ⊎ (k ≡ j)
replied_keys asks k x j y e =
    at_test (λ b. same_key k j ≡ b → ((z : AskReply) × (reply_in asks j ≡ Some z)) ⊎ (k ≡ j)) (same_key k j)
    (λ _ f. inr (same_key-true k j f)) (λ _ f. inl (y, sym (reply-other asks k j x f) ∙ e)) refl

leases_keys : (t : NodeContext) (k : AskKey) (o : Option ℕ) → KeysAnd k (sch t) (sch (leases_idle t k o))
leases_keys t k None j x e = replied_keys (sch t).asks k _ j x e
leases_keys t k (Some w) j x e = replied_keys (sch t).asks k _ j x e

pub asked_keys : (t : NodeContext) (k : AskKey) (o : Option AskReply) → KeysAnd k (sch t) (sch (asked_by t k o))
asked_keys t k None =
    at_test (λ b. KeysAnd k (sch t) (sch (if b then gives_worker t k else has_no_slot_for t k))) (has_free_slot (sch t))
    (λ _. leases_keys t k (least (sch t).idle))
    (λ _. at_test (λ b. KeysAnd k (sch t) (sch (if b then replies_anew t k (SentOn (next_in_circle t.nodes t.number)) else queues t k)))
    (nat_lt (k.hops + 1) t.nodes)
    (λ _ j x e. replied_keys (sch t).asks k _ j x e) (λ _ j x e. replied_keys (sch t).asks k _ j x e))
asked_keys t k (Some y) = λ j x e. inl (x, e)

-- one that stands in the queue was asked for before
known : (s t : Scheduler) (k : AskKey) (y : AskReply) → reply_to s k ≡ Some y → KeysAnd k s t → Keys s t
known s t k y e keys j x f = elim (keys j x f) [ inl g ↦ g | inr same ↦ (y, ap (reply_to s) (sym same) ∙ e) ]

grants_queued_keys : (t : NodeContext) (queue : List AskKey) → (sch t).queue ≡ queue → QueueIsRight (sch t).asks (sch t).queue →
    Keys (sch t) (sch (grants_queued t (first_item queue)))
grants_queued_keys t [] e q = same_keys (sch t)
grants_queued_keys t (k ∷ ks) e q =
    let u : Scheduler = record (sch t) { queue = rest_of (sch t).queue } in
    let there : has_key k (sch t).queue ≡ true = ap (has_key k) e ∙ or_left (same_key k k) (has_key k ks) (same_key-refl k) in
    known (sch t) (sch (leases_idle (with_scheduler t u) k (least u.idle))) k Queued (q.waiting k there)
    (λ j x f. leases_keys (with_scheduler t u) k (least u.idle) j x f)

grants_keys : (t : NodeContext) → QueueIsRight (sch t).asks (sch t).queue → Keys (sch t) (sch (grants t))
grants_keys t q =
    at_test (λ b. Keys (sch t) (sch (if b then grants_next t (first_item (sch t).answered) else t))) (has_free_slot (sch t))
    (λ _. by_answered (first_item (sch t).answered)) (λ _. same_keys (sch t))
  where
    by_answered : (o : Option ℕ) → Keys (sch t) (sch (grants_next t o))
    by_answered None = grants_queued_keys t (sch t).queue refl q
    by_answered (Some w) = λ j x e. (x, e)

frees_keys : (t : NodeContext) (w : ℕ) → QueueIsRight (sch t).asks (sch t).queue → Keys (sch t) (sch (frees t w))
frees_keys t w q =
    at_test (λ b. Keys (sch t) (sch (if b then grants (with_scheduler t (without_slot (sch t) w)) else t))) (has (sch t).slot_holders w)
    (λ _ j x e. grants_keys (with_scheduler t (without_slot (sch t) w)) q j x e) (λ _. same_keys (sch t))

slot_keys : (t : NodeContext) (w : ℕ) → QueueIsRight (sch t).asks (sch t).queue → Keys (sch t) (sch (asks_slot t w))
slot_keys t w q =
    at_test (λ b. Keys (sch t) (sch (if b then t else grants (with_scheduler t (with_answered (sch t) w))))) (has (sch t).slot_holders w || has (sch t).answered w)
    (λ _. same_keys (sch t)) (λ _ j x e. grants_keys (with_scheduler t (with_answered (sch t) w)) q j x e)

pub forgets_keys : (t : NodeContext) (w : ℕ) → QueueIsRight (sch t).asks (sch t).queue → Keys (sch t) (sch (forgets t w))
forgets_keys t w q j x e = frees_keys (with_scheduler t (without_worker (sch t) w)) w q j x e

-- ---- answers that came

stands_some : (o : Option AskReply) (k : AskKey) (m : Message) → Stands o k m → (x : AskReply) × (o ≡ Some x)
unfolding Stands
stands_some None k m e = absurd e
stands_some (Some x) k m e = (x, refl)

-- what a node answered it was asked
pub answer_asked : (c : ClusterState) → NodesAreRight c → KeepsAsks c → (n t : ℕ) (a : Attempt) (m : Message) → IsAnswer a t m →
    Among (envelope (TheNode n) (TheWorker a.object.owner) m) c.network → A.Asked c.network a t n
answer_asked c right keeps n t a m is came =
    let there = right.senders _ n came refl in
    let r = right.each n there.0 there.1 in
    let x = stands_some _ (ask_key a t) m (r.replies.told a t m is came) in
    keeps.nodes n there.0 (ask_key a t) x.0 there.1 x.1

-- ---- the end of an event

pub last_dead : (dead next : ℕ → Type 0) (s : List Envelope) (a : Attempt) (t n : ℕ) → ((m : ℕ) → dead m → next m) → IsLast dead s a t n → IsLast next s a t n
last_dead dead next s a t n more l i m e = elim (l i m e) [
  | inl f ↦ inl f
  | inr (f, p) ↦ inr (f, elim p [ inl sent ↦ inl sent | inr d ↦ inr (more m d) ])
]

-- owners' clauses stay as more nodes are dead
pub owns_dead : (dead next : ℕ → Type 0) (s : List Envelope) (v : ℕ) (x : Worker) → ((n : ℕ) → dead n → next n) → OwnsAsks dead s v x → OwnsAsks next s v x
owns_dead dead next s v x more q = record {
  none = q.none;
  later = q.later;
  newborn = q.newborn;
  stands = λ k task t n e p. last_dead dead next s _ t n more (q.stands k task t n e p);
  unpushed = q.unpushed;
  runs = q.runs;
  begun = q.begun;
}

new_owns : (dead : ℕ → Type 0) (s : List Envelope) (v m : ℕ) → ((k i : ℕ) → A.Touched s (attempt (object_id v k) i) → ⊥) → OwnsAsks dead s v (new_worker m)
new_owns dead s v m untouched = record {
  none = λ k i e f. untouched k i f;
  later = λ k i task e less f. untouched k i f;
  newborn = λ k spec e f. untouched k 0 f;
  stands = λ k task t n e p. absurd (no_task k task e);
  unpushed = λ k task t n w e p f. no_task k task e;
  runs = λ k task w n e p. absurd (no_task k task e);
  begun = λ k task w n e p f. no_task k task e;
}
  where
    no_task : (k : ℕ) (task : OwnTask) → task_of (item_at (new_worker m).objects k) ≡ Some task → ⊥
    no_task zero task e = cc
    no_task (suc i) task e = cc

-- a node is put back, with envelopes and workers that it made
module _ (c d : ClusterState) (n : ℕ) (node : Node) (t : NodeContext) (stood : node_at d n ≡ Some node) (same_nodes : d.nodes ≡ c.nodes)
    (same_network : d.network ≡ c.network)
    (lives : t.node.is_live ≡ node.is_live) (keeps : KeepsAsks c)
    (mine : (v : ℕ) (y : Worker) → worker_at d v ≡ Some y → OwnsAsks (IsDeadNode c) (d.network ++ t.out.envelopes) v y)
    (there_too : (v : ℕ) (y : Worker) → worker_at c v ≡ Some y → (z : Worker) × (worker_at d v ≡ Some z))
    (closed : (a : Attempt) (w : ℕ) → Pushed (d.network ++ t.out.envelopes) a w → A.IsClosed (IsDeadNode c) (d.network ++ t.out.envelopes) a w)
    (owned : (a : Attempt) → A.Touched (d.network ++ t.out.envelopes) a → (y : Worker) × (worker_at c a.object.owner ≡ Some y))
    (asked : (k : AskKey) (x : AskReply) → reply_to t.node.scheduler k ≡ Some x → A.Asked (d.network ++ t.out.envelopes) k.attempt k.hops n) where
  abbrev after : ClusterState
  after = (after_node d n t).whole

  dead_more : (m : ℕ) → IsDeadNode c m → IsDeadNode after m
  dead_more m (k, at, off) =
      let at_d : node_at d m ≡ Some k = subst (λ ns. item_at ns m ≡ Some k) (sym same_nodes) at in
      let f = there_still d.nodes n m (λ _. t.node) k at_d in
      (f.0, f.1, off_still f.0 (elim (changed_cases d.nodes n m (λ _. t.node) f.0 f.1) [ inl (same, _, _, is) ↦ inl (same, is) | inr (_, e) ↦ inr e ]))
    where
      off_still : (x : Node) → ((m ≡ n) × (x ≡ t.node)) ⊎ (node_at d m ≡ Some x) → x.is_live ≡ false
      off_still x (inl (same, is)) =
          let f : ◌≡◌ {A = Option Node} (Some k) (Some node) =
          sym (subst (λ ns. item_at ns m ≡ Some k) (sym same_nodes) at) ∙ subst (λ i. node_at d i ≡ Some node) (sym same) stood in
          let g : k ≡ node = cc in
          ap (λ (y : Node). y.is_live) is ∙ lives ∙ ap (λ (y : Node). y.is_live) (sym g) ∙ off
      off_still x (inr e) =
          let f : ◌≡◌ {A = Option Node} (Some k) (Some x) = sym (subst (λ ns. item_at ns m ≡ Some k) (sym same_nodes) at) ∙ e in
          let g : k ≡ x = cc in
          ap (λ (y : Node). y.is_live) (sym g) ∙ off

  pub asks_end : KeepsAsks after
  asks_end = record {
    nodes = λ m node_m k x e r. elim (changed_cases d.nodes n m (λ _. t.node) node_m e) [
      | inl (same, _, _, is) ↦ subst (λ i. A.Asked after.network k.attempt k.hops i) (sym same)
          (asked k x (ap (λ (y : Node). reply_to y.scheduler k) (sym is) ∙ r))
      | inr (_, at) ↦ earlier m node_m k x at r
    ];
    owners = λ v y e. elim (append_split d.workers (repeated t.opened (new_worker n)) v y e) [
      | inl f ↦ owns_dead (IsDeadNode c) (IsDeadNode after) after.network v y dead_more (mine v y f)
      | inr (none, (i, f)) ↦ subst (OwnsAsks (IsDeadNode after) after.network v) (one_of i t.opened v (new_worker n) y f)
          (new_owns (IsDeadNode after) after.network v n (λ k j touched. not_there v none (owned _ touched)))
    ];
    closed = λ a w e. let k = closed a w e in record {
      hops = k.hops;
      node = k.node;
      given = k.given;
      last = last_dead (IsDeadNode c) (IsDeadNode after) after.network a k.hops k.node dead_more k.last;
    };
    owned = λ a e. let y = owned a e in let z = there_too _ y.0 y.1 in (z.0, there_more d.workers (repeated t.opened (new_worker n)) _ z.0 z.1);
  }
    where
      earlier : (m : ℕ) (k' : Node) (k : AskKey) (x : AskReply) → node_at d m ≡ Some k' → reply_to k'.scheduler k ≡ Some x → A.Asked after.network k.attempt k.hops m
      earlier m k' k x at r =
          let old = keeps.nodes m k' k x (subst (λ ns. item_at ns m ≡ Some k') same_nodes at) r in (
            old.0,
            among-more d.network t.out.envelopes (envelope (TheWorker old.0) (TheNode m) (Ask k.attempt k.hops))
                (subst (λ ls. Among (envelope (TheWorker old.0) (TheNode m) (Ask k.attempt k.hops)) ls) (sym same_network) old.1),
          )

      not_there : (v : ℕ) → worker_at d v ≡ None → (y : Worker) × (worker_at c v ≡ Some y) → ⊥
      not_there v none (y, at) = let z = there_too v y at in let f = z.1 in cc

-- ---- beside an event

abbrev Lives : Bool → NodeContext → Type 0
Lives b t = t.node.is_live ≡ b

lives_there : (b : Bool) → IsKeptThere (Lives b)
lives_there b = record { opens = λ t w e. e; says = λ t w m e. e; scheduler = λ t s e. e; store = λ t s e. e }

keys_then : (s t u : Scheduler) → Keys s t → Keys t u → Keys s u
keys_then s t u p q j x e = let f = q j x e in p j f.0 f.1

module _ (c : ClusterState) (n : ℕ) (node : Node) where
  pub record Beside (h : WorkerContext) : Type 0 where
    pub tells : N.Goes c.network c.slots n h
    pub keys : Keys node.scheduler h.there.node.scheduler
    pub lives : h.there.node.is_live ≡ node.is_live

  beside_kept : M.IsKept Beside
  beside_kept =
      let g : M.IsKept (N.Goes c.network c.slots n) = N.goes c.network c.slots n in
      record {
        logs = λ h es quiet b. record { tells = g.logs h es quiet b.tells; keys = b.keys; lives = b.lives };
        says = λ h w m b. record { tells = g.says h w m b.tells; keys = b.keys; lives = b.lives };
        says_to_node = λ h k m b. record { tells = g.says_to_node h k m b.tells; keys = b.keys; lives = b.lives };
        worker = λ h x e f b. record { tells = g.worker h x e f b.tells; keys = b.keys; lives = b.lives };
        store = λ h s b. record { tells = g.store h s b.tells; keys = b.keys; lives = b.lives };
        frees = λ h b. record {
          tells = g.frees h b.tells;
          keys = keys_then node.scheduler h.there.node.scheduler (sch (frees h.there h.me)) b.keys (frees_keys h.there h.me b.tells.0.queue);
          lives = frees-kept (Lives node.is_live) (lives_there node.is_live) h.there h.me b.lives;
        };
        asks = λ h b. record {
          tells = g.asks h b.tells;
          keys = keys_then node.scheduler h.there.node.scheduler (sch (asks_slot h.there h.me)) b.keys (slot_keys h.there h.me b.tells.0.queue);
          lives = asks_slot-kept (Lives node.is_live) (lives_there node.is_live) h.there h.me b.lives;
        };
      }

-- ---- an event of a worker

module _ (c : ClusterState) (me : ℕ) (x : Worker) (at : worker_at c me ≡ Some x) where
  abbrev Q : WorkerContext → Type 0
  Q = Asks c me x at (IsDeadNode c)

  abbrev Kept : (WorkerContext → Type 0) → Type 0
  Kept P = IsKept (ToldOf c me x at (IsDeadNode c)) (OverBy c me x at (IsDeadNode c)) (GivenOf c me x at (IsDeadNode c)) (PassedBy c me x at (IsDeadNode c)) P

  q_kept : Kept Q
  q_kept = asks_kept c me x at (IsDeadNode c)

  module _ (node : Node) (home : node_at c x.node ≡ Some node) (keeps : KeepsAsks c) (right : NodesAreRight c) where
    abbrev start : WorkerContext
    start = here c me x node

    begins : Q start
    begins = subst (λ ls. AsksOf c me x at (IsDeadNode c) me x ls) (sym (append-nil c.network))
        (record { who = refl; mine = keeps.owners me x at; others = λ v y _ e. keeps.owners v y e; closed = keeps.closed; owned = keeps.owned })

    begins_beside : Beside c x.node node start
    begins_beside = record { tells = N.at_rest c x.node node home right; keys = same_keys node.scheduler; lives = refl }

    pub worker_asks : (f : WorkerContext → WorkerContext) → N.Keeps f → (Q start → Q (f start)) → KeepsAsks (worker_does_at c me x f (Some node)).whole
    worker_asks f moves step =
        let g : WorkerContext = release_step (f start) in
        let a : Q g = release_step-kept (ToldOf c me x at (IsDeadNode c)) (OverBy c me x at (IsDeadNode c)) (GivenOf c me x at (IsDeadNode c))
        (PassedBy c me x at (IsDeadNode c))
        Q q_kept (f start) (step begins) in
        let b : Beside c x.node node g = M.release_step-kept (Beside c x.node node) (beside_kept c x.node node) (f start)
        (moves (Beside c x.node node) (beside_kept c x.node node) start begins_beside) in
        asks_end c (record c { workers = changed_at c.workers me (λ _. g.worker) }) x.node node g.there home refl refl b.lives keeps
        (λ v y e. elim (changed_cases c.workers me v (λ _. g.worker) y e) [
          | inl (same, _, _, is) ↦ subst (λ i. OwnsAsks (IsDeadNode c) (c.network ++ g.there.out.envelopes) i y) (sym same)
              (subst (OwnsAsks (IsDeadNode c) (c.network ++ g.there.out.envelopes) me) (sym is) a.mine)
          | inr (apart, before) ↦ a.others v y apart before
        ])
        (λ v y e. there_still c.workers me v (λ _. g.worker) y e) a.closed a.owned
        (λ k r e.
        let old = b.keys k r e in
        let asked = keeps.nodes x.node node k old.0 home old.1 in
        (asked.0, among-more c.network g.there.out.envelopes (envelope (TheWorker asked.0) (TheNode x.node) (Ask k.attempt k.hops)) asked.1))

abbrev pub Steps : ClusterState → ℕ → (WorkerContext → WorkerContext) → Type 0
Steps c w f = (x : Worker) (at : worker_at c w ≡ Some x) (node : Node) → node_at c x.node ≡ Some node → Q c w x at (here c w x node) →
    Q c w x at (f (here c w x node))

pub worker_event : (c : ClusterState) (w : ℕ) (f : WorkerContext → WorkerContext) → N.Keeps f → Steps c w f → NodesAreRight c → KeepsAsks c → KeepsAsks (worker_does c w f).whole
worker_event c w f moves steps right k = by_worker (worker_at c w) refl
  where
    by_node : (x : Worker) → worker_at c w ≡ Some x → (o : Option Node) → node_at c x.node ≡ o → KeepsAsks (worker_does_at c w x f o).whole
    by_node x at None e = k
    by_node x at (Some node) e = worker_asks c w x at node e k right f moves (steps x at node e)

    by_worker : (o : Option Worker) → worker_at c w ≡ o → KeepsAsks (worker_does_by c w f o).whole
    by_worker None at = k
    by_worker (Some x) at = by_node x at (node_at c x.node) refl

-- ---- the worker's own steps

module _ (c : ClusterState) (me : ℕ) (x : Worker) (at : worker_at c me ≡ Some x) where
  abbrev R : WorkerContext → Type 0
  R = Q c me x at

  same : (h : WorkerContext) (y : Worker) → y.objects ≡ h.worker.objects → R h → AsksOf c me x at (IsDeadNode c) h.me y (c.network ++ h.there.out.envelopes)
  same h y e q = same_asks c me x at (IsDeadNode c) h.me h.worker y (c.network ++ h.there.out.envelopes) (λ k. ap (λ ys. task_of (item_at ys k)) e) q

  push_step : (h : WorkerContext) (a : Attempt) (spec : Birth) → R h → R (push_reached h a spec)
  push_step h a spec q =
      at_test (λ b. R (if b then begins_run h a spec else h)) (is_free h.worker.run && not (list_any (λ b. same_attempt b a) h.worker.began))
      (λ _. same h (begins_run h a spec).worker refl q) (λ _. q)

  pub claim_asks : (h : WorkerContext) (j : ℕ) → R h → R (claim_step h j)
  claim_asks h j q = by_run h.worker.run
    where
      by_run : (r : Option Execution) → R (claim_by h j r)
      by_run None = q
      by_run (Some run) = same h (with_phase h run (Out j)).worker refl q

  T : Kept c me x at R
  T = q_kept c me x at

  ends_asks : (h : WorkerContext) (run : Execution) (cs : List Outcome) → R h → R (ends h run cs)
  ends_asks h run cs q =
      let g : WorkerContext = with_phase h run (HasEnded cs) in
      let held : WorkerContext = keeps_contents g run.attempt.object run.attempt.number cs in
      frees_asks c me x at (IsDeadNode c) (leaves_if_free held)
      (leaves_if_free-kept (ToldOf c me x at (IsDeadNode c)) (OverBy c me x at (IsDeadNode c)) (GivenOf c me x at (IsDeadNode c))
      (PassedBy c me x at (IsDeadNode c)) R T held
      (keeps_contents-kept (ToldOf c me x at (IsDeadNode c)) (OverBy c me x at (IsDeadNode c)) (GivenOf c me x at (IsDeadNode c))
      (PassedBy c me x at (IsDeadNode c)) R T g run.attempt.object run.attempt.number cs (same h g.worker refl q)))

  stops_asks : (h : WorkerContext) (stop : Stopped) (r : Option Execution) → R h → R (stops_by h stop r)
  stops_asks h stop None q = q
  stops_asks h (AtGet y) (Some run) q =
      needs-kept (ToldOf c me x at (IsDeadNode c)) (OverBy c me x at (IsDeadNode c)) (GivenOf c me x at (IsDeadNode c))
      (PassedBy c me x at (IsDeadNode c)) R T h run y
      (same h (with_phase h run (Waits y None)).worker refl q)
  stops_asks h (AtEnd content) (Some run) q = ends_asks h run content q

  pub commit_asks : (h : WorkerContext) (o : Outcomes) → R h → R (commit_step h o)
  commit_asks h o q = by_run h.worker.run
    where
      by_run : (r : Option Execution) → R (commit_by h o r)
      by_run None = q
      by_run (Some run) =
          let es : List Entry = commit_entries run.attempt (next_id_here h) o.births o.prints (stop_of o.stop) in
          let g : WorkerContext = logs_all (with_run h (with_outcomes run o)) es in
          let borne : WorkerContext = bears_all g run.attempt o.births in
          stops_asks borne o.stop borne.worker.run
          (bears_all-kept (ToldOf c me x at (IsDeadNode c)) (OverBy c me x at (IsDeadNode c)) (GivenOf c me x at (IsDeadNode c))
          (PassedBy c me x at (IsDeadNode c)) R T g run.attempt o.births
          (same h (with_run h (with_outcomes run o)).worker refl q))

  -- ---- what comes

  module _ (node : Node) (home : node_at c x.node ≡ Some node) (keeps : KeepsAsks c) (right : NodesAreRight c) (leases : KeepsLeases c) where
    abbrev first : WorkerContext
    first = here c me x node

    abbrev Heard : Endpoint → Message → Type 0
    Heard = IsHeardFrom (ToldOf c me x at (IsDeadNode c)) (OverBy c me x at (IsDeadNode c)) (GivenOf c me x at (IsDeadNode c))
        (PassedBy c me x at (IsDeadNode c)) R T first

    told : (u : ℕ) (a : Attempt) → IsDone (worker_at c) u a → ToldOf c me x at (IsDeadNode c) u a
    told u a d = elim ((leases.workers.each u d.worker d.there).began a d.done.listed) [ inl (main, _) ↦ inr main | inr p ↦ inl p ]

    heard_worker : (u : ℕ) (m : Message) → Among (envelope (TheWorker u) (TheWorker me) m) c.network → R first → Heard (TheWorker u) m
    heard_worker u (Push a spec) came q = push_step first a spec q
    heard_worker u (Finished a n rs) came q = told u a (leases.workers.envelopes _ came)
    heard_worker u (Failed a f) came q = told u a (leases.workers.envelopes _ came)
    heard_worker u (FinishedAck a) came q = tt
    heard_worker u (Ask a t) came q = tt
    heard_worker u (Give a t v) came q = tt
    heard_worker u (Elsewhere a t n) came q = tt
    heard_worker u (Wait a t) came q = tt
    heard_worker u (Back a) came q = tt
    heard_worker u (Where o) came q = tt
    heard_worker u (At o number ns kept) came q = tt
    heard_worker u (Gone o f) came q = tt
    heard_worker u (Fetch o number) came q = tt
    heard_worker u (CopyOf o number b) came q = tt
    heard_worker u (Missing o number n) came q = tt
    heard_worker u (Hold e o) came q = tt
    heard_worker u (HoldAck e o) came q = tt
    heard_worker u (Unhold e o why) came q = tt

    -- the node that sent the ask on is the one that was asked
    passed : (n t m : ℕ) (a : Attempt) → Among (envelope (TheNode n) (TheWorker a.object.owner) (Elsewhere a t m)) c.network → (own : OwnTask) (i : ℕ) →
        a.object.owner ≡ me →
        task_of (object_at first a.object) ≡ Some own → own.progress ≡ AskedAt t i → own.number ≡ a.number → IsPassed (IsDeadNode c) c.network a t i
    passed n t m a came own i mine there progress number =
        let asked : A.Asked c.network a t n = answer_asked c right keeps n t a (Elsewhere a t m) (inr (inl (m, refl))) came in
        let last : IsLast (IsDeadNode c) c.network (attempt (object_id me a.object.serial) own.number) t i =
        (keeps.owners me x at).stands a.object.serial own t i (own_task first a.object own there) progress in
        let is : attempt (object_id me a.object.serial) own.number ≡ a =
        ap (λ u. attempt (object_id u a.object.serial) own.number) (sym mine) ∙ ap (attempt a.object) number in
        let here_last : IsLast (IsDeadNode c) c.network a t i = subst (λ b. IsLast (IsDeadNode c) c.network b t i) is last in
        elim (here_last t n asked) [
          | inl (_, node_is) ↦ subst (λ j. IsPassed (IsDeadNode c) c.network a t j) node_is (inl (m, came))
          | inr (less, _) ↦ absurd (omega (arith, less))
        ]

    heard_node : (n : ℕ) (m : Message) → Among (envelope (TheNode n) (TheWorker me) m) c.network → Heard (TheNode n) m
    heard_node n (Give a t v) came = λ own.
        let sent : Among (envelope (TheNode n) (TheWorker a.object.owner) (Give a t v)) c.network =
        subst (λ u. Among (envelope (TheNode n) (TheWorker u) (Give a t v)) c.network) (sym own) came in
        record { given = sent; asked = answer_asked c right keeps n t a (Give a t v) (inl (v, refl)) sent }
    heard_node n (Elsewhere a t m) came = λ own i mine there progress number.
        passed n t m a (subst (λ u. Among (envelope (TheNode n) (TheWorker u) (Elsewhere a t m)) c.network) (sym mine) came) own i mine there progress number
    heard_node n (Push a spec) came = tt
    heard_node n (Finished a m rs) came = tt
    heard_node n (Failed a f) came = tt
    heard_node n (FinishedAck a) came = tt
    heard_node n (Ask a t) came = tt
    heard_node n (Wait a t) came = tt
    heard_node n (Back a) came = tt
    heard_node n (Where o) came = tt
    heard_node n (At o number ns kept) came = tt
    heard_node n (Gone o f) came = tt
    heard_node n (Fetch o number) came = tt
    heard_node n (CopyOf o number b) came = tt
    heard_node n (Missing o number m) came = tt
    heard_node n (Hold e o) came = tt
    heard_node n (HoldAck e o) came = tt
    heard_node n (Unhold e o why) came = tt

    heard_from : (from : Endpoint) (m : Message) → Among (envelope from (TheWorker me) m) c.network → R first → Heard from m
    heard_from (TheWorker u) m came q = heard_worker u m came q
    heard_from (TheNode n) m came q = heard_node n m came

    pub reached_asks : (from : Endpoint) (m : Message) → Among (envelope from (TheWorker me) m) c.network → R first → R (reached first from m)
    reached_asks from m came q =
        reached-kept (ToldOf c me x at (IsDeadNode c)) (OverBy c me x at (IsDeadNode c)) (GivenOf c me x at (IsDeadNode c))
        (PassedBy c me x at (IsDeadNode c)) R T first from m (heard_from from m came q) q
