-- A worker in its event sends asks as it should.
use Rattle.std.proofs.Common.{◌≡◌, ℕ, ◌+◌, List, [], ◌∷◌, ◌++◌, Some, None, refl, ap, sym, subst, ◌∙◌, ◌⊎◌, inl, inr, arith}
use Rattle.std.specs.Prelude.{length, Bool, true, false, ◌&&◌}
use Rattle.std.proofs.lemmas.Bool.{both_ways}
use Rattle.meaning.specs.Values.{Birth, Id}
use Rattle.event_log.specs.Entries.{Attempt, Faulted, Got}
use Rattle.event_log.specs.Words.{attempt}
use Rattle.event_log.specs.Breaks.{Among}
use Rattle.protocol.specs.Numbered.{item_at, changed_at}
use Rattle.protocol.specs.Sets.{is_empty, object_id}
use Rattle.protocol.specs.Messages.{Envelope, envelope, Message, Endpoint, TheWorker, TheNode, Ask, Give, Elsewhere, Wait, Back, Push, Finished, FinishedAck, Failed}
use Rattle.protocol.specs.Messages.{Where, At, Gone, Fetch, CopyOf, Missing, Hold, HoldAck, Unhold}
use Rattle.protocol.specs.Nodes.{AskKey, AskReply, Leased, Queued, SentOn, NodeContext}
use Rattle.protocol.specs.Slots.{asks_slot, frees, reply_message}
use Rattle.protocol.specs.Tables.{AskedAt, AtRest, HasFaulted, OwnTask, Progress, RunsOn, Worker, new_task, task_of, with_task}
use Rattle.protocol.specs.Steps.{WorkerContext, logs, object_at, own_id, own_object, with_phase, with_run, with_task_of}
use Rattle.protocol.specs.Asking.{asks_at, rests, with_begun}
use Rattle.protocol.specs.Commits.{task_objects, with_objects}
use Rattle.smallest_steps.proofs.Known.{new_tasks}
use Rattle.protocol.specs.Runs.{gives_slot_back, with_answer}
use Rattle.protocol.specs.Cluster.{ClusterState}
use Rattle.protocol_owed.proofs.Envelopes.{among-append_cases, among-behind, among-more, among-push_cases}
use Rattle.smallest_steps.proofs.Smallest.{AnyPassed}
use Rattle.lease_discipline.specs.Asks.{Asked}
use Rattle.smallest_steps.proofs.Known.{own_at}
use Rattle.lease_discipline.proofs.Follows.{More}
use Rattle.lease_discipline.proofs.Moves.{IsKept, is_plain}
use Rattle.lease_discipline.proofs.Theres.{envelope_cases, envelope_last, envelope_more, with_envelope}
use Rattle.lease_discipline.proofs.Heres.{by_number}
use Rattle.lease_discipline.proofs.Asking.{IsPut, own_task, same_task, put_task}
use Rattle.owed_asks.specs.Routes.{AsksFollow, IsRouted, IsRoutedBetween, OwnerAsks, is_new, rests_now}
use Rattle.smallest_steps.proofs.NodeMoves.{KeepsThere, asks_slot-kept, frees-kept}

-- ---- envelopes

abbrev pub is_ask : Message → Bool
is_ask (Ask a t) = true
is_ask _ = false

plain_unasked : (m : Message) → is_plain m ≡ true → is_ask m ≡ false
plain_unasked (Ask a t) e = absurd (cc)
plain_unasked (Give a t w) e = refl
plain_unasked (Push a spec) e = refl
plain_unasked (Finished a n rs) e = refl
plain_unasked (Failed a f) e = refl
plain_unasked (FinishedAck a) e = refl
plain_unasked (Back a) e = refl
plain_unasked (Elsewhere a t n) e = refl
plain_unasked (Wait a t) e = refl
plain_unasked (Where o) e = refl
plain_unasked (At o number ns kept) e = refl
plain_unasked (Gone o f) e = refl
plain_unasked (Fetch o number) e = refl
plain_unasked (CopyOf o number c) e = refl
plain_unasked (Missing o number n) e = refl
plain_unasked (Hold e o) f = refl
plain_unasked (HoldAck e o) f = refl
plain_unasked (Unhold e o why) f = refl

-- what a worker says, but for asks
unasked_routed : (u : ℕ) (to : Endpoint) (m : Message) → is_ask m ≡ false → IsRoutedBetween (TheWorker u) to m
unasked_routed u to (Ask a t) e = absurd (cc)
unasked_routed u to (Give a t w) e = tt
unasked_routed u to (Push a spec) e = tt
unasked_routed u to (Finished a n rs) e = tt
unasked_routed u to (Failed a f) e = tt
unasked_routed u to (FinishedAck a) e = tt
unasked_routed u to (Back a) e = tt
unasked_routed u to (Elsewhere a t n) e = tt
unasked_routed u to (Wait a t) e = tt
unasked_routed u to (Where o) e = tt
unasked_routed u to (At o number ns kept) e = tt
unasked_routed u to (Gone o f) e = tt
unasked_routed u to (Fetch o number) e = tt
unasked_routed u to (CopyOf o number c) e = tt
unasked_routed u to (Missing o number n) e = tt
unasked_routed u to (Hold e o) f = tt
unasked_routed u to (HoldAck e o) f = tt
unasked_routed u to (Unhold e o why) f = tt

answer_routed : (n : ℕ) (k : AskKey) (x : AskReply) → IsRoutedBetween (TheNode n) (TheWorker k.attempt.object.owner) (reply_message k x)
answer_routed n k (Leased w) = refl
answer_routed n k (SentOn m) = refl
answer_routed n k Queued = tt

-- ---- more is sent, and no ask

pub record AsksNothing (s t : List Envelope) : Type 0 where
  pub more : More s t
  pub asked : (a : Attempt) (i n : ℕ) → Asked t a i n → Asked s a i n
  pub routed : (l : Envelope) → Among l t → Among l s ⊎ IsRouted l

pub asked_more : (s t : List Envelope) (a : Attempt) (i n : ℕ) → More s t → Asked s a i n → Asked t a i n
asked_more s t a i n more e = (e.0, more _ e.1)

pub owner_more : (s t : List Envelope) (v : ℕ) (x : Worker) → More s t → OwnerAsks s v x → OwnerAsks t v x
owner_more s t v x more q = record {
  standing = λ k task i n at p. asked_more s t _ i n more (q.standing k task i n at p);
  first = λ k task at zero old. asked_more s t _ 0 x.node more (q.first k task at zero old);
}

-- ---- tables

-- the same tasks, on the same node
pub owner_same : (s : List Envelope) (v : ℕ) (x y : Worker) → y.node ≡ x.node → ((k : ℕ) → task_of (item_at y.objects k) ≡ task_of (item_at x.objects k)) →
    OwnerAsks s v x → OwnerAsks s v y
owner_same s v x y node same q = record {
  standing = λ k task i n at p. q.standing k task i n (sym (same k) ∙ at) p;
  first = λ k task at zero old. subst (λ n. Asked s (attempt (object_id v k) 0) 0 n) (sym node) (q.first k task (sym (same k) ∙ at) zero old);
}

-- one task takes the place of another
owner_put : (s t : List Envelope) (v k0 : ℕ) (x y : Worker) (old task : OwnTask) → IsPut x y k0 old task → y.node ≡ x.node → More s t →
    ((i n : ℕ) → task.progress ≡ AskedAt i n → Asked t (attempt (object_id v k0) task.number) i n) →
    (task.number ≡ 0 → is_new task ≡ false → Asked t (attempt (object_id v k0) 0) 0 x.node) → OwnerAsks s v x → OwnerAsks t v y
owner_put s t v k0 x y old task put node more standing first q = record {
  standing = λ k other i n at p. elim (by_number k k0) [
    | inl same ↦
        let is : task ≡ other = is_task k same other at in
        subst (λ j. Asked t (attempt (object_id v j) other.number) i n) (sym same)
        (subst (λ (u : OwnTask). Asked t (attempt (object_id v k0) u.number) i n) is (standing i n (ap (λ (u : OwnTask). u.progress) is ∙ p)))
    | inr apart ↦ asked_more s t _ i n more (q.standing k other i n (sym (put.apart k apart) ∙ at) p)
  ];
  first = λ k other at zero old. subst (λ n. Asked t (attempt (object_id v k) 0) 0 n) (sym node) (elim (by_number k k0) [
    | inl same ↦
        let is : task ≡ other = is_task k same other at in
        subst (λ j. Asked t (attempt (object_id v j) 0) 0 x.node) (sym same)
        (first (ap (λ (u : OwnTask). u.number) is ∙ zero) (ap is_new is ∙ old))
    | inr apart ↦ asked_more s t _ 0 x.node more (q.first k other (sym (put.apart k apart) ∙ at) zero old)
  ]);
}
  where
    is_task : (k : ℕ) → k ≡ k0 → (other : OwnTask) → task_of (item_at y.objects k) ≡ Some other → task ≡ other
    is_task k same other e = same_task _ _ (sym put.now ∙ subst (λ j. task_of (item_at y.objects j) ≡ Some other) same e)

asked_not_new : (task : OwnTask) (t n : ℕ) → task.progress ≡ AskedAt t n → is_new task ≡ false
asked_not_new task t n e = ap (λ p. rests_now p && is_empty task.begun) e

runs_not_asked : (w n t m : ℕ) → RunsOn w n ≡ AskedAt t m → ⊥
runs_not_asked w n t m e = cc

rests_not_asked : (t m : ℕ) → AtRest ≡ AskedAt t m → ⊥
rests_not_asked t m e = cc

rested_not_new : (task : OwnTask) → is_new (rests task) ≡ false → is_new task ≡ false
rested_not_new task e = by_progress task.progress
  where
    by_progress : (p : Progress) → (rests_now p && is_empty task.begun) ≡ false
    by_progress AtRest = e
    by_progress (AskedAt t n) = refl
    by_progress (RunsOn w n) = refl

-- ---- an event of worker me

module _ (c : ClusterState) (me n : ℕ) where
  pub record RoutesOf (m : ℕ) (x : Worker) (s : List Envelope) : Type 0 where
    pub who : m ≡ me
    pub home : x.node ≡ n
    pub envelopes : (l : Envelope) → Among l s → IsRouted l
    pub follow : AsksFollow s
    pub mine : OwnerAsks s me x

  abbrev pub sent_so : WorkerContext → List Envelope
  sent_so h = c.network ++ h.there.out.envelopes

  abbrev pub Routes : WorkerContext → Type 0
  Routes h = RoutesOf h.me h.worker (sent_so h)

  more_routes : (m : ℕ) (x : Worker) (s t : List Envelope) → AsksNothing s t → RoutesOf m x s → RoutesOf m x t
  more_routes m x s t o q = record {
    who = q.who;
    home = q.home;
    envelopes = λ l e. elim (o.routed l e) [ inl f ↦ q.envelopes l f | inr f ↦ f ];
    follow = λ a i k e. let f = q.follow a i k (o.asked a (i + 1) k e) in (f.0, asked_more s t a i f.0 o.more f.1);
    mine = owner_more s t me x o.more q.mine;
  }

  abbrev with_one : WorkerContext → Envelope → List Envelope
  with_one h l = with_envelope c.network h.there.out.envelopes l

  not_ask : (m : Message) (a : Attempt) (i : ℕ) → is_ask m ≡ false → Ask a i ≡ m → ⊥
  not_ask m a i e f = both_ways (is_ask m) e (ap is_ask (sym f))

  quiet_envelope : (h : WorkerContext) (u : ℕ) (to : Endpoint) (m : Message) → is_ask m ≡ false → AsksNothing (sent_so h) (with_one h (envelope (TheWorker u) to m))
  quiet_envelope h u to m quiet = record {
    more = envelope_more c.network h.there.out.envelopes (envelope (TheWorker u) to m);
    asked = λ a i k e. elim (envelope_cases c.network h.there.out.envelopes (envelope (TheWorker u) to m) _ e.1) [
      | inl f ↦ (e.0, f)
      | inr f ↦ absurd (not_ask m a i quiet (ap (λ (l : Envelope). l.message) f))
    ];
    routed = λ l e. elim (envelope_cases c.network h.there.out.envelopes (envelope (TheWorker u) to m) l e) [
      | inl f ↦ inl f
      | inr f ↦ inr (subst IsRouted (sym f) (unasked_routed u to m quiet))
    ];
  }

  says_routes : (h : WorkerContext) (x : Worker) (to : Endpoint) (m : Message) → is_ask m ≡ false → RoutesOf h.me x (sent_so h) →
      RoutesOf h.me x (with_one h (envelope (TheWorker h.me) to m))
  says_routes h x to m quiet q = more_routes h.me x (sent_so h) (with_one h (envelope (TheWorker h.me) to m)) (quiet_envelope h h.me to m quiet) q

  -- what the node says asks nothing
  pub record NodeSays (base : List Envelope) (t : NodeContext) : Type 0 where
    pub before : (l : Envelope) → Among l base → Among l t.out.envelopes
    pub since : (l : Envelope) → Among l t.out.envelopes → Among l base ⊎ (((k : ℕ) × (l.sender ≡ TheNode k)) × IsRouted l)

  abbrev node_envelope : NodeContext → ℕ → Message → Envelope
  node_envelope t w m = envelope (TheNode t.number) (TheWorker w) m

  node_adds : (base : List Envelope) (t : NodeContext) (w : ℕ) (m : Message) → IsRouted (node_envelope t w m) → NodeSays base t →
      (l : Envelope) → Among l (t.out.envelopes ++ node_envelope t w m ∷ []) → Among l base ⊎ (((k : ℕ) × (l.sender ≡ TheNode k)) × IsRouted l)
  node_adds base t w m is q l e = elim (among-push_cases t.out.envelopes (node_envelope t w m) l e) [
    | inl f ↦ q.since l f
    | inr f ↦ inr ((t.number, ap (λ (x : Envelope). x.sender) f), subst IsRouted (sym f) is)
  ]

  pub says_kept : (base : List Envelope) → KeepsThere (NodeSays base)
  says_kept base = record {
    opens = λ t w q. record { before = q.before; since = q.since };
    answers = λ t k x q. record {
      before = λ l e. among-more t.out.envelopes _ l (q.before l e);
      since = node_adds base t k.attempt.object.owner (reply_message k x) (answer_routed t.number k x) q;
    };
    copies = λ t w o number content q. record {
      before = λ l e. among-more t.out.envelopes _ l (q.before l e);
      since = node_adds base t w (CopyOf o number content) tt q;
    };
    lacks = λ t w o number q. record {
      before = λ l e. among-more t.out.envelopes _ l (q.before l e);
      since = node_adds base t w (Missing o number t.number) tt q;
    };
    scheduler = λ t s q. record { before = q.before; since = q.since };
    store = λ t s q. record { before = q.before; since = q.since };
  }

  no_node : (u k : ℕ) → ◌≡◌ {A = Endpoint} (TheWorker u) (TheNode k) → ⊥
  no_node u k e = cc

  -- so far more than at base was sent
  pub node_quiet : (base : List Envelope) (t : NodeContext) → NodeSays base t → AsksNothing (c.network ++ base) (c.network ++ t.out.envelopes)
  node_quiet base t q = record {
    more = λ l e. elim (among-append_cases c.network base l e) [
      | inl f ↦ among-more c.network t.out.envelopes l f
      | inr f ↦ among-behind c.network t.out.envelopes l (q.before l f)
    ];
    asked = λ a i k e. elim (among-append_cases c.network t.out.envelopes _ e.1) [
      | inl f ↦ (e.0, among-more c.network base _ f)
      | inr f ↦ elim (q.since _ f) [ inl g ↦ (e.0, among-behind c.network base _ g) | inr ((j, g), _) ↦ absurd (no_node e.0 j g) ]
    ];
    routed = λ l e. elim (among-append_cases c.network t.out.envelopes l e) [
      | inl f ↦ inl (among-more c.network base l f)
      | inr f ↦ elim (q.since l f) [ inl g ↦ inl (among-behind c.network base l g) | inr (_, g) ↦ inr g ]
    ];
  }

  pub nothing_yet : (t : NodeContext) → NodeSays t.out.envelopes t
  nothing_yet t = record { before = λ l e. e; since = λ l e. inl e }

  frees_routes : (h : WorkerContext) → Routes h → RoutesOf h.me h.worker (c.network ++ (frees h.there h.me).out.envelopes)
  frees_routes h q =
      let base : List Envelope = h.there.out.envelopes in
      more_routes h.me h.worker (sent_so h) (c.network ++ (frees h.there h.me).out.envelopes)
      (node_quiet base (frees h.there h.me) (frees-kept (NodeSays base) (says_kept base) h.there h.me (nothing_yet h.there))) q

  -- its slot is given back
  pub slot_back_routes : (h : WorkerContext) → Routes h → Routes (gives_slot_back h)
  slot_back_routes h q = frees_routes h q

  slot_routes : (h : WorkerContext) → Routes h → RoutesOf h.me h.worker (c.network ++ (asks_slot h.there h.me).out.envelopes)
  slot_routes h q =
      let base : List Envelope = h.there.out.envelopes in
      more_routes h.me h.worker (sent_so h) (c.network ++ (asks_slot h.there h.me).out.envelopes)
      (node_quiet base (asks_slot h.there h.me) (asks_slot-kept (NodeSays base) (says_kept base) h.there h.me (nothing_yet h.there))) q

  -- the tables change, and leave tasks as they are
  pub same_routes : (m : ℕ) (x y : Worker) (s : List Envelope) → y.node ≡ x.node → ((k : ℕ) → task_of (item_at y.objects k) ≡ task_of (item_at x.objects k)) →
      RoutesOf m x s → RoutesOf m y s
  same_routes m x y s node same q = record {
    who = q.who;
    home = node ∙ q.home;
    envelopes = q.envelopes;
    follow = q.follow;
    mine = owner_same s me x y node same q.mine;
  }

  -- the task of an own object is put, and nothing is sent
  put_routes : (h : WorkerContext) (o : Id) (before task : OwnTask) → task_of (object_at h o) ≡ Some before →
      ((i m : ℕ) → task.progress ≡ AskedAt i m → ⊥) →
      (task.number ≡ 0 → is_new task ≡ false → (before.number ≡ 0) × (is_new before ≡ false)) → Routes h → Routes (with_task_of h o task)
  put_routes h o before task at unasked first q =
      let k0 : ℕ = o.serial in
      let here_at : task_of (item_at h.worker.objects k0) ≡ Some before = own_task h o before at in
      record {
        who = q.who;
        home = q.home;
        envelopes = q.envelopes;
        follow = q.follow;
        mine = owner_put (sent_so h) (sent_so h) me k0 h.worker _ before task (put_task h.worker k0 before task here_at) refl (λ l e. e)
            (λ i m e. absurd (unasked i m e)) (λ zero old. let f = first zero old in q.mine.first k0 before here_at f.0 f.1) q.mine;
      }

  -- ---- an own attempt is asked for

  asked_last : (h : WorkerContext) (m : ℕ) (a : Attempt) (t : ℕ) → Asked (with_one h (envelope (TheWorker h.me) (TheNode m) (Ask a t))) a t m
  asked_last h m a t = (h.me, envelope_last c.network h.there.out.envelopes _)

  ask_cases : (h : WorkerContext) (m : ℕ) (a b : Attempt) (t i j : ℕ) → Asked (with_one h (envelope (TheWorker h.me) (TheNode m) (Ask a t))) b i j →
      Asked (sent_so h) b i j ⊎ ((b ≡ a) × (i ≡ t))
  ask_cases h m a b t i j e = elim (envelope_cases c.network h.there.out.envelopes _ _ e.1) [
    | inl f ↦ inl (e.0, f)
    | inr f ↦ inr (attempts (ap (λ (l : Envelope). l.message) f), numbers (ap (λ (l : Envelope). l.message) f))
  ]
    where
      attempts : Ask b i ≡ Ask a t → b ≡ a
      attempts f = cc

      numbers : Ask b i ≡ Ask a t → i ≡ t
      numbers f = cc

  -- x is the worker with its new tables
  ask_routes : (h : WorkerContext) (x : Worker) (m : ℕ) (a : Attempt) (t : ℕ) → a.object.owner ≡ me → x.node ≡ n →
      ((i : ℕ) → t ≡ i + 1 → (j : ℕ) × Asked (sent_so h) a i j) →
      OwnerAsks (with_one h (envelope (TheWorker h.me) (TheNode m) (Ask a t))) me x → Routes h →
      RoutesOf h.me x (with_one h (envelope (TheWorker h.me) (TheNode m) (Ask a t)))
  ask_routes h x m a t own home earlier mine q = record {
    who = q.who;
    home = home;
    envelopes = λ l e. elim (envelope_cases c.network h.there.out.envelopes _ l e) [
      | inl f ↦ q.envelopes l f
      | inr f ↦ subst IsRouted (sym f) (ap (λ u. TheWorker u) (q.who ∙ sym own))
    ];
    follow = λ b i j e. elim (ask_cases h m a b t (i + 1) j e) [
      | inl f ↦ let g = q.follow b i j f in (g.0, asked_more (sent_so h) _ b i g.0 more g.1)
      | inr (same, is) ↦
          let g = earlier i (sym is) in (
            g.0,
            subst (λ (u : Attempt). Asked (with_one h (envelope (TheWorker h.me) (TheNode m) (Ask a t))) u i g.0) (sym same)
                (asked_more (sent_so h) _ a i g.0 more g.1),
          )
    ];
    mine = mine;
  }
    where
      more : More (sent_so h) (with_one h (envelope (TheWorker h.me) (TheNode m) (Ask a t)))
      more = envelope_more c.network h.there.out.envelopes _

  -- the task that is put is the one that is asked for
  asked_routes : (h : WorkerContext) (o : Id) (before task : OwnTask) (t m : ℕ) → task_of (object_at h o) ≡ Some before →
      ((i : ℕ) → t ≡ i + 1 → (j : ℕ) × Asked (sent_so h) (attempt (object_id me o.serial) task.number) i j) →
      (task.number ≡ 0 → ((t ≡ 0) × (m ≡ h.worker.node)) ⊎ ((before.number ≡ 0) × (is_new before ≡ false))) → Routes h →
      Routes (asks_at h o task t m)
  asked_routes h o before task t m at earlier first q =
      let k0 : ℕ = o.serial in
      let here_at : task_of (item_at h.worker.objects k0) ≡ Some before = own_task h o before at in
      let own : o.owner ≡ me = own_at h o before at ∙ q.who in
      let is : object_id me k0 ≡ o = ap (λ u. object_id u k0) (sym own) in
      let a : Attempt = attempt o task.number in
      let asked : OwnTask = record task { progress = AskedAt t m } in
      let x : Worker = record h.worker { objects = changed_at h.worker.objects k0 (with_task asked) } in
      let s : List Envelope = with_one h (envelope (TheWorker h.me) (TheNode m) (Ask a t)) in
      let more : More (sent_so h) s = envelope_more c.network h.there.out.envelopes _ in
      ask_routes h x m a t own q.home (λ i e. let f = earlier i e in (f.0, subst (λ p. Asked (sent_so h) (attempt p task.number) i f.0) is f.1))
      (owner_put (sent_so h) s me k0 h.worker x before asked (put_task h.worker k0 before asked here_at) refl more
      (λ i j e. standing h o task t m i j is e)
      (λ zero old. elim (first zero) [
        | inl (t_zero, node) ↦ now h o task t m is zero t_zero node
        | inr (b_zero, b_old) ↦ asked_more (sent_so h) s _ 0 h.worker.node more (q.mine.first k0 before here_at b_zero b_old)
      ]) q.mine) q
    where
      standing : (h : WorkerContext) (o : Id) (task : OwnTask) (t m i j : ℕ) → object_id me o.serial ≡ o → AskedAt t m ≡ AskedAt i j →
          Asked (with_one h (envelope (TheWorker h.me) (TheNode m) (Ask (attempt o task.number) t))) (attempt (object_id me o.serial) task.number) i j
      standing h o task t m i j is e =
          let numbers : t ≡ i = cc in
          let nodes : m ≡ j = cc in
          let s : List Envelope = with_one h (envelope (TheWorker h.me) (TheNode m) (Ask (attempt o task.number) t)) in
          subst (λ p. Asked s (attempt p task.number) i j) (sym is)
          (subst (λ u. Asked s (attempt o task.number) u j) numbers (subst (λ u. Asked s (attempt o task.number) t u) nodes (asked_last h m
          (attempt o task.number) t)))

      now : (h : WorkerContext) (o : Id) (task : OwnTask) (t m : ℕ) → object_id me o.serial ≡ o → task.number ≡ 0 → t ≡ 0 → m ≡ h.worker.node →
          Asked (with_one h (envelope (TheWorker h.me) (TheNode m) (Ask (attempt o task.number) t))) (attempt (object_id me o.serial) 0) 0 h.worker.node
      now h o task t m is zero t_zero node =
          let s : List Envelope = with_one h (envelope (TheWorker h.me) (TheNode m) (Ask (attempt o task.number) t)) in
          subst (λ p. Asked s (attempt p 0) 0 h.worker.node) (sym is)
          (subst (λ u. Asked s (attempt o u) 0 h.worker.node) zero
          (subst (λ u. Asked s (attempt o task.number) u h.worker.node) t_zero
          (subst (λ u. Asked s (attempt o task.number) t u) node (asked_last h m (attempt o task.number) t))))

  no_next : (i : ℕ) → ◌≡◌ {A = ℕ} 0 (i + 1) → ⊥
  no_next i e = omega (arith, e)

  same_before : (t i : ℕ) → t + 1 ≡ i + 1 → t ≡ i
  same_before t i e = omega (arith, e)

  asks_on_routes : (h : WorkerContext) (o : Id) (task : OwnTask) (t m k : ℕ) → task_of (object_at h o) ≡ Some task → task.progress ≡ AskedAt t m → Routes h →
      Routes (asks_at h o task (t + 1) k)
  asks_on_routes h o task t m k at progress q =
      asked_routes h o task task (t + 1) k at
      (λ i e. (
        m,
        subst (λ u. Asked (sent_so h) (attempt (object_id me o.serial) task.number) u m) (same_before t i e)
            (q.mine.standing o.serial task t m (own_task h o task at) progress),
      ))
      (λ zero. inr (zero, asked_not_new task t m progress)) q

  ask_again : (h : WorkerContext) (k : ℕ) (task : OwnTask) (t m : ℕ) → task_of (own_object h k) ≡ Some task → task.progress ≡ AskedAt t m → Routes h →
      RoutesOf h.me h.worker (with_one h (envelope (TheWorker h.me) (TheNode m) (Ask (attempt (own_id h k) task.number) t)))
  ask_again h k task t m at progress q =
      let a : Attempt = attempt (own_id h k) task.number in
      let sent : Asked (sent_so h) a t m =
      subst (λ u. Asked (sent_so h) (attempt (object_id u k) task.number) t m) (sym q.who) (q.mine.standing k task t m at progress) in
      ask_routes h h.worker m a t q.who q.home
      (λ i e. q.follow a i m (subst (λ u. Asked (sent_so h) a u m) e sent))
      (owner_more (sent_so h) _ me h.worker (envelope_more c.network h.there.out.envelopes _) q.mine) q

  -- a task is borne
  born : (h : WorkerContext) (a : Attempt) (spec : Birth) (others : ℕ) (ids : List Id) → Routes h →
      OwnerAsks (sent_so h) me (with_objects h (task_objects a (length h.worker.objects + 1) spec others ids)).worker
  born h a spec others ids q = record {
    standing = λ k task t m at p. elim (now k) [
      | inl same ↦ q.mine.standing k task t m (sym same ∙ at) p
      | inr (_, new) ↦ absurd (rests_not_asked t m (ap (λ (u : OwnTask). u.progress) (same_task _ _ (sym new ∙ at)) ∙ p))
    ];
    first = λ k task at zero old. elim (now k) [
      | inl same ↦ q.mine.first k task (sym same ∙ at) zero old
      | inr (_, new) ↦ absurd (both_ways (is_new task) old (sym (ap is_new (same_task _ _ (sym new ∙ at)))))
    ];
  }
    where
      now : (k : ℕ) → (task_of (item_at (h.worker.objects ++ task_objects a (length h.worker.objects + 1) spec others ids) k) ≡
          task_of (item_at h.worker.objects k)) ⊎
          ((task_of (item_at h.worker.objects k) ≡ None) ×
          (task_of (item_at (h.worker.objects ++ task_objects a (length h.worker.objects + 1) spec others ids) k) ≡ Some (new_task spec)))
      now k = new_tasks h.worker.objects a (length h.worker.objects + 1) spec others ids k

  -- ---- all the smallest steps

  pub routes_kept : (ToldBy : ℕ → Attempt → Type 0) (OverOf : Attempt → Type 0) (GivenBy : ℕ → ℕ → Attempt → ℕ → Type 0) →
      IsKept ToldBy OverOf GivenBy AnyPassed Routes
  routes_kept ToldBy OverOf GivenBy = record {
    writes = λ h es q. q;
    says_plain = λ h w m plain q. says_routes h h.worker (TheWorker w) m (plain_unasked m plain) q;
    says_plain_to_node = λ h k m plain q. says_routes h h.worker (TheNode k) m (plain_unasked m plain) q;
    objects = λ h x t q. same_routes h.me h.worker x (sent_so h) t.tame.node t.tasks q;
    store = λ h s q. q;
    begins = λ h o task w k t m own at progress given q.
        let begun : OwnTask = with_begun task w k in
        says_routes (with_task_of h o begun) (with_task_of h o begun).worker (TheWorker w) (Push (attempt o task.number) task.spec) refl
        (put_routes h o task begun at (λ i j e. runs_not_asked w k i j e) (λ zero _. (zero, asked_not_new task t m progress)) q);
    bears_new = λ h a spec others ids q.
        record { who = q.who; home = q.home; envelopes = q.envelopes; follow = q.follow; mine = born h a spec others ids q };
    comes_to_rest = λ h o task at _ q. put_routes h o task (rests task) at rests_not_asked (λ zero old. (zero, rested_not_new task old)) q;
    pushes_again = λ h k task w m _ _ q. says_routes h h.worker (TheWorker w) _ refl q;
    asks_anew = λ h o before task at next q.
        asked_routes h o before task 0 h.worker.node at (λ i e. absurd (no_next i e)) (λ _. inl (refl, refl)) q;
    asks_on = λ h o task t m k at progress _ q. asks_on_routes h o task t m k at progress q;
    asks_again = ask_again;
    run = λ h run next e k q. same_routes h.me h.worker _ (sent_so h) refl (λ i. refl) q;
    leaves = λ h run next e _ _ _ _ q. same_routes h.me h.worker _ (sent_so h) refl (λ i. refl) q;
    gets = λ h run content y f e w q. slot_routes (logs (with_run h (with_answer run content)) (Got run.attempt y content))
        (same_routes h.me h.worker _ (sent_so h) refl (λ i. refl) q);
    faults = λ h run fault y f e w q. frees_routes (logs (with_phase h run (HasFaulted fault)) (Faulted run.attempt y fault))
        (same_routes h.me h.worker _ (sent_so h) refl (λ i. refl) q);
    frees = λ h run y f e w q. frees_routes h q;
    tells_end = λ h run m rs _ _ q. says_routes h h.worker _ _ refl q;
    tells_fault = λ h run f _ _ q. says_routes h h.worker _ _ refl q;
    back = λ h run _ _ q. says_routes h h.worker _ _ refl q;
    hears = λ h w a _ q. says_routes h h.worker _ _ refl q;
    back_of = λ h m a _ _ q. says_routes h h.worker _ _ refl q;
  }
