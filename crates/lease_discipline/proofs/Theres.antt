-- A node in an event keeps its leases in order, with the workers that are there and with those that it opens.
use Rattle.std.proofs.Common.{◌≡◌, ℕ, suc, ◌+◌, List, [], ◌∷◌, ◌++◌, length, Some, None, Option, refl, ap, sym, subst, ◌∙◌, ◌⊎◌, inl, inr, arith}
use Rattle.std.proofs.Common.{length-append, append_assoc}
use Rattle.std.specs.Prelude.{Bool, true, false, if◌then◌else◌, ◌||◌, nat_lt}
use Rattle.std.proofs.lemmas.Bool.{both_ways}
use Rattle.meaning.proofs.BirthLaws.{at_test}
use Rattle.sequence.proofs.Places.{slice_get-last}
use Rattle.meaning.specs.Values.{Id, Outcome}
use Rattle.event_log.specs.Entries.{Attempt, Entry}
use Rattle.event_log.specs.Breaks.{Among}
use Rattle.protocol_laws.specs.of_protocol.Numbered.{item_at}
use Rattle.protocol_laws.specs.of_protocol.Sets.{first_item, has, least, repeated, rest_of}
use Rattle.protocol_laws.specs.of_protocol.Messages.{Envelope, envelope, Message, Endpoint, TheWorker, TheNode, Ask, Give, Elsewhere, Wait, Back, Push, Finished, FinishedAck, Failed}
use Rattle.protocol_laws.specs.of_protocol.Messages.{Where, At, Gone, Fetch, CopyOf, Missing, Hold, HoldAck, Unhold}
use Rattle.protocol_laws.specs.of_protocol.Jobs.{JobRecord}
use Rattle.protocol_laws.specs.of_protocol.Stores.{Store, copy_in}
use Rattle.protocol_laws.specs.of_protocol.Nodes.{AskKey, AskReply, Leased, Queued, Scheduler, SentOn, NodeContext, node_logs, posts, with_scheduler, with_store_there}
use Rattle.protocol_laws.specs.of_protocol.Slots.{ask_key, asked_by, asks_slot, fetched, forgets, frees, gives_worker, grants, grants_next, grants_queued, has_free_slot}
use Rattle.protocol_laws.specs.of_protocol.Slots.{has_no_slot_for, is_back, leases_idle}
use Rattle.protocol_laws.specs.of_protocol.Slots.{leases_worker, may_be_idle, next_in_circle, next_worker, node_reached, node_reached_from, opens_worker, queues, replies}
use Rattle.protocol_laws.specs.of_protocol.Slots.{replies_anew, reply_message, reply_to}
use Rattle.protocol_laws.specs.of_protocol.Slots.{slot_taken, with_answered, with_idle, with_queued, with_reply, without_slot, without_worker}
use Rattle.protocol_laws.specs.of_protocol.Runs.{is_free}
use Rattle.protocol_laws.specs.of_protocol.Tables.{Worker, new_worker}
use Rattle.protocol_laws.proofs.of_protocol_owed.Nodes.{push_cases, nothing_past, there_more}
use Rattle.protocol_laws.proofs.of_protocol_owed.FullNodes.{repeated-length}
use Rattle.protocol_laws.proofs.of_protocol_owed.Envelopes.{among-append_cases, among-push_cases, among-more, among-last, among-behind}
use Rattle.protocol_laws.proofs.of_protocol_owed.Sets.{repeated_more, least-in}
use Rattle.lease_discipline.specs.Discipline.{Look, Gave, IsBack, IsOfNode, NodeKeeps, IsTrue, WorkerKeeps, WorkersKeep}
use Rattle.lease_discipline.proofs.Follows.{Adds, adds_grows, same_grows, true_more, worker_more, new_keeps, node_envelopes, node_adds, More}
use Rattle.lease_discipline.proofs.Nodes.{IsUnwanted, Lessens, lessened, queue_lessens, reply_lessens, taken_lessens, slot_lessens, answered_lessens}
use Rattle.lease_discipline.proofs.Nodes.{worker_lessens, back_keeps, gives_keeps}

-- ---- envelopes

abbrev pub with_envelope : List Envelope → List Envelope → Envelope → List Envelope
with_envelope net ls l = net ++ (ls ++ l ∷ [])

pub envelope_more : (net ls : List Envelope) (l : Envelope) → More (net ++ ls) (with_envelope net ls l)
envelope_more net ls l m h = elim (among-append_cases net ls m h) [
  | inl g ↦ among-more net (ls ++ l ∷ []) m g
  | inr g ↦ among-behind net (ls ++ l ∷ []) m (among-more ls (l ∷ []) m g)
]

pub envelope_cases : (net ls : List Envelope) (l m : Envelope) → Among m (with_envelope net ls l) → Among m (net ++ ls) ⊎ (m ≡ l)
envelope_cases net ls l m h = elim (among-append_cases net (ls ++ l ∷ []) m h) [
  | inl g ↦ inl (among-more net ls m g)
  | inr g ↦ elim (among-push_cases ls l m g) [ inl i ↦ inl (among-behind net ls m i) | inr e ↦ inr e ]
]

pub envelope_last : (net ls : List Envelope) (l : Envelope) → Among l (with_envelope net ls l)
envelope_last net ls l = among-behind net (ls ++ l ∷ []) l (among-last ls l)

abbrev pub is_give : Message → Bool
is_give (Give a t w) = true
is_give _ = false

no_give : (m : Message) (a : Attempt) (t w : ℕ) → is_give m ≡ false → Give a t w ≡ m → ⊥
no_give m a t w e f = let g : true ≡ is_give m = ap is_give f in both_ways (is_give m) e (sym g)

-- ---- workers that are opened

item_last : {X : Type 0} (xs : List X) (x : X) (n : ℕ) → n ≡ 1 + length xs → item_at (xs ++ x ∷ []) n ≡ Some x
item_last xs x n e =
    let f : ◌≡◌ {A = ℕ} n (suc (length xs)) = omega (arith, e) in
    ap (item_at (xs ++ x ∷ [])) f ∙ slice_get-last xs x (length xs) refl

module _ (jobs : List JobRecord) (ws : List Worker) (net : List Envelope) (n : ℕ) where
  -- the workers that are there, with those that were opened
  abbrev pub all_with : ℕ → List Worker
  all_with opened = ws ++ repeated opened (new_worker n)

  abbrev pub look_in : NodeContext → Look
  look_in t = λ w. item_at (all_with t.opened) w

  abbrev pub sent_in : NodeContext → List Envelope
  sent_in t = net ++ t.out.envelopes

  -- its leases are in order; it is the node of that number, and no other node sends
  pub record Goes (t : NodeContext) : Type 0 where
    pub number : t.number ≡ n
    pub counted : t.workers ≡ length ws
    pub workers : WorkersKeep jobs (look_in t) (sent_in t)
    pub there : NodeKeeps (look_in t) (sent_in t) n t.node.scheduler
    pub alone : (l : Envelope) (m : ℕ) → Among l t.out.envelopes → l.sender ≡ TheNode m → m ≡ n

  pub logs_goes : (t : NodeContext) (es : List Entry) → Goes t → Goes (node_logs t es)
  logs_goes t es g = record { number = g.number; counted = g.counted; workers = g.workers; there = g.there; alone = g.alone }

  pub store_goes : (t : NodeContext) (s : Store) → Goes t → Goes (with_store_there t s)
  store_goes t s g = record { number = g.number; counted = g.counted; workers = g.workers; there = g.there; alone = g.alone }

  pub scheduler_goes : (t : NodeContext) (s : Scheduler) → NodeKeeps (look_in t) (sent_in t) n s → Goes t → Goes (with_scheduler t s)
  scheduler_goes t s k g = record { number = g.number; counted = g.counted; workers = g.workers; there = k; alone = g.alone }

  -- an envelope that is true is sent
  sent_workers : (t : NodeContext) (l : Envelope) → IsTrue (look_in t) (sent_in t) l → Goes t → WorkersKeep jobs (look_in t) (with_envelope net t.out.envelopes l)
  sent_workers t l is g = record {
    each = λ w x e. worker_more jobs (sent_in t) (with_envelope net t.out.envelopes l) w x (envelope_more net t.out.envelopes l) (g.workers.each w x e);
    envelopes = λ m h.
        let more : (k : Envelope) → IsTrue (look_in t) (sent_in t) k → IsTrue (look_in t) (with_envelope net t.out.envelopes l) k =
        true_more (look_in t) (look_in t) (sent_in t) (with_envelope net t.out.envelopes l) (same_grows (look_in t)) (envelope_more net t.out.envelopes l) in
        elim (envelope_cases net t.out.envelopes l m h) [
          | inl old ↦ more m (g.workers.envelopes m old)
          | inr new ↦ subst (IsTrue (look_in t) (with_envelope net t.out.envelopes l)) (sym new) (more l is)
        ];
  }

  sent_alone : (t : NodeContext) (l : Envelope) → ((m : ℕ) → l.sender ≡ TheNode m → m ≡ n) → Goes t → (k : Envelope) (m : ℕ) → Among k (t.out.envelopes ++ l ∷ []) →
      k.sender ≡ TheNode m → m ≡ n
  sent_alone t l own g k m h e = elim (among-push_cases t.out.envelopes l k h) [
    | inl old ↦ g.alone k m old e
    | inr new ↦ own m (ap (λ (x : Envelope). x.sender) (sym new) ∙ e)
  ]

  -- no Give of this node is sent
  pub posts_goes : (t : NodeContext) (l : Envelope) → IsTrue (look_in t) (sent_in t) l → ((m : ℕ) → l.sender ≡ TheNode m → m ≡ n) →
      ((a : Attempt) (i w : ℕ) → envelope (TheNode n) (TheWorker a.object.owner) (Give a i w) ≡ l → Gave (sent_in t) n a w) → Goes t → Goes (posts t l)
  posts_goes t l is own old g = record {
    number = g.number;
    counted = g.counted;
    workers = sent_workers t l is g;
    there = node_envelopes (look_in t) (sent_in t) (with_envelope net t.out.envelopes l) n t.node.scheduler (envelope_more net t.out.envelopes l)
        (λ a w gave. elim (envelope_cases net t.out.envelopes l _ gave.1) [ inl f ↦ (gave.0, f) | inr f ↦ old a gave.0 w f ]) g.there;
    alone = sent_alone t l own g;
  }

  -- an envelope of a worker
  pub worker_says_goes : (t : NodeContext) (v : ℕ) (to : Endpoint) (m : Message) → IsTrue (look_in t) (sent_in t) (envelope (TheWorker v) to m) → Goes t →
      Goes (posts t (envelope (TheWorker v) to m))
  worker_says_goes t v to m is g =
      posts_goes t (envelope (TheWorker v) to m) is (λ k e. absurd (no_node v k e)) (λ a i w e. absurd (no_node v n (ap (λ (l : Envelope). l.sender) (sym e)))) g
    where
      no_node : (v k : ℕ) → ◌≡◌ {A = Endpoint} (TheWorker v) (TheNode k) → ⊥
      no_node v k e = cc

  -- an envelope of the node that gives nobody
  node_says_goes : (t : NodeContext) (to : Endpoint) (m : Message) → IsTrue (look_in t) (sent_in t) (envelope (TheNode t.number) to m) → is_give m ≡ false → Goes t →
      Goes (posts t (envelope (TheNode t.number) to m))
  node_says_goes t to m is other g =
      posts_goes t (envelope (TheNode t.number) to m) is (λ k e. let same : t.number ≡ k = cc in sym same ∙ g.number)
      (λ a i w e. absurd (no_give m a i w other (ap (λ (l : Envelope). l.message) e))) g

  -- whom the node gave is its own
  given_there : (t : NodeContext) → Goes t → (a : Attempt) (w : ℕ) → Gave (sent_in t) n a w → IsOfNode (look_in t) n w
  given_there t g a w gave = g.workers.envelopes _ gave.1

  -- ---- answers

  -- an answer that stands is given again
  again_goes : (t : NodeContext) (k : AskKey) (x : AskReply) → reply_to t.node.scheduler k ≡ Some x → Goes t → Goes (replies t k x)
  again_goes t k (Leased w) e g =
      let gave : Gave (sent_in t) n k.attempt w = g.there.replied k w e in
      let there : IsOfNode (look_in t) n w = given_there t g k.attempt w gave in
      posts_goes t (envelope (TheNode t.number) (TheWorker k.attempt.object.owner) (Give k.attempt k.hops w))
      (record { worker = there.worker; there = there.there; home = there.home ∙ sym g.number })
      (λ m f. let same : t.number ≡ m = cc in sym same ∙ g.number)
      (λ a i v f. same_given a i v (ap (λ (l : Envelope). l.message) f) gave) g
    where
      same_given : (a : Attempt) (i v : ℕ) → Give a i v ≡ Give k.attempt k.hops w → Gave (sent_in t) n k.attempt w → Gave (sent_in t) n a v
      same_given a i v f gave =
          let attempts : a ≡ k.attempt = cc in
          let workers : v ≡ w = cc in
          subst (λ b. Gave (sent_in t) n b v) (sym attempts) (subst (λ u. Gave (sent_in t) n k.attempt u) (sym workers) gave)
  again_goes t k (SentOn m) e g = node_says_goes t (TheWorker k.attempt.object.owner) (Elsewhere k.attempt k.hops m) tt refl g
  again_goes t k Queued e g = node_says_goes t (TheWorker k.attempt.object.owner) (Wait k.attempt k.hops) tt refl g

  -- another answer than a worker
  anew_goes : (t : NodeContext) (k : AskKey) (x : AskReply) → ((w : ℕ) → x ≡ Leased w → ⊥) → is_give (reply_message k x) ≡ false →
      IsTrue (look_in t) (sent_in t) (envelope (TheNode t.number) (TheWorker k.attempt.object.owner) (reply_message k x)) → Goes t → Goes (replies_anew t k x)
  anew_goes t k x other plain is g =
      let s : Scheduler = with_reply t.node.scheduler k x in
      let h : Goes (with_scheduler t s) = scheduler_goes t s
      (lessened (look_in t) (sent_in t) n t.node.scheduler s (reply_lessens (look_in t) (sent_in t) n t.node.scheduler k x other) g.there) g in
      node_says_goes (with_scheduler t s) (TheWorker k.attempt.object.owner) (reply_message k x) is plain h

  pub no_slot_goes : (t : NodeContext) (k : AskKey) → Goes t → Goes (has_no_slot_for t k)
  no_slot_goes t k g =
      at_test (λ b. Goes (if b then replies_anew t k (SentOn (next_in_circle t.nodes t.number)) else queues t k)) (nat_lt (k.hops + 1) t.nodes)
      (λ _. anew_goes t k (SentOn (next_in_circle t.nodes t.number)) (λ w e. absurd (cc)) refl tt g)
      (λ _.
      let s : Scheduler = with_queued t.node.scheduler k in
      let h : Goes (with_scheduler t s) = scheduler_goes t s
      (lessened (look_in t) (sent_in t) n t.node.scheduler s (queue_lessens (look_in t) (sent_in t) n t.node.scheduler s.queue) g.there) g in
      anew_goes (with_scheduler t s) k Queued (λ w e. absurd (cc)) refl tt h)

  -- ---- a worker is given

  pub leases_goes : (t : NodeContext) (k : AskKey) (w : ℕ) (x : Worker) → look_in t w ≡ Some x → x.node ≡ n → is_free x.run ≡ true →
      IsUnwanted (look_in t) (sent_in t) n w → Goes t → Goes (leases_worker t k w)
  leases_goes t k w x at home free unwanted g =
      let l : Envelope = envelope (TheNode t.number) (TheWorker k.attempt.object.owner) (Give k.attempt k.hops w) in
      record {
        number = g.number;
        counted = g.counted;
        workers = sent_workers t l (record { worker = x; there = at; home = home ∙ sym g.number }) g;
        there = gives_keeps (look_in t) (sent_in t) n (with_envelope net t.out.envelopes l) t.node.scheduler k w x (envelope_more net t.out.envelopes l) (
          k.hops,
          subst (λ m. Among (envelope (TheNode m) (TheWorker k.attempt.object.owner) (Give k.attempt k.hops w))
              (with_envelope net t.out.envelopes l)) g.number (envelope_last net t.out.envelopes l),
        )
            (λ a v gave. elim (envelope_cases net t.out.envelopes l _ gave.1) [
              | inl f ↦ inl (gave.0, f)
              | inr f ↦ inr (same_given a gave.0 v (ap (λ (i : Envelope). i.message) f))
            ]) at free unwanted g.there;
        alone = sent_alone t l (λ m f. let same : t.number ≡ m = cc in sym same ∙ g.number) g;
      }
    where
      same_given : (a : Attempt) (i v : ℕ) → Give a i v ≡ Give k.attempt k.hops w → (a ≡ k.attempt) × (v ≡ w)
      same_given a i v f = (cc, cc)

  -- ---- workers are opened

  grown : (t : NodeContext) → all_with (t.opened + 1) ≡ all_with t.opened ++ new_worker n ∷ []
  grown t = ap (λ xs. ws ++ xs) (sym (repeated_more t.opened (new_worker n))) ∙ sym (append_assoc ws (repeated t.opened (new_worker n)) (new_worker n ∷ []))

  next_is : (t : NodeContext) → Goes t → ◌≡◌ {A = ℕ} (next_worker t) (1 + length (all_with t.opened))
  next_is t g =
      let a = g.counted in
      let b = length-append ws (repeated t.opened (new_worker n)) in
      let c = repeated-length t.opened (new_worker n) in
      omega (arith, a, b, c)

  opens_adds : (t : NodeContext) → Adds (look_in t) (look_in (opens_worker t))
  opens_adds t = record {
    back = λ w y e. elim (push_cases (all_with t.opened) w (new_worker n) y (subst (λ xs. item_at xs w ≡ Some y) (grown t) e)) [
      | inl f ↦ inl f
      | inr (f, same) ↦ inr (nothing_past (all_with t.opened) w (omega (arith, f)), (n, same))
    ];
    forth = λ w x e. subst (λ xs. item_at xs w ≡ Some x) (sym (grown t)) (there_more (all_with t.opened) (new_worker n ∷ []) w x e);
  }

  pub opens_goes : (t : NodeContext) → Goes t → Goes (opens_worker t)
  opens_goes t g =
      let adds : Adds (look_in t) (look_in (opens_worker t)) = opens_adds t in
      record {
        number = g.number;
        counted = g.counted;
        workers = record {
          each = λ w y e. elim (adds.back w y e) [
            | inl f ↦ g.workers.each w y f
            | inr (_, (m, same)) ↦ subst (λ (x : Worker). WorkerKeeps jobs (sent_in t) w x) same (new_keeps jobs (sent_in t) w m)
          ];
          envelopes = λ l h. true_more (look_in t) (look_in (opens_worker t)) (sent_in t) (sent_in t)
              (adds_grows (look_in t) (look_in (opens_worker t)) adds) (λ m i. i) l (g.workers.envelopes l h);
        };
        there = node_adds (look_in t) (look_in (opens_worker t)) (sent_in t) n t.node.scheduler adds (λ a w gave. given_there t g a w gave) g.there;
        alone = g.alone;
      }

  -- an idle worker, or a new one
  pub gives_goes : (t : NodeContext) (k : AskKey) → Goes t → Goes (gives_worker t k)
  gives_goes t k g = by_idle (least t.node.scheduler.idle) refl
    where
      by_idle : (o : Option ℕ) → least t.node.scheduler.idle ≡ o → Goes (leases_idle t k o)
      by_idle None e =
          let v : ℕ = next_worker t in
          let last : look_in (opens_worker t) v ≡ Some (new_worker n) =
          subst (λ xs. item_at xs v ≡ Some (new_worker n)) (sym (grown t)) (item_last (all_with t.opened) (new_worker n) v (next_is t g)) in
          let none : look_in t v ≡ None = nothing_past (all_with t.opened) v (let f = next_is t g in omega (arith, f)) in
          leases_goes (opens_worker t) k v (new_worker n) last refl refl
          (λ a wanted. let there : IsOfNode (look_in t) n v = given_there t g a v wanted.given in let f = there.there in absurd (cc)) (opens_goes t g)
      by_idle (Some w) e =
          let i = g.there.idle w (least-in t.node.scheduler.idle w e) in
          leases_goes t k w i.worker i.there i.home i.free
          (λ a wanted. both_ways (has t.node.scheduler.slot_holders w) i.slotless (g.there.promised w wanted.worker a wanted.there wanted.lives wanted.given wanted.unbegun).slot) g

  pub asked_goes : (t : NodeContext) (k : AskKey) → Goes t → Goes (asked_by t k (reply_to t.node.scheduler k))
  asked_goes t k g = by_reply (reply_to t.node.scheduler k) refl
    where
      by_reply : (x : Option AskReply) → reply_to t.node.scheduler k ≡ x → Goes (asked_by t k x)
      by_reply None e = at_test (λ b. Goes (if b then gives_worker t k else has_no_slot_for t k)) (has_free_slot t.node.scheduler) (λ _. gives_goes t k g)
          (λ _. no_slot_goes t k g)
      by_reply (Some x) e = again_goes t k x e g

  -- ---- slots

  less_goes : (t : NodeContext) (s : Scheduler) → Lessens (look_in t) (sent_in t) n t.node.scheduler s → Goes t → Goes (with_scheduler t s)
  less_goes t s l g = scheduler_goes t s (lessened (look_in t) (sent_in t) n t.node.scheduler s l g.there) g

  grants_queued_goes : (t : NodeContext) (k : Option AskKey) → Goes t → Goes (grants_queued t k)
  grants_queued_goes t None g = g
  grants_queued_goes t (Some k) g =
      let queue : List AskKey = rest_of t.node.scheduler.queue in
      let u : NodeContext = with_scheduler t (record t.node.scheduler { queue = queue }) in
      gives_goes u k (less_goes t (record t.node.scheduler { queue = queue }) (queue_lessens (look_in t) (sent_in t) n t.node.scheduler queue) g)

  grants_next_goes : (t : NodeContext) (w : Option ℕ) → first_item t.node.scheduler.answered ≡ w → Goes t → Goes (grants_next t w)
  grants_next_goes t None e g = grants_queued_goes t (first_item t.node.scheduler.queue) g
  grants_next_goes t (Some w) e g = less_goes t (slot_taken t.node.scheduler w) (taken_lessens (look_in t) (sent_in t) n t.node.scheduler w e g.there) g

  pub grants_goes : (t : NodeContext) → Goes t → Goes (grants t)
  grants_goes t g =
      at_test (λ b. Goes (if b then grants_next t (first_item t.node.scheduler.answered) else t)) (has_free_slot t.node.scheduler)
      (λ _. grants_next_goes t (first_item t.node.scheduler.answered) refl g) (λ _. g)

  -- the slot of a worker that isn't wanted
  pub frees_goes : (t : NodeContext) (w : ℕ) → IsUnwanted (look_in t) (sent_in t) n w → Goes t → Goes (frees t w)
  frees_goes t w unwanted g =
      let s : Scheduler = without_slot t.node.scheduler w in
      at_test (λ b. Goes (if b then grants (with_scheduler t s) else t)) (has t.node.scheduler.slot_holders w)
      (λ _. grants_goes (with_scheduler t s) (less_goes t s (slot_lessens (look_in t) (sent_in t) n t.node.scheduler w unwanted) g)) (λ _. g)

  pub asks_slot_goes : (t : NodeContext) (w : ℕ) → Goes t → Goes (asks_slot t w)
  asks_slot_goes t w g =
      let s : Scheduler = with_answered t.node.scheduler w in
      at_test (λ b. Goes (if b then t else grants (with_scheduler t s))) (has t.node.scheduler.slot_holders w || has t.node.scheduler.answered w)
      (λ _. g) (λ _. grants_goes (with_scheduler t s) (less_goes t s (answered_lessens (look_in t) (sent_in t) n t.node.scheduler w) g))

  pub forgets_goes : (t : NodeContext) (w : ℕ) → IsUnwanted (look_in t) (sent_in t) n w → Goes t → Goes (forgets t w)
  forgets_goes t w unwanted g =
      let s : Scheduler = without_worker t.node.scheduler w in
      frees_goes (with_scheduler t s) w unwanted (less_goes t s (worker_lessens (look_in t) (sent_in t) n t.node.scheduler w unwanted) g)

  -- ---- what reaches the node

  fetched_goes : (t : NodeContext) (o : Id) (number w : ℕ) (c : Option Outcome) → Goes t → Goes (fetched t o number w c)
  fetched_goes t o number w None g = node_says_goes t (TheWorker w) (Missing o number t.number) tt refl g
  fetched_goes t o number w (Some c) g = node_says_goes _ (TheWorker w) (CopyOf o number c) tt refl (store_goes t _ g)

  back_goes : (t : NodeContext) (w : ℕ) (a : Attempt) → IsBack (look_in t) n w a → Goes t → Goes (is_back t w a)
  back_goes t w a d g =
      let s : Scheduler = with_idle t.node.scheduler w in
      at_test (λ b. may_be_idle t.node.scheduler w a ≡ b → Goes (if b then with_scheduler t s else t)) (may_be_idle t.node.scheduler w a)
      (λ _ e. scheduler_goes t s (back_keeps (look_in t) (sent_in t) n t.node.scheduler w a d.done d.home e g.there) g) (λ _ _. g) refl

  reached_from_goes : (t : NodeContext) (w : ℕ) (m : Message) → IsTrue (look_in t) (sent_in t) (envelope (TheWorker w) (TheNode n) m) → Goes t →
      Goes (node_reached_from t w m)
  reached_from_goes t w (Ask a i) is g = asked_goes t (ask_key a i) g
  reached_from_goes t w (Back a) is g = back_goes t w a is g
  reached_from_goes t w (Fetch o number) is g = fetched_goes t o number w (copy_in t.node.store o number) g
  reached_from_goes t w (Unhold e o why) is g = store_goes t _ g
  reached_from_goes t w (Give a i v) is g = g
  reached_from_goes t w (Elsewhere a i m) is g = g
  reached_from_goes t w (Wait a i) is g = g
  reached_from_goes t w (Push a spec) is g = g
  reached_from_goes t w (Finished a m rs) is g = g
  reached_from_goes t w (FinishedAck a) is g = g
  reached_from_goes t w (Failed a f) is g = g
  reached_from_goes t w (Where o) is g = g
  reached_from_goes t w (At o number ns kept) is g = g
  reached_from_goes t w (Gone o f) is g = g
  reached_from_goes t w (CopyOf o number c) is g = g
  reached_from_goes t w (Missing o number m) is g = g
  reached_from_goes t w (Hold e o) is g = g
  reached_from_goes t w (HoldAck e o) is g = g

  pub reached_goes : (t : NodeContext) (from : Endpoint) (m : Message) → IsTrue (look_in t) (sent_in t) (envelope from (TheNode n) m) → Goes t →
      Goes (node_reached t from m)
  reached_goes t (TheWorker w) m is g = reached_from_goes t w m is g
  reached_goes t (TheNode k) m is g = g
