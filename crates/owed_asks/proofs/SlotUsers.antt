-- Whoever has a slot of a node has a use for it: what a node does keeps it.
use Rattle.std.proofs.Common.{◌≡◌, ℕ, suc, ◌+◌, List, [], ◌∷◌, ◌++◌, length, Some, None, Option, refl, ap, sym, subst, ◌∙◌, ◌⊎◌, inl, inr, arith}
use Rattle.std.proofs.Common.{append_assoc, length-append}
use Rattle.std.specs.Prelude.{Bool, true, false, if◌then◌else◌, not, ◌==◌, ◌&&◌, ◌||◌, nat_lt}
use Rattle.std.proofs.lemmas.Bool.{both_ways, eqb-true}
use Rattle.sequence.proofs.Places.{and_left, list_any-push_cases, or_cases, or_left, or_right, slice_get-last}
use Rattle.meaning.proofs.BirthLaws.{at_test}
use Rattle.meaning.specs.Values.{Id, Outcome}
use Rattle.event_log.specs.Entries.{Attempt}
use Rattle.event_log.specs.Words.{same_attempt}
use Rattle.event_log.specs.Breaks.{Among}
use Rattle.protocol.specs.Numbered.{item_at}
use Rattle.protocol.specs.Sets.{first_item, has, least, repeated, rest_of, without_number}
use Rattle.protocol.specs.Messages.{Envelope, envelope, Message, Endpoint, TheWorker, TheNode, Ask, Give, Elsewhere, Wait, Back, Push, Finished, FinishedAck, Failed}
use Rattle.protocol.specs.Messages.{Where, At, Gone, Fetch, CopyOf, Missing, Hold, HoldAck, Unhold}
use Rattle.protocol.specs.Stores.{copy_in}
use Rattle.protocol.specs.Nodes.{AskKey, AskReply, Lease, Scheduler, SentOn, NodeContext, with_scheduler}
use Rattle.protocol.specs.Slots.{ask_key, asked_by, asks_slot, fetched, forgets, frees, gives_worker, grants, grants_next, grants_queued, has_free_slot}
use Rattle.protocol.specs.Slots.{has_no_slot_for, is_back, is_latest_lease, leases_idle, leases_worker, may_be_idle, next_in_circle, next_worker}
use Rattle.protocol.specs.Slots.{node_reached}
use Rattle.protocol.specs.Slots.{node_reached_from, opens_worker, queues, replies_anew, reply_to, same_key, with_answered, with_idle, without_lease}
use Rattle.protocol.specs.Slots.{without_slot, without_worker}
use Rattle.protocol.specs.Tables.{Worker, new_worker}
use Rattle.protocol_owed.specs.Courses.{GoesOn, IsOut, has_begun}
use Rattle.protocol_owed.proofs.Asks.{has_key, same_key-refl}
use Rattle.protocol_owed.proofs.FullNodes.{repeated-length}
use Rattle.protocol_owed.proofs.Nodes.{there_more}
use Rattle.protocol_owed.specs.Told.{pace_by}
use Rattle.protocol_owed.proofs.Sets.{has-left, has-push, has-rest, has-with, repeated_more, has-first, has-gone, least-in}
use Rattle.lease_discipline.specs.Discipline.{Gave, Look}
use Rattle.lease_discipline.proofs.Follows.{More, gave_more}
use Rattle.lease_discipline.proofs.Theres.{envelope_last, envelope_more, with_envelope}
use Rattle.lease_discipline.proofs.Nodes.{lease_in}

-- ---- sets of numbers

pub not_left : (xs : List ℕ) (w v : ℕ) → has (without_number xs w) v ≡ true → w ≡ v → ⊥
not_left xs w v e same = both_ways (has (without_number xs w) w) (has-gone xs w) (subst (λ u. has (without_number xs w) u ≡ true) (sym same) e)

lease_left : (ls : List Lease) (w v : ℕ) (a : Attempt) → lease_in (without_lease w ls) v a ≡ true → (lease_in ls v a ≡ true) × (w ≡ v → ⊥)
lease_left [] w v a e = absurd (cc)
lease_left (l ∷ ls) w v a e =
    let this : Bool = (l.worker == v) && same_attempt l.attempt a in
    at_test (λ b. (l.worker == w) ≡ b → lease_in (if not b then l ∷ without_lease w ls else without_lease w ls) v a ≡ true →
    (lease_in (l ∷ ls) v a ≡ true) × (w ≡ v → ⊥)) (l.worker == w)
    (λ _ _ f. let g = lease_left ls w v a f in (or_right this (lease_in ls v a) g.0, g.1))
    (λ _ apart f. elim (or_cases this (lease_in (without_lease w ls) v a) f) [
      | inl g ↦ (
        or_left this (lease_in ls v a) g,
        λ same. both_ways (l.worker == w) apart (subst (λ u. (l.worker == u) ≡ true) (sym same) (and_left (l.worker == v) (same_attempt l.attempt a) g)),
      )
      | inr g ↦ let h = lease_left ls w v a g in (or_right this (lease_in ls v a) h.0, h.1)
    ]) refl e

lease_pushed : (ls : List Lease) (w v : ℕ) (b a : Attempt) → lease_in (ls ++ record { worker = w; attempt = b } ∷ []) v a ≡ true →
    (lease_in ls v a ≡ true) ⊎ (w ≡ v)
lease_pushed ls w v b a e = elim (list_any-push_cases (λ (l : Lease). (l.worker == v) && same_attempt l.attempt a) ls
    (record { worker = w; attempt = b }) e) [
      | inl f ↦ inl f
      | inr f ↦ inr (eqb-true w v (and_left (w == v) (same_attempt b a) f))
    ]

-- ---- who has a use for a slot

-- a live worker of the node
pub record IsHere (look : Look) (n w : ℕ) : Type 0 where
  pub worker : Worker
  pub there : look w ≡ Some worker
  pub home : worker.node ≡ n
  pub lives : worker.is_live ≡ true

-- it may go on, its job is out, or it was given for an attempt that it never began
abbrev pub HasUse : List Envelope → ℕ → ℕ → Worker → Type 0
HasUse sent n w x = (pace_by x.run ≡ GoesOn) ⊎ ((j : ℕ) × (pace_by x.run ≡ IsOut j)) ⊎ ((a : Attempt) × Gave sent n a w × (has_begun a x.began ≡ false))

pub record IsUser (look : Look) (sent : List Envelope) (n w : ℕ) : Type 0 where
  pub here : IsHere look n w
  pub why : HasUse sent n w here.worker

pub record IsAnswered (look : Look) (n w : ℕ) : Type 0 where
  pub here : IsHere look n w
  pub goes : pace_by here.worker.run ≡ GoesOn

-- but for those of the first kind, who may keep a slot without use, and those of the second, of whom nothing is known
pub record Used (but gone : ℕ → Type 0) (look : Look) (sent : List Envelope) (n : ℕ) (s : Scheduler) : Type 0 where
  pub slot_holders : (w : ℕ) → has s.slot_holders w ≡ true → IsUser look sent n w ⊎ but w
  pub answered : (w : ℕ) → has s.answered w ≡ true → IsAnswered look n w ⊎ gone w
  pub idle : (w : ℕ) → has s.idle w ≡ true → IsHere look n w ⊎ gone w
  pub leased : (w : ℕ) (a : Attempt) → is_latest_lease s w a ≡ true → IsHere look n w ⊎ gone w

abbrev pub Nobody : ℕ → Type 0
Nobody w = ⊥

abbrev pub One : ℕ → ℕ → Type 0
One w v = v ≡ w

-- an idle worker never began an attempt that stands in the queue
abbrev pub IsFresh : Look → Scheduler → Type 0
IsFresh look s = (w : ℕ) (x : Worker) (k : AskKey) → has s.idle w ≡ true → look w ≡ Some x → has_key k s.queue ≡ true → has_begun k.attempt x.began ≡ false

-- nor this one
abbrev pub IsFreshFor : Look → Scheduler → AskKey → Type 0
IsFreshFor look s k = (w : ℕ) (x : Worker) → has s.idle w ≡ true → look w ≡ Some x → has_begun k.attempt x.began ≡ false

-- ---- more is sent, workers are opened, and what is said of workers of the node stays so

use_more : (s t : List Envelope) (n w : ℕ) (x : Worker) → More s t → HasUse s n w x → HasUse t n w x
use_more s t n w x more (inl e) = inl e
use_more s t n w x more (inr (inl e)) = inr (inl e)
use_more s t n w x more (inr (inr e)) = inr (inr (e.0, gave_more s t n e.0 w more e.1, e.2))

abbrev pub here_kept : (look next : Look) (n w : ℕ) → ((v : ℕ) (x : Worker) → look v ≡ Some x → x.node ≡ n → next v ≡ Some x) → IsHere look n w →
    IsHere next n w
here_kept look next n w forth h = record { worker = h.worker; there = forth w h.worker h.there h.home; home = h.home; lives = h.lives }

pub used_more : (but gone : ℕ → Type 0) (look next : Look) (s t : List Envelope) (n : ℕ) (sch : Scheduler) → More s t →
    ((v : ℕ) (x : Worker) → look v ≡ Some x → x.node ≡ n → next v ≡ Some x) → Used but gone look s n sch → Used but gone next t n sch
used_more but gone look next s t n sch more forth u = record {
  slot_holders = λ w e. elim (u.slot_holders w e) [
    | inl f ↦ inl (record { here = here_kept look next n w forth f.here; why = use_more s t n w f.here.worker more f.why })
    | inr f ↦ inr f
  ];
  answered = λ w e. elim (u.answered w e) [ inl f ↦ inl (record { here = here_kept look next n w forth f.here; goes = f.goes }) | inr f ↦ inr f ];
  idle = λ w e. elim (u.idle w e) [ inl f ↦ inl (here_kept look next n w forth f) | inr f ↦ inr f ];
  leased = λ w a e. elim (u.leased w a e) [ inl f ↦ inl (here_kept look next n w forth f) | inr f ↦ inr f ];
}

-- the scheduler has no more
pub record IsLess (s t : Scheduler) : Type 0 where
  pub slot_holders : (w : ℕ) → has t.slot_holders w ≡ true → has s.slot_holders w ≡ true
  pub answered : (w : ℕ) → has t.answered w ≡ true → has s.answered w ≡ true
  pub idle : (w : ℕ) → has t.idle w ≡ true → has s.idle w ≡ true
  pub leases : (w : ℕ) (a : Attempt) → is_latest_lease t w a ≡ true → is_latest_lease s w a ≡ true

pub used_less : (but gone : ℕ → Type 0) (look : Look) (sent : List Envelope) (n : ℕ) (s t : Scheduler) → IsLess s t → Used but gone look sent n s →
    Used but gone look sent n t
used_less but gone look sent n s t less u = record {
  slot_holders = λ w e. u.slot_holders w (less.slot_holders w e);
  answered = λ w e. u.answered w (less.answered w e);
  idle = λ w e. u.idle w (less.idle w e);
  leased = λ w a e. u.leased w a (less.leases w a e);
}

-- fewer are exempt
pub used_so : (but gone more_but more_gone : ℕ → Type 0) (look : Look) (sent : List Envelope) (n : ℕ) (s : Scheduler) → ((w : ℕ) → but w → more_but w) →
    ((w : ℕ) → gone w → more_gone w) → Used but gone look sent n s → Used more_but more_gone look sent n s
used_so but gone more_but more_gone look sent n s f g u = record {
  slot_holders = λ w e. elim (u.slot_holders w e) [ inl h ↦ inl h | inr h ↦ inr (f w h) ];
  answered = λ w e. elim (u.answered w e) [ inl h ↦ inl h | inr h ↦ inr (g w h) ];
  idle = λ w e. elim (u.idle w e) [ inl h ↦ inl h | inr h ↦ inr (g w h) ];
  leased = λ w a e. elim (u.leased w a e) [ inl h ↦ inl h | inr h ↦ inr (g w h) ];
}

first_key : (queue : List AskKey) (k : AskKey) → first_item queue ≡ Some k → has_key k queue ≡ true
first_key [] k e = absurd (cc)
first_key (j ∷ queue) k e =
    let same : j ≡ k = cc in
    or_left _ (has_key k queue) (ap (λ i. same_key i k) same ∙ same_key-refl k)

-- ---- a node in an event, beside these workers

module _ (ws : List Worker) (net : List Envelope) (n : ℕ) (but gone : ℕ → Type 0) where
  abbrev pub all_with : ℕ → List Worker
  all_with opened = ws ++ repeated opened (new_worker n)

  abbrev pub look_in : NodeContext → Look
  look_in t = λ w. item_at (all_with t.opened) w

  abbrev pub sent_in : NodeContext → List Envelope
  sent_in t = net ++ t.out.envelopes

  abbrev pub UsedThere : NodeContext → Type 0
  UsedThere t = Used but gone (look_in t) (sent_in t) n t.node.scheduler

  pub record Counts (t : NodeContext) : Type 0 where
    pub number : t.number ≡ n
    pub counted : t.workers ≡ length ws

  grown : (t : NodeContext) → all_with (t.opened + 1) ≡ all_with t.opened ++ new_worker n ∷ []
  grown t = ap (λ xs. ws ++ xs) (sym (repeated_more t.opened (new_worker n))) ∙ sym (append_assoc ws (repeated t.opened (new_worker n)) (new_worker n ∷ []))

  opened_forth : (t : NodeContext) (w : ℕ) (x : Worker) → look_in t w ≡ Some x → look_in (opens_worker t) w ≡ Some x
  opened_forth t w x e = subst (λ xs. item_at xs w ≡ Some x) (sym (grown t)) (there_more (all_with t.opened) (new_worker n ∷ []) w x e)

  newest : (t : NodeContext) → Counts t → look_in (opens_worker t) (next_worker t) ≡ Some (new_worker n)
  newest t c =
      let a = c.counted in
      let l = length-append ws (repeated t.opened (new_worker n)) in
      let r = repeated-length t.opened (new_worker n) in
      let f : ◌≡◌ {A = ℕ} (next_worker t) (suc (length (all_with t.opened))) = omega (arith, a, l, r) in
      ap (look_in (opens_worker t)) f ∙
      subst (λ xs. item_at xs (suc (length (all_with t.opened))) ≡ Some (new_worker n)) (sym (grown t))
      (slice_get-last (all_with t.opened) (new_worker n) (length (all_with t.opened)) refl)

  -- a live worker that never began the attempt takes a slot for it
  leases_used : (t : NodeContext) (k : AskKey) (w : ℕ) → Counts t → (h : IsHere (look_in t) n w) → has_begun k.attempt h.worker.began ≡ false → UsedThere t →
      UsedThere (leases_worker t k w)
  leases_used t k w c h unbegun u =
      let l : Envelope = envelope (TheNode t.number) (TheWorker k.attempt.object.owner) (Give k.attempt k.hops w) in
      let sent : List Envelope = with_envelope net t.out.envelopes l in
      let more : More (sent_in t) sent = envelope_more net t.out.envelopes l in
      let v : Used but gone (look_in t) sent n t.node.scheduler = used_more but gone (look_in t) (look_in t) (sent_in t) sent n t.node.scheduler more
      (λ i x e _. e) u in
      let gave : Gave sent n k.attempt w = (
        k.hops,
        subst (λ m. Among (envelope (TheNode m) (TheWorker k.attempt.object.owner) (Give k.attempt k.hops w)) sent) c.number
            (envelope_last net t.out.envelopes l),
      ) in
      record {
        slot_holders = λ i e. elim (has-push t.node.scheduler.slot_holders w i e) [
          | inl f ↦ v.slot_holders i f
          | inr same ↦ inl (subst (IsUser (look_in t) sent n) same (record { here = h; why = inr (inr (k.attempt, gave, unbegun)) }))
        ];
        answered = v.answered;
        idle = λ i e. v.idle i (has-left t.node.scheduler.idle w i e);
        leased = λ i a e. elim (lease_pushed (without_lease w t.node.scheduler.leases) w i k.attempt a e) [
          | inl f ↦ v.leased i a (lease_left t.node.scheduler.leases w i a f).0
          | inr same ↦ inl (subst (IsHere (look_in t) n) same h)
        ];
      }

  -- the scheduler is changed, or entries are logged
  gives_used : (t : NodeContext) (k : AskKey) → Counts t → ((w : ℕ) → has t.node.scheduler.idle w ≡ true → gone w → ⊥) → IsFreshFor (look_in t) t.node.scheduler k →
      UsedThere t → UsedThere (gives_worker t k)
  gives_used t k c present fresh u = by_idle (least t.node.scheduler.idle) refl
    where
      by_idle : (o : Option ℕ) → least t.node.scheduler.idle ≡ o → UsedThere (leases_idle t k o)
      by_idle None e =
          leases_used (opens_worker t) k (next_worker t) (record { number = c.number; counted = c.counted })
          (record { worker = new_worker n; there = newest t c; home = refl; lives = refl }) refl
          (used_more but gone (look_in t) (look_in (opens_worker t)) (sent_in t) (sent_in t) n t.node.scheduler (λ l i. i)
          (λ w x f _. opened_forth t w x f) u)
      by_idle (Some w) e =
          let i : has t.node.scheduler.idle w ≡ true = least-in t.node.scheduler.idle w e in
          elim (u.idle w i) [
            | inl h ↦ leases_used t k w c h (fresh w h.worker i h.there) u
            | inr f ↦ absurd (present w i f)
          ]

  grants_queued_used : (t : NodeContext) (o : Option AskKey) → first_item t.node.scheduler.queue ≡ o → Counts t →
      ((w : ℕ) → has t.node.scheduler.idle w ≡ true → gone w → ⊥) → IsFresh (look_in t) t.node.scheduler → UsedThere t → UsedThere (grants_queued t o)
  grants_queued_used t None e c present fresh u = u
  grants_queued_used t (Some k) e c present fresh u =
      let v : NodeContext = with_scheduler t (record t.node.scheduler { queue = rest_of t.node.scheduler.queue }) in
      gives_used v k (record { number = c.number; counted = c.counted }) present
      (λ w x i there. fresh w x k i there (first_key t.node.scheduler.queue k e))
      (used_less but gone (look_in t) (sent_in t) n t.node.scheduler v.node.scheduler
      (record { slot_holders = λ w i. i; answered = λ w i. i; idle = λ w i. i; leases = λ w a i. i }) u)

  grants_next_used : (t : NodeContext) (o : Option ℕ) → first_item t.node.scheduler.answered ≡ o → Counts t →
      ((w : ℕ) → has t.node.scheduler.idle w ≡ true → gone w → ⊥) → ((w : ℕ) → has t.node.scheduler.answered w ≡ true → gone w → ⊥) →
      IsFresh (look_in t) t.node.scheduler → UsedThere t → UsedThere (grants_next t o)
  grants_next_used t None e c present asking fresh u = grants_queued_used t (first_item t.node.scheduler.queue) refl c present fresh u
  grants_next_used t (Some w) e c present asking fresh u = record {
    slot_holders = λ v f. elim (has-push t.node.scheduler.slot_holders w v f) [
      | inl g ↦ u.slot_holders v g
      | inr same ↦
          let first : has t.node.scheduler.answered w ≡ true = has-first t.node.scheduler.answered w e in
          elim (u.answered w first) [
            | inl a ↦ inl (subst (IsUser (look_in t) (sent_in t) n) same (record { here = a.here; why = inl a.goes }))
            | inr g ↦ absurd (asking w first g)
          ]
    ];
    answered = λ v f. u.answered v (has-rest t.node.scheduler.answered v f);
    idle = u.idle;
    leased = u.leased;
  }

  pub grants_used : (t : NodeContext) → Counts t → ((w : ℕ) → has t.node.scheduler.idle w ≡ true → gone w → ⊥) →
      ((w : ℕ) → has t.node.scheduler.answered w ≡ true → gone w → ⊥) → IsFresh (look_in t) t.node.scheduler → UsedThere t → UsedThere (grants t)
  grants_used t c present asking fresh u =
      at_test (λ b. UsedThere (if b then grants_next t (first_item t.node.scheduler.answered) else t)) (has_free_slot t.node.scheduler)
      (λ _. grants_next_used t (first_item t.node.scheduler.answered) refl c present asking fresh u) (λ _. u)

-- ---- slots are given back and asked for

module _ (ws : List Worker) (net : List Envelope) (n : ℕ) where
  none_gone : (xs : List ℕ) (w : ℕ) → has xs w ≡ true → Nobody w → ⊥
  none_gone xs w e f = f

  -- whoever gives its slot back may have had no use for it
  pub frees_used : (t : NodeContext) (w : ℕ) → Counts ws net n (One w) Nobody t → IsFresh (look_in ws net n (One w) Nobody t) t.node.scheduler →
      UsedThere ws net n (One w) Nobody t → UsedThere ws net n Nobody Nobody (frees t w)
  frees_used t w c fresh u =
      at_test (λ b. has t.node.scheduler.slot_holders w ≡ b → UsedThere ws net n Nobody Nobody (if b then grants (with_scheduler t s) else t))
      (has t.node.scheduler.slot_holders w)
      (λ _ _. grants_used ws net n Nobody Nobody (with_scheduler t s) (record { number = c.number; counted = c.counted }) (none_gone s.idle)
      (none_gone s.answered) fresh
      (record {
        slot_holders = λ v e. elim (u.slot_holders v (has-left t.node.scheduler.slot_holders w v e)) [
          | inl f ↦ inl f
          | inr same ↦ absurd (not_left t.node.scheduler.slot_holders w v e (sym same))
        ];
        answered = u.answered;
        idle = u.idle;
        leased = u.leased;
      }))
      (λ _ slotless. record {
        slot_holders = λ v e. elim (u.slot_holders v e) [
          | inl f ↦ inl f
          | inr same ↦ absurd (both_ways (has t.node.scheduler.slot_holders w) slotless (subst (λ i. has t.node.scheduler.slot_holders i ≡ true) same e))
        ];
        answered = u.answered;
        idle = u.idle;
        leased = u.leased;
      }) refl
    where
      s : Scheduler
      s = without_slot t.node.scheduler w

  -- a worker whose attempt may go on asks for a slot
  pub slot_used : (but : ℕ → Type 0) (t : NodeContext) (w : ℕ) → Counts ws net n but Nobody t → IsFresh (look_in ws net n but Nobody t) t.node.scheduler →
      IsAnswered (look_in ws net n but Nobody t) n w → UsedThere ws net n but Nobody t → UsedThere ws net n but Nobody (asks_slot t w)
  slot_used but t w c fresh asks u =
      at_test (λ b. UsedThere ws net n but Nobody (if b then t else grants (with_scheduler t s)))
      (has t.node.scheduler.slot_holders w || has t.node.scheduler.answered w)
      (λ _. u)
      (λ _. grants_used ws net n but Nobody (with_scheduler t s) (record { number = c.number; counted = c.counted }) (none_gone s.idle) (none_gone s.answered)
      (λ v x k e there queued. fresh v x k (has-left t.node.scheduler.idle w v e) there queued)
      (record {
        slot_holders = u.slot_holders;
        answered = λ v e. elim (has-push t.node.scheduler.answered w v e) [
          | inl f ↦ u.answered v f
          | inr same ↦ inl (subst (IsAnswered
              (look_in ws net n but Nobody t) n) same asks)
        ];
        idle = λ v e. u.idle v (has-left t.node.scheduler.idle w v e);
        leased = u.leased;
      }))
    where
      s : Scheduler
      s = with_answered t.node.scheduler w

  -- a worker that is dead is known no more
  pub forgets_used : (t : NodeContext) (w : ℕ) → Counts ws net n (One w) (One w) t → IsFresh (look_in ws net n (One w) (One w) t) t.node.scheduler →
      UsedThere ws net n (One w) (One w) t → UsedThere ws net n Nobody Nobody (forgets t w)
  forgets_used t w c fresh u =
      frees_used (with_scheduler t s) w (record { number = c.number; counted = c.counted })
      (λ v x k e there queued. fresh v x k (has-left t.node.scheduler.idle w v e) there queued)
      (record {
        slot_holders = u.slot_holders;
        answered = λ v e. elim (u.answered v (has-left t.node.scheduler.answered w v e)) [
          | inl f ↦ inl f
          | inr same ↦ absurd
              (not_left t.node.scheduler.answered w v e (sym same))
        ];
        idle = λ v e. elim (u.idle v (has-left t.node.scheduler.idle w v e)) [
          | inl f ↦ inl f
          | inr same ↦ absurd (not_left t.node.scheduler.idle w v e
              (sym same))
        ];
        leased = λ v a e. let l = lease_left t.node.scheduler.leases w v a e in elim (u.leased v a l.0) [
          | inl f ↦ inl f
          | inr same ↦ absurd (l.1
              (sym same))
        ];
      })
    where
      s : Scheduler
      s = without_worker t.node.scheduler w

  -- ---- what reaches the node

  abbrev T : NodeContext → Type 0
  T t = UsedThere ws net n Nobody Nobody t

  -- an envelope is sent, and the scheduler has no more
  said_used : (t : NodeContext) (s : Scheduler) (l : Envelope) → IsLess t.node.scheduler s → T t →
      Used Nobody Nobody (look_in ws net n Nobody Nobody t) (with_envelope net t.out.envelopes l) n s
  said_used t s l less u =
      used_less Nobody Nobody (look_in ws net n Nobody Nobody t) (with_envelope net t.out.envelopes l) n t.node.scheduler s less
      (used_more Nobody Nobody (look_in ws net n Nobody Nobody t) (look_in ws net n Nobody Nobody t) (net ++ t.out.envelopes)
      (with_envelope net t.out.envelopes l) n
      t.node.scheduler (envelope_more net t.out.envelopes l) (λ i x e _. e) u)

  same_less : (s : Scheduler) → IsLess s s
  same_less s = record { slot_holders = λ w i. i; answered = λ w i. i; idle = λ w i. i; leases = λ w a i. i }

  pub asked_used : (t : NodeContext) (k : AskKey) → Counts ws net n Nobody Nobody t →
      (reply_to t.node.scheduler k ≡ None → IsFreshFor (look_in ws net n Nobody Nobody t) t.node.scheduler k) → T t →
      T (asked_by t k (reply_to t.node.scheduler k))
  asked_used t k c fresh u = by_reply (reply_to t.node.scheduler k) refl
    where
      by_reply : (x : Option AskReply) → reply_to t.node.scheduler k ≡ x → T (asked_by t k x)
      by_reply None e = at_test (λ b. T (if b then gives_worker t k else has_no_slot_for t k)) (has_free_slot t.node.scheduler)
          (λ _. gives_used ws net n Nobody Nobody t k c (none_gone t.node.scheduler.idle) (fresh e) u)
          (λ _. at_test (λ b. T (if b then replies_anew t k (SentOn (next_in_circle t.nodes t.number)) else queues t k)) (nat_lt (k.hops + 1) t.nodes)
          (λ _. said_used t _ _ (record { slot_holders = λ w i. i; answered = λ w i. i; idle = λ w i. i; leases = λ w a i. i }) u)
          (λ _. said_used t _ _ (record { slot_holders = λ w i. i; answered = λ w i. i; idle = λ w i. i; leases = λ w a i. i }) u))
      by_reply (Some x) e = said_used t t.node.scheduler _ (same_less t.node.scheduler) u

  back_used : (t : NodeContext) (w : ℕ) (a : Attempt) → T t → T (is_back t w a)
  back_used t w a u =
      at_test (λ b. may_be_idle t.node.scheduler w a ≡ b →
      T (if b then with_scheduler t (with_idle t.node.scheduler w) else t)) (may_be_idle t.node.scheduler w a)
      (λ _ e. record {
        slot_holders = u.slot_holders;
        answered = u.answered;
        idle = λ v f. elim (has-with t.node.scheduler.idle w v f) [
          | inl g ↦ u.idle v g
          | inr same ↦ subst (λ i. IsHere (look_in ws net n Nobody Nobody t) n i ⊎ Nobody i) same (u.leased w a (latest e))
        ];
        leased = u.leased;
      }) (λ _ _. u) refl
    where
      latest : may_be_idle t.node.scheduler w a ≡ true → is_latest_lease t.node.scheduler w a ≡ true
      latest e = and_left (is_latest_lease t.node.scheduler w a) (not (has t.node.scheduler.slot_holders w))
          (and_left (is_latest_lease t.node.scheduler w a && not (has t.node.scheduler.slot_holders w)) (not (has t.node.scheduler.answered w)) e)

  fetched_used : (t : NodeContext) (o : Id) (number w : ℕ) (c : Option Outcome) → T t → T (fetched t o number w c)
  fetched_used t o number w None u = said_used t t.node.scheduler _ (same_less t.node.scheduler) u
  fetched_used t o number w (Some c) u = said_used t t.node.scheduler _ (same_less t.node.scheduler) u

  reached_from_used : (t : NodeContext) (w : ℕ) (m : Message) → Counts ws net n Nobody Nobody t →
      ((a : Attempt) (i : ℕ) → m ≡ Ask a i → reply_to t.node.scheduler (ask_key a i) ≡ None →
      IsFreshFor (look_in ws net n Nobody Nobody t) t.node.scheduler (ask_key a i)) →
      T t → T (node_reached_from t w m)
  reached_from_used t w (Ask a i) c fresh u = asked_used t (ask_key a i) c (fresh a i refl) u
  reached_from_used t w (Back a) c fresh u = back_used t w a u
  reached_from_used t w (Fetch o number) c fresh u = fetched_used t o number w (copy_in t.node.store o number) u
  reached_from_used t w (Unhold e o why) c fresh u = u
  reached_from_used t w (Give a i v) c fresh u = u
  reached_from_used t w (Elsewhere a i m) c fresh u = u
  reached_from_used t w (Wait a i) c fresh u = u
  reached_from_used t w (Push a spec) c fresh u = u
  reached_from_used t w (Finished a m rs) c fresh u = u
  reached_from_used t w (FinishedAck a) c fresh u = u
  reached_from_used t w (Failed a f) c fresh u = u
  reached_from_used t w (Where o) c fresh u = u
  reached_from_used t w (At o number ns kept) c fresh u = u
  reached_from_used t w (Gone o f) c fresh u = u
  reached_from_used t w (CopyOf o number b) c fresh u = u
  reached_from_used t w (Missing o number m) c fresh u = u
  reached_from_used t w (Hold e o) c fresh u = u
  reached_from_used t w (HoldAck e o) c fresh u = u

  pub reached_used : (t : NodeContext) (from : Endpoint) (m : Message) → Counts ws net n Nobody Nobody t →
      ((a : Attempt) (i w : ℕ) → from ≡ TheWorker w → m ≡ Ask a i → reply_to t.node.scheduler (ask_key a i) ≡ None →
      IsFreshFor (look_in ws net n Nobody Nobody t) t.node.scheduler (ask_key a i)) → T t → T (node_reached t from m)
  reached_used t (TheWorker w) m c fresh u = reached_from_used t w m c (λ a i e none. fresh a i w refl e none) u
  reached_used t (TheNode k) m c fresh u = u
