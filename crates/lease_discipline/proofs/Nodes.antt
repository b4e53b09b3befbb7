-- What a node does keeps its leases in order.
use Rattle.std.proofs.Common.{◌≡◌, ◌≢◌, ℕ, List, [], ◌∷◌, ◌++◌, Some, Option, refl, ap, sym, subst, ◌∙◌, ◌⊎◌, inl, inr}
use Rattle.std.specs.Prelude.{Bool, true, false, if◌then◌else◌, not, ◌==◌, ◌&&◌}
use Rattle.std.specs.List.{list_any}
use Rattle.std.proofs.lemmas.Bool.{both_ways, eq-eqb, eqb-true, false_from_ne_true}
use Rattle.sequence.proofs.Places.{list_any-push_cases, list_any-push_left, list_any-push_right, or_cases, or_left, or_right, and_left, and_right}
use Rattle.meaning.proofs.BirthLaws.{at_test}
use Rattle.event_log.specs.Entries.{Attempt}
use Rattle.event_log.specs.Words.{same_attempt}
use Rattle.event_log.proofs.WordLaws.{same_attempt-true, same_attempt-refl}
use Rattle.protocol_laws.specs.of_protocol.Sets.{first_item, has, without_number}
use Rattle.protocol_laws.specs.of_protocol.Messages.{Envelope}
use Rattle.protocol_laws.specs.of_protocol.Nodes.{AskKey, AskReply, Lease, Leased, Scheduler}
use Rattle.protocol_laws.specs.of_protocol.Slots.{is_latest_lease, may_be_idle, reply_to, same_key, slot_taken, with_answered, with_idle, with_lease, with_reply}
use Rattle.protocol_laws.specs.of_protocol.Slots.{without_lease, without_slot, without_worker}
use Rattle.protocol_laws.specs.of_protocol.Runs.{is_free}
use Rattle.protocol_laws.specs.of_protocol.Tables.{Worker}
use Rattle.protocol_laws.specs.of_protocol_owed.Courses.{has_begun}
use Rattle.protocol_laws.proofs.of_protocol_owed.Asks.{reply-same, reply-other, same_key-true}
use Rattle.protocol_laws.proofs.of_protocol_owed.Sets.{has-left, has-gone, has-stays, has-push, has-last, has-first, has-rest, has-with}
use Rattle.lease_discipline.specs.Discipline.{Look, Gave, IsDone, IsIdle, IsLeasedFor, IsPromised, NodeKeeps}
use Rattle.lease_discipline.proofs.Follows.{never_busy, free_unless_busy, More, gave_more}

-- ---- sets of numbers

has_not-push : (xs : List ℕ) (w v : ℕ) → has xs v ≡ false → w ≢ v → has (xs ++ w ∷ []) v ≡ false
has_not-push xs w v e apart = false_from_ne_true _ (λ f. elim (has-push xs w v f) [ inl g ↦ both_ways _ e g | inr g ↦ apart g ])

-- ---- leases

abbrev pub lease_in : List Lease → ℕ → Attempt → Bool
lease_in ls w a = list_any (λ l. (l.worker == w) && same_attempt l.attempt a) ls

lease-left : (ls : List Lease) (w v : ℕ) (a : Attempt) → lease_in (without_lease w ls) v a ≡ true → lease_in ls v a ≡ true
lease-left [] w v a e = e
lease-left (l ∷ ls) w v a e =
    let this : Bool = (l.worker == v) && same_attempt l.attempt a in
    at_test (λ b. lease_in (if not b then l ∷ without_lease w ls else without_lease w ls) v a ≡ true → lease_in (l ∷ ls) v a ≡ true) (l.worker == w)
    (λ _ f. or_right this (lease_in ls v a) (lease-left ls w v a f))
    (λ _ f. elim (or_cases this (lease_in (without_lease w ls) v a) f) [ inl g ↦ or_left this _ g | inr g ↦ or_right this _ (lease-left ls w v a g) ]) e

lease-gone : (ls : List Lease) (w : ℕ) (a : Attempt) → lease_in (without_lease w ls) w a ≡ true → ⊥
lease-gone [] w a e = absurd (cc)
lease-gone (l ∷ ls) w a e =
    let this : Bool = (l.worker == w) && same_attempt l.attempt a in
    at_test (λ b. (l.worker == w) ≡ b → lease_in (if not b then l ∷ without_lease w ls else without_lease w ls) w a ≡ true → ⊥) (l.worker == w)
    (λ _ _ f. lease-gone ls w a f)
    (λ _ g f. elim (or_cases this (lease_in (without_lease w ls) w a) f) [
      | inl h ↦ both_ways (l.worker == w) g (and_left (l.worker == w) (same_attempt l.attempt a) h)
      | inr h ↦ lease-gone ls w a h
    ]) refl e

lease-stays : (ls : List Lease) (w v : ℕ) (a : Attempt) → w ≢ v → lease_in ls v a ≡ true → lease_in (without_lease w ls) v a ≡ true
lease-stays [] w v a apart e = e
lease-stays (l ∷ ls) w v a apart e =
    let this : Bool = (l.worker == v) && same_attempt l.attempt a in
    at_test (λ b. (l.worker == w) ≡ b → lease_in (if not b then l ∷ without_lease w ls else without_lease w ls) v a ≡ true) (l.worker == w)
    (λ _ f. elim (or_cases this (lease_in ls v a) e) [
      | inl g ↦ absurd (apart (sym (eqb-true l.worker w f) ∙ eqb-true l.worker v (and_left (l.worker == v) (same_attempt l.attempt a) g)))
      | inr g ↦ lease-stays ls w v a apart g
    ])
    (λ _ f. elim (or_cases this (lease_in ls v a) e) [ inl g ↦ or_left this _ g | inr g ↦ or_right this _ (lease-stays ls w v a apart g) ]) refl

-- ---- what a scheduler may come to be

-- a live worker of the node that was given for an attempt which it never began
pub record IsWanted (look : Look) (sent : List Envelope) (n w : ℕ) (a : Attempt) : Type 0 where
  pub worker : Worker
  pub there : look w ≡ Some worker
  pub lives : worker.is_live ≡ true
  pub given : Gave sent n a w
  pub unbegun : has_begun a worker.began ≡ false

abbrev pub IsUnwanted : Look → List Envelope → ℕ → ℕ → Type 0
IsUnwanted look sent n w = (a : Attempt) → IsWanted look sent n w a → ⊥

-- s becomes t: no worker is newly idle or leased, no idle one gets a slot or asks for one, and none that is wanted loses its slot or its lease
pub record Lessens (look : Look) (sent : List Envelope) (n : ℕ) (s t : Scheduler) : Type 0 where
  pub idle : (w : ℕ) → has t.idle w ≡ true → has s.idle w ≡ true
  pub slotless : (w : ℕ) → has t.idle w ≡ true → has s.slot_holders w ≡ false → has s.answered w ≡ false → (has t.slot_holders w ≡ false) × (has t.answered w ≡ false)
  pub slots : (w : ℕ) (a : Attempt) → IsWanted look sent n w a → has s.slot_holders w ≡ true → has t.slot_holders w ≡ true
  pub leases : (w : ℕ) (a : Attempt) → is_latest_lease t w a ≡ true → is_latest_lease s w a ≡ true
  pub leased : (w : ℕ) (a : Attempt) → IsWanted look sent n w a → is_latest_lease s w a ≡ true → is_latest_lease t w a ≡ true
  pub replied : (k : AskKey) (w : ℕ) → reply_to t k ≡ Some (Leased w) → reply_to s k ≡ Some (Leased w)

module _ (look : Look) (sent : List Envelope) (n : ℕ) where
  pub lessened : (s t : Scheduler) → Lessens look sent n s t → NodeKeeps look sent n s → NodeKeeps look sent n t
  lessened s t l k = record {
    idle = λ w e.
        let i = k.idle w (l.idle w e) in
        let none = l.slotless w e i.slotless i.unanswered in
        record { worker = i.worker; there = i.there; home = i.home; free = i.free; slotless = none.0; unanswered = none.1 };
    promised = λ w x a at live given unbegun.
        let p = k.promised w x a at live given unbegun in
        let wanted : IsWanted look sent n w a = record { worker = x; there = at; lives = live; given = given; unbegun = unbegun } in
        record { free = p.free; leased = l.leased w a wanted p.leased; sole = λ b e. p.sole b (l.leases w b e); slot = l.slots w a wanted p.slot };
    busy = λ w x run at home e over b f. k.busy w x run at home e over b (l.leases w b f);
    replied = λ key w e. k.replied key w (l.replied key w e);
  }

  -- the queue has changed
  pub queue_lessens : (s : Scheduler) (queue : List AskKey) → Lessens look sent n s (record s { queue = queue })
  queue_lessens s queue = record {
    idle = λ w e. e;
    slotless = λ w e f g. (f, g);
    slots = λ w a _ e. e;
    leases = λ w a e. e;
    leased = λ w a _ e. e;
    replied = λ k w e. e;
  }

  -- another answer than a worker was given
  pub reply_lessens : (s : Scheduler) (k : AskKey) (x : AskReply) → ((w : ℕ) → x ≡ Leased w → ⊥) → Lessens look sent n s (with_reply s k x)
  reply_lessens s k x other = record {
    idle = λ w e. e;
    slotless = λ w e f g. (f, g);
    slots = λ w a _ e. e;
    leases = λ w a e. e;
    leased = λ w a _ e. e;
    replied = λ j w e.
        at_test (λ b. same_key k j ≡ b → reply_to s j ≡ Some (Leased w)) (same_key k j)
        (λ _ f.
        let g : ◌≡◌ {A = Option AskReply} (Some x) (Some (Leased w)) = sym (reply-same s.asks k x) ∙ ap (reply_to (with_reply s k x)) (same_key-true k j f) ∙ e in
        absurd (other w (let h : x ≡ Leased w = cc in h)))
        (λ _ f. sym (reply-other s.asks k j x f) ∙ e) refl;
  }

  -- the first that asks for a slot has one
  pub taken_lessens : (s : Scheduler) (w : ℕ) → first_item s.answered ≡ Some w → NodeKeeps look sent n s → Lessens look sent n s (slot_taken s w)
  taken_lessens s w first k = record {
    idle = λ v e. e;
    slotless = λ v e f g. (
      has_not-push s.slot_holders w v f (λ same. both_ways (has s.answered v) g (ap (has s.answered) (sym same) ∙ has-first s.answered w first)),
      false_from_ne_true _ (λ h. both_ways _ g (has-rest s.answered v h)),
    );
    slots = λ v a _ e. list_any-push_left (λ y. y == v) s.slot_holders w e;
    leases = λ v a e. e;
    leased = λ v a _ e. e;
    replied = λ key v e. e;
  }

  -- a worker that isn't wanted loses its slot
  pub slot_lessens : (s : Scheduler) (w : ℕ) → IsUnwanted look sent n w → Lessens look sent n s (without_slot s w)
  slot_lessens s w unwanted = record {
    idle = λ v e. e;
    slotless = λ v e f g. (false_from_ne_true _ (λ h. both_ways _ f (has-left s.slot_holders w v h)), g);
    slots = λ v a wanted e. has-stays s.slot_holders w v (λ same. unwanted a (subst (λ u. IsWanted look sent n u a) (sym same) wanted)) e;
    leases = λ v a e. e;
    leased = λ v a _ e. e;
    replied = λ key v e. e;
  }

  -- a worker asks for a slot
  pub answered_lessens : (s : Scheduler) (w : ℕ) → Lessens look sent n s (with_answered s w)
  answered_lessens s w = record {
    idle = λ v e. has-left s.idle w v e;
    slotless = λ v e f g. (f, has_not-push s.answered w v g (λ same. both_ways _ (ap (has (without_number s.idle w)) (sym same) ∙ has-gone s.idle w) e));
    slots = λ v a _ e. e;
    leases = λ v a e. e;
    leased = λ v a _ e. e;
    replied = λ key v e. e;
  }

  -- a worker that isn't wanted is forgotten, but for its slot
  pub worker_lessens : (s : Scheduler) (w : ℕ) → IsUnwanted look sent n w → Lessens look sent n s (without_worker s w)
  worker_lessens s w unwanted = record {
    idle = λ v e. has-left s.idle w v e;
    slotless = λ v e f g. (f, false_from_ne_true _ (λ h. both_ways _ g (has-left s.answered w v h)));
    slots = λ v a _ e. e;
    leases = λ v a e. lease-left s.leases w v a e;
    leased = λ v a wanted e. lease-stays s.leases w v a (λ same. unwanted a (subst (λ u. IsWanted look sent n u a) (sym same) wanted)) e;
    replied = λ key v e. e;
  }

  -- ---- Back

  slotless_now : (s : Scheduler) (w : ℕ) (a : Attempt) → may_be_idle s w a ≡ true →
      (is_latest_lease s w a ≡ true) × (has s.slot_holders w ≡ false) × (has s.answered w ≡ false)
  slotless_now s w a e =
      let b = and_left (is_latest_lease s w a && not (has s.slot_holders w)) (not (has s.answered w)) e in (
        and_left (is_latest_lease s w a) (not (has s.slot_holders w)) b,
        negated _ (and_right (is_latest_lease s w a) (not (has s.slot_holders w)) b),
        negated _ (and_right (is_latest_lease s w a && not (has s.slot_holders w)) (not (has s.answered w)) e),
      )
    where
      negated : (b : Bool) → not b ≡ true → b ≡ false
      negated true e = absurd (cc)
      negated false e = refl

  -- a worker of the node whose latest lease is over is idle
  pub back_keeps : (s : Scheduler) (w : ℕ) (a : Attempt) (d : IsDone look w a) → d.worker.node ≡ n → may_be_idle s w a ≡ true → NodeKeeps look sent n s →
      NodeKeeps look sent n (with_idle s w)
  back_keeps s w a d home e k =
      let now = slotless_now s w a e in
      record {
        idle = λ v f. elim (has-with s.idle w v f) [
          | inl g ↦ let i = k.idle v g in record {
            worker = i.worker;
            there = i.there;
            home = i.home;
            free = i.free;
            slotless = i.slotless;
            unanswered = i.unanswered;
          }
          | inr g ↦ subst (λ u. IsIdle look n (with_idle s w) u) g (record {
            worker = d.worker;
            there = d.there;
            home = home;
            free = free_unless_busy d.worker (λ run at over.
                let same : a ≡ run.attempt = k.busy w d.worker run d.there home at over a now.0 in
                both_ways run.is_over over (d.done.over run at (sym same)));
            slotless = now.1;
            unanswered = now.2;
          })
        ];
        promised = λ v x b at live given unbegun. let p = k.promised v x b at live given unbegun in
            record { free = p.free; leased = p.leased; sole = p.sole; slot = p.slot };
        busy = k.busy;
        replied = k.replied;
      }

  -- ---- a worker is given

  -- the node's free worker that isn't wanted is leased to the attempt, and its owner is told
  module _ (t : List Envelope) (s : Scheduler) (k : AskKey) (w : ℕ) (x : Worker) (more : More sent t) (given : Gave t n k.attempt w)
      (which : (a : Attempt) (v : ℕ) → Gave t n a v → Gave sent n a v ⊎ ((a ≡ k.attempt) × (v ≡ w)))
      (at : look w ≡ Some x) (free : is_free x.run ≡ true) (unwanted : IsUnwanted look sent n w) (keeps : NodeKeeps look sent n s) where
    abbrev next : Scheduler
    next = with_reply (with_lease s w k.attempt) k (Leased w)

    lease-cases : (v : ℕ) (b : Attempt) → is_latest_lease next v b ≡ true → (is_latest_lease s v b ≡ true) ⊎ ((v ≡ w) × (b ≡ k.attempt))
    lease-cases v b e = elim (list_any-push_cases (λ (l : Lease). (l.worker == v) && same_attempt l.attempt b) (without_lease w s.leases)
        (record { worker = w; attempt = k.attempt }) e) [
          | inl f ↦ inl (lease-left s.leases w v b f)
          | inr f ↦ inr (
            sym (eqb-true w v (and_left (w == v) (same_attempt k.attempt b) f)),
            sym
                (same_attempt-true k.attempt b (and_right (w == v) (same_attempt k.attempt b) f)),
          )
        ]

    -- its lease is the new one
    sole : IsLeasedFor next w k.attempt
    sole b e = elim (list_any-push_cases (λ (l : Lease). (l.worker == w) && same_attempt l.attempt b) (without_lease w s.leases)
        (record { worker = w; attempt = k.attempt }) e) [
          | inl f ↦ absurd (lease-gone s.leases w b f)
          | inr f ↦ sym (same_attempt-true k.attempt b (and_right (w == w) (same_attempt k.attempt b) f))
        ]

    both : (b c : Bool) → b ≡ true → c ≡ true → (b && c) ≡ true
    both true true e f = refl
    both true false e f = f
    both false c e f = e

    leased : is_latest_lease next w k.attempt ≡ true
    leased =
        list_any-push_right (λ (l : Lease). (l.worker == w) && same_attempt l.attempt k.attempt) (without_lease w s.leases)
        (record { worker = w; attempt = k.attempt })
        (both (w == w) (same_attempt k.attempt k.attempt) (eq-eqb w w refl) (same_attempt-refl k.attempt))

    now : (y : Worker) (a : Attempt) → look w ≡ Some y → y.is_live ≡ true → Gave t n a w → has_begun a y.began ≡ false → IsPromised next w y a
    now y a there live gave unbegun = elim (which a w gave) [
      | inl old ↦ absurd (unwanted a (record { worker = y; there = there; lives = live; given = old; unbegun = unbegun }))
      | inr (same, _) ↦
          let is : ◌≡◌ {A = Option Worker} (Some x) (Some y) = sym at ∙ there in
          let j : x ≡ y = cc in
          subst (λ b. IsPromised next w y b) (sym same) (record {
            free = subst (λ (z : Worker). is_free z.run ≡ true) j free;
            leased = leased;
            sole = sole;
            slot = has-last s.slot_holders w;
          })
    ]

    before : (v : ℕ) (y : Worker) (a : Attempt) → w ≢ v → look v ≡ Some y → y.is_live ≡ true → Gave t n a v → has_begun a y.began ≡ false →
        IsPromised next v y a
    before v y a apart there live gave unbegun = elim (which a v gave) [
      | inl old ↦
          let p = keeps.promised v y a there live old unbegun in
          record {
            free = p.free;
            leased = list_any-push_left (λ (l : Lease). (l.worker == v) && same_attempt l.attempt a) (without_lease w s.leases)
                (record { worker = w; attempt = k.attempt }) (lease-stays s.leases w v a apart p.leased);
            sole = λ b e. elim (lease-cases v b e) [ inl f ↦ p.sole b f | inr (f, _) ↦ absurd (apart (sym f)) ];
            slot = list_any-push_left (λ u. u == v) s.slot_holders w p.slot;
          }
      | inr (_, same) ↦ absurd (apart (sym same))
    ]

    pub gives_keeps : NodeKeeps look t n next
    gives_keeps = record {
      idle = λ v e.
          let i = keeps.idle v (has-left s.idle w v e) in
          record {
            worker = i.worker;
            there = i.there;
            home = i.home;
            free = i.free;
            slotless = has_not-push s.slot_holders w v i.slotless (λ same. both_ways _ (ap (has (without_number s.idle w)) (sym same) ∙ has-gone s.idle w) e);
            unanswered = i.unanswered;
          };
      promised = λ v y a there live gave unbegun.
          at_test (λ b. (w == v) ≡ b → IsPromised next v y a) (w == v)
          (λ _ f. subst (λ u. IsPromised next u y a) (eqb-true w v f)
          (now y a (subst (λ u. look u ≡ Some y) (sym (eqb-true w v f)) there) live (subst (λ u. Gave t n a u) (sym (eqb-true w v f)) gave) unbegun))
          (λ _ f. before v y a (λ same. both_ways (w == v) f (ap (λ u. w == u) (sym same) ∙ eq-eqb w w refl)) there live gave unbegun) refl;
      busy = λ v y run there home e over b f. elim (lease-cases v b f) [
        | inl g ↦ keeps.busy v y run there home e over b g
        | inr (g, same) ↦
            let i : look w ≡ Some y = subst (λ u. look u ≡ Some y) g there in
            let is : ◌≡◌ {A = Option Worker} (Some x) (Some y) = sym at ∙ i in
            let j : x ≡ y = cc in
            absurd (never_busy y run (subst (λ (z : Worker). is_free z.run ≡ true) j free) e over)
      ];
      replied = λ j v e.
          at_test (λ b. same_key k j ≡ b → Gave t n j.attempt v) (same_key k j)
          (λ _ f.
          let g : ◌≡◌ {A = Option AskReply} (Some (Leased w)) (Some (Leased v)) =
          sym (reply-same s.asks k (Leased w)) ∙ ap (reply_to next) (same_key-true k j f) ∙ e in
          let h : w ≡ v = cc in
          subst (λ u. Gave t n j.attempt u) h (subst (λ (i : AskKey). Gave t n i.attempt w) (same_key-true k j f) given))
          (λ _ f. gave_more sent t n j.attempt v more (keeps.replied j v (sym (reply-other s.asks k j (Leased w) f) ∙ e))) refl;
    }
