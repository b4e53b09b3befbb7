-- A worker in its event has no slot without a use for it.
use Rattle.std.proofs.Common.{◌≡◌, ◌≢◌, ℕ, zero, suc, ◌+◌, ◌≤◌, List, [], ◌∷◌, ◌++◌, length, Some, None, Option, refl, ap, sym, subst, ◌∙◌, ◌⊎◌, inl}
use Rattle.std.proofs.Common.{inr, arith}
use Rattle.std.proofs.Common.{append_assoc}
use Rattle.std.specs.Prelude.{true, if◌then◌else◌, ◌||◌}
use Rattle.sequence.proofs.Places.{or_right}
use Rattle.meaning.proofs.BirthLaws.{at_test}
use Rattle.meaning.specs.Values.{Id}
use Rattle.event_log.specs.Entries.{Attempt, Begun, Entry, Faulted, Got}
use Rattle.event_log.specs.Words.{attempt}
use Rattle.protocol.specs.Numbered.{item_at}
use Rattle.protocol.specs.Sets.{first_item, has, least, repeated, rest_of}
use Rattle.protocol.specs.Messages.{Envelope, envelope, Message, Endpoint, TheWorker, TheNode}
use Rattle.protocol.specs.Nodes.{AskKey, Scheduler, NodeContext, posts, with_scheduler}
use Rattle.protocol.specs.Slots.{asks_slot, frees, grants, grants_next, grants_queued, has_free_slot, leases_idle, with_answered, without_slot}
use Rattle.protocol.specs.Tables.{AskedAt, Fetching, HasFaulted, Execution, Waits, Worker, new_worker}
use Rattle.protocol.specs.Steps.{WorkerContext, logs, logs_all, with_phase, with_run, with_task_of, with_there, with_worker}
use Rattle.protocol.specs.Asking.{rests, with_begun}
use Rattle.protocol.specs.Commits.{task_objects, with_objects}
use Rattle.protocol.specs.Runs.{asks_for_slot, gives_slot_back, with_answer}
use Rattle.protocol.specs.Cluster.{ClusterState}
use Rattle.protocol_owed.specs.Courses.{GoesOn, HasStopped, Pace, has_begun}
use Rattle.protocol_owed.proofs.Asks.{has_key}
use Rattle.protocol_owed.proofs.NodeMoves.{IsKeptThere, asks_slot-kept, frees-kept}
use Rattle.protocol_owed.proofs.Nodes.{there_more}
use Rattle.protocol_owed.specs.Told.{pace_by, pace_in}
use Rattle.protocol_owed.proofs.Sets.{has-left}
use Rattle.protocol_owed.proofs.TellingMore.{rests_not}
use Rattle.smallest_steps.proofs.Smallest.{AnyPassed}
use Rattle.lease_discipline.specs.Discipline.{Look}
use Rattle.lease_discipline.proofs.Heres.{at_me, at_other, by_number, look_with, workers_with}
use Rattle.lease_discipline.proofs.Moves.{IsKept}
use Rattle.lease_discipline.proofs.Theres.{envelope_more, with_envelope}
use Rattle.lease_discipline.proofs.Turns.{sch}
use Rattle.owed_asks.proofs.SlotUsers.{Counts, HasUse, IsAnswered, IsFresh, IsHere, IsUser, Nobody, One, Used, frees_used, slot_used}
use Rattle.owed_asks.proofs.SlotUsers.{used_more, used_so}
use Rattle.step_laws.proofs.Lists.{changed-length}

-- ---- what a node does to idle workers and to its queue

pub record Narrows (s t : Scheduler) : Type 0 where
  pub idle : (w : ℕ) → has t.idle w ≡ true → has s.idle w ≡ true
  pub queue : (k : AskKey) → has_key k t.queue ≡ true → has_key k s.queue ≡ true

as_wide : (s : Scheduler) → Narrows s s
as_wide s = record { idle = λ w e. e; queue = λ k e. e }

narrows_then : (s t u : Scheduler) → Narrows s t → Narrows t u → Narrows s u
narrows_then s t u p q = record { idle = λ w e. p.idle w (q.idle w e); queue = λ k e. p.queue k (q.queue k e) }

leases_narrow : (t : NodeContext) (k : AskKey) (o : Option ℕ) → Narrows (sch t) (sch (leases_idle t k o))
leases_narrow t k None = record { idle = λ w e. has-left (sch t).idle _ w e; queue = λ j e. e }
leases_narrow t k (Some v) = record { idle = λ w e. has-left (sch t).idle v w e; queue = λ j e. e }

rest_key : (queue : List AskKey) (k : AskKey) → has_key k (rest_of queue) ≡ true → has_key k queue ≡ true
rest_key [] k e = e
rest_key (j ∷ queue) k e = or_right _ (has_key k queue) e

grants_queued_narrow : (t : NodeContext) (o : Option AskKey) → Narrows (sch t) (sch (grants_queued t o))
grants_queued_narrow t None = as_wide (sch t)
grants_queued_narrow t (Some k) =
    let s : Scheduler = record (sch t) { queue = rest_of (sch t).queue } in
    narrows_then (sch t) s (sch (leases_idle (with_scheduler t s) k (least s.idle)))
    (record { idle = λ w e. e; queue = λ j e. rest_key (sch t).queue j e }) (leases_narrow (with_scheduler t s) k (least s.idle))

grants_next_narrow : (t : NodeContext) (o : Option ℕ) → Narrows (sch t) (sch (grants_next t o))
grants_next_narrow t None = grants_queued_narrow t (first_item (sch t).queue)
grants_next_narrow t (Some w) = record { idle = λ v e. e; queue = λ j e. e }

grants_narrow : (t : NodeContext) → Narrows (sch t) (sch (grants t))
grants_narrow t =
    at_test (λ b. Narrows (sch t) (sch (if b then grants_next t (first_item (sch t).answered) else t))) (has_free_slot (sch t))
    (λ _. grants_next_narrow t (first_item (sch t).answered)) (λ _. as_wide (sch t))

frees_narrow : (t : NodeContext) (w : ℕ) → Narrows (sch t) (sch (frees t w))
frees_narrow t w =
    let s : Scheduler = without_slot (sch t) w in
    at_test (λ b. Narrows (sch t) (sch (if b then grants (with_scheduler t s) else t))) (has (sch t).slot_holders w)
    (λ _. narrows_then (sch t) s (sch (grants (with_scheduler t s))) (record { idle = λ v e. e; queue = λ j e. e }) (grants_narrow (with_scheduler t s)))
    (λ _. as_wide (sch t))

slot_narrow : (t : NodeContext) (w : ℕ) → Narrows (sch t) (sch (asks_slot t w))
slot_narrow t w =
    let s : Scheduler = with_answered (sch t) w in
    at_test (λ b. Narrows (sch t) (sch (if b then t else grants (with_scheduler t s)))) (has (sch t).slot_holders w || has (sch t).answered w)
    (λ _. as_wide (sch t))
    (λ _. narrows_then (sch t) s (sch (grants (with_scheduler t s))) (record { idle = λ v e. has-left (sch t).idle w v e; queue = λ j e. e })
    (grants_narrow (with_scheduler t s)))

-- what else a node keeps in a step
pub record Stays (n count least_opened : ℕ) (t : NodeContext) : Type 0 where
  pub number : t.number ≡ n
  pub workers : t.workers ≡ count
  pub opened : least_opened ≤ t.opened

stays_kept : (n count least_opened : ℕ) → IsKeptThere (Stays n count least_opened)
stays_kept n count least_opened = record {
  opens = λ t w s. record { number = s.number; workers = s.workers; opened = let o = s.opened in omega (arith, o) };
  says = λ t w m s. record { number = s.number; workers = s.workers; opened = s.opened };
  scheduler = λ t x s. record { number = s.number; workers = s.workers; opened = s.opened };
  store = λ t x s. record { number = s.number; workers = s.workers; opened = s.opened };
}

more_of : {X : Type 0} (i k : ℕ) (x : X) → i ≤ k → (ys : List X) × (repeated k x ≡ repeated i x ++ ys)
more_of zero k x e = (repeated k x, refl)
more_of (suc i) zero x e = absurd (omega (arith, e))
more_of (suc i) (suc k) x e = let r = more_of i k x (omega (arith, e)) in (r.0, ap (λ zs. x ∷ zs) r.1)

pub opened_more : (ws : List Worker) (n i k w : ℕ) (y : Worker) → i ≤ k → item_at (ws ++ repeated i (new_worker n)) w ≡ Some y →
    item_at (ws ++ repeated k (new_worker n)) w ≡ Some y
opened_more ws n i k w y e at =
    let r = more_of i k (new_worker n) e in
    let is : ws ++ repeated k (new_worker n) ≡ (ws ++ repeated i (new_worker n)) ++ r.0 =
    ap (λ zs. ws ++ zs) r.1 ∙ sym (append_assoc ws (repeated i (new_worker n)) r.0) in
    subst (λ xs. item_at xs w ≡ Some y) (sym is) (there_more (ws ++ repeated i (new_worker n)) r.0 w y at)

-- ---- an event of worker me of node n

module _ (c : ClusterState) (me n : ℕ) (old : Worker) (there : item_at c.workers me ≡ Some old) where
  abbrev pub look : Worker → ℕ → Look
  look x opened = look_with c me n old there x opened

  abbrev pub sent_so : WorkerContext → List Envelope
  sent_so h = c.network ++ h.there.out.envelopes

  -- the worker itself may keep a slot where it is as far as that
  abbrev pub Exempt : Option Pace → Worker → ℕ → Type 0
  Exempt p x w = (w ≡ me) × (p ≡ Some (pace_by x.run))

  pub record Uses (p : Option Pace) (h : WorkerContext) : Type 0 where
    pub who : h.me ≡ me
    pub home : h.worker.node ≡ n
    pub lives : h.worker.is_live ≡ true
    pub number : h.there.number ≡ n
    pub counted : h.there.workers ≡ length c.workers
    pub used : Used (Exempt p h.worker) Nobody (look h.worker h.there.opened) (sent_so h) n h.there.node.scheduler
    pub fresh : IsFresh (look h.worker h.there.opened) h.there.node.scheduler

  is_me : (x y : Worker) (i w : ℕ) → w ≡ me → look x i w ≡ Some y → x ≡ y
  is_me x y i w same e = let g : ◌≡◌ {A = Option Worker} (Some x) (Some y) = sym (at_me c me n old there x i) ∙ subst (λ v. look x i v ≡ Some y) same e in cc

  abbrev here_me : (h : WorkerContext) (y : Worker) (i : ℕ) → y.node ≡ n → y.is_live ≡ true → IsHere (look y i) n me
  here_me h y i home lives = record { worker = y; there = at_me c me n old there y i; home = home; lives = lives }

  abbrev moved_here : (h : WorkerContext) (y : Worker) (w : ℕ) → w ≢ me → IsHere (look h.worker h.there.opened) n w → IsHere (look y h.there.opened) n w
  moved_here h y w apart f = record {
    worker = f.worker;
    there = at_other c me n old there h.worker y h.there.opened w apart ∙ f.there;
    home = f.home;
    lives = f.lives;
  }

  -- what is known of the worker by its node
  pub my_answer : (p : Option Pace) (h : WorkerContext) → Uses p h → has h.there.node.scheduler.answered me ≡ true → pace_by h.worker.run ≡ GoesOn
  my_answer p h u e = elim (u.used.answered me e) [
    | inl a ↦ ap (λ (x : Worker). pace_by x.run) (is_me h.worker a.here.worker h.there.opened me refl a.here.there) ∙ a.goes
    | inr f ↦ absurd f
  ]

  -- the worker has become y
  pub worker_uses_by : (p q : Option Pace) (h : WorkerContext) (y : Worker) → y.node ≡ h.worker.node → y.is_live ≡ h.worker.is_live →
      ((k : AskKey) → has h.there.node.scheduler.idle me ≡ true → has_begun k.attempt y.began ≡ has_begun k.attempt h.worker.began) →
      (has h.there.node.scheduler.slot_holders me ≡ true → HasUse (sent_so h) n me y ⊎ (q ≡ Some (pace_by y.run))) →
      (has h.there.node.scheduler.answered me ≡ true → pace_by y.run ≡ GoesOn) → Uses p h → Uses q (with_worker h y)
  worker_uses_by p q h y node live began slot asks u = record {
    who = u.who;
    home = node ∙ u.home;
    lives = live ∙ u.lives;
    number = u.number;
    counted = u.counted;
    used = record {
      slot_holders = λ w e. elim (by_number w me) [
        | inl same ↦ mine w same (slot (subst (λ v. has h.there.node.scheduler.slot_holders v ≡ true) same e))
        | inr apart ↦ elim (u.used.slot_holders w e) [
          | inl f ↦ inl (record { here = moved_here h y w apart f.here; why = f.why })
          | inr f ↦ absurd (apart f.0)
        ]
      ];
      answered = λ w e. elim (by_number w me) [
        | inl same ↦ inl (subst (IsAnswered (look y h.there.opened) n) (sym same)
            (record { here = here_now; goes = asks (subst (λ v. has h.there.node.scheduler.answered v ≡ true) same e) }))
        | inr apart ↦ elim (u.used.answered w e) [ inl f ↦ inl (record { here = moved_here h y w apart f.here; goes = f.goes }) | inr f ↦ inr f ]
      ];
      idle = λ w e. elim (u.used.idle w e) [ inl f ↦ inl (any w f) | inr f ↦ inr f ];
      leased = λ w a e. elim (u.used.leased w a e) [ inl f ↦ inl (any w f) | inr f ↦ inr f ];
    };
    fresh = λ w x k idle at queued. elim (by_number w me) [
      | inl same ↦
          ap (λ (z : Worker). has_begun k.attempt z.began) (sym (is_me y x h.there.opened w same at)) ∙
          began k (subst (λ v. has h.there.node.scheduler.idle v ≡ true) same idle) ∙
          u.fresh w h.worker k idle (subst (λ v. look h.worker h.there.opened v ≡ Some h.worker) (sym same)
          (at_me c me n old there h.worker h.there.opened)) queued
      | inr apart ↦ u.fresh w x k idle (sym (at_other c me n old there h.worker y h.there.opened w apart) ∙ at) queued
    ];
  }
    where
      here_now : IsHere (look y h.there.opened) n me
      here_now = here_me h y h.there.opened (node ∙ u.home) (live ∙ u.lives)

      any : (w : ℕ) → IsHere (look h.worker h.there.opened) n w → IsHere (look y h.there.opened) n w
      any w f = elim (by_number w me) [ inl same ↦ subst (IsHere (look y h.there.opened) n) (sym same) here_now | inr apart ↦ moved_here h y w apart f ]

      mine : (w : ℕ) → w ≡ me → HasUse (sent_so h) n me y ⊎ (q ≡ Some (pace_by y.run)) → IsUser (look y h.there.opened) (sent_so h) n w ⊎ Exempt q y w
      mine w same (inl why) = inl (subst (IsUser (look y h.there.opened) (sent_so h) n) (sym same) (record {
        here = here_me h y h.there.opened (node ∙
            u.home) (live ∙ u.lives);
        why = why;
      }))
      mine w same (inr f) = inr (same, f)

  -- so where it began no other attempt
  pub worker_uses : (p q : Option Pace) (h : WorkerContext) (y : Worker) → y.node ≡ h.worker.node → y.is_live ≡ h.worker.is_live → y.began ≡ h.worker.began →
      (has h.there.node.scheduler.slot_holders me ≡ true → HasUse (sent_so h) n me y ⊎ (q ≡ Some (pace_by y.run))) →
      (has h.there.node.scheduler.answered me ≡ true → pace_by y.run ≡ GoesOn) → Uses p h → Uses q (with_worker h y)
  worker_uses p q h y node live began slot asks u = worker_uses_by p q h y node live (λ k _. ap (has_begun k.attempt) began) slot asks u

  -- as far as it was
  pub same_uses : (p : Option Pace) (h : WorkerContext) (y : Worker) → y.node ≡ h.worker.node → y.is_live ≡ h.worker.is_live → y.began ≡ h.worker.began →
      pace_by y.run ≡ pace_by h.worker.run → Uses p h → Uses p (with_worker h y)
  same_uses p h y node live began pace u =
      worker_uses p p h y node live began
      (λ e. elim (u.used.slot_holders me e) [
        | inl f ↦ inl (as_before f.here.worker (is_me h.worker f.here.worker h.there.opened me refl f.here.there) f.why)
        | inr f ↦ inr (f.1 ∙ ap (λ i. Some i) (sym pace))
      ])
      (λ e. pace ∙ my_answer p h u e) u
    where
      as_before : (x : Worker) → h.worker ≡ x → HasUse (sent_so h) n me x → HasUse (sent_so h) n me y
      as_before x is (inl e) = inl (pace ∙ ap (λ (z : Worker). pace_by z.run) is ∙ e)
      as_before x is (inr (inl e)) = inr (inl (e.0, pace ∙ ap (λ (z : Worker). pace_by z.run) is ∙ e.1))
      as_before x is (inr (inr e)) = inr (inr (e.0, e.1, ap (has_begun e.0) (began ∙ ap (λ (z : Worker). z.began) is) ∙ e.2))

  -- an envelope is sent, or entries are logged
  says_uses : (p : Option Pace) (h : WorkerContext) (to : Endpoint) (m : Message) → Uses p h → Uses p (with_there h (posts h.there (envelope (TheWorker h.me) to m)))
  says_uses p h to m u = record {
    who = u.who;
    home = u.home;
    lives = u.lives;
    number = u.number;
    counted = u.counted;
    used = used_more (Exempt p h.worker) Nobody (look h.worker h.there.opened) (look h.worker h.there.opened) (sent_so h)
        (with_envelope c.network h.there.out.envelopes (envelope (TheWorker h.me) to m)) n h.there.node.scheduler
        (envelope_more c.network h.there.out.envelopes (envelope (TheWorker h.me) to m)) (λ i x e _. e) u.used;
    fresh = u.fresh;
  }

  logs_uses : (p : Option Pace) (h : WorkerContext) (es : List Entry) → Uses p h → Uses p (logs_all h es)
  logs_uses p h es u = record { who = u.who; home = u.home; lives = u.lives; number = u.number; counted = u.counted; used = u.used; fresh = u.fresh }

  -- the node has done something
  there_uses : (p : Option Pace) (h : WorkerContext) (t : NodeContext) → Stays n (length c.workers) h.there.opened t → Narrows h.there.node.scheduler t.node.scheduler →
      Used (Exempt p h.worker) Nobody (look h.worker t.opened) (c.network ++ t.out.envelopes) n t.node.scheduler → (q : Option Pace) → Uses q h →
      Uses p (with_there h t)
  there_uses p h t stays narrow used q u = record {
    who = u.who;
    home = u.home;
    lives = u.lives;
    number = stays.number;
    counted = stays.workers;
    used = used;
    fresh = λ w x k idle at queued. elim (u.used.idle w (narrow.idle w idle)) [
      | inl f ↦
          let still : look h.worker t.opened w ≡ Some f.worker =
          opened_more (workers_with c me n old there h.worker) n h.there.opened t.opened w f.worker stays.opened f.there in
          let is : f.worker ≡ x = same_worker f.worker x (sym still ∙ at) in
          ap (λ (z : Worker). has_begun k.attempt z.began) (sym is) ∙ u.fresh w f.worker k (narrow.idle w idle) f.there (narrow.queue k queued)
      | inr f ↦ absurd f
    ];
  }
    where
      same_worker : (x y : Worker) → ◌≡◌ {A = Option Worker} (Some x) (Some y) → x ≡ y
      same_worker x y e = cc

  counts : (but gone : ℕ → Type 0) (p : Option Pace) (h : WorkerContext) → Uses p h → Counts (workers_with c me n old there h.worker) c.network n but gone h.there
  counts but gone p h u = record { number = u.number; counted = u.counted ∙ sym (changed-length c.workers me (λ _. h.worker)) }

  starts : (p : Option Pace) (h : WorkerContext) → Uses p h → Stays n (length c.workers) h.there.opened h.there
  starts p h u = record { number = u.number; workers = u.counted; opened = omega arith }

  -- it gives its slot back
  pub frees_uses : (p q : Option Pace) (h : WorkerContext) → Uses p h → Uses q (gives_slot_back h)
  frees_uses p q h u =
      there_uses q h (frees h.there h.me)
      (frees-kept (Stays n (length c.workers) h.there.opened) (stays_kept n (length c.workers) h.there.opened) h.there h.me (starts p h u))
      (frees_narrow h.there h.me)
      (used_so Nobody Nobody (Exempt q h.worker) Nobody (look h.worker (frees h.there h.me).opened) (c.network ++ (frees h.there h.me).out.envelopes) n
      (frees h.there h.me).node.scheduler (λ w f. absurd f) (λ w f. f)
      (frees_used (workers_with c me n old there h.worker) c.network n h.there h.me (counts (One h.me) Nobody p h u) u.fresh
      (used_so (Exempt p h.worker) Nobody (One h.me) Nobody (look h.worker h.there.opened) (sent_so h) n h.there.node.scheduler
      (λ w f. f.0 ∙ sym u.who) (λ w f. f) u.used))) p u

  -- its attempt may go on: it asks for a slot
  slot_uses : (p : Option Pace) (h : WorkerContext) → pace_by h.worker.run ≡ GoesOn → Uses p h → Uses p (asks_for_slot h)
  slot_uses p h goes u =
      there_uses p h (asks_slot h.there h.me)
      (asks_slot-kept (Stays n (length c.workers) h.there.opened) (stays_kept n (length c.workers) h.there.opened) h.there h.me (starts p h u))
      (slot_narrow h.there h.me)
      (slot_used (workers_with c me n old there h.worker) c.network n (Exempt p h.worker) h.there h.me (counts (Exempt p h.worker) Nobody p h u) u.fresh
      (subst (IsAnswered (look h.worker h.there.opened) n) (sym u.who)
      (record { here = here_me h h.worker h.there.opened u.home u.lives; goes = goes })) u.used) p u

  waits_not : (p : Option Pace) (h : WorkerContext) (run : Execution) (y : Id) (f : Option Fetching) → h.worker.run ≡ Some run → run.phase ≡ Waits y f → Uses p h →
      has h.there.node.scheduler.answered me ≡ true → ⊥
  waits_not p h run y f e q u asks = rests_not (sym (ap pace_by e ∙ ap pace_in q) ∙ my_answer p h u asks)

  objects_uses : (p : Option Pace) (h : WorkerContext) (y : Worker) → y.node ≡ h.worker.node → y.is_live ≡ h.worker.is_live → y.began ≡ h.worker.began →
      y.run ≡ h.worker.run → Uses p h → Uses p (with_worker h y)
  objects_uses p h y node live began run u = same_uses p h y node live began (ap pace_by run) u

  -- ---- all the smallest steps

  pub uses_kept : (ToldBy : ℕ → Attempt → Type 0) (OverOf : Attempt → Type 0) (GivenBy : ℕ → ℕ → Attempt → ℕ → Type 0) (p : Option Pace) →
      IsKept ToldBy OverOf GivenBy AnyPassed (Uses p)
  uses_kept ToldBy OverOf GivenBy p = record {
    writes = λ h es u. logs_uses p h es u;
    says_plain = λ h w m _ u. says_uses p h (TheWorker w) m u;
    says_plain_to_node = λ h k m _ u. says_uses p h (TheNode k) m u;
    objects = λ h x t u. objects_uses p h x t.tame.node t.tame.live t.tame.began t.tame.run u;
    store = λ h s u. record { who = u.who; home = u.home; lives = u.lives; number = u.number; counted = u.counted; used = u.used; fresh = u.fresh };
    begins = λ h o task w m t i _ _ _ _ u.
        let g : WorkerContext = with_task_of h o (with_begun task w m) in
        says_uses p (logs g (Begun (attempt o task.number) w)) (TheWorker w) _
        (logs_uses p g (Begun (attempt o task.number) w ∷ []) (objects_uses p h g.worker refl refl refl refl u));
    bears_new = λ h a spec others ids u. objects_uses p h (with_objects h (task_objects a (length h.worker.objects + 1) spec others ids)).worker refl refl refl refl u;
    comes_to_rest = λ h o task _ _ u. objects_uses p h (with_task_of h o (rests task)).worker refl refl refl refl u;
    pushes_again = λ h k task w m _ _ u. says_uses p h (TheWorker w) _ u;
    asks_anew = λ h o before task _ _ u.
        let g : WorkerContext = with_task_of h o (record task { progress = AskedAt 0 h.worker.node }) in
        says_uses p g (TheNode h.worker.node) _ (objects_uses p h g.worker refl refl refl refl u);
    asks_on = λ h o task t m k _ _ _ u.
        let g : WorkerContext = with_task_of h o (record task { progress = AskedAt (t + 1) k }) in
        says_uses p g (TheNode k) _ (objects_uses p h g.worker refl refl refl refl u);
    asks_again = λ h k task t m _ _ u. says_uses p h (TheNode m) _ u;
    run = λ h run next e k u. same_uses p h (record h.worker { run = Some next }) refl refl refl
        (k.pace ∙ ap pace_by (sym e)) u;
    leaves = λ h run next e _ _ phase _ u. same_uses p h (record h.worker { run = Some next }) refl refl refl (ap pace_in phase ∙ ap pace_by (sym e)) u;
    gets = λ h run content y f e q u.
        let g : WorkerContext = with_run h (with_answer run content) in
        slot_uses p (logs g (Got run.attempt y content)) refl
        (logs_uses p g (Got run.attempt y content ∷ []) (worker_uses p p h g.worker refl refl refl (λ _. inl (inl refl)) (λ _. refl) u));
    faults = λ h run fault y f e q u.
        let g : WorkerContext = with_phase h run (HasFaulted fault) in
        frees_uses (Some HasStopped) p (logs g (Faulted run.attempt y fault)) (logs_uses (Some HasStopped) g (Faulted run.attempt y fault ∷ [])
        (worker_uses p (Some HasStopped) h g.worker refl refl refl (λ _. inr refl) (λ asks. absurd (waits_not p h run y f e q u asks)) u));
    frees = λ h run y f e q u. frees_uses p p h u;
    tells_end = λ h run m rs _ _ u. says_uses p h _ _ u;
    tells_fault = λ h run f _ _ u. says_uses p h _ _ u;
    back = λ h run _ _ u. says_uses p h _ _ u;
    hears = λ h w a _ u. says_uses p h _ _ u;
    back_of = λ h m a _ _ u. says_uses p h _ _ u;
  }
