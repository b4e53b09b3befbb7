-- A worker in its event keeps asks in order.
use Rattle.std.proofs.Common.{◌≡◌, ◌≢◌, ℕ, ◌+◌, ◌<◌, ◌≤◌, List, [], ◌∷◌, ◌++◌, Some, None, Option, refl, ap, sym, subst, ◌∙◌, ◌⊎◌, inl, inr, arith}
use Rattle.std.specs.Prelude.{length, Bool, true, false, if◌then◌else◌}
use Rattle.std.proofs.lemmas.Bool.{both_ways}
use Rattle.meaning.proofs.BirthLaws.{at_test}
use Rattle.meaning.specs.Values.{Birth, Id}
use Rattle.event_log.specs.Entries.{Attempt, Faulted, Got, main_attempt}
use Rattle.event_log.specs.Words.{attempt}
use Rattle.event_log.specs.Breaks.{Among}
use Rattle.protocol_laws.specs.of_protocol.Numbered.{item_at, changed_at}
use Rattle.protocol_laws.specs.of_protocol.Sets.{object_id}
use Rattle.protocol_laws.specs.of_protocol.Messages.{Envelope, envelope, Message, Endpoint, TheWorker, TheNode, Ask, Give, Elsewhere, Wait, Back, Push, Finished, FinishedAck, Failed}
use Rattle.protocol_laws.specs.of_protocol.Messages.{Where, At, Gone, Fetch, CopyOf, Missing, Hold, HoldAck, Unhold}
use Rattle.protocol_laws.specs.of_protocol.Nodes.{NodeContext}
use Rattle.protocol_laws.specs.of_protocol.Slots.{asks_slot, frees}
use Rattle.protocol_laws.specs.of_protocol.Tables.{AskedAt, AtRest, Object, OwnTask, Progress, RunsOn, Worker, new_task, task_of, with_task}
use Rattle.protocol_laws.specs.of_protocol.Steps.{WorkerContext, is_own, logs, object_at, own_id, own_object, with_phase, with_run, with_task_of}
use Rattle.protocol_laws.specs.of_protocol.Asking.{asks_at, pushes, rests, with_begun}
use Rattle.protocol_laws.specs.of_protocol.Commits.{task_objects, with_objects}
use Rattle.protocol_laws.proofs.of_smallest_steps.Known.{new_tasks}
use Rattle.protocol_laws.specs.of_protocol.Runs.{with_answer}
use Rattle.protocol_laws.specs.of_protocol.Tables.{HasFaulted}
use Rattle.protocol_laws.specs.of_protocol.Cluster.{ClusterState, worker_at}
use Rattle.protocol_laws.proofs.of_protocol_owed.CourseEvents.{changed_none}
use Rattle.protocol_laws.proofs.of_protocol_owed.NodeMoves.{IsKeptThere, asks_slot-kept, frees-kept}
use Rattle.protocol_laws.proofs.of_protocol_owed.Nodes.{changed_cases}
use Rattle.protocol_laws.proofs.of_protocol_owed.Envelopes.{among-append_cases, among-behind, among-more, among-push_cases}
use Rattle.lease_discipline.specs.Asks.{Asked, IsClosed, IsLast, IsPassed, OwnsAsks, Touched}
use Rattle.lease_discipline.specs.Discipline.{Pushed}
use Rattle.protocol_laws.specs.of_smallest_steps.Steps.{IsNextOf}
use Rattle.protocol_laws.proofs.of_smallest_steps.Known.{changed_here, own_at}
use Rattle.lease_discipline.proofs.Follows.{More}
use Rattle.lease_discipline.proofs.Moves.{IsKept, is_plain}
use Rattle.lease_discipline.proofs.Theres.{envelope_cases, envelope_last, envelope_more, with_envelope}
use Rattle.lease_discipline.proofs.Heres.{by_number}

-- ---- envelopes that touch no attempt

abbrev pub is_touch : Message → Bool
is_touch (Ask a t) = true
is_touch (Push a spec) = true
is_touch _ = false

plain_quiet : (m : Message) → is_plain m ≡ true → is_touch m ≡ false
plain_quiet (Give a t w) e = absurd (cc)
plain_quiet (Push a spec) e = absurd (cc)
plain_quiet (Ask a t) e = absurd (cc)
plain_quiet (Finished a n rs) e = refl
plain_quiet (Failed a f) e = refl
plain_quiet (FinishedAck a) e = refl
plain_quiet (Back a) e = refl
plain_quiet (Elsewhere a t n) e = refl
plain_quiet (Wait a t) e = refl
plain_quiet (Where o) e = refl
plain_quiet (At o number ns kept) e = refl
plain_quiet (Gone o f) e = refl
plain_quiet (Fetch o number) e = refl
plain_quiet (CopyOf o number c) e = refl
plain_quiet (Missing o number n) e = refl
plain_quiet (Hold e o) f = refl
plain_quiet (HoldAck e o) f = refl
plain_quiet (Unhold e o why) f = refl

-- more was sent, by which no other attempt than a was asked for or pushed
pub record TouchesOnly (b : Attempt → Type 0) (s t : List Envelope) : Type 0 where
  pub more : More s t
  pub asked : (a : Attempt) (i n : ℕ) → Asked t a i n → Asked s a i n ⊎ b a
  pub pushed : (a : Attempt) (w : ℕ) → Pushed t a w → Pushed s a w ⊎ b a

abbrev pub Nobody : Attempt → Type 0
Nobody a = ⊥

abbrev pub This : Attempt → Attempt → Type 0
This a b = b ≡ a

pub touched_before : (b : Attempt → Type 0) (s t : List Envelope) (a : Attempt) → TouchesOnly b s t → Touched t a → Touched s a ⊎ b a
touched_before b s t a o (inl (i, n, e)) = elim (o.asked a i n e) [ inl f ↦ inl (inl (i, n, f)) | inr f ↦ inr f ]
touched_before b s t a o (inr (w, e)) = elim (o.pushed a w e) [ inl f ↦ inl (inr (w, f)) | inr f ↦ inr f ]

pub pushed_more : (s t : List Envelope) (a : Attempt) (w : ℕ) → More s t → Pushed s a w → Pushed t a w
pushed_more s t a w more e = (e.0, e.1, more _ e.2)

pub passed_more : (dead : ℕ → Type 0) (s t : List Envelope) (a : Attempt) (i n : ℕ) → More s t → IsPassed dead s a i n → IsPassed dead t a i n
passed_more dead s t a i n more (inl e) = inl (e.0, more _ e.1)
passed_more dead s t a i n more (inr d) = inr d

last_more : (dead : ℕ → Type 0) (b : Attempt → Type 0) (s t : List Envelope) (a : Attempt) (i n : ℕ) → TouchesOnly b s t → (b a → ⊥) → IsLast dead s a i n →
    IsLast dead t a i n
last_more dead b s t a i n o not l j m e = elim (o.asked a j m e) [
  | inl f ↦ elim (l j m f) [ inl g ↦ inl g | inr (g, p) ↦ inr (g, passed_more dead s t a j m o.more p) ]
  | inr f ↦ absurd (not f)
]

-- an owner whose attempts weren't touched
pub owns_more : (dead : ℕ → Type 0) (b : Attempt → Type 0) (s t : List Envelope) (v : ℕ) (x : Worker) → TouchesOnly b s t →
    ((k i : ℕ) → b (attempt (object_id v k) i) → ⊥) →
    OwnsAsks dead s v x → OwnsAsks dead t v x
owns_more dead b s t v x o not q = record {
  none = λ k i e f. elim (touched_before b s t _ o f) [ inl g ↦ q.none k i e g | inr g ↦ not k i g ];
  later = λ k i task e less f. elim (touched_before b s t _ o f) [ inl g ↦ q.later k i task e less g | inr g ↦ not k i g ];
  newborn = λ k spec e f. elim (touched_before b s t _ o f) [ inl g ↦ q.newborn k spec e g | inr g ↦ not k 0 g ];
  stands = λ k task i n e p. last_more dead b s t _ i n o (not k task.number) (q.stands k task i n e p);
  unpushed = λ k task i n w e p f. elim (o.pushed _ w f) [ inl g ↦ q.unpushed k task i n w e p g | inr g ↦ not k task.number g ];
  runs = λ k task w n e p. pushed_more s t _ w o.more (q.runs k task w n e p);
  begun = q.begun;
}

pub closed_more : (dead : ℕ → Type 0) (b : Attempt → Type 0) (s t : List Envelope) (a : Attempt) (w : ℕ) → TouchesOnly b s t → (b a → ⊥) →
    IsClosed dead s a w → IsClosed dead t a w
closed_more dead b s t a w o not q = record { hops = q.hops; node = q.node; given = o.more _ q.given; last = last_more dead b s t a q.hops q.node o not q.last }

-- ---- tables

-- the same tasks
pub owns_same : (dead : ℕ → Type 0) (s : List Envelope) (v : ℕ) (x y : Worker) → ((k : ℕ) → task_of (item_at y.objects k) ≡ task_of (item_at x.objects k)) →
    OwnsAsks dead s v x → OwnsAsks dead s v y
owns_same dead s v x y same q = record {
  none = λ k i e f. q.none k i (sym (same k) ∙ e) f;
  later = λ k i task e less f. q.later k i task (sym (same k) ∙ e) less f;
  newborn = λ k spec e f. q.newborn k spec (sym (same k) ∙ e) f;
  stands = λ k task i n e p. q.stands k task i n (sym (same k) ∙ e) p;
  unpushed = λ k task i n w e p f. q.unpushed k task i n w (sym (same k) ∙ e) p f;
  runs = λ k task w n e p. q.runs k task w n (sym (same k) ∙ e) p;
  begun = λ k task w n e p f. q.begun k task w n (sym (same k) ∙ e) p f;
}

-- one more task, a new one
abbrev IsBornOf : Worker → Worker → Birth → Type 0
IsBornOf x y spec =
    (k : ℕ) → (task_of (item_at y.objects k) ≡ task_of (item_at x.objects k)) ⊎
    ((task_of (item_at x.objects k) ≡ None) × (task_of (item_at y.objects k) ≡ Some (new_task spec)))

pub same_task : (a b : OwnTask) → ◌≡◌ {A = Option OwnTask} (Some a) (Some b) → a ≡ b
same_task a b e = cc

rests_not_asked : (task : OwnTask) (spec : Birth) (t n : ℕ) → new_task spec ≡ task → task.progress ≡ AskedAt t n → ⊥
rests_not_asked task spec t n e p = let f : AtRest ≡ AskedAt t n = ap (λ (u : OwnTask). u.progress) e ∙ p in absurd (cc)

rests_not_runs : (task : OwnTask) (spec : Birth) (w n : ℕ) → new_task spec ≡ task → task.progress ≡ RunsOn w n → ⊥
rests_not_runs task spec w n e p = let f : AtRest ≡ RunsOn w n = ap (λ (u : OwnTask). u.progress) e ∙ p in absurd (cc)

owns_born : (dead : ℕ → Type 0) (s : List Envelope) (v : ℕ) (x y : Worker) (spec : Birth) → IsBornOf x y spec → OwnsAsks dead s v x → OwnsAsks dead s v y
owns_born dead s v x y spec born q = record {
  none = λ k i e f. elim (born k) [ inl same ↦ q.none k i (sym same ∙ e) f | inr (none, _) ↦ q.none k i none f ];
  later = λ k i task e less f. elim (born k) [ inl same ↦ q.later k i task (sym same ∙ e) less f | inr (none, _) ↦ q.none k i none f ];
  newborn = λ k sp e f. elim (born k) [ inl same ↦ q.newborn k sp (sym same ∙ e) f | inr (none, _) ↦ q.none k 0 none f ];
  stands = λ k task i n e p. elim (born k) [
    | inl same ↦ q.stands k task i n (sym same ∙ e) p
    | inr (_, now) ↦ absurd
        (rests_not_asked task spec i n (same_task _ _ (sym now ∙ e)) p)
  ];
  unpushed = λ k task i n w e p f. elim (born k) [
    | inl same ↦ q.unpushed k task i n w (sym same ∙ e) p f
    | inr (_, now) ↦ rests_not_asked task spec i n
        (same_task _ _ (sym now ∙ e)) p
  ];
  runs = λ k task w n e p. elim (born k) [
    | inl same ↦ q.runs k task w n (sym same ∙ e) p
    | inr (_, now) ↦ absurd
        (rests_not_runs task spec w n (same_task _ _ (sym now ∙ e)) p)
  ];
  begun = λ k task w n e p f. elim (born k) [
    | inl same ↦ q.begun k task w n (sym same ∙ e) p f
    | inr (_, now) ↦ rests_not_runs task spec w n
        (same_task _ _ (sym now ∙ e)) p
  ];
}

-- one task takes the place of another
pub record IsPut (x y : Worker) (k0 : ℕ) (old task : OwnTask) : Type 0 where
  pub before : task_of (item_at x.objects k0) ≡ Some old
  pub now : task_of (item_at y.objects k0) ≡ Some task
  pub apart : (k : ℕ) → k ≢ k0 → task_of (item_at y.objects k) ≡ task_of (item_at x.objects k)

serials : (v k0 i0 u k i : ℕ) → attempt (object_id u k) i ≡ attempt (object_id v k0) i0 → (u ≡ v) × (k ≡ k0) × (i ≡ i0)
serials v k0 i0 u k i e = (ap (λ (a : Attempt). a.object.owner) e, ap (λ (a : Attempt). a.object.serial) e, ap (λ (a : Attempt). a.number) e)

-- the task of the object k0 is put, and at most its present attempt is touched
owns_put : (dead : ℕ → Type 0) (s t : List Envelope) (v k0 : ℕ) (x y : Worker) (old task : OwnTask) → IsPut x y k0 old task → old.number ≤ task.number →
    TouchesOnly (This (attempt (object_id v k0) task.number)) s t →
    ((spec : Birth) → task ≡ new_task spec → Touched t (attempt (object_id v k0) 0) → ⊥) →
    ((i n : ℕ) → task.progress ≡ AskedAt i n → IsLast dead t (attempt (object_id v k0) task.number) i n) →
    ((i n w : ℕ) → task.progress ≡ AskedAt i n → Pushed t (attempt (object_id v k0) task.number) w → ⊥) →
    ((w n : ℕ) → task.progress ≡ RunsOn w n → Pushed t (attempt (object_id v k0) task.number) w) →
    ((w n : ℕ) → task.progress ≡ RunsOn w n → task.begun ≡ [] → ⊥) → OwnsAsks dead s v x → OwnsAsks dead t v y
owns_put dead s t v k0 x y old task put le o newborn stands unpushed runs begun q = record {
  none = λ k i e f. elim (by_number k k0) [
    | inl same ↦ not_none same e
    | inr apart ↦ elim (touched_before _ s t _ o f) [ inl g ↦ q.none k i (sym (put.apart k apart) ∙ e) g | inr g ↦ apart (serials v k0 task.number v k i g).1 ]
  ];
  later = λ k i other e less f. elim (by_number k k0) [
    | inl same ↦ later_here k i other same e less f
    | inr apart ↦ elim (touched_before _ s t _ o f) [
      | inl g ↦ q.later k i other (sym (put.apart k apart) ∙ e) less g
      | inr g ↦ apart
          (serials v k0 task.number v k i g).1
    ]
  ];
  newborn = λ k spec e f. elim (by_number k k0) [
    | inl same ↦ newborn spec (is_task k same _ e) (subst (λ j. Touched t (attempt (object_id v j) 0)) same f)
    | inr apart ↦ elim (touched_before _ s t _ o f) [
      | inl g ↦ q.newborn k spec (sym (put.apart k apart) ∙ e) g
      | inr g ↦ apart
          (serials v k0 task.number v k 0 g).1
    ]
  ];
  stands = λ k other i n e p. elim (by_number k k0) [
    | inl same ↦
        let is : task ≡ other = is_task k same other e in
        subst (λ j. IsLast dead t (attempt (object_id v j) other.number) i n) (sym same)
        (subst (λ (u : OwnTask). IsLast dead t (attempt (object_id v k0) u.number) i n) is (stands i n (ap (λ (u : OwnTask). u.progress) is ∙ p)))
    | inr apart ↦ last_more dead _ s t _ i n o (λ g. apart (serials v k0 task.number v k other.number g).1)
        (q.stands k other i n (sym (put.apart k apart) ∙ e) p)
  ];
  unpushed = λ k other i n w e p f. elim (by_number k k0) [
    | inl same ↦
        let is : task ≡ other = is_task k same other e in
        unpushed i n w (ap (λ (u : OwnTask). u.progress) is ∙ p)
        (subst (λ (u : OwnTask). Pushed t (attempt (object_id v k0) u.number) w) (sym is)
        (subst (λ j. Pushed t (attempt (object_id v j) other.number) w) same f))
    | inr apart ↦ elim (o.pushed _ w f) [
      | inl g ↦ q.unpushed k other i n w (sym (put.apart k apart) ∙ e) p g
      | inr g ↦ apart (serials v k0 task.number v k other.number g).1
    ]
  ];
  runs = λ k other w n e p. elim (by_number k k0) [
    | inl same ↦
        let is : task ≡ other = is_task k same other e in
        subst (λ j. Pushed t (attempt (object_id v j) other.number) w) (sym same)
        (subst (λ (u : OwnTask). Pushed t (attempt (object_id v k0) u.number) w) is (runs w n (ap (λ (u : OwnTask). u.progress) is ∙ p)))
    | inr apart ↦ pushed_more s t _ w o.more (q.runs k other w n (sym (put.apart k apart) ∙ e) p)
  ];
  begun = λ k other w n e p f. elim (by_number k k0) [
    | inl same ↦
        let is : task ≡ other = is_task k same other e in
        begun w n (ap (λ (u : OwnTask). u.progress) is ∙ p) (ap (λ (u : OwnTask). u.begun) is ∙ f)
    | inr apart ↦ q.begun k other w n (sym (put.apart k apart) ∙ e) p f
  ];
}
  where
    is_task : (k : ℕ) → k ≡ k0 → (other : OwnTask) → task_of (item_at y.objects k) ≡ Some other → task ≡ other
    is_task k same other e = same_task _ _ (sym put.now ∙ subst (λ j. task_of (item_at y.objects j) ≡ Some other) same e)

    not_none : {k : ℕ} → k ≡ k0 → task_of (item_at y.objects k) ≡ None → ⊥
    not_none same e = let f : ◌≡◌ {A = Option OwnTask} None (Some task) = sym (subst (λ j. task_of (item_at y.objects j) ≡ None) same e) ∙ put.now in cc

    later_here : (k i : ℕ) (other : OwnTask) → k ≡ k0 → task_of (item_at y.objects k) ≡ Some other → other.number < i →
        Touched t (attempt (object_id v k) i) → ⊥
    later_here k i other same e less f =
        let is : task ≡ other = is_task k same other e in
        let number : task.number ≡ other.number = ap (λ (u : OwnTask). u.number) is in
        let g : Touched t (attempt (object_id v k0) i) = subst (λ j. Touched t (attempt (object_id v j) i)) same f in
        elim (touched_before _ s t _ o g) [
          | inl h ↦ q.later k0 i old put.before (omega (arith, le, number, less)) h
          | inr h ↦ let j = (serials v k0 task.number v k0 i h).2 in absurd (omega (arith, j, number, less))
        ]

-- ---- an event of worker me

pub item_apart : (xs : List Object) (n m : ℕ) (f : Object → Object) → m ≢ n → item_at (changed_at xs n f) m ≡ item_at xs m
item_apart xs n m f apart = by_item (item_at (changed_at xs n f) m) refl
  where
    by_item : (o : Option Object) → item_at (changed_at xs n f) m ≡ o → item_at (changed_at xs n f) m ≡ item_at xs m
    by_item None e = e ∙ sym (changed_none xs n m f e)
    by_item (Some y) e = elim (changed_cases xs n m f y e) [ inl (same, _, _, _) ↦ absurd (apart same) | inr (_, at) ↦ e ∙ sym at ]

pub put_task : (x : Worker) (k0 : ℕ) (old task : OwnTask) → task_of (item_at x.objects k0) ≡ Some old →
    IsPut x (record x { objects = changed_at x.objects k0 (with_task task) }) k0 old task
put_task x k0 old task at = record {
  before = at;
  now = by_item (item_at x.objects k0) refl at;
  apart = λ k other. ap task_of (item_apart x.objects k0 k (with_task task) other);
}
  where
    by_item : (o : Option Object) → item_at x.objects k0 ≡ o → task_of o ≡ Some old →
        task_of (item_at (changed_at x.objects k0 (with_task task)) k0) ≡ Some task
    by_item None e f = absurd (cc)
    by_item (Some y) e f = ap task_of (changed_here x.objects k0 (with_task task) y e)

-- an own object that has a task
pub own_task : (h : WorkerContext) (o : Id) (task : OwnTask) → task_of (object_at h o) ≡ Some task → task_of (item_at h.worker.objects o.serial) ≡ Some task
own_task h o task e =
    at_test (λ b. task_of (if b then own_object h o.serial else None) ≡ Some task → task_of (own_object h o.serial) ≡ Some task) (is_own h o) (λ _ f. f)
    (λ _ f. absurd (cc)) e

module _ (c : ClusterState) (me : ℕ) (old : Worker) (there : item_at c.workers me ≡ Some old) (dead : ℕ → Type 0) where
  pub record AsksOf (m : ℕ) (x : Worker) (s : List Envelope) : Type 0 where
    pub who : m ≡ me
    pub mine : OwnsAsks dead s me x
    pub others : (v : ℕ) (y : Worker) → v ≢ me → worker_at c v ≡ Some y → OwnsAsks dead s v y
    pub closed : (a : Attempt) (w : ℕ) → Pushed s a w → IsClosed dead s a w
    pub owned : (a : Attempt) → Touched s a → (y : Worker) × (worker_at c a.object.owner ≡ Some y)

  abbrev pub sent_so : WorkerContext → List Envelope
  sent_so h = c.network ++ h.there.out.envelopes

  abbrev pub Asks : WorkerContext → Type 0
  Asks h = AsksOf h.me h.worker (sent_so h)

  nobody : (a : Attempt) → Nobody a → ⊥
  nobody a e = e

  -- more is sent that touches no attempt
  more_asks : (m : ℕ) (x : Worker) (s t : List Envelope) → TouchesOnly Nobody s t → AsksOf m x s → AsksOf m x t
  more_asks m x s t o q = record {
    who = q.who;
    mine = owns_more dead Nobody s t me x o (λ k i e. e) q.mine;
    others = λ v y apart at. owns_more dead Nobody s t v y o (λ k i e. e) (q.others v y apart at);
    closed = λ a w e. elim (o.pushed a w e) [ inl f ↦ closed_more dead Nobody s t a w o (nobody a) (q.closed a w f) | inr f ↦ absurd f ];
    owned = λ a e. elim (touched_before Nobody s t a o e) [ inl f ↦ q.owned a f | inr f ↦ absurd f ];
  }

  quiet_envelope : (h : WorkerContext) (from to : Endpoint) (m : Message) → is_touch m ≡ false →
      TouchesOnly Nobody (sent_so h) (with_envelope c.network h.there.out.envelopes (envelope from to m))
  quiet_envelope h from to m quiet = record {
    more = envelope_more c.network h.there.out.envelopes (envelope from to m);
    asked = λ a i n e. elim (envelope_cases c.network h.there.out.envelopes (envelope from to m) _ e.1) [
      | inl f ↦ inl (e.0, f)
      | inr f ↦ absurd (both_ways (is_touch m) quiet (ap is_touch (sym (ap (λ (l : Envelope). l.message) f))))
    ];
    pushed = λ a w e. elim (envelope_cases c.network h.there.out.envelopes (envelope from to m) _ e.2) [
      | inl f ↦ inl (e.0, e.1, f)
      | inr f ↦ absurd (both_ways (is_touch m) quiet (ap is_touch (sym (ap (λ (l : Envelope). l.message) f))))
    ];
  }

  says_asks : (h : WorkerContext) (to : Endpoint) (m : Message) → is_touch m ≡ false → Asks h →
      AsksOf h.me h.worker (with_envelope c.network h.there.out.envelopes (envelope (TheWorker h.me) to m))
  says_asks h to m quiet q = more_asks h.me h.worker (sent_so h) (with_envelope c.network h.there.out.envelopes (envelope (TheWorker h.me) to m))
      (quiet_envelope h (TheWorker h.me) to m quiet) q

  -- what the node says touches no attempt
  abbrev OnlyNode : List Envelope → NodeContext → Type 0
  OnlyNode base t = ((l : Envelope) → Among l base → Among l t.out.envelopes) ×
      ((l : Envelope) → Among l t.out.envelopes → Among l base ⊎ ((k : ℕ) × (l.sender ≡ TheNode k)))

  only_node : (base : List Envelope) → IsKeptThere (OnlyNode base)
  only_node base = record {
    opens = λ t w q. q;
    says = λ t w m q. (
      (λ l e. among-more t.out.envelopes _ l (q.0 l e)),
      (λ l e. elim (among-push_cases t.out.envelopes _ l e) [ inl f ↦ q.1 l f | inr f ↦ inr (t.number, ap (λ (x : Envelope). x.sender) f) ]),
    );
    scheduler = λ t s q. q;
    store = λ t s q. q;
  }

  no_node : (u k : ℕ) → ◌≡◌ {A = Endpoint} (TheWorker u) (TheNode k) → ⊥
  no_node u k e = cc

  node_quiet : (h : WorkerContext) (t : NodeContext) → OnlyNode h.there.out.envelopes t → TouchesOnly Nobody (sent_so h) (c.network ++ t.out.envelopes)
  node_quiet h t q = record {
    more = λ l e. elim (among-append_cases c.network h.there.out.envelopes l e) [
      | inl f ↦ among-more c.network t.out.envelopes l f
      | inr f ↦ among-behind c.network t.out.envelopes l (q.0 l f)
    ];
    asked = λ a i n e. elim (among-append_cases c.network t.out.envelopes _ e.1) [
      | inl f ↦ inl (e.0, among-more c.network h.there.out.envelopes _ f)
      | inr f ↦ elim (q.1 _ f) [ inl g ↦ inl (e.0, among-behind c.network h.there.out.envelopes _ g) | inr (k, g) ↦ absurd (no_node e.0 k g) ]
    ];
    pushed = λ a w e. elim (among-append_cases c.network t.out.envelopes _ e.2) [
      | inl f ↦ inl (e.0, e.1, among-more c.network h.there.out.envelopes _ f)
      | inr f ↦ elim (q.1 _ f) [ inl g ↦ inl (e.0, e.1, among-behind c.network h.there.out.envelopes _ g) | inr (k, g) ↦ absurd (no_node e.0 k g) ]
    ];
  }

  pub frees_asks : (h : WorkerContext) → Asks h → AsksOf h.me h.worker (c.network ++ (frees h.there h.me).out.envelopes)
  frees_asks h q =
      let base : List Envelope = h.there.out.envelopes in
      more_asks h.me h.worker (sent_so h) (c.network ++ (frees h.there h.me).out.envelopes)
      (node_quiet h (frees h.there h.me) (frees-kept (OnlyNode base) (only_node base) h.there h.me ((λ l e. e), (λ l e. inl e)))) q

  slot_asks : (h : WorkerContext) → Asks h → AsksOf h.me h.worker (c.network ++ (asks_slot h.there h.me).out.envelopes)
  slot_asks h q =
      let base : List Envelope = h.there.out.envelopes in
      more_asks h.me h.worker (sent_so h) (c.network ++ (asks_slot h.there h.me).out.envelopes)
      (node_quiet h (asks_slot h.there h.me) (asks_slot-kept (OnlyNode base) (only_node base) h.there h.me ((λ l e. e), (λ l e. inl e)))) q

  -- the tables change, and leave tasks as they are
  pub same_asks : (m : ℕ) (x y : Worker) (s : List Envelope) → ((k : ℕ) → task_of (item_at y.objects k) ≡ task_of (item_at x.objects k)) → AsksOf m x s →
      AsksOf m y s
  same_asks m x y s same q = record { who = q.who; mine = owns_same dead s me x y same q.mine; others = q.others; closed = q.closed; owned = q.owned }

  -- ---- what is known of messages that come

  -- the attempt was pushed to that worker, or is main
  abbrev pub ToldOf : ℕ → Attempt → Type 0
  ToldOf w a = Pushed c.network a w ⊎ (a ≡ main_attempt)

  abbrev pub OverBy : Attempt → Type 0
  OverBy a = Unit {0}

  pub record GivenOf (n t : ℕ) (a : Attempt) (w : ℕ) : Type 0 where
    pub given : Among (envelope (TheNode n) (TheWorker a.object.owner) (Give a t w)) c.network
    pub asked : Asked c.network a t n

  abbrev pub PassedBy : Attempt → ℕ → ℕ → Type 0
  PassedBy a t n = IsPassed dead c.network a t n

  so_more : (h : WorkerContext) → More c.network (sent_so h)
  so_more h l e = among-more c.network h.there.out.envelopes l e

  -- ---- an own attempt is asked for

  -- the envelope of an ask
  ask_envelope : (h : WorkerContext) (n : ℕ) (a : Attempt) (t : ℕ) →
      TouchesOnly (This a) (sent_so h) (with_envelope c.network h.there.out.envelopes (envelope (TheWorker h.me) (TheNode n) (Ask a t)))
  ask_envelope h n a t = record {
    more = envelope_more c.network h.there.out.envelopes _;
    asked = λ b i m e. elim (envelope_cases c.network h.there.out.envelopes _ _ e.1) [
      | inl f ↦ inl (e.0, f)
      | inr f ↦ inr
          (attempts b i (ap (λ (l : Envelope). l.message) f))
    ];
    pushed = λ b w e. elim (envelope_cases c.network h.there.out.envelopes _ _ e.2) [
      | inl f ↦ inl (e.0, e.1, f)
      | inr f ↦ absurd
          (other b e.1 (ap (λ (l : Envelope). l.message) f))
    ];
  }
    where
      attempts : (b : Attempt) (i : ℕ) → Ask b i ≡ Ask a t → b ≡ a
      attempts b i e = cc

      other : (b : Attempt) (spec : Birth) → Push b spec ≡ Ask a t → ⊥
      other b spec e = absurd (cc)

  -- which ask of it was sent
  ask_cases : (h : WorkerContext) (n : ℕ) (a : Attempt) (t i m : ℕ) →
      Asked (with_envelope c.network h.there.out.envelopes (envelope (TheWorker h.me) (TheNode n) (Ask a t))) a i m →
      Asked (sent_so h) a i m ⊎ ((i ≡ t) × (m ≡ n))
  ask_cases h n a t i m e = elim (envelope_cases c.network h.there.out.envelopes _ _ e.1) [
    | inl f ↦ inl (e.0, f)
    | inr f ↦ inr (numbers (ap (λ (l : Envelope). l.message) f), nodes (ap (λ (l : Envelope). l.receiver) f))
  ]
    where
      numbers : Ask a i ≡ Ask a t → i ≡ t
      numbers f = cc

      nodes : ◌≡◌ {A = Endpoint} (TheNode m) (TheNode n) → m ≡ n
      nodes f = cc

  -- the attempt a0 of the task that is put at k0 is asked for, which wasn't pushed
  asked_asks : (h : WorkerContext) (x : Worker) (k0 : ℕ) (before task : OwnTask) (t n : ℕ) → IsPut h.worker x k0 before task → before.number ≤ task.number →
      task.progress ≡ AskedAt t n →
      ((w : ℕ) → Pushed (sent_so h) (attempt (object_id me k0) task.number) w → ⊥) →
      ((i m : ℕ) → Asked (sent_so h) (attempt (object_id me k0) task.number) i m →
      ((i ≡ t) × (m ≡ n)) ⊎ ((i < t) × IsPassed dead (sent_so h) (attempt (object_id me k0) task.number) i m)) →
      Asks h → AsksOf h.me x (with_envelope c.network h.there.out.envelopes (envelope (TheWorker h.me) (TheNode n) (Ask (attempt (object_id me k0) task.number) t)))
  asked_asks h x k0 before task t n put le progress unpushed last q =
      let a : Attempt = attempt (object_id me k0) task.number in
      let s : List Envelope = sent_so h in
      let s' : List Envelope = with_envelope c.network h.there.out.envelopes (envelope (TheWorker h.me) (TheNode n) (Ask a t)) in
      let o : TouchesOnly (This a) s s' = ask_envelope h n a t in
      record {
        who = q.who;
        mine = owns_put dead s s' me k0 h.worker x before task put le o
            (λ spec e _. let f : AtRest ≡ AskedAt t n = sym (ap (λ (u : OwnTask). u.progress) e) ∙ progress in absurd (cc))
            (λ i m e. last_now s s' o i m (sym progress ∙ e))
            (λ i m w e f. elim (o.pushed a w f) [ inl g ↦ unpushed w g | inr g ↦ pushed_new w f ])
            (λ w m e. let f : AskedAt t n ≡ RunsOn w m = sym progress ∙ e in absurd (cc))
            (λ w m e _. let f : AskedAt t n ≡ RunsOn w m = sym progress ∙ e in absurd (cc)) q.mine;
        others = λ v y apart at. owns_more dead (This a) s s' v y o (λ k i e. apart (serials me k0 task.number v k i e).0) (q.others v y apart at);
        closed = λ b w e. elim (o.pushed b w e) [
          | inl f ↦ closed_more dead (This a) s s' b w o (λ same. unpushed w (subst (λ i. Pushed s i w) same f)) (q.closed b w f)
          | inr f ↦ absurd (pushed_new w (subst (λ i. Pushed s' i w) f e))
        ];
        owned = λ b e. elim (touched_before (This a) s s' b o e) [
          | inl f ↦ q.owned b f
          | inr f ↦ (old, subst (λ (i : Attempt). worker_at c i.object.owner ≡ Some old) (sym f) there)
        ];
      }
    where
      a0 : Attempt
      a0 = attempt (object_id me k0) task.number

      pushed_new : (w : ℕ) →
          Pushed (with_envelope c.network h.there.out.envelopes (envelope (TheWorker h.me) (TheNode n) (Ask (attempt (object_id me k0) task.number) t)))
          (attempt (object_id me k0) task.number) w → ⊥
      pushed_new w e = elim (envelope_cases c.network h.there.out.envelopes _ _ e.2) [
        | inl f ↦ unpushed w (e.0, e.1, f)
        | inr f ↦ no_push e.1
            (ap (λ (l : Envelope). l.message) f)
      ]
        where
          no_push : (spec : Birth) → Push (attempt (object_id me k0) task.number) spec ≡ Ask (attempt (object_id me k0) task.number) t → ⊥
          no_push spec f = absurd (cc)

      last_now : (s s' : List Envelope) → TouchesOnly (This (attempt (object_id me k0) task.number)) s s' → (i m : ℕ) → AskedAt t n ≡ AskedAt i m →
          IsLast dead (with_envelope c.network h.there.out.envelopes (envelope (TheWorker h.me) (TheNode n) (Ask (attempt (object_id me k0) task.number) t)))
          (attempt (object_id me k0) task.number) i m
      last_now s s' o i m e =
          let numbers : t ≡ i = cc in
          let nodes : n ≡ m = cc in
          subst (λ j. IsLast dead (with_envelope c.network h.there.out.envelopes
          (envelope (TheWorker h.me) (TheNode n) (Ask (attempt (object_id me k0) task.number) t))) (attempt (object_id me k0) task.number) j m) numbers
          (subst (λ j. IsLast dead (with_envelope c.network h.there.out.envelopes
          (envelope (TheWorker h.me) (TheNode n) (Ask (attempt (object_id me k0) task.number) t))) (attempt (object_id me k0) task.number) t j) nodes
          (λ j k f. elim (ask_cases h n (attempt (object_id me k0) task.number) t j k f) [
            | inl g ↦ elim (last j k g) [
              | inl same ↦ inl same
              | inr (less, p) ↦ inr (
                less,
                passed_more dead (sent_so h) _ (attempt (object_id me k0) task.number) j k
                    (envelope_more c.network h.there.out.envelopes _) p,
              )
            ]
            | inr g ↦ inl g
          ]))

  -- ---- an own attempt begins

  push_envelope : (h : WorkerContext) (w : ℕ) (a : Attempt) (spec : Birth) →
      TouchesOnly (This a) (sent_so h) (with_envelope c.network h.there.out.envelopes (envelope (TheWorker h.me) (TheWorker w) (Push a spec)))
  push_envelope h w a spec = record {
    more = envelope_more c.network h.there.out.envelopes _;
    asked = λ b i m e. elim (envelope_cases c.network h.there.out.envelopes _ _ e.1) [
      | inl f ↦ inl (e.0, f)
      | inr f ↦ absurd
          (no_ask b i (ap (λ (l : Envelope). l.message) f))
    ];
    pushed = λ b v e. elim (envelope_cases c.network h.there.out.envelopes _ _ e.2) [
      | inl f ↦ inl (e.0, e.1, f)
      | inr f ↦ inr
          (attempts b e.1 (ap (λ (l : Envelope). l.message) f))
    ];
  }
    where
      no_ask : (b : Attempt) (i : ℕ) → Ask b i ≡ Push a spec → ⊥
      no_ask b i e = absurd (cc)

      attempts : (b : Attempt) (sp : Birth) → Push b sp ≡ Push a spec → b ≡ a
      attempts b sp e = cc

  -- a Push adds no ask, and goes to that worker
  push_asked : (h : WorkerContext) (w : ℕ) (a b : Attempt) (spec : Birth) (i m : ℕ) →
      Asked (with_envelope c.network h.there.out.envelopes (envelope (TheWorker h.me) (TheWorker w) (Push a spec))) b i m → Asked (sent_so h) b i m
  push_asked h w a b spec i m e = elim (envelope_cases c.network h.there.out.envelopes _ _ e.1) [
    | inl f ↦ (e.0, f)
    | inr f ↦ absurd
        (no_ask (ap (λ (l : Envelope). l.message) f))
  ]
    where
      no_ask : Ask b i ≡ Push a spec → ⊥
      no_ask f = absurd (cc)

  push_cases : (h : WorkerContext) (w v : ℕ) (a b : Attempt) (spec : Birth) →
      Pushed (with_envelope c.network h.there.out.envelopes (envelope (TheWorker h.me) (TheWorker w) (Push a spec))) b v →
      Pushed (sent_so h) b v ⊎ ((b ≡ a) × (v ≡ w))
  push_cases h w v a b spec e = elim (envelope_cases c.network h.there.out.envelopes _ _ e.2) [
    | inl f ↦ inl (e.0, e.1, f)
    | inr f ↦ inr (attempts e.1 (ap (λ (l : Envelope). l.message) f), workers (ap (λ (l : Envelope). l.receiver) f))
  ]
    where
      attempts : (sp : Birth) → Push b sp ≡ Push a spec → b ≡ a
      attempts sp f = cc

      workers : ◌≡◌ {A = Endpoint} (TheWorker v) (TheWorker w) → v ≡ w
      workers f = cc

  -- a task that runs on w is put at k0, and pushed to w, which was given for its last ask
  pushed_asks : (h : WorkerContext) (x : Worker) (k0 w n : ℕ) (before task : OwnTask) (spec : Birth) → IsPut h.worker x k0 before task →
      before.number ≤ task.number → task.progress ≡ RunsOn w n →
      (task.begun ≡ [] → ⊥) →
      IsClosed dead (sent_so h) (attempt (object_id me k0) task.number) w →
      Asks h → AsksOf h.me x (with_envelope c.network h.there.out.envelopes
      (envelope (TheWorker h.me) (TheWorker w) (Push (attempt (object_id me k0) task.number) spec)))
  pushed_asks h x k0 w n before task spec put le progress some closed q =
      let o : TouchesOnly (This a) (sent_so h) s' = push_envelope h w a spec in
      record {
        who = q.who;
        mine = owns_put dead (sent_so h) s' me k0 h.worker x before task put le o
            (λ sp e _. let f : AtRest ≡ RunsOn w n = sym (ap (λ (u : OwnTask). u.progress) e) ∙ progress in absurd (cc))
            (λ i m e. let f : RunsOn w n ≡ AskedAt i m = sym progress ∙ e in absurd (cc))
            (λ i m v e _. let f : RunsOn w n ≡ AskedAt i m = sym progress ∙ e in absurd (cc))
            (λ v m e. runs v m (sym progress ∙ e)) (λ v m e f. some f) q.mine;
        others = λ v y apart at. owns_more dead (This a) (sent_so h) s' v y o (λ k i e. apart (serials me k0 task.number v k i e).0) (q.others v y apart at);
        closed = λ b v e. elim (push_cases h w v a b spec e) [
          | inl f ↦ closed_so b v (q.closed b v f)
          | inr (same, to) ↦ subst (λ i. IsClosed dead s' i v) (sym same) (subst (λ i. IsClosed dead s' a i) (sym to) (closed_so a w closed))
        ];
        owned = λ b e. elim (touched_before (This a) (sent_so h) s' b o e) [
          | inl f ↦ q.owned b f
          | inr f ↦ (old, subst (λ (i : Attempt). worker_at c i.object.owner ≡ Some old) (sym f) there)
        ];
      }
    where
      a : Attempt
      a = attempt (object_id me k0) task.number

      s' : List Envelope
      s' = with_envelope c.network h.there.out.envelopes (envelope (TheWorker h.me) (TheWorker w) (Push a spec))

      closed_so : (b : Attempt) (v : ℕ) → IsClosed dead (sent_so h) b v → IsClosed dead s' b v
      closed_so b v k = record {
        hops = k.hops;
        node = k.node;
        given = envelope_more c.network h.there.out.envelopes _ _ k.given;
        last = λ i m e. elim (k.last i m (push_asked h w a b spec i m e)) [
          | inl f ↦ inl f
          | inr (f, p) ↦ inr (f, passed_more dead (sent_so h) s' b i m (envelope_more c.network h.there.out.envelopes _) p)
        ];
      }

      runs : (v m : ℕ) → RunsOn w n ≡ RunsOn v m → Pushed s' a v
      runs v m e = let same : w ≡ v = cc in subst (λ i. Pushed s' a i) same (h.me, spec, envelope_last c.network h.there.out.envelopes _)

  -- ---- all the smallest steps

  own_id_is : (h : WorkerContext) (o : Id) → o.owner ≡ h.me → Asks h → o ≡ object_id me o.serial
  own_id_is h o own q = ap (λ u. object_id u o.serial) (own ∙ q.who)

  same_put : (x : Worker) (k0 : ℕ) (task : OwnTask) → task_of (item_at x.objects k0) ≡ Some task → IsPut x x k0 task task
  same_put x k0 task at = record { before = at; now = at; apart = λ k other. refl }

  no_zero : (h : WorkerContext) (o : Id) (task : OwnTask) → task_of (object_at h o) ≡ Some task → attempt o task.number ≡ main_attempt → ⊥
  no_zero h o task at main =
      let zero_serial : o.serial ≡ 0 = ap (λ (a : Attempt). a.object.serial) main in
      let f : ◌≡◌ {A = Option OwnTask} None (Some task) = subst (λ k. task_of (item_at h.worker.objects k) ≡ Some task) zero_serial (own_task h o task at) in
      absurd (cc)

  untouched_next : (h : WorkerContext) (k0 : ℕ) (before task : OwnTask) → task_of (item_at h.worker.objects k0) ≡ Some before → IsNextOf before task → Asks h →
      Touched (sent_so h) (attempt (object_id me k0) task.number) → ⊥
  untouched_next h k0 before task at (inl next) q e =
      let number : task.number ≡ before.number + 1 = ap (λ (u : OwnTask). u.number) next in
      q.mine.later k0 task.number before at (omega (arith, number)) e
  untouched_next h k0 before task at (inr (spec, new, was)) q e =
      let number : task.number ≡ 0 = ap (λ (u : OwnTask). u.number) new in
      q.mine.newborn k0 spec (at ∙ ap (λ u. Some u) was) (subst (λ i. Touched (sent_so h) (attempt (object_id me k0) i)) number e)

  next_more : (before task : OwnTask) → IsNextOf before task → before.number ≤ task.number
  next_more before task (inl next) = let number : task.number ≡ before.number + 1 = ap (λ (u : OwnTask). u.number) next in omega (arith, number)
  next_more before task (inr (spec, new, was)) =
      let a : task.number ≡ 0 = ap (λ (u : OwnTask). u.number) new in
      let b : before.number ≡ 0 = ap (λ (u : OwnTask). u.number) was in
      omega (arith, a, b)

  ask_anew : (h : WorkerContext) (o : Id) (before task : OwnTask) (n : ℕ) → task_of (object_at h o) ≡ Some before → IsNextOf before task → Asks h →
      Asks (asks_at h o task 0 n)
  ask_anew h o before task n at next q =
      let k0 : ℕ = o.serial in
      let here_at : task_of (item_at h.worker.objects k0) ≡ Some before = own_task h o before at in
      let asked : OwnTask = record task { progress = AskedAt 0 n } in
      let x : Worker = record h.worker { objects = changed_at h.worker.objects k0 (with_task asked) } in
      let untouched : Touched (sent_so h) (attempt (object_id me k0) task.number) → ⊥ = untouched_next h k0 before task here_at next q in
      subst (λ i. AsksOf h.me x (with_envelope c.network h.there.out.envelopes (envelope (TheWorker h.me) (TheNode n) (Ask (attempt i task.number) 0))))
      (sym (own_id_is h o (own_at h o before at) q))
      (asked_asks h x k0 before asked 0 n (put_task h.worker k0 before asked here_at) (next_more before task next) refl
      (λ w e. untouched (inr (w, e))) (λ i m e. absurd (untouched (inl (i, m, e)))) q)

  ask_on : (h : WorkerContext) (o : Id) (task : OwnTask) (t m n : ℕ) → task_of (object_at h o) ≡ Some task → task.progress ≡ AskedAt t m →
      PassedBy (attempt o task.number) t m →
      Asks h → Asks (asks_at h o task (t + 1) n)
  ask_on h o task t m n at progress passed q =
      let k0 : ℕ = o.serial in
      let here_at : task_of (item_at h.worker.objects k0) ≡ Some task = own_task h o task at in
      let asked : OwnTask = record task { progress = AskedAt (t + 1) n } in
      let x : Worker = record h.worker { objects = changed_at h.worker.objects k0 (with_task asked) } in
      let is : o ≡ object_id me k0 = own_id_is h o (own_at h o task at) q in
      let a : Attempt = attempt (object_id me k0) task.number in
      let now : IsPassed dead (sent_so h) a t m = subst (λ i. IsPassed dead (sent_so h) (attempt i task.number) t m) is
      (passed_more dead c.network (sent_so h) _ t m (so_more h) passed) in
      subst (λ i. AsksOf h.me x (with_envelope c.network h.there.out.envelopes (envelope (TheWorker h.me) (TheNode n) (Ask (attempt i task.number) (t + 1)))))
      (sym is)
      (asked_asks h x k0 task asked (t + 1) n (put_task h.worker k0 task asked here_at) (omega arith) refl
      (λ w e. q.mine.unpushed k0 task t m w here_at progress e)
      (λ i j e. elim (q.mine.stands k0 task t m here_at progress i j e) [
        | inl (same, node) ↦ inr (
          omega (arith, same),
          subst (λ u. IsPassed dead (sent_so h) a u j) (sym same)
              (subst (λ u. IsPassed dead (sent_so h) a t u) (sym node) now),
        )
        | inr (less, p) ↦ inr (omega (arith, less), p)
      ]) q)

  rest : (h : WorkerContext) (o : Id) (task : OwnTask) → task_of (object_at h o) ≡ Some task →
      ((w n : ℕ) × (task.progress ≡ RunsOn w n)) ⊎ ((w : ℕ) × ToldOf w (attempt o task.number)) →
      Asks h → Asks (with_task_of h o (rests task))
  rest h o task at why q =
      let k0 : ℕ = o.serial in
      let here_at : task_of (item_at h.worker.objects k0) ≡ Some task = own_task h o task at in
      let s : List Envelope = sent_so h in
      record {
        who = q.who;
        mine = owns_put dead s s me k0 h.worker _ task (rests task) (put_task h.worker k0 task (rests task) here_at) (omega arith)
            (record { more = λ l e. e; asked = λ a i n e. inl e; pushed = λ a w e. inl e })
            (λ spec e f. newborn k0 here_at spec task.progress refl e f)
            (λ i n e. let f : AtRest ≡ AskedAt i n = e in absurd (cc)) (λ i n w e _. let f : AtRest ≡ AskedAt i n = e in absurd (cc))
            (λ w n e. let f : AtRest ≡ RunsOn w n = e in absurd (cc)) (λ w n e _. let f : AtRest ≡ RunsOn w n = e in absurd (cc)) q.mine;
        others = q.others;
        closed = q.closed;
        owned = q.owned;
      }
    where
      told_pushed : (k0 : ℕ) → k0 ≡ o.serial → (w : ℕ) → ToldOf w (attempt o task.number) → Pushed (sent_so h) (attempt (object_id me o.serial) task.number) w
      told_pushed k0 e w (inl p) = subst (λ i. Pushed (sent_so h) (attempt i task.number) w) (own_id_is h o (own_at h o task at) q)
          (pushed_more c.network (sent_so h) _ w (so_more h) p)
      told_pushed k0 e w (inr main) = absurd (no_zero h o task at main)

      newborn : (k0 : ℕ) → task_of (item_at h.worker.objects o.serial) ≡ Some task → (spec : Birth) (p : Progress) → task.progress ≡ p →
          rests task ≡ new_task spec → Touched (sent_so h) (attempt (object_id me o.serial) 0) → ⊥
      newborn k0 here_at spec AtRest p e f =
          let is : task ≡ rests task = ap (λ u. record task { progress = u }) p in
          q.mine.newborn o.serial spec (here_at ∙ ap (λ u. Some u) (is ∙ e)) f
      newborn k0 here_at spec (RunsOn w n) p e f = q.mine.begun o.serial task w n here_at p (ap (λ (u : OwnTask). u.begun) e)
      newborn k0 here_at spec (AskedAt t n) p e f = elim why [
        | inl (w, m, runs) ↦ let g : AskedAt t n ≡ RunsOn w m = sym p ∙ runs in absurd (cc)
        | inr (w, told) ↦ q.mine.unpushed o.serial task t n w here_at p (told_pushed o.serial refl w told)
      ]

  not_nil : (ws : List ℕ) (w : ℕ) → ws ++ w ∷ [] ≡ [] → ⊥
  not_nil [] w e = absurd (cc)
  not_nil (x ∷ ws) w e = absurd (cc)

  begin : (h : WorkerContext) (o : Id) (task : OwnTask) (w n t m : ℕ) → o.owner ≡ h.me → task_of (object_at h o) ≡ Some task → task.progress ≡ AskedAt t m →
      GivenOf n t (attempt o task.number) w → Asks h → Asks (pushes h o (with_begun task w n) w)
  begin h o task w n t m own at progress given q =
      let k0 : ℕ = o.serial in
      let here_at : task_of (item_at h.worker.objects k0) ≡ Some task = own_task h o task at in
      let begun : OwnTask = with_begun task w n in
      let x : Worker = record h.worker { objects = changed_at h.worker.objects k0 (with_task begun) } in
      let is : o ≡ object_id me k0 = own_id_is h o own q in
      let a : Attempt = attempt (object_id me k0) task.number in
      let last : IsLast dead (sent_so h) a t m = q.mine.stands k0 task t m here_at progress in
      let asked : Asked (sent_so h) a t n = subst (λ i. Asked (sent_so h) (attempt i task.number) t n) is (given.asked.0, so_more h _ given.asked.1) in
      let node : n ≡ m = elim (last t n asked) [ inl (_, same) ↦ same | inr (less, _) ↦ absurd (omega (arith, less)) ] in
      let gave : Among (envelope (TheNode n) (TheWorker a.object.owner) (Give a t w)) (sent_so h) =
      subst (λ i. Among (envelope (TheNode n) (TheWorker (attempt i task.number).object.owner) (Give (attempt i task.number) t w)) (sent_so h)) is
      (so_more h _ given.given) in
      let closed : IsClosed dead (sent_so h) a w = record {
        hops = t;
        node = n;
        given = gave;
        last = subst (λ j. IsLast dead (sent_so h) a t j) (sym node) last;
      } in
      subst (λ i. AsksOf h.me x (with_envelope c.network h.there.out.envelopes
      (envelope (TheWorker h.me) (TheWorker w) (Push (attempt i task.number) task.spec)))) (sym is)
      (pushed_asks h x k0 w n task begun task.spec (put_task h.worker k0 task begun here_at) (omega arith) refl (not_nil task.begun w)
      closed q)

  push_again : (h : WorkerContext) (k : ℕ) (task : OwnTask) (w n : ℕ) → task_of (own_object h k) ≡ Some task → task.progress ≡ RunsOn w n → Asks h →
      AsksOf h.me h.worker (with_envelope c.network h.there.out.envelopes
      (envelope (TheWorker h.me) (TheWorker w) (Push (attempt (own_id h k) task.number) task.spec)))
  push_again h k task w n at progress q =
      subst (λ u. AsksOf h.me h.worker (with_envelope c.network h.there.out.envelopes
      (envelope (TheWorker h.me) (TheWorker w) (Push (attempt (object_id u k) task.number) task.spec)))) (sym q.who)
      (pushed_asks h h.worker k w n task task task.spec (same_put h.worker k task at) (omega arith) progress (q.mine.begun k task w n at progress) closed q)
    where
      closed : IsClosed dead (sent_so h) (attempt (object_id me k) task.number) w
      closed = q.closed _ w (q.mine.runs k task w n at progress)

  ask_again : (h : WorkerContext) (k : ℕ) (task : OwnTask) (t n : ℕ) → task_of (own_object h k) ≡ Some task → task.progress ≡ AskedAt t n → Asks h →
      AsksOf h.me h.worker (with_envelope c.network h.there.out.envelopes (envelope (TheWorker h.me) (TheNode n) (Ask (attempt (own_id h k) task.number) t)))
  ask_again h k task t n at progress q =
      subst (λ u. AsksOf h.me h.worker (with_envelope c.network h.there.out.envelopes
      (envelope (TheWorker h.me) (TheNode n) (Ask (attempt (object_id u k) task.number) t)))) (sym q.who)
      (asked_asks h h.worker k task task t n (same_put h.worker k task at) (omega arith) progress (λ w e. q.mine.unpushed k task t n w at progress e)
      (q.mine.stands k task t n at progress) q)

  born : (h : WorkerContext) (a : Attempt) (spec : Birth) (others : ℕ) (ids : List Id) →
      IsBornOf h.worker (with_objects h (task_objects a (length h.worker.objects + 1) spec others ids)).worker spec
  born h a spec others ids k = new_tasks h.worker.objects a (length h.worker.objects + 1) spec others ids k

  pub asks_kept : IsKept ToldOf OverBy GivenOf PassedBy Asks
  asks_kept = record {
    writes = λ h es q. q;
    says_plain = λ h w m plain q. says_asks h (TheWorker w) m (plain_quiet m plain) q;
    says_plain_to_node = λ h n m plain q. says_asks h (TheNode n) m (plain_quiet m plain) q;
    objects = λ h x t q. same_asks h.me h.worker x (sent_so h) t.tasks q;
    store = λ h s q. q;
    begins = begin;
    bears_new = λ h a spec others ids q. record {
      who = q.who;
      mine = owns_born dead (sent_so h) me h.worker _ spec (born h a spec others ids) q.mine;
      others = q.others;
      closed = q.closed;
      owned = q.owned;
    };
    comes_to_rest = rest;
    pushes_again = push_again;
    asks_anew = λ h o before task at next q. ask_anew h o before task h.worker.node at next q;
    asks_on = λ h o task t m n at progress passed q. ask_on h o task t m n at progress passed q;
    asks_again = ask_again;
    run = λ h run next e k q. same_asks h.me h.worker _ (sent_so h) (λ i. refl) q;
    leaves = λ h run next e _ _ _ _ q. same_asks h.me h.worker _ (sent_so h) (λ i. refl) q;
    gets = λ h run content y f e w q. slot_asks (logs (with_run h (with_answer run content)) (Got run.attempt y content))
        (same_asks h.me h.worker _ (sent_so h) (λ i. refl) q);
    faults = λ h run fault y f e w q. frees_asks (logs (with_phase h run (HasFaulted fault)) (Faulted run.attempt y fault))
        (same_asks h.me h.worker _ (sent_so h) (λ i. refl) q);
    frees = λ h run y f e w q. frees_asks h q;
    tells_end = λ h run n rs _ _ q. says_asks h _ _ refl q;
    tells_fault = λ h run f _ _ q. says_asks h _ _ refl q;
    back = λ h run _ _ q. says_asks h _ _ refl q;
    hears = λ h w a _ q. says_asks h _ _ refl q;
    back_of = λ h n a _ _ q. says_asks h _ _ refl q;
  }
