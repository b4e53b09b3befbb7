-- The task that stands with an object goes over into another state: what the owner knows of the task's objects, and of all others.
use Rattle.std.proofs.Common.{◌≡◌, ℕ, ◌+◌, ◌<◌, Bool, true, false, List, Option, Some, None, inr, refl, sym, ap, ◌∙◌, subst, arith}
use Rattle.std.specs.Prelude.{◌==◌, ◌⊎◌}
use Rattle.std.proofs.lemmas.Bool.{eqb-true}
use Rattle.std.proofs.lemmas.Bool.Decides.{nat_tests}
use Rattle.meaning.specs.Values.{Id, results_of}
use Rattle.meaning.proofs.BirthLaws.{at_test}
use Rattle.step_laws.specs.of_protocol.Numbered.{item_at, changed_at}
use Rattle.step_laws.specs.of_protocol.Sets.{object_id}
use Rattle.step_laws.specs.of_protocol.Tables.{Beside, ByTask, ObjectSource, Object, OwnTask, WasPut, Worker, first_by, is_pending_task, is_wanted, task_in, task_of, with_task}
use Rattle.protocol_legal.specs.Past.{Past}
use Rattle.protocol_legal.specs.Grows.{Grows}
use Rattle.protocol_legal.specs.Names.{NamesOf}
use Rattle.protocol_legal.specs.Knows.{IsPartOf, IsResultOf, IsRow, IsWanted, KnowsSource, KnowsObject, KnowsResult, KnowsTask}
use Rattle.protocol_legal.proofs.Numbers.{item-same, item-elsewhere}
use Rattle.protocol_legal.proofs.Growing.{part_grows, word_grows}
use Rattle.protocol_legal.proofs.Names.{names_grow}
use Rattle.protocol_legal.proofs.Keeping.{IsQuiet, IsQuietTask, RowsStay, RunStays, object_quiet, same_word, stops_or_runs}

-- the object of a task that stands with another one isn't that one
differs : (j k : ℕ) (m : ObjectSource) → (first_by j m == k) ≡ false → (j == k) ≡ true → (task : OwnTask) → m ≡ ByTask task → ⊥
differs j k m d e task f = let g : (j == k) ≡ false = ap (λ n. n == k) (sym (ap (first_by j) f)) ∙ d in absurd (cc)

module _ (p q : Past) (g : Grows p q) (x : Worker) (w k : ℕ) (ob : Object) (task next : OwnTask) (there : item_at x.objects k ≡ Some ob) (source : ob.source ≡ ByTask task) (same_spec : next.spec ≡ task.spec)
    (knows : (j : ℕ) (z : Object) → item_at x.objects j ≡ Some z → KnowsObject p x (object_id w j) z)
    (others : (j : ℕ) → (j == k) ≡ false → IsQuietTask p q g (object_id w j)) (quiet : (o : Id) → IsQuiet p q g o) where
  abbrev ys : List Object
  ys = changed_at x.objects k (with_task next)

  abbrev y : Worker
  y = record x { objects = ys }

  abbrev apart : ℕ → Type 0
  apart n = (n == k) ≡ false

  abbrev first : Id
  first = object_id w k

  elsewhere : (j : ℕ) (z : Object) → item_at x.objects j ≡ Some z → (j == k) ≡ false → item_at ys j ≡ Some z
  elsewhere j z i d = item-elsewhere x.objects j k (with_task next) d ∙ i

  -- an object that stands with another task is another one
  not_first : (j : ℕ) (z : Object) → item_at x.objects j ≡ Some z → apart (first_by j z.source) → (j == k) ≡ false
  not_first j z i a =
      at_test (λ b. (j == k) ≡ b → b ≡ false) (j == k)
      (λ b e. let same = eqb-true j k e in
      let i' : item_at x.objects k ≡ Some z = ap (item_at x.objects) (sym same) ∙ i in
      let is : ob ≡ z = cc in
      absurd (differs j k z.source a e task (ap (λ (v : Object). v.source) (sym is) ∙ source)))
      (λ b e. refl) refl

  rows_apart : RowsStay apart x.objects ys
  rows_apart = record {
    rows = λ j z i a. (z, elsewhere j z i (not_first j z i a), refl, refl);
    wanted = λ n t i a e v. record {
      place = v.place;
      within = v.within;
      object = v.object;
      there = elsewhere (n + v.place) v.object v.there (not_first (n + v.place) v.object v.there (ap (λ m. m == k) v.first ∙ a));
      first = v.first;
      wanted = v.wanted;
    };
  }

  stays : RunStays p q g x y
  stays run e = inr (run, e, refl)

  task_now : task_of (item_at ys k) ≡ Some next
  task_now = ap task_of (item-same x.objects k (with_task next) ob there)

  -- its objects still follow one another
  pub rows_now : (b : Bool) → ((i : ℕ) → i < results_of task.spec → IsRow x.objects k (k + i) b) → (i : ℕ) → i < results_of next.spec → IsRow ys k (k + i) b
  rows_now b rows i l =
      let r = rows i (subst (λ spec. i < results_of spec) same_spec l) in
      at_test (λ c. ((k + i) == k) ≡ c → IsRow ys k (k + i) b) ((k + i) == k)
      (λ c _. let same = eqb-true (k + i) k c in
      let at : item_at x.objects k ≡ Some r.object = ap (item_at x.objects) (sym same) ∙ r.there in
      let is : ob ≡ r.object = cc in
      subst (λ j. IsRow ys k j b) (sym same) (record { object = with_task next ob; there = item-same x.objects k (with_task next) ob there; of = refl; is_released = ap (λ (v : Object). v.is_released) is ∙ r.is_released }))
      (λ c _. record { object = r.object; there = elsewhere (k + i) r.object r.there c; of = r.of; is_released = r.is_released }) refl

  -- and the same one is wanted
  pub wanted_now : IsWanted x.objects k task → IsWanted ys k next
  wanted_now v =
      let within : v.place < results_of next.spec = subst (λ spec. v.place < results_of spec) (sym same_spec) v.within in
      at_test (λ c. ((k + v.place) == k) ≡ c → IsWanted ys k next) ((k + v.place) == k)
      (λ c _. let same = eqb-true (k + v.place) k c in
      let at : item_at x.objects k ≡ Some v.object = ap (item_at x.objects) (sym same) ∙ v.there in
      let is : ob ≡ v.object = cc in
      record {
        place = v.place;
        within = within;
        object = with_task next ob;
        there = ap (item_at ys) same ∙ item-same x.objects k (with_task next) ob there;
        first = same;
        wanted = ap is_wanted is ∙ v.wanted;
      })
      (λ c _. record { place = v.place; within = within; object = v.object; there = elsewhere (k + v.place) v.object v.there c; first = v.first; wanted = v.wanted }) refl

  -- the same result, of the task as it is then
  moved : (j : ℕ) (z : Object) → ((place : ℕ) → IsPartOf p.log (object_id w j) first task.spec place → KnowsResult p.log (object_id w j) first place z (is_pending_task task) → KnowsResult q.log (object_id w j) first place z (is_pending_task next)) →
      IsResultOf p x.objects (object_id w j) z k task → IsResultOf q ys (object_id w j) z k next
  moved j z moves h = (
    h.0,
    subst (λ spec. h.0 < results_of spec) (sym same_spec) h.1,
    h.2,
    subst (λ spec. IsPartOf q.log (object_id w j) first spec h.0) (sym same_spec) (part_grows p q g (object_id w j) (record { born = record { object = first; birth = task.spec }; place = h.0 }) h.3),
    moves h.0 h.3 h.4,
  )

  -- what is known of an object of the task goes over
  abbrev pub Moves : Type 0
  Moves = (j place : ℕ) (z : Object) → item_at x.objects j ≡ Some z → IsPartOf p.log (object_id w j) first task.spec place → KnowsResult p.log (object_id w j) first place z (is_pending_task task) →
      KnowsResult q.log (object_id w j) first place z (is_pending_task next)

  module _ (now : KnowsTask q first ys next) (moves : Moves) where
    -- any object but the first
    other_source : (j : ℕ) (z : Object) → item_at x.objects j ≡ Some z → (j == k) ≡ false → (m : ObjectSource) → z.source ≡ m → first_by j m ≡ k → KnowsSource p x.node x.objects (object_id w j) z m → KnowsSource q x.node ys (object_id w j) z m
    other_source j z i d WasPut e f h = let c : (j == k) ≡ true = grind (arith, nat_tests, f) in absurd (cc)
    other_source j z i d (ByTask t) e f h = let c : (j == k) ≡ true = grind (arith, nat_tests, f) in absurd (cc)
    other_source j z i d (Beside n) e f h =
        let was : task_of (item_at x.objects n) ≡ Some task = ap (λ v. task_of (item_at x.objects v)) f ∙ ap task_of there ∙ ap task_in source in
        let found = h.1 in
        let same : h.0 ≡ task = cc in (
          next,
          ap (λ v. task_of (item_at ys v)) f ∙ task_now,
          subst (λ v. IsResultOf q ys (object_id w j) z v next) (sym f)
              (moved j z (λ place part r. moves j place z i part r) (subst (λ v. IsResultOf p x.objects (object_id w j) z v task) f (subst (λ t. IsResultOf p x.objects (object_id w j) z n t) same h.2))),
        )

    with_source : (j : ℕ) (z v : Object) → v.bearer ≡ z.bearer → v.fault ≡ z.fault → v.is_released ≡ z.is_released → KnowsObject p x (object_id w j) z → NamesOf q.log (object_id w j) v → KnowsSource q x.node ys (object_id w j) v v.source → KnowsObject q y (object_id w j) v
    with_source j z v eb ef er h na m = record {
      bearer = subst (λ b. Rattle.kind_laws.specs.of_event_log.Breaks.Among b (Rattle.kind_laws.specs.of_event_log.Words.bearers_of (object_id w j) q.log)) (sym eb) (word_grows p q g z.bearer (Rattle.kind_laws.specs.of_event_log.Words.bearer_in (object_id w j)) h.bearer);
      stopped = subst (λ b. Rattle.protocol_legal.specs.Knows.HasStopped q.log b ⊎ ((run : Rattle.step_laws.specs.of_protocol.Tables.Execution) × (x.run ≡ Some run) × (run.attempt ≡ b))) (sym eb) (stops_or_runs p q g x y z.bearer stays h.stopped);
      resolved = same_word p q g (Rattle.kind_laws.specs.of_event_log.Words.resolved_in (object_id w j)) (quiet (object_id w j)).resolves ∙ h.resolved ∙ ap Rattle.protocol_legal.specs.Knows.listed (sym ef);
      known = λ f e. g.faults f (h.known f (sym ef ∙ e));
      released = same_word p q g (Rattle.kind_laws.specs.of_event_log.Words.released_in (object_id w j)) (quiet (object_id w j)).releases ∙ h.released ∙ ap (λ b. Rattle.protocol_legal.specs.Knows.once b (object_id w j)) (sym er);
      source = m;
      names = na;
    }

    first_known : KnowsObject q y first (with_task next ob)
    first_known =
        let ko = knows k ob there in
        let km : KnowsTask p first x.objects task × IsResultOf p x.objects first ob k task = subst (KnowsSource p x.node x.objects first ob) source ko.source in
        let r = moved k ob (λ place part r. moves k place ob there part r) km.1 in
        with_source k ob (with_task next ob) refl refl refl ko (names_grow p q g first ob.ids ob.added ob.dead_holder ko.names) (now, (r.0, r.1, r.2, r.3, record { made = r.4.made; bare = r.4.bare; rests = λ e f. let t = r.4.rests e f in record { number = t.number; settled = t.settled; accepted = t.accepted; placed = λ u. here t.number (t.placed u) }; spent = r.4.spent }))
      where
        here : (number : ℕ) → Rattle.protocol_legal.specs.Knows.IsPlaced q.log (object_id w k) number ob ⊎ Rattle.protocol_legal.specs.Knows.IsSpent q.log (object_id w k) →
            Rattle.protocol_legal.specs.Knows.IsPlaced q.log (object_id w k) number (with_task next ob) ⊎ Rattle.protocol_legal.specs.Knows.IsSpent q.log (object_id w k)
        here number (Rattle.std.proofs.Common.inl a) = Rattle.std.proofs.Common.inl (record { last = a.last; worker = a.worker; runs = a.runs; node = a.node; home = a.home; there = a.there })
        here number (inr a) = inr a

    -- each object, as the task goes over
    pub each_known : (j : ℕ) (v : Object) → item_at ys j ≡ Some v → KnowsObject q y (object_id w j) v
    each_known j v i =
        at_test (λ b. (j == k) ≡ b → KnowsObject q y (object_id w j) v) (j == k)
        (λ b _. let same = eqb-true j k b in
        let i' : item_at ys k ≡ Some v = ap (item_at ys) (sym same) ∙ i in
        let at = item-same x.objects k (with_task next) ob there in
        let is : with_task next ob ≡ v = cc in
        subst (λ n. KnowsObject q y (object_id w n) v) (sym same) (subst (KnowsObject q y first) is first_known))
        (λ b _. let before : item_at x.objects j ≡ Some v = sym (item-elsewhere x.objects j k (with_task next) b) ∙ i in
        let ko = knows j v before in
        at_test (λ c. (first_by j v.source == k) ≡ c → KnowsObject q y (object_id w j) v) (first_by j v.source == k)
        (λ c _. with_source j v v refl refl refl ko (names_grow p q g (object_id w j) v.ids v.added v.dead_holder ko.names) (other_source j v before b v.source refl (eqb-true (first_by j v.source) k c) ko.source))
        (λ c _. object_quiet p q g apart x y j w v before rows_apart c (others (first_by j v.source) c) (quiet (object_id w j)) refl stays ko) refl) refl
