-- The end of an attempt is accepted: each object of its task has its content then.
use Rattle.protocol_legal.proofs.Allowing.{may_accept, own_not_main}
use Rattle.std.proofs.Common.{◌≡◌, ℕ, zero, suc, ◌+◌, ◌<◌, ◌≤◌, Bool, true, false, List, [], ◌∷◌, ◌++◌, length, Option, Some, None, inl, inr, refl, sym, ap, ◌∙◌, subst, arith}
use Rattle.std.specs.Prelude.{◌==◌, ◌&&◌, ◌⊎◌, ◌-◌, map, slice_get, is_none, if◌then◌else◌}
use Rattle.std.specs.List.{AllByRecursion, flat_map}
use Rattle.std.proofs.lemmas.Bool.Decides.{nat_tests}
use Rattle.std.proofs.lemmas.Bool.{and_parts, eqb-true}
use Rattle.meaning.specs.Runs.{ids_from}
use Rattle.meaning.specs.Births.{Bearing, Part, is_made_by, objects_with, part_at, part_of}
use Rattle.meaning.specs.Values.{Id, Outcome, Put, results_of}
use Rattle.meaning.proofs.BirthLaws.{at_test, made_from, made_owner}
use Rattle.kind_laws.specs.of_event_log.Entries.{Attempt, Fault, Entry, Accepted, RetriesUsed}
use Rattle.kind_laws.specs.of_event_log.Words.{attempt, births, same_attempt, next_serial, runs_of, worker_of, run_in, accepted_in, ends_of, resolved_in, resolves_of, released_in}
use Rattle.kind_laws.specs.of_event_log.Breaks.{Among}
use Rattle.kind_laws.specs.of_event_log.Rules.{AreUnspent, IsUnresolved, MayAccept}
use Rattle.kind_laws.proofs.of_event_log.WordLaws.{same_attempt-true}
use Rattle.step_laws.specs.of_protocol.Numbered.{item_at, changed_at}
use Rattle.step_laws.specs.of_protocol.Sets.{fault, has, object_id}
use Rattle.step_laws.specs.of_protocol.Tables.{Beside, Progress, AtRest, AskedAt, RunsOn, OwnTask, ObjectSource, ByTask, WasPut, Object, Worker, first_by, is_pending_task, is_under_way, is_wanted, task_in, task_of, with_task, with_content, locations_for}
use Rattle.step_laws.specs.of_protocol.Messages.{EndedResult}
use Rattle.step_laws.specs.of_protocol.Steps.{WorkerContext, logs, with_task_of}
use Rattle.step_laws.specs.of_protocol.Asking.{rests}
use Rattle.step_laws.specs.of_protocol.Ends.{accepts}
use Rattle.protocol_legal.specs.Past.{Asking, Past}
use Rattle.values.specs.Cells.{if_small}
use Rattle.values.specs.Listed.{adding}
use Rattle.kind_laws.specs.of_event_log.Holding.{HasId}
use Rattle.protocol_legal.specs.Made.{AreSmallEnds, HaveTheirIds, IsWhollyEndedAt}
use Rattle.protocol_legal.specs.Names.{NamesOf}
use Rattle.protocol_legal.specs.Grows.{Grows}
use Rattle.protocol_legal.specs.Knows.{listed, IsPartOf, IsResultOf, IsRow, IsWanted, KnowsProgress, KnowsSource, KnowsObject, KnowsResult, KnowsTask, kept_until}
use Rattle.protocol_legal.specs.During.{Frame, SoundHere}
use Rattle.protocol_legal.proofs.Breaking.{among_none}
use Rattle.protocol_legal.proofs.Numbers.{item-same, item-elsewhere}
use Rattle.protocol_legal.proofs.Growing.{part_grows, word_grows}
use Rattle.protocol_legal.proofs.Keeping.{SpeakOfObjects, same_word}
use Rattle.protocol_legal.proofs.Logging.{sound_sane}
use Rattle.protocol_legal.proofs.Tasks.{accepted_placed, accepted_result, lower, rested_task}
use Rattle.protocol_legal.proofs.Steps.{later, goes, here_logs_rows, now}
use Rattle.protocol_legal.proofs.Asking.{OwnTaskAt, known_task, kept_stop}
use Rattle.protocol_legal.proofs.EndRows.{IsToldOf, all_known, told_each, told_of, settled-length, settled_in, settled_out, settled_rows, settles_rows}
use Rattle.protocol_legal.proofs.Firsts.{first_part}
use Rattle.protocol_legal.proofs.Names.{all_adding, all_each, has_beside, names_grow}
use Rattle.protocol_legal.proofs.Placing.{lone}
use Rattle.step_laws.proofs.Lists.{changed-length}

past_end : (ws : List ℕ) (i : ℕ) → i ≡ length ws → slice_get ws i ≡ None
past_end [] i e = refl
past_end (v ∷ ws) zero e = absurd (cc)
past_end (v ∷ ws) (suc i) e = past_end ws i (omega (arith, e))

accepted_speaks : (a : Attempt) → SpeakOfObjects (Accepted a ∷ [])
accepted_speaks a = record { no_event = refl; births = refl; own = λ b. refl; prints = λ b. refl; answers = λ b. refl; ended = λ b. refl; faulted = λ b. refl }

-- the ids that follow one another from an id on
pub among_ids : (w serial n i : ℕ) → i < n → Among (object_id w (serial + i)) (ids_from (object_id w serial) n)
among_ids w serial zero i l = absurd (omega (arith, l))
among_ids w serial (suc n) zero l = let e : ◌≡◌ {A = ℕ} serial (serial + 0) = omega arith in (0, ap (λ j. Some (object_id w j)) e)
among_ids w serial (suc n) (suc i) l =
    let r = among_ids w (serial + 1) n i (omega (arith, l)) in
    let e : ◌≡◌ {A = ℕ} (serial + 1 + i) (serial + suc i) = omega arith in
    (suc r.0, r.1 ∙ ap (λ j. Some (object_id w j)) e)

-- an object is made by the birth of which it is a part
pub part_is_made : (xs : List Bearing) (o : Id) (p : Part) → part_at xs o ≡ Some p → is_made_by p.born o ≡ true
part_is_made [] o p e = absurd (cc)
part_is_made (x ∷ xs) o p e =
    at_test (λ t. is_made_by x o ≡ t → (if t then Some (part_of x o) else part_at xs o) ≡ Some p → is_made_by p.born o ≡ true) (is_made_by x o)
    (λ t m f. let same : part_of x o ≡ p = cc in subst (λ (q : Part). is_made_by q.born o ≡ true) same m) (λ t m f. part_is_made xs o p f) refl e

pub wanted_is_healthy : (z : Object) → is_wanted z ≡ true → z.fault ≡ None
wanted_is_healthy z e = go z.fault (and_parts (is_none z.fault) _ e).0
  where
    go : (r : Option Fault) → is_none r ≡ true → r ≡ None
    go None f = refl
    go (Some v) f = absurd (cc)

module _ (f : Frame) (asked : List Asking) (h : WorkerContext) (s : SoundHere f asked h) (k : ℕ) (task : OwnTask) (t : OwnTaskAt h k task) (pending : is_pending_task task ≡ true) where
  abbrev o : Id
  o = object_id h.me k

  abbrev p : Past
  p = now f asked h s

  abbrev run : Attempt
  run = attempt o task.number

  abbrev kt : KnowsTask p o h.worker.objects task
  kt = known_task f asked h s k task t

  -- a pending task whose present attempt has stopped runs
  pub record Runs : Type 0 where
    pub worker : ℕ
    pub node : ℕ
    pub progress : task.progress ≡ RunsOn worker node

  pub runs_if_begun : (w : ℕ) → worker_of run p.log ≡ Some w → Runs
  runs_if_begun w begun = by_progress task.progress refl
    where
      by_progress : (r : Progress) → task.progress ≡ r → Runs
      by_progress (RunsOn v n) e = record { worker = v; node = n; progress = e }
      by_progress AtRest e = let c : is_pending_task task ≡ false = ap is_under_way e in absurd (cc)
      by_progress (AskedAt u n) e =
          let kp : KnowsProgress p o task (AskedAt u n) = subst (KnowsProgress p o task) e kt.progress in
          let none : worker_of run p.log ≡ None = ap (λ ws. slice_get ws task.number) kt.begun ∙ past_end task.begun task.number (sym kp.0) in absurd (cc)

  -- one of its objects isn't resolved
  pub unresolved : IsUnresolved p.log o
  unresolved =
      let v = kt.wanted pending in
      let ko = s.knows.objects (k + v.place) v.object v.there in (
        object_id h.me (k + v.place),
        subst (Among (object_id h.me (k + v.place))) (sym (ap (objects_with o) kt.spec)) (among_ids h.me k (results_of task.spec) v.place v.within),
        ko.resolved ∙ ap listed (wanted_is_healthy v.object v.wanted),
      )

  pub task_there : task_of (item_at h.worker.objects k) ≡ Some task
  task_there = ap task_of t.there ∙ ap task_in t.source

  -- none of them is resolved because its retries are used up
  spent_row : (z : Id) (part : Part) → z ≡ object_id h.me z.serial → part_at (births p.log) z ≡ Some part → part.born.object ≡ o → (v : Object) → v.fault ≡ Some (fault RetriesUsed z) → item_at h.worker.objects z.serial ≡ Some v → (m : ObjectSource) →
      KnowsSource p h.worker.node h.worker.objects z v m → v.source ≡ m → ⊥
  spent_row z part own born first v e i WasPut km is =
      let same : part ≡ record { born = record { object = z; birth = Put km.value }; place = 0 } = let b = km.part in cc in
      let at : z.serial ≡ k = ap (λ (q : Id). q.serial) (sym (ap (λ (q : Part). q.born.object) same) ∙ first) in
      let there : item_at h.worker.objects k ≡ Some v = ap (item_at h.worker.objects) (sym at) ∙ i in
      let none : task_of (item_at h.worker.objects k) ≡ None = ap task_of there ∙ ap task_in is in
      let some = task_there in absurd (cc)
  spent_row z part own born first v e i (ByTask u) km is =
      let same : part ≡ record { born = record { object = object_id z.owner z.serial; birth = u.spec }; place = km.1.0 } = let b = km.1.3 in cc in
      let at : z.serial ≡ k = ap (λ (q : Id). q.serial) (sym (ap (λ (q : Part). q.born.object) same) ∙ first) in
      let there : item_at h.worker.objects k ≡ Some v = ap (item_at h.worker.objects) (sym at) ∙ i in
      let found : task_of (item_at h.worker.objects k) ≡ Some u = ap task_of there ∙ ap task_in is in
      let some = task_there in
      let equal : u ≡ task = cc in
      let rest : is_pending_task u ≡ false = km.1.4.spent e in
      let c : is_pending_task task ≡ false = ap is_pending_task (sym equal) ∙ rest in absurd (cc)
  spent_row z part own born first v e i (Beside n) km is =
      let same : part ≡ record { born = record { object = object_id z.owner n; birth = km.0.spec }; place = km.2.0 } = let b = km.2.3 in cc in
      let at : n ≡ k = ap (λ (q : Id). q.serial) (sym (ap (λ (q : Part). q.born.object) same) ∙ first) in
      let found : task_of (item_at h.worker.objects k) ≡ Some km.0 = ap (λ j. task_of (item_at h.worker.objects j)) (sym at) ∙ km.1 in
      let some = task_there in
      let equal : km.0 ≡ task = cc in
      let rest : is_pending_task km.0 ≡ false = km.2.4.spent e in
      let c : is_pending_task task ≡ false = ap is_pending_task (sym equal) ∙ rest in absurd (cc)

  item_exists : (xs : List Object) (n : ℕ) → 1 ≤ n → n < length xs + 1 → (v : Object) × (item_at xs n ≡ Some v)
  item_exists xs zero a b = absurd (omega (arith, a))
  item_exists xs (suc i) a b = by_get xs i (omega (arith, b))
    where
      by_get : (ys : List Object) (j : ℕ) → j < length ys → (v : Object) × (slice_get ys j ≡ Some v)
      by_get [] j l = absurd (omega (arith, l))
      by_get (y ∷ ys) zero l = (y, refl)
      by_get (y ∷ ys) (suc j) l = by_get ys j (omega (arith, l))

  first_serial : 1 ≤ k
  first_serial = go k t.there
    where
      go : (n : ℕ) → item_at h.worker.objects n ≡ Some t.object → 1 ≤ n
      go zero e = absurd (cc)
      go (suc n) e = omega arith

  resolved_so : (z : Id) (r : Option Fault) → resolves_of z p.log ≡ listed r → Among (fault RetriesUsed z) (resolves_of z p.log) → r ≡ Some (fault RetriesUsed z)
  resolved_so z None e a = absurd (among_none (fault RetriesUsed z) (subst (Among (fault RetriesUsed z)) e a))
  resolved_so z (Some g) e a = let b : g ≡ fault RetriesUsed z = Rattle.protocol_legal.proofs.Breaking.among_one (fault RetriesUsed z) g (subst (Among (fault RetriesUsed z)) e a) in ap Some b

  id_is : (z : Id) (w : ℕ) → w ≡ z.owner → z ≡ object_id w z.serial
  id_is z w e = ap (λ v. object_id v z.serial) (sym e)

  pub unspent : AreUnspent p.log o
  unspent z part born first a =
      let made = part_is_made (births p.log) z part born in
      let owner : h.me ≡ z.owner = ap (λ (q : Id). q.owner) (sym first) ∙ made_owner part.born z made in
      let own = id_is z h.me owner in
      let from = made_from part.born z made in
      let start : part.born.object.serial ≡ k = ap (λ (q : Id). q.serial) first in
      let low = first_serial in
      let below = (sound_sane f asked h.there s.there).serials z (part, born) in
      let end : next_serial z.owner (births p.log) ≡ length h.worker.objects + 1 = ap (λ w. next_serial w (births p.log)) (sym owner) ∙ s.knows.serial in
      let v = item_exists h.worker.objects z.serial (omega (arith, from, start, low)) (omega (arith, below, end)) in
      let ko : KnowsObject p h.worker z v.0 = subst (λ y. KnowsObject p h.worker y v.0) (sym own) (s.knows.objects z.serial v.0 v.1) in
      spent_row z part own born first v.0 (resolved_so z v.0.fault ko.resolved a) v.1 v.0.source ko.source refl

  -- ---- its objects, and the table as the task comes to rest

  abbrev pub results : ℕ
  results = results_of task.spec

  -- the objects with the task at rest
  abbrev pub rested : List Object
  rested = changed_at h.worker.objects k (with_task (rests task))

  pub outside : (j : ℕ) → ((i : ℕ) → i < results → (j == (k + i)) ≡ false) → (j < k) ⊎ (k + results ≤ j)
  outside j apart = go results apart
    where
      go : (n : ℕ) → ((i : ℕ) → i < n → (j == (k + i)) ≡ false) → (j < k) ⊎ (k + n ≤ j)
      go zero a = by_less (Rattle.std.specs.Prelude.nat_lt j k) refl
        where
          by_less : (b : Bool) → Rattle.std.specs.Prelude.nat_lt j k ≡ b → (j < k) ⊎ (k + 0 ≤ j)
          by_less true e = inl (grind (arith, nat_tests, e))
          by_less false e = inr (grind (arith, nat_tests, e))
      go (suc n) a = elim (go n (λ i l. a i (omega (arith, l)))) [
        | inl l ↦ inl l
        | inr l ↦ let last : n < suc n = omega arith in let d = a n last in inr (grind (arith, nat_tests, l, d))
      ]

  -- an object of another task stands elsewhere
  pub not_here : (j : ℕ) (z : Object) → item_at h.worker.objects j ≡ Some z → (first_by j z.source == k) ≡ false → (i : ℕ) → i < results → (j == (k + i)) ≡ false
  not_here j z at d i l =
      at_test (λ b. (j == (k + i)) ≡ b → b ≡ false) (j == (k + i))
      (λ b e. let same = eqb-true j (k + i) e in
      let row = kt.rows i l in
      let there : item_at h.worker.objects (k + i) ≡ Some z = ap (item_at h.worker.objects) (sym same) ∙ at in
      let found = row.there in
      let is : row.object ≡ z = cc in
      let first : first_by j z.source ≡ k = ap (λ n. first_by n z.source) same ∙ ap (λ (v : Object). first_by (k + i) v.source) (sym is) ∙ row.of in
      let c : (first_by j z.source == k) ≡ true = grind (arith, nat_tests, first) in
      absurd (cc)) (λ b e. refl) refl

  pub not_first : (j : ℕ) → (j < k) ⊎ (k + results ≤ j) → (j == k) ≡ false
  not_first j (inl l) = grind (arith, nat_tests, l)
  not_first j (inr l) = let b : k < j = omega (arith, l) in grind (arith, nat_tests, b)

  -- an object of the task stands in one of its places
  pub record IsPlaceOf (j : ℕ) : Type 0 where
    pub place : ℕ
    pub within : place < results
    pub serial : j ≡ k + place

  pub place_of : (j : ℕ) (z : Object) → item_at h.worker.objects j ≡ Some z → first_by j z.source ≡ k → IsPlaceOf j
  place_of j z at first = by_source z.source refl (s.knows.objects j z at).source first
    where
      by_source : (n : ObjectSource) → z.source ≡ n → KnowsSource p h.worker.node h.worker.objects (object_id h.me j) z n → first_by j n ≡ k → IsPlaceOf j
      by_source WasPut e km g = let e' : ◌≡◌ {A = ℕ} k (k + 0) = omega arith in record { place = 0; within = omega arith; serial = g ∙ e' }
      by_source (ByTask u) e km g = let e' : ◌≡◌ {A = ℕ} k (k + 0) = omega arith in record { place = 0; within = omega arith; serial = g ∙ e' }
      by_source (Beside n) e km g =
          let found : task_of (item_at h.worker.objects k) ≡ Some km.0 = ap (λ i. task_of (item_at h.worker.objects i)) (sym g) ∙ km.1 in
          let some = task_there in
          let is : km.0 ≡ task = cc in
          record { place = km.2.0; within = subst (λ (u : OwnTask). km.2.0 < results_of u.spec) is km.2.1; serial = km.2.2 ∙ ap (λ i. i + km.2.0) g }

  -- the row of one of the task's objects, at rest
  pub record RestedRow (i : ℕ) : Type 0 where
    pub old : Object
    pub before : item_at h.worker.objects (k + i) ≡ Some old
    pub of : first_by (k + i) old.source ≡ k
    pub new : Object
    pub there : item_at rested (k + i) ≡ Some new
    pub bearer : new.bearer ≡ old.bearer
    pub fault : new.fault ≡ old.fault
    pub locations : new.locations ≡ old.locations
    pub settled : new.settled ≡ old.settled
    pub kept : new.kept ≡ old.kept
    pub names : (log : List Entry) → NamesOf log (object_id h.me (k + i)) old → NamesOf log (object_id h.me (k + i)) new
    pub is_released : new.is_released ≡ old.is_released
    pub first : first_by (k + i) new.source ≡ k
    pub released : old.is_released ≡ kt.released
    pub at_first : ((k + i) == k) ≡ true → new.source ≡ ByTask (rests task)
    pub else_ : ((k + i) == k) ≡ false → new.source ≡ old.source

  pub rested_row : (i : ℕ) → i < results → RestedRow i
  rested_row i l =
      let row = kt.rows i l in
      at_test (λ b. ((k + i) == k) ≡ b → RestedRow i) ((k + i) == k)
      (λ b _. let e = eqb-true (k + i) k b in
      let at : item_at h.worker.objects k ≡ Some row.object = ap (item_at h.worker.objects) (sym e) ∙ row.there in
      record {
        old = row.object;
        before = row.there;
        of = row.of;
        new = with_task (rests task) row.object;
        there = ap (item_at rested) e ∙ item-same h.worker.objects k (with_task (rests task)) row.object at;
        bearer = refl;
        fault = refl;
        locations = refl;
        settled = refl;
        kept = refl;
        names = λ log n. n;
        is_released = refl;
        first = e;
        released = row.is_released;
        at_first = λ _. refl;
        else_ = λ d. absurd (cc);
      })
      (λ b _. record {
        old = row.object;
        before = row.there;
        of = row.of;
        new = row.object;
        there = item-elsewhere h.worker.objects (k + i) k (with_task (rests task)) b ∙ row.there;
        bearer = refl;
        fault = refl;
        locations = refl;
        settled = refl;
        kept = refl;
        names = λ log n. n;
        is_released = refl;
        first = row.of;
        released = row.is_released;
        at_first = λ d. absurd (cc);
        else_ = λ _. refl;
      }) refl

  -- the result that the object was before
  pub was_result : (j : ℕ) (z : Object) → item_at h.worker.objects j ≡ Some z → first_by j z.source ≡ k → (n : ObjectSource) → z.source ≡ n → KnowsSource p h.worker.node h.worker.objects (object_id h.me j) z n → IsResultOf p h.worker.objects (object_id h.me j) z k task
  was_result j z at first WasPut e km =
      let j_is : j ≡ k = sym (ap (first_by j) e) ∙ first in
      let found : task_of (item_at h.worker.objects k) ≡ None = ap (λ i. task_of (item_at h.worker.objects i)) (sym j_is) ∙ ap task_of at ∙ ap task_in e in
      let some = task_there in absurd (cc)
  was_result j z at first (ByTask u) e km =
      let j_is : j ≡ k = sym (ap (first_by j) e) ∙ first in
      let found : task_of (item_at h.worker.objects k) ≡ Some u = ap (λ i. task_of (item_at h.worker.objects i)) (sym j_is) ∙ ap task_of at ∙ ap task_in e in
      let some = task_there in
      let is : u ≡ task = cc in
      subst (λ i. IsResultOf p h.worker.objects (object_id h.me j) z i task) j_is (subst (λ v. IsResultOf p h.worker.objects (object_id h.me j) z j v) is km.1)
  was_result j z at first (Beside n) e km =
      let n_is : n ≡ k = sym (ap (first_by j) e) ∙ first in
      let found : task_of (item_at h.worker.objects k) ≡ Some km.0 = ap (λ i. task_of (item_at h.worker.objects i)) (sym n_is) ∙ km.1 in
      let some = task_there in
      let is : km.0 ≡ task = cc in
      subst (λ i. IsResultOf p h.worker.objects (object_id h.me j) z i task) n_is (subst (λ v. IsResultOf p h.worker.objects (object_id h.me j) z n v) is km.2)

  -- ---- its end is accepted

  module _ (m : ℕ) (rs : List EndedResult) (ended : IsWhollyEndedAt p.log run m) (small : AreSmallEnds p.log run rs) (names : HaveTheirIds p.log run rs) where
    r : Runs
    r = runs_if_begun ended.worker ended.runs

    kp : KnowsProgress p o task (RunsOn r.worker r.node)
    kp = subst (KnowsProgress p o task) r.progress kt.progress

    pub allowed : MayAccept f.setting p.log run
    allowed = may_accept f.setting p o h.worker.objects task r.worker r.node ended.contents (own_not_main h k t.object t.there) s.own kt r.progress unresolved unspent ended.ended

    abbrev entry : Entry
    entry = Accepted run

    abbrev q : Past
    q = later f asked h s entry allowed refl

    abbrev way : Grows p q
    way = goes f asked h s entry allowed refl

    get_within : (cs : List Outcome) (i : ℕ) → i < length cs → (c : Outcome) × (slice_get cs i ≡ Some c)
    get_within [] i l = absurd (omega (arith, l))
    get_within (c ∷ cs) zero l = (c, refl)
    get_within (c ∷ cs) (suc i) l = get_within cs i (omega (arith, l))

    -- as many contents as results
    all_contents : length ended.contents ≡ results
    all_contents =
        let born = ended.born in
        let spec = kt.spec in
        let same_birth : ended.birth ≡ task.spec = cc in
        ended.all ∙ ap results_of same_birth

    pub contents_of : (i : ℕ) → i < results → (c : Outcome) × (slice_get ended.contents i ≡ Some c)
    contents_of i l = let all = all_contents in get_within ended.contents i (omega (arith, l, all))

    -- what is told of each
    both_ends : ◌≡◌ {A = List Outcome} small.0 ended.contents
    both_ends = lone (ends_of run p.log) (let l = (sound_sane f asked h.there s.there).one_end run in omega (arith, l)) small.0 ended.contents small.1 ended.ended

    small_now : map (λ (r : EndedResult). r.kept) rs ≡ map if_small ended.contents
    small_now = small.2 ∙ ap (map if_small) both_ends

    pub told : (i : ℕ) (l : i < results) → IsToldOf rs i (contents_of i l).0
    told i l = told_of rs ended.contents i (contents_of i l).0 small_now (contents_of i l).1

    -- the objects with their contents
    abbrev ys : List Object
    ys = settled_rows rested k task.number m results rs

    same : (j : ℕ) (z : Object) → item_at h.worker.objects j ≡ Some z → (first_by j z.source == k) ≡ false → item_at ys j ≡ Some z
    same j z at d =
        let out = outside j (not_here j z at d) in
        settled_out rested k task.number m results rs j out ∙ item-elsewhere h.worker.objects j k (with_task (rests task)) (not_first j out) ∙ at

    get_back : (xs zs : List Object) (i : ℕ) (v : Object) → length xs ≡ length zs → slice_get xs i ≡ Some v → (z : Object) × (slice_get zs i ≡ Some z)
    get_back [] zs i v e a = absurd (cc)
    get_back (x ∷ xs) [] i v e a = absurd (cc)
    get_back (x ∷ xs) (z ∷ zs) zero v e a = (z, refl)
    get_back (x ∷ xs) (z ∷ zs) (suc i) v e a = get_back xs zs i v (omega (arith, e)) a

    back : (j : ℕ) (v : Object) → item_at ys j ≡ Some v → (z : Object) × (item_at h.worker.objects j ≡ Some z)
    back zero v at = absurd (cc)
    back (suc i) v at = get_back ys h.worker.objects i v (settled-length rested k task.number m results rs ∙ changed-length h.worker.objects k (with_task (rests task))) at

    rows_settled : (i : ℕ) → i < results → IsRow ys k (k + i) kt.released
    rows_settled i l =
        let row = rested_row i l in
        let t = told i l in
        record { object = with_content task.number m t.result.ids t.result.kept row.new; there = settled_in rested k task.number m results rs i t.result row.new l t.there row.there; of = row.first; is_released = row.is_released ∙ row.released }

    task_now : KnowsTask q o ys (rests task)
    task_now = rested_task p q way o h.worker.objects task r.worker r.node kt kp.0 (λ a j w. w) ys rows_settled refl (λ i l. lower o task i l)

    -- the first row is that of the task at rest
    first_row : task_of (item_at ys k) ≡ Some (rests task)
    first_row =
        let l : 0 < results = omega arith in
        let e : ◌≡◌ {A = ℕ} (k + 0) k = omega arith in
        let at : item_at rested (k + 0) ≡ Some (with_task (rests task) t.object) = ap (item_at rested) e ∙ item-same h.worker.objects k (with_task (rests task)) t.object t.there in
        ap (λ j. task_of (item_at ys j)) (sym e) ∙ ap task_of (settled_in rested k task.number m results rs 0 (told 0 l).result (with_task (rests task) t.object) l (told 0 l).there at)

    is_place : (n : ℕ) (its : Option Outcome) → its ≡ None → has (locations_for n its) n ≡ true
    is_place n its none = let u : (n == n) ≡ true = grind (arith, nat_tests) in ap (λ v. has (locations_for n v) n) none ∙ ap (λ c. Rattle.std.specs.Prelude.◌||◌ c false) u

    -- what is known of the result then
    result_now : (j place : ℕ) (z : Object) (its : List Id) (l : place < results) → z.is_released ≡ false → KnowsResult q.log (object_id h.me j) o place (with_content task.number m its (told place l).result.kept z) false
    result_now j place z its l unreleased =
        let c = contents_of place l in
        let kept = (told place l).result.kept in
        let accepted = accepted_result p q way o task.number refl place m c.0 ended c.1 kept z.is_released ((told place l).small ∙ ap (λ b. kept_until b c.0) (sym unreleased)) in
        record {
          made = λ number e. let is : task.number ≡ number = cc in subst (λ n. Rattle.protocol_legal.specs.Knows.WasAccepted q.log o n place kept z.is_released) is accepted;
          bare = λ e. absurd (cc);
          rests = λ _ _. record {
            number = task.number;
            settled = refl;
            accepted = accepted;
            placed = λ _. inl (accepted_placed p q way o task.number refl m (with_content task.number m its kept z) ended (ap length kt.begun ∙ kp.0.count) (λ none. is_place m kept none));
          };
          spent = λ e. refl;
        }

    result_of : (j : ℕ) (z : Object) (its : List Id) (km : IsResultOf p h.worker.objects (object_id h.me j) z k task) → (new v : Object) → v ≡ with_content task.number m its (told km.0 km.1).result.kept new → new.is_released ≡ false → IsResultOf q ys (object_id h.me j) v k (rests task)
    result_of j z its km new v e unreleased = (
      km.0,
      km.1,
      km.2,
      part_grows p q way (object_id h.me j) (record { born = record { object = o; birth = task.spec }; place = km.0 }) km.3,
      subst (λ u. KnowsResult q.log (object_id h.me j) o km.0 u false) (sym e) (result_now j km.0 new its km.1 unreleased),
    )

    -- the object has the ids in its content
    names_now : (j : ℕ) (r : EndedResult) (place : ℕ) (new : Object) → IsPartOf p.log (object_id h.me j) o task.spec place → AllByRecursion (λ z. HasId p.log o z) r.ids → NamesOf p.log (object_id h.me j) new →
        NamesOf q.log (object_id h.me j) (with_content task.number m r.ids r.kept new)
    names_now j r place new part has_ids n =
        let its = object_id h.me j in
        let first = first_part (births p.log) o task.spec (sound_sane f asked h.there s.there).grouped kt.spec in
        names_grow p q way its (adding new.ids r.ids) new.added new.dead_holder (record {
          ids = all_adding (λ z. HasId p.log its z) r.ids new.ids n.ids
              (all_each (λ z. HasId p.log o z) (λ z. HasId p.log its z) r.ids (λ z i. has_beside p.log o its task.spec (o.serial - o.serial) place first part z i) has_ids);
          holders = n.holders;
          dead = n.dead;
        })

    abbrev y : Worker
    y = record h.worker { objects = ys }

    -- how the object is made then
    source_now : (j : ℕ) (z v : Object) → (j == k) ≡ false → (n : ObjectSource) → z.source ≡ n → first_by j n ≡ k → v.source ≡ n → IsResultOf q ys (object_id h.me j) v k (rests task) → KnowsSource q h.worker.node ys (object_id h.me j) v n
    source_now j z v d WasPut e first ev res = let c : (j == k) ≡ true = grind (arith, nat_tests, first) in absurd (cc)
    source_now j z v d (ByTask u) e first ev res = let c : (j == k) ≡ true = grind (arith, nat_tests, first) in absurd (cc)
    source_now j z v d (Beside n) e first ev res = (rests task, ap (λ i. task_of (item_at ys i)) first ∙ first_row, subst (λ i. IsResultOf q ys (object_id h.me j) v i (rests task)) (sym first) res)

    group : (j : ℕ) (z v : Object) → item_at h.worker.objects j ≡ Some z → first_by j z.source ≡ k → item_at ys j ≡ Some v → KnowsObject q y (object_id h.me j) v
    group j z v at first atv =
        let pl = place_of j z at first in
        let row = rested_row pl.place pl.within in
        let at' : item_at h.worker.objects (k + pl.place) ≡ Some z = ap (item_at h.worker.objects) (sym pl.serial) ∙ at in
        let before = row.before in
        let old_is : row.old ≡ z = cc in
        let atv' : item_at ys (k + pl.place) ≡ Some v = ap (item_at ys) (sym pl.serial) ∙ atv in
        let t = told pl.place pl.within in
        let new_row = settled_in rested k task.number m results rs pl.place t.result row.new pl.within t.there row.there in
        let v_is : v ≡ with_content task.number m t.result.ids t.result.kept row.new = cc in
        let ko = s.knows.objects j z at in
        let bearer : v.bearer ≡ z.bearer = ap (λ (u : Object). u.bearer) v_is ∙ row.bearer ∙ ap (λ (u : Object). u.bearer) old_is in
        let faults : v.fault ≡ z.fault = ap (λ (u : Object). u.fault) v_is ∙ row.fault ∙ ap (λ (u : Object). u.fault) old_is in
        let release : v.is_released ≡ z.is_released = ap (λ (u : Object). u.is_released) v_is ∙ row.is_released ∙ ap (λ (u : Object). u.is_released) old_is in
        let source : v.source ≡ row.new.source = ap (λ (u : Object). u.source) v_is in
        let km = was_result j z at first z.source refl ko.source in
        let place_is : pl.place ≡ km.0 = let a = pl.serial in let b = km.2 in omega (arith, a, b) in
        let its_there = (told km.0 km.1).there in
        let t_there = t.there in
        let same_told : t.result ≡ (told km.0 km.1).result = let e : slice_get rs pl.place ≡ slice_get rs km.0 = ap (slice_get rs) place_is in cc in
        let res = result_of j z t.result.ids km row.new v (v_is ∙ ap (λ (r : EndedResult). with_content task.number m t.result.ids r.kept row.new) same_told) (row.is_released ∙ row.released ∙ kt.kept pending) in
        record {
          bearer = subst (λ b. Among b (Rattle.kind_laws.specs.of_event_log.Words.bearers_of (object_id h.me j) q.log)) (sym bearer) (word_grows p q way z.bearer (Rattle.kind_laws.specs.of_event_log.Words.bearer_in (object_id h.me j)) ko.bearer);
          stopped = subst (λ b. Rattle.protocol_legal.specs.Knows.HasStopped q.log b ⊎ ((u : Rattle.step_laws.specs.of_protocol.Tables.Execution) × (h.worker.run ≡ Some u) × (u.attempt ≡ b))) (sym bearer) (kept_stop p q way h.worker ys z.bearer ko.stopped);
          resolved = same_word p q way (resolved_in (object_id h.me j)) refl ∙ ko.resolved ∙ ap listed (sym faults);
          known = λ g e. way.faults g (ko.known g (sym faults ∙ e));
          released = same_word p q way (released_in (object_id h.me j)) refl ∙ ko.released ∙ ap (λ b. Rattle.protocol_legal.specs.Knows.once b (object_id h.me j)) (sym release);
          source =
              at_test (λ b. (j == k) ≡ b → KnowsSource q h.worker.node ys (object_id h.me j) v v.source) (j == k)
              (λ b _. let j_is = eqb-true j k b in
              let at_k : ((k + pl.place) == k) ≡ true = ap (λ n. n == k) (sym pl.serial) ∙ b in
              subst (KnowsSource q h.worker.node ys (object_id h.me j) v) (sym (source ∙ row.at_first at_k))
              (subst (λ n. KnowsTask q (object_id h.me n) ys (rests task)) (sym j_is) task_now, subst (λ n. IsResultOf q ys (object_id h.me j) v n (rests task)) (sym j_is) res))
              (λ b _. let at_k : ((k + pl.place) == k) ≡ false = ap (λ n. n == k) (sym pl.serial) ∙ b in
              let same_source : v.source ≡ z.source = source ∙ row.else_ at_k ∙ ap (λ (u : Object). u.source) old_is in
              subst (KnowsSource q h.worker.node ys (object_id h.me j) v) (sym same_source) (source_now j z v b z.source refl first same_source res)) refl;
          names = subst (NamesOf q.log (object_id h.me j)) (sym v_is) (names_now j t.result km.0 row.new km.3 (told_each (λ (r : EndedResult). AllByRecursion (λ i. HasId p.log o i) r.ids) rs pl.place t.result t.there names) (subst (λ i. NamesOf p.log (object_id h.me i) row.new) (sym pl.serial) (row.names p.log (subst (λ i. NamesOf p.log (object_id h.me i) row.old) pl.serial (subst (NamesOf p.log (object_id h.me j)) (sym old_is) ko.names)))));
        }

    other_attempts : (j i : ℕ) → (j == k) ≡ false → flat_map (accepted_in (attempt (object_id h.me j) i)) (entry ∷ []) ≡ []
    other_attempts j i d =
        at_test (λ b. same_attempt run (attempt (object_id h.me j) i) ≡ b → (if b then run ∷ [] else []) ++ [] ≡ []) (same_attempt run (attempt (object_id h.me j) i))
        (λ b e. let is : k ≡ j = ap (λ (a : Attempt). a.object.serial) (same_attempt-true run (attempt (object_id h.me j) i) e) in let c : (j == k) ≡ true = grind (arith, nat_tests, is) in absurd (cc)) (λ b e. refl) refl

    -- the acceptance is allowed, and what the owner knows then of all its objects is true
    pub accepts_sound : SoundHere f asked (accepts h run task m rs)
    accepts_sound =
        subst (λ g. SoundHere f asked (logs g entry)) (sym (settles_rows (with_task_of h o (rests task)) o task.number m results rs))
        (here_logs_rows f asked h s entry allowed refl ys (settled-length rested k task.number m results rs ∙ changed-length h.worker.objects k (with_task (rests task))) refl (accepted_speaks run)
        (all_known p q way h.worker h.me k ys same back (λ j d. record { runs = refl; accepts = λ i. other_attempts j i d; asked = λ i n a. a }) (λ j z at d. record { resolves = refl; releases = refl }) s.knows.objects group))
