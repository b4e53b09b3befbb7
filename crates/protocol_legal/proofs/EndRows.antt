-- A task comes to rest, and its objects change with it: what the owner knows of all objects then. The rows of an accepted task.
use Rattle.std.proofs.Common.{◌≡◌, ℕ, zero, suc, ◌+◌, ◌<◌, ◌≤◌, false, List, [], ◌∷◌, length, Option, Some, inl, inr, refl, sym, ap, ◌∙◌, subst, arith}
use Rattle.std.specs.Prelude.{◌==◌, ◌⊎◌, map, slice_get}
use Rattle.std.specs.List.{AllByRecursion}
use Rattle.std.proofs.lemmas.Bool.{eqb-true}
use Rattle.std.proofs.lemmas.Bool.Decides.{nat_tests}
use Rattle.meaning.specs.Runs.{next_id}
use Rattle.meaning.specs.Values.{Id, Outcome}
use Rattle.meaning.proofs.BirthLaws.{at_test}
use Rattle.values.specs.Cells.{if_small}
use Rattle.step_laws.specs.of_protocol.Numbered.{item_at, changed_at}
use Rattle.step_laws.specs.of_protocol.Sets.{object_id, rest_of}
use Rattle.step_laws.specs.of_protocol.Tables.{Object, Worker, first_by, with_content}
use Rattle.step_laws.specs.of_protocol.Messages.{EndedResult}
use Rattle.step_laws.specs.of_protocol.Steps.{WorkerContext, with_worker}
use Rattle.step_laws.specs.of_protocol.Ends.{first_result, settles}
use Rattle.protocol_legal.specs.Past.{Past}
use Rattle.protocol_legal.specs.Grows.{Grows}
use Rattle.protocol_legal.specs.Knows.{KnowsObject}
use Rattle.protocol_legal.proofs.Numbers.{item-same, item-elsewhere}
use Rattle.protocol_legal.proofs.Keeping.{IsQuiet, IsQuietTask, RowsStay, RunStays, object_quiet}
use Rattle.step_laws.proofs.Lists.{changed-length}

-- ---- the objects of other tasks stay as they are

module _ (p q : Past) (g : Grows p q) (x : Worker) (w k : ℕ) (ys : List Object)
    (same : (j : ℕ) (z : Object) → item_at x.objects j ≡ Some z → (first_by j z.source == k) ≡ false → item_at ys j ≡ Some z)
    (back : (j : ℕ) (v : Object) → item_at ys j ≡ Some v → (z : Object) × (item_at x.objects j ≡ Some z))
    (others : (j : ℕ) → (j == k) ≡ false → IsQuietTask p q g (object_id w j))
    (quiet : (j : ℕ) (z : Object) → item_at x.objects j ≡ Some z → (first_by j z.source == k) ≡ false → IsQuiet p q g (object_id w j))
    (knows : (j : ℕ) (z : Object) → item_at x.objects j ≡ Some z → KnowsObject p x (object_id w j) z) where
  abbrev y : Worker
  y = record x { objects = ys }

  abbrev apart : ℕ → Type 0
  apart n = (n == k) ≡ false

  rows_apart : RowsStay apart x.objects ys
  rows_apart = record {
    rows = λ j z i a. (z, same j z i a, refl, refl);
    wanted = λ n t i a e v. record {
      place = v.place;
      within = v.within;
      object = v.object;
      there = same (n + v.place) v.object v.there (ap (λ m. m == k) v.first ∙ a);
      first = v.first;
      wanted = v.wanted;
    };
  }

  stays : RunStays p q g x y
  stays run e = inr (run, e, refl)

  -- each object is known, where those of the task are
  pub all_known : ((j : ℕ) (z v : Object) → item_at x.objects j ≡ Some z → first_by j z.source ≡ k → item_at ys j ≡ Some v → KnowsObject q y (object_id w j) v) →
      (j : ℕ) (v : Object) → item_at ys j ≡ Some v → KnowsObject q y (object_id w j) v
  all_known group j v i =
      let was = back j v i in
      at_test (λ c. (first_by j was.0.source == k) ≡ c → KnowsObject q y (object_id w j) v) (first_by j was.0.source == k)
      (λ c _. group j was.0 v was.1 (eqb-true (first_by j was.0.source) k c) i)
      (λ c _. let at = same j was.0 was.1 c in
      let is : was.0 ≡ v = cc in
      subst (KnowsObject q y (object_id w j)) is (object_quiet p q g apart x y j w was.0 was.1 rows_apart c (others (first_by j was.0.source) c) (quiet j was.0 was.1 c) refl stays (knows j was.0 was.1))) refl

-- ---- the rows of a task that is accepted

abbrev pub settled_rows : List Object → ℕ → ℕ → ℕ → ℕ → List EndedResult → List Object
settled_rows xs serial number n zero rs = xs
settled_rows xs serial number n (suc k) rs = settled_rows (changed_at xs serial (with_content number n (first_result rs).ids (first_result rs).kept)) (serial + 1) number n k (rest_of rs)

with_same : (h : WorkerContext) → with_worker h (record h.worker { objects = h.worker.objects }) ≡ h
with_same h = refl

-- nothing but the objects changes
pub settles_rows : (h : WorkerContext) (o : Id) (number n k : ℕ) (rs : List EndedResult) → settles h o number n k rs ≡ with_worker h (record h.worker { objects = settled_rows h.worker.objects o.serial number n k rs })
settles_rows h o number n zero rs = sym (with_same h)
settles_rows h o number n (suc k) rs =
    settles_rows (with_worker h (record h.worker { objects = changed_at h.worker.objects o.serial (with_content number n (first_result rs).ids (first_result rs).kept) })) (next_id o) number n k (rest_of rs)

pub settled-length : (xs : List Object) (serial number n k : ℕ) (rs : List EndedResult) → length (settled_rows xs serial number n k rs) ≡ length xs
settled-length xs serial number n zero rs = refl
settled-length xs serial number n (suc k) rs =
    let fn = with_content number n (first_result rs).ids (first_result rs).kept in
    settled-length (changed_at xs serial fn) (serial + 1) number n k (rest_of rs) ∙ changed-length xs serial fn

pub settled_out : (xs : List Object) (serial number n k : ℕ) (rs : List EndedResult) (j : ℕ) → (j < serial) ⊎ (serial + k ≤ j) → item_at (settled_rows xs serial number n k rs) j ≡ item_at xs j
settled_out xs serial number n zero rs j b = refl
settled_out xs serial number n (suc k) rs j b =
    let fn = with_content number n (first_result rs).ids (first_result rs).kept in
    settled_out (changed_at xs serial fn) (serial + 1) number n k (rest_of rs) j (further b) ∙ item-elsewhere xs j serial fn (apart b)
  where
    further : (j < serial) ⊎ (serial + suc k ≤ j) → (j < serial + 1) ⊎ (serial + 1 + k ≤ j)
    further (inl l) = inl (omega (arith, l))
    further (inr l) = inr (omega (arith, l))

    apart : (j < serial) ⊎ (serial + suc k ≤ j) → (j == serial) ≡ false
    apart (inl l) = grind (arith, nat_tests, l)
    apart (inr l) = let m : serial < j = omega (arith, l) in grind (arith, nat_tests, m)

-- the row of an object, with what was told of it
pub settled_in : (xs : List Object) (serial number n k : ℕ) (rs : List EndedResult) (i : ℕ) (r : EndedResult) (z : Object) → i < k → slice_get rs i ≡ Some r → item_at xs (serial + i) ≡ Some z →
    item_at (settled_rows xs serial number n k rs) (serial + i) ≡ Some (with_content number n r.ids r.kept z)
settled_in xs serial number n zero rs i r z l told e = absurd (omega (arith, l))
settled_in xs serial number n (suc k) [] i r z l told e = absurd (cc)
settled_in xs serial number n (suc k) (q ∷ rs) zero r z l told e =
    let is : q ≡ r = cc in
    let fn = with_content number n q.ids q.kept in
    let s : ◌≡◌ {A = ℕ} (serial + 0) serial = omega arith in
    let here : item_at xs serial ≡ Some z = ap (item_at xs) (sym s) ∙ e in
    let low : serial + 0 < serial + 1 = omega arith in
    settled_out (changed_at xs serial fn) (serial + 1) number n k rs (serial + 0) (inl low)
    ∙ ap (item_at (changed_at xs serial fn)) s ∙ item-same xs serial fn z here ∙ ap (λ (v : EndedResult). Some (with_content number n v.ids v.kept z)) is
settled_in xs serial number n (suc k) (q ∷ rs) (suc i) r z l told e =
    let fn = with_content number n q.ids q.kept in
    let s : ◌≡◌ {A = ℕ} (serial + suc i) (serial + 1 + i) = omega arith in
    let d : ((serial + suc i) == serial) ≡ false = grind (arith, nat_tests) in
    let there : item_at (changed_at xs serial fn) (serial + 1 + i) ≡ Some z = ap (item_at (changed_at xs serial fn)) (sym s) ∙ item-elsewhere xs (serial + suc i) serial fn d ∙ e in
    ap (item_at (settled_rows (changed_at xs serial fn) (serial + 1) number n k rs)) s
    ∙ settled_in (changed_at xs serial fn) (serial + 1) number n k rs i r z (omega (arith, l)) told there

-- ---- what is told

-- of each content
pub record IsToldOf (rs : List EndedResult) (i : ℕ) (c : Outcome) : Type 0 where
  pub result : EndedResult
  pub there : slice_get rs i ≡ Some result
  pub small : result.kept ≡ if_small c

pub told_of : (rs : List EndedResult) (cs : List Outcome) (i : ℕ) (c : Outcome) → map (λ (r : EndedResult). r.kept) rs ≡ map if_small cs → slice_get cs i ≡ Some c → IsToldOf rs i c
told_of [] [] i c e g = absurd (cc)
told_of [] (d ∷ cs) i c e g = absurd (cc)
told_of (r ∷ rs) [] i c e g = absurd (cc)
told_of (r ∷ rs) (d ∷ cs) zero c e g =
    let same : d ≡ c = cc in
    let small : r.kept ≡ if_small d = ap (head (if_small d)) e in
    record { result = r; there = refl; small = small ∙ ap if_small same }
  where
    head : Option Outcome → List (Option Outcome) → Option Outcome
    head k [] = k
    head k (x ∷ ks) = x
told_of (r ∷ rs) (d ∷ cs) (suc i) c e g = let t = told_of rs cs i c (ap tail e) g in record { result = t.result; there = t.there; small = t.small }
  where
    tail : List (Option Outcome) → List (Option Outcome)
    tail [] = []
    tail (k ∷ ks) = ks

-- what is true of each is true of that
pub told_each : (P : EndedResult → Type 0) (rs : List EndedResult) (i : ℕ) (r : EndedResult) → slice_get rs i ≡ Some r → AllByRecursion P rs → P r
told_each P [] i r e h = absurd (cc)
told_each P (q ∷ rs) zero r e h = let is : q ≡ r = cc in subst P is h.0
told_each P (q ∷ rs) (suc i) r e h = told_each P rs i r e h.1
