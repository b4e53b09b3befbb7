-- Several objects are released together: the rows of the table, and what is logged.
use Rattle.std.proofs.Common.{◌≡◌, ℕ, zero, suc, ◌+◌, ◌<◌, ◌≤◌, false, List, [], ◌∷◌, ◌++◌, length, map, Some, inl, inr, refl, sym, ap, ◌∙◌, arith}
use Rattle.std.specs.Prelude.{◌==◌, ◌⊎◌, if◌then◌else◌}
use Rattle.std.specs.List.{flat_map}
use Rattle.std.proofs.lemmas.Bool.Decides.{nat_tests}
use Rattle.meaning.specs.Runs.{ids_from}
use Rattle.meaning.specs.Values.{Id}
use Rattle.meaning.specs.Births.{same_id}
use Rattle.meaning.proofs.BirthLaws.{same_id-refl}
use Rattle.kind_laws.specs.of_event_log.Entries.{Entry, Released}
use Rattle.kind_laws.specs.of_event_log.Words.{released_in}
use Rattle.kind_laws.specs.of_event_log.Events.{refused_next}
use Rattle.kind_laws.specs.of_event_log.Legal.{has_event}
use Rattle.step_laws.specs.of_protocol.Numbered.{item_at, changed_at}
use Rattle.step_laws.specs.of_protocol.Sets.{object_id}
use Rattle.step_laws.specs.of_protocol.Tables.{Object, released}
use Rattle.step_laws.specs.of_protocol.Steps.{WorkerContext, with_worker}
use Rattle.step_laws.specs.of_protocol.Releases.{marks_released}
use Rattle.protocol_legal.proofs.Numbers.{item-same, item-elsewhere}
use Rattle.protocol_legal.proofs.Resolving.{same_serial}
use Rattle.step_laws.proofs.Lists.{changed-length}

-- ---- the rows

abbrev pub released_rows : List Object → ℕ → ℕ → List Object
released_rows xs j zero = xs
released_rows xs j (suc n) = released_rows (changed_at xs j released) (j + 1) n

pub marks_rows : (h : WorkerContext) (j n : ℕ) → marks_released h j n ≡ with_worker h (record h.worker { objects = released_rows h.worker.objects j n })
marks_rows h j zero = refl
marks_rows h j (suc n) = marks_rows (with_worker h (record h.worker { objects = changed_at h.worker.objects j released })) (j + 1) n

pub released-length : (xs : List Object) (j n : ℕ) → length (released_rows xs j n) ≡ length xs
released-length xs j zero = refl
released-length xs j (suc n) = released-length (changed_at xs j released) (j + 1) n ∙ changed-length xs j released

apart_of : (i j m : ℕ) → (i < j) ⊎ (j + suc m ≤ i) → (i == j) ≡ false
apart_of i j m (inl l) = grind (arith, nat_tests, l)
apart_of i j m (inr l) = let b : j < i = omega (arith, l) in grind (arith, nat_tests, b)

further : (i j n : ℕ) → (i < j) ⊎ (j + suc n ≤ i) → (i < j + 1) ⊎ (j + 1 + n ≤ i)
further i j n (inl l) = inl (omega (arith, l))
further i j n (inr l) = inr (omega (arith, l))

pub released_out : (xs : List Object) (j n i : ℕ) → (i < j) ⊎ (j + n ≤ i) → item_at (released_rows xs j n) i ≡ item_at xs i
released_out xs j zero i b = refl
released_out xs j (suc n) i b = released_out (changed_at xs j released) (j + 1) n i (further i j n b) ∙ item-elsewhere xs i j released (apart_of i j n b)

pub released_row : (xs : List Object) (j n i : ℕ) (z : Object) → i < n → item_at xs (j + i) ≡ Some z → item_at (released_rows xs j n) (j + i) ≡ Some (released z)
released_row xs j zero i z l e = absurd (omega (arith, l))
released_row xs j (suc n) zero z l e =
    let s : ◌≡◌ {A = ℕ} (j + 0) j = omega arith in
    let low : j + 0 < j + 1 = omega arith in
    released_out (changed_at xs j released) (j + 1) n (j + 0) (inl low) ∙ ap (item_at (changed_at xs j released)) s ∙ item-same xs j released z (ap (item_at xs) (sym s) ∙ e)
released_row xs j (suc n) (suc i) z l e =
    let s : ◌≡◌ {A = ℕ} (j + suc i) (j + 1 + i) = omega arith in
    let d : ((j + suc i) == j) ≡ false = grind (arith, nat_tests) in
    let there : item_at (changed_at xs j released) (j + 1 + i) ≡ Some z = ap (item_at (changed_at xs j released)) (sym s) ∙ item-elsewhere xs (j + suc i) j released d ∙ e in
    ap (item_at (released_rows (changed_at xs j released) (j + 1) n)) s ∙ released_row (changed_at xs j released) (j + 1) n i z (omega (arith, l)) there

-- ---- what is logged

abbrev pub releases_of_all : ℕ → ℕ → ℕ → List Entry
releases_of_all w j zero = []
releases_of_all w j (suc n) = Released (object_id w j) ∷ releases_of_all w (j + 1) n

pub all_released : (w j n : ℕ) → map Released (ids_from (object_id w j) n) ≡ releases_of_all w j n
all_released w j zero = refl
all_released w j (suc n) = ap (λ es. Released (object_id w j) ∷ es) (all_released w (j + 1) n)

-- a word that releases don't change
pub none_in : {X : Type 0} (word : Entry → List X) → ((o : Id) → word (Released o) ≡ []) → (w j n : ℕ) → flat_map word (releases_of_all w j n) ≡ []
none_in word unsaid w j zero = refl
none_in word unsaid w j (suc n) = ap (λ ys. ys ++ flat_map word (releases_of_all w (j + 1) n)) (unsaid (object_id w j)) ∙ none_in word unsaid w (j + 1) n

-- nothing is said of other objects
pub released_none : (w j n i : ℕ) → (i < j) ⊎ (j + n ≤ i) → flat_map (released_in (object_id w i)) (releases_of_all w j n) ≡ []
released_none w j zero i b = refl
released_none w j (suc n) i b =
    ap (λ t. (if t then object_id w j ∷ [] else []) ++ flat_map (released_in (object_id w i)) (releases_of_all w (j + 1) n)) (same_serial w i j (apart_of i j n b))
    ∙ released_none w (j + 1) n i (further i j n b)

-- each of them is released once
pub released_once : (w j n i : ℕ) → i < n → flat_map (released_in (object_id w (j + i))) (releases_of_all w j n) ≡ object_id w (j + i) ∷ []
released_once w j zero i l = absurd (omega (arith, l))
released_once w j (suc n) zero l =
    let s : ◌≡◌ {A = ℕ} (j + 0) j = omega arith in
    let low : j + 0 < j + 1 = omega arith in
    ap (λ ys. (if same_id (object_id w j) (object_id w (j + 0)) then object_id w j ∷ [] else []) ++ ys) (released_none w (j + 1) n (j + 0) (inl low))
    ∙ ap (λ k. (if same_id (object_id w j) (object_id w k) then object_id w j ∷ [] else []) ++ []) s
    ∙ ap (λ t. (if t then object_id w j ∷ [] else []) ++ []) (same_id-refl (object_id w j)) ∙ ap (λ k. object_id w k ∷ []) (sym s)
released_once w j (suc n) (suc i) l =
    let s : ◌≡◌ {A = ℕ} (j + suc i) (j + 1 + i) = omega arith in
    let d : ((j + suc i) == j) ≡ false = grind (arith, nat_tests) in
    ap (λ t. (if t then object_id w j ∷ [] else []) ++ flat_map (released_in (object_id w (j + suc i))) (releases_of_all w (j + 1) n)) (same_serial w (j + suc i) j d)
    ∙ ap (λ k. flat_map (released_in (object_id w k)) (releases_of_all w (j + 1) n)) s ∙ released_once w (j + 1) n i (omega (arith, l)) ∙ ap (λ k. object_id w k ∷ []) (sym s)

pub no_event_in : (w j n : ℕ) → (has_event (releases_of_all w j n) ≡ false) × (refused_next (releases_of_all w j n) ≡ false)
no_event_in w j zero = (refl, refl)
no_event_in w j (suc n) = ((no_event_in w (j + 1) n).0, refl)
