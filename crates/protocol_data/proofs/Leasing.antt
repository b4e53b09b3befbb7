-- The rows of leases: where a worker's stands, and what taking it out and putting it anew make of them.
use Rattle.std.proofs.Common.{◌≡◌, ℕ, zero, suc, ◌+◌, ◌<◌, ◌≤◌, ◌∷◌, ◌++◌, [], Bool, true, false, List, Some, None, refl, sym, ap, ◌∙◌, arith, cond, drop, get_or, length, length-append, subst}
use Rattle.std.proofs.lemmas.Bool.Decides.{nat_tests}
use Rattle.std.proofs.lemmas.List.{drop_more}
use Rattle.std.specs.Prelude.{IfNone, IfSome, Option, not, ◌&&◌, ◌||◌, ◌==◌, slice_get, slice_set}
use Rattle.std.specs.List.{filter, find, list_any}
use Rattle.std.specs.Option.{option_map}
use Rattle.event_log.specs.Entries.{Attempt}
use Rattle.event_log.specs.Words.{same_attempt}
use Rattle.sequence.proofs.Places.{or_left, or_right, slice_get-set_other, slice_get-set_same}
use Rattle.protocol_data.specs.declared.node.Lease.{Lease}
use Rattle.protocol_data.specs.Leased.{AreApart, ArePlaced, blanked, entry_of, has_entry, is_row_of, leases_of, named}
use Rattle.protocol_data.specs.Noted.{serial_or}

true_false : true ≡ false → ⊥
true_false e = cc

neither : (a b : Bool) → a ≡ false → b ≡ false → (a || b) ≡ false
neither false b e f = f
neither true b e f = absurd (true_false e)

left_false : (a b : Bool) → (a || b) ≡ false → a ≡ false
left_false false b h = refl
left_false true b h = absurd (true_false h)

right_false : (a b : Bool) → (a || b) ≡ false → b ≡ false
right_false false b h = h
right_false true b h = absurd (true_false h)

same_number : (m n : ℕ) → (m == n) ≡ true → m ≡ n
same_number m n h = grind (arith, nat_tests, h)

other_number : (m n : ℕ) → (m == n) ≡ false → m ≡ n → ⊥
other_number m n h e = grind (arith, nat_tests, h, e)

itself : (m : ℕ) → (m == m) ≡ true
itself m = grind (arith, nat_tests)

unless_true : (b : Bool) → (b ≡ true → ⊥) → b ≡ false
unless_true false f = refl
unless_true true f = absurd (f refl)

swapped : (m n : ℕ) → (m == n) ≡ false → (n == m) ≡ false
swapped m n h = grind (arith, nat_tests, h)

or_none : (a b : Bool) → b ≡ false → a ≡ (a || b)
or_none true b h = refl
or_none false b h = sym h

some_is : {X : Type 0} (x y : X) → Some x ≡ Some y → x ≡ y
some_is x y e = cc

none_is : {X : Type 0} (x : X) → ◌≡◌ {A = Option (Option X)} (Some None) (Some (Some x)) → ⊥
none_is x e = absurd cc

some_row_is : {X : Type 0} (x y : X) → Some (Some x) ≡ Some (Some y) → x ≡ y
some_row_is x y e = cc

-- one of them is the worker's
abbrev has_one : ℕ → List Lease → Bool
has_one w ls = list_any (λ l. l.worker == w) ls

-- the leases but that worker's
abbrev without : ℕ → List Lease → List Lease
without w ls = filter (λ l. not (l.worker == w)) ls

-- where there is a place, that worker's row stands there
abbrev pub IsFound : List (Option Lease) → ℕ → Option ℕ → Type 0
IsFound rows w known = IfSome known (λ p. (l : Lease) × (slice_get rows p ≡ Some (Some l)) × ((l.worker == w) ≡ true))

-- where there is none, the worker has none
abbrev pub IsMissed : List (Option Lease) → ℕ → Option ℕ → Type 0
IsMissed rows w known = IfNone known (list_any (λ l. l.worker == w) (leases_of rows) ≡ false)

-- ---- the list

none_found : (w : ℕ) (ls : List Lease) → has_one w ls ≡ false → find (λ l. l.worker == w) ls ≡ None
none_found w [] h = refl
none_found w (x ∷ xs) h = ap (λ b. cond b (Some x) (find (λ l. l.worker == w) xs)) (left_false (x.worker == w) (has_one w xs) h) ∙ none_found w xs
    (right_false (x.worker == w) (has_one w xs) h)

none_taken : (w : ℕ) (ls : List Lease) → has_one w ls ≡ false → without w ls ≡ ls
none_taken w [] h = refl
none_taken w (x ∷ xs) h =
    ap (λ b. cond (not b) (x ∷ without w xs) (without w xs)) (left_false (x.worker == w) (has_one w xs) h)
    ∙ ap (λ ys. x ∷ ys) (none_taken w xs (right_false (x.worker == w) (has_one w xs) h))

none_in_others : (v w : ℕ) (xs : List Lease) → has_one v xs ≡ false → has_one v (without w xs) ≡ false
none_in_others v w [] h = refl
none_in_others v w (x ∷ xs) h = by_test (none_in_others v w xs (right_false (x.worker == v) (has_one v xs) h)) (not (x.worker == w))
  where
    by_test : has_one v (without w xs) ≡ false → (b : Bool) → has_one v (cond b (x ∷ without w xs) (without w xs)) ≡ false
    by_test rest true = neither (x.worker == v) (has_one v (without w xs)) (left_false (x.worker == v) (has_one v xs) h) rest
    by_test rest false = rest

apart_others : (w : ℕ) (xs : List Lease) → AreApart xs → AreApart (without w xs)
apart_others w [] d = tt
apart_others w (x ∷ xs) d = by_test (apart_others w xs d.1) (not (x.worker == w))
  where
    by_test : AreApart (without w xs) → (b : Bool) → AreApart (cond b (x ∷ without w xs) (without w xs))
    by_test rest true = (none_in_others x.worker w xs d.0, rest)
    by_test rest false = rest

none_left : (w : ℕ) (xs : List Lease) → has_one w (without w xs) ≡ false
none_left w [] = refl
none_left w (x ∷ xs) = by_test (none_left w xs) (x.worker == w) refl
  where
    by_test : has_one w (without w xs) ≡ false → (b : Bool) → (x.worker == w) ≡ b → has_one w (cond (not b) (x ∷ without w xs) (without w xs)) ≡ false
    by_test rest true e = rest
    by_test rest false e = neither (x.worker == w) (has_one w (without w xs)) e rest

none_with : (w : ℕ) (xs : List Lease) (y : Lease) → has_one w xs ≡ false → (y.worker == w) ≡ false → has_one w (xs ++ y ∷ []) ≡ false
none_with w [] y h g = neither (y.worker == w) false g refl
none_with w (x ∷ xs) y h g =
    neither (x.worker == w) (has_one w (xs ++ y ∷ [])) (left_false (x.worker == w) (has_one w xs) h) (none_with w xs y (right_false (x.worker == w)
    (has_one w xs) h) g)

apart_push : (xs : List Lease) (y : Lease) → AreApart xs → has_one y.worker xs ≡ false → AreApart (xs ++ y ∷ [])
apart_push [] y d h = (refl, tt)
apart_push (x ∷ xs) y d h = (
  none_with x.worker xs y d.0 (swapped x.worker y.worker (left_false (x.worker == y.worker) (has_one y.worker xs) h)),
  apart_push xs y d.1 (right_false (x.worker == y.worker) (has_one y.worker xs) h),
)

-- ---- which is the latest

none_latest : (xs : List Lease) (w : ℕ) (a : Attempt) → has_one w xs ≡ false → list_any (λ l. (l.worker == w) && same_attempt l.attempt a) xs ≡ false
none_latest [] w a h = refl
none_latest (x ∷ xs) w a h =
    neither ((x.worker == w) && same_attempt x.attempt a) (list_any (λ l. (l.worker == w) && same_attempt l.attempt a) xs)
    (ap (λ t. t && same_attempt x.attempt a) (left_false (x.worker == w) (has_one w xs) h)) (none_latest xs w a (right_false (x.worker == w) (has_one w xs) h))

pub latest_at : (xs : List Lease) (w : ℕ) (a b : Attempt) → AreApart xs → option_map (λ l. l.attempt) (find (λ l. l.worker == w) xs) ≡ Some b →
    same_attempt b a ≡ list_any (λ l. (l.worker == w) && same_attempt l.attempt a) xs
latest_at [] w a b d e = absurd cc
latest_at (x ∷ xs) w a b d e = by_test (latest_at xs w a b d.1) (x.worker == w) refl e
  where
    by_test : (option_map (λ l. l.attempt) (find (λ l. l.worker == w) xs) ≡ Some b →
        same_attempt b a ≡ list_any (λ l. (l.worker == w) && same_attempt l.attempt a) xs) →
        (t : Bool) → (x.worker == w) ≡ t → option_map (λ l. l.attempt) (cond t (Some x) (find (λ l. l.worker == w) xs)) ≡ Some b →
        same_attempt b a ≡ ((t && same_attempt x.attempt a) || list_any (λ l. (l.worker == w) && same_attempt l.attempt a) xs)
    by_test rest true g e =
        ap (λ c. same_attempt c a) (sym (some_is x.attempt b e))
        ∙ or_none (same_attempt x.attempt a) _ (none_latest xs w a (ap (λ v. has_one v xs) (sym (same_number x.worker w g)) ∙ d.0))
    by_test rest false g e = rest e

pub no_latest : (xs : List Lease) (w : ℕ) (a : Attempt) → option_map (λ l. l.attempt) (find (λ l. l.worker == w) xs) ≡ None →
    false ≡ list_any (λ l. (l.worker == w) && same_attempt l.attempt a) xs
no_latest [] w a e = refl
no_latest (x ∷ xs) w a e = by_test (no_latest xs w a) (x.worker == w) e
  where
    by_test : (option_map (λ l. l.attempt) (find (λ l. l.worker == w) xs) ≡ None → false ≡ list_any (λ l. (l.worker == w) && same_attempt l.attempt a) xs) →
        (t : Bool) → option_map (λ l. l.attempt) (cond t (Some x) (find (λ l. l.worker == w) xs)) ≡ None →
        false ≡ ((t && same_attempt x.attempt a) || list_any (λ l. (l.worker == w) && same_attempt l.attempt a) xs)
    by_test rest true e = absurd cc
    by_test rest false e = rest e

-- ---- the rows

any_there : (w : ℕ) (rows : List (Option Lease)) (i : ℕ) (x : Lease) → slice_get rows i ≡ Some (Some x) → (x.worker == w) ≡ true →
    has_one w (leases_of rows) ≡ true
any_there w [] i x e h = absurd cc
any_there w (None ∷ rows) zero x e h = absurd (none_is x e)
any_there w (None ∷ rows) (suc i) x e h = any_there w rows i x e h
any_there w (Some y ∷ rows) zero x e h = or_left (y.worker == w) (has_one w (leases_of rows)) (ap (λ l. l.worker == w) (some_row_is y x e) ∙ h)
any_there w (Some y ∷ rows) (suc i) x e h = or_right (y.worker == w) (has_one w (leases_of rows)) (any_there w rows i x e h)

-- one that stands further on is another worker's
first_is_other : (y : Lease) (rows : List (Option Lease)) (i : ℕ) (x : Lease) (w : ℕ) → has_one y.worker (leases_of rows) ≡ false →
    slice_get rows i ≡ Some (Some x) →
    (x.worker == w) ≡ true → (y.worker == w) ≡ false
first_is_other y rows i x w d e h =
    unless_true (y.worker == w) (λ g. true_false (sym (any_there w rows i x e h) ∙ ap (λ v. has_one v (leases_of rows)) (sym (same_number y.worker w g)) ∙ d))

found_at : (rows : List (Option Lease)) (i : ℕ) (x : Lease) (w : ℕ) → AreApart (leases_of rows) → slice_get rows i ≡ Some (Some x) → (x.worker == w) ≡ true →
    find (λ l. l.worker == w) (leases_of rows) ≡ Some x
found_at [] i x w d e h = absurd cc
found_at (None ∷ rows) zero x w d e h = absurd (none_is x e)
found_at (None ∷ rows) (suc i) x w d e h = found_at rows i x w d e h
found_at (Some y ∷ rows) zero x w d e h =
    let same : y ≡ x = some_row_is y x e in
    ap (λ b. cond b (Some y) (find (λ l. l.worker == w) (leases_of rows))) (ap (λ l. l.worker == w) same ∙ h) ∙ ap Some same
found_at (Some y ∷ rows) (suc i) x w d e h =
    ap (λ b. cond b (Some y) (find (λ l. l.worker == w) (leases_of rows))) (first_is_other y rows i x w d.0 e h) ∙ found_at rows i x w d.1 e h

taken_at : (rows : List (Option Lease)) (i : ℕ) (x : Lease) (w : ℕ) → AreApart (leases_of rows) → slice_get rows i ≡ Some (Some x) → (x.worker == w) ≡ true →
    without w (leases_of rows) ≡ leases_of (slice_set rows i None)
taken_at [] i x w d e h = absurd cc
taken_at (None ∷ rows) zero x w d e h = absurd (none_is x e)
taken_at (None ∷ rows) (suc i) x w d e h = taken_at rows i x w d e h
taken_at (Some y ∷ rows) zero x w d e h =
    let same : y ≡ x = some_row_is y x e in
    let that : (y.worker == w) ≡ true = ap (λ l. l.worker == w) same ∙ h in
    ap (λ b. cond (not b) (y ∷ without w (leases_of rows)) (without w (leases_of rows))) that
    ∙ none_taken w (leases_of rows) (ap (λ v. has_one v (leases_of rows)) (sym (same_number y.worker w that)) ∙ d.0)
taken_at (Some y ∷ rows) (suc i) x w d e h =
    ap (λ b. cond (not b) (y ∷ without w (leases_of rows)) (without w (leases_of rows))) (first_is_other y rows i x w d.0 e h)
    ∙ ap (λ zs. y ∷ zs) (taken_at rows i x w d.1 e h)

within : {X : Type 0} (xs : List X) (i : ℕ) (x : X) → slice_get xs i ≡ Some x → i < length xs
within [] i x e = absurd cc
within (y ∷ ys) zero x e = omega arith
within (y ∷ ys) (suc i) x e = omega (arith, within ys i x e)

pub is_within : (rows : List (Option Lease)) (i w : ℕ) → (l : Lease) × (slice_get rows i ≡ Some (Some l)) × ((l.worker == w) ≡ true) → i < length rows
is_within rows i w f = within rows i (Some f.0) f.1

none_there : (rows : List (Option Lease)) (w : ℕ) → ((i : ℕ) (r : Option Lease) → slice_get rows i ≡ Some r → is_row_of w r ≡ false) →
    has_one w (leases_of rows) ≡ false
none_there [] w f = refl
none_there (None ∷ rows) w f = none_there rows w (λ i r e. f (suc i) r e)
none_there (Some x ∷ rows) w f = neither (x.worker == w) (has_one w (leases_of rows)) (f 0 (Some x) refl) (none_there rows w (λ i r e. f (suc i) r e))

pub none_up_to : (rows : List (Option Lease)) (w n : ℕ) → ((i : ℕ) (r : Option Lease) → i < n → slice_get rows i ≡ Some r → is_row_of w r ≡ false) →
    length rows ≤ n →
    list_any (λ l. l.worker == w) (leases_of rows) ≡ false
none_up_to rows w n f l = none_there rows w (λ i r e. let m = within rows i r e in f i r (omega (arith, l, m)) e)

pub no_attempt : (rows : List (Option Lease)) (w : ℕ) → list_any (λ l. l.worker == w) (leases_of rows) ≡ false →
    option_map (λ l. l.attempt) (find (λ l. l.worker == w) (leases_of rows)) ≡ None
no_attempt rows w h = ap (option_map (λ l. l.attempt)) (none_found w (leases_of rows) h)

pub attempt_at : (rows : List (Option Lease)) (i w : ℕ) (r : Option Lease) → AreApart (leases_of rows) →
    (l : Lease) × (slice_get rows i ≡ Some (Some l)) × ((l.worker == w) ≡ true) → slice_get rows i ≡ Some r →
    option_map (λ l. l.attempt) (find (λ l. l.worker == w) (leases_of rows)) ≡ option_map (λ l. l.attempt) r
attempt_at rows i w r d f e = ap (option_map (λ l. l.attempt)) (found_at rows i f.0 w d f.1 f.2 ∙ some_is (Some f.0) r (sym f.1 ∙ e))

-- ---- the entries

-- an entry that names no place of a row
pub past_rows : (rows : List (Option Lease)) (e w : ℕ) → length rows < e → (i : ℕ) (r : Option Lease) → slice_get rows i ≡ Some r → e ≡ suc i →
    is_row_of w r ≡ false
past_rows rows e w l i r s t = let m = within rows i r s in absurd (omega (arith, l, m, t))

-- one that names the place of another's
pub other_named : (rows : List (Option Lease)) (e p w : ℕ) (q : Option Lease) → e ≡ suc p → slice_get rows p ≡ Some q → is_row_of w q ≡ false →
    (i : ℕ) (r : Option Lease) → slice_get rows i ≡ Some r → e ≡ suc i → is_row_of w r ≡ false
other_named rows e p w q s g f i r h t =
    let same : p ≡ i = omega (arith, s, t) in
    ap (is_row_of w) (some_is r q (sym h ∙ ap (slice_get rows) (sym same) ∙ g)) ∙ f

none_behind : (places : List ℕ) (n : ℕ) (rows : List (Option Lease)) (w e : ℕ) → ArePlaced places n rows → has_entry w ≡ true → entry_of places w ≡ e →
    ((i : ℕ) (r : Option Lease) → slice_get rows i ≡ Some r → e ≡ suc (n + i) → is_row_of w r ≡ false) → has_one w (leases_of rows) ≡ false
none_behind places n [] w e d h g f = refl
none_behind places n (None ∷ rows) w e d h g f = none_behind places (suc n) rows w e d h g (λ i r s t. f (suc i) r s (omega (arith, t)))
none_behind places n (Some x ∷ rows) w e d h g f =
    neither (x.worker == w) (has_one w (leases_of rows)) (unless_true (x.worker == w) (λ t. true_false (sym t ∙ f 0 (Some x) refl (here t))))
    (none_behind places (suc n) rows w e d.1 h g (λ i r s t. f (suc i) r s (omega (arith, t))))
  where
    here : (x.worker == w) ≡ true → e ≡ suc (n + 0)
    here t =
        let same : x.worker ≡ w = same_number x.worker w t in
        let named : e ≡ suc n = sym g ∙ ap (entry_of places) (sym same) ∙ d.0 (ap has_entry same ∙ h) in
        omega (arith, named)

-- the worker has none where the place that its entry names is not that of its row
pub none_named : (places : List ℕ) (rows : List (Option Lease)) (w e : ℕ) (known : Option ℕ) → ArePlaced places 0 rows → has_entry w ≡ true →
    e ≡ entry_of places w →
    IfNone known ((i : ℕ) (r : Option Lease) → slice_get rows i ≡ Some r → e ≡ suc i → is_row_of w r ≡ false) → IsMissed rows w known
none_named places rows w e None d h g f = none_behind places 0 rows w e d h (sym g) (λ i r s t. f i r s (omega (arith, t)))
none_named places rows w e (Some p) d h g f = tt

blank_at : (places : List ℕ) (n : ℕ) (rows : List (Option Lease)) (i : ℕ) → ArePlaced places n rows → ArePlaced places n (slice_set rows i None)
blank_at places n [] i d = tt
blank_at places n (None ∷ rows) zero d = d
blank_at places n (None ∷ rows) (suc i) d = blank_at places (suc n) rows i d
blank_at places n (Some x ∷ rows) zero d = d.1
blank_at places n (Some x ∷ rows) (suc i) d = (d.0, blank_at places (suc n) rows i d.1)

placed_blank : (places : List ℕ) (rows : List (Option Lease)) (known : Option ℕ) → ArePlaced places 0 rows → ArePlaced places 0 (blanked known rows)
placed_blank places rows None d = d
placed_blank places rows (Some i) d = blank_at places 0 rows i d

entry_other : (places : List ℕ) (v w n : ℕ) → (v ≡ w → ⊥) → entry_of (named places w n) v ≡ entry_of places v
entry_other places v w n h = by_test (has_entry w)
  where
    by_test : (b : Bool) → entry_of (cond b (slice_set places w n) places) v ≡ entry_of places v
    by_test true = ap serial_or (slice_get-set_other places w v n h)
    by_test false = refl

entry_own : (places : List ℕ) (w n : ℕ) → (has_entry w ≡ true → w < length places) → has_entry w ≡ true → entry_of (named places w n) w ≡ n
entry_own places w n l h = ap (λ b. entry_of (cond b (slice_set places w n) places) w) h ∙ ap serial_or (slice_get-set_same places w n (l h))

placed_named : (places : List ℕ) (m : ℕ) (rows : List (Option Lease)) (w n : ℕ) → has_one w (leases_of rows) ≡ false → ArePlaced places m rows →
    ArePlaced (named places w n) m rows
placed_named places m [] w n h d = tt
placed_named places m (None ∷ rows) w n h d = placed_named places (suc m) rows w n h d
placed_named places m (Some x ∷ rows) w n h d = (
  λ g. entry_other places x.worker w n (other_number x.worker w (left_false (x.worker == w) (has_one w (leases_of rows)) h)) ∙ d.0 g,
  placed_named places (suc m) rows w n (right_false (x.worker == w) (has_one w (leases_of rows)) h) d.1,
)

placed_longer : (places longer : List ℕ) (m : ℕ) (rows : List (Option Lease)) → ((i : ℕ) → serial_or (slice_get longer i) ≡ serial_or (slice_get places i)) →
    ArePlaced places m rows → ArePlaced longer m rows
placed_longer places longer m [] k d = tt
placed_longer places longer m (None ∷ rows) k d = placed_longer places longer (suc m) rows k d
placed_longer places longer m (Some x ∷ rows) k d = (λ h. k x.worker ∙ d.0 h, placed_longer places longer (suc m) rows k d.1)

placed_push : (places : List ℕ) (m : ℕ) (rows : List (Option Lease)) (y : Lease) → ArePlaced places m rows →
    (has_entry y.worker ≡ true → entry_of places y.worker ≡ suc (m + length rows)) → ArePlaced places m (rows ++ Some y ∷ [])
placed_push places m [] y d f = (λ h. f h ∙ omega arith, tt)
placed_push places m (None ∷ rows) y d f = placed_push places (suc m) rows y d (λ h. f h ∙ omega arith)
placed_push places m (Some x ∷ rows) y d f = (d.0, placed_push places (suc m) rows y d.1 (λ h. f h ∙ omega arith))

-- ---- what is put and taken out

there_pushed : (rows : List (Option Lease)) (y : Lease) → leases_of (rows ++ Some y ∷ []) ≡ leases_of rows ++ y ∷ []
there_pushed [] y = refl
there_pushed (None ∷ rows) y = there_pushed rows y
there_pushed (Some x ∷ rows) y = ap (λ ys. x ∷ ys) (there_pushed rows y)

set_before : {X : Type 0} (xs : List X) (y z : X) (i : ℕ) → i < length xs → slice_set (xs ++ y ∷ []) i z ≡ slice_set xs i z ++ y ∷ []
set_before [] y z i l = absurd (omega (arith, l))
set_before (x ∷ xs) y z zero l = refl
set_before (x ∷ xs) y z (suc i) l = ap (λ zs. x ∷ zs) (set_before xs y z i (omega (arith, l)))

set_long : {X : Type 0} (xs : List X) (z : X) (i : ℕ) → length (slice_set xs i z) ≡ length xs
set_long [] z i = refl
set_long (x ∷ xs) z zero = refl
set_long (x ∷ xs) z (suc i) = ap suc (set_long xs z i)

blanked_long : (rows : List (Option Lease)) (known : Option ℕ) → length (blanked known rows) ≡ length rows
blanked_long rows None = refl
blanked_long rows (Some i) = set_long rows None i

blanked_before : (rows : List (Option Lease)) (w : ℕ) (y : Option Lease) (known : Option ℕ) → IsFound rows w known →
    blanked known (rows ++ y ∷ []) ≡ blanked known rows ++ y ∷ []
blanked_before rows w y None f = refl
blanked_before rows w y (Some i) f = set_before rows y None i (is_within rows i w f)

pub blanked_within : (rows pushed : List (Option Lease)) (w : ℕ) (y : Option Lease) (known : Option ℕ) → IsFound rows w known →
    pushed ≡ rows ++ y ∷ [] → IfSome known (λ p. p < length pushed)
blanked_within rows pushed w y None f e = tt
blanked_within rows pushed w y (Some i) f e = let l = is_within rows i w f in let m = ap length e ∙ length-append rows (y ∷ []) in omega (arith, l, m)

blanked_leases : (rows : List (Option Lease)) (w : ℕ) (known : Option ℕ) → AreApart (leases_of rows) → IsFound rows w known → IsMissed rows w known →
    leases_of (blanked known rows) ≡ without w (leases_of rows)
blanked_leases rows w None d f n = sym (none_taken w (leases_of rows) n)
blanked_leases rows w (Some i) d f n = sym (taken_at rows i f.0 w d f.1 f.2)

-- the worker's is taken out
pub removed_seen : (rows after : List (Option Lease)) (seen : List Lease) (w : ℕ) (known : Option ℕ) → AreApart (leases_of rows) →
    IsFound rows w known → IsMissed rows w known →
    leases_of rows ≡ seen → after ≡ blanked known rows → leases_of after ≡ filter (λ l. not (l.worker == w)) seen
removed_seen rows after seen w known d f n v e = ap leases_of e ∙ blanked_leases rows w known d f n ∙ ap (without w) v

pub removed_sound : (places : List ℕ) (rows after : List (Option Lease)) (w : ℕ) (known : Option ℕ) →
    AreApart (leases_of rows) × ArePlaced places 0 rows → IsFound rows w known → IsMissed rows w known →
    after ≡ blanked known rows → AreApart (leases_of after) × ArePlaced places 0 after
removed_sound places rows after w known d f n e = (
  subst AreApart (sym (ap leases_of e ∙ blanked_leases rows w known d.0 f n)) (apart_others w (leases_of rows) d.0),
  subst (ArePlaced places 0) (sym e) (placed_blank places rows known d.1),
)

-- its new row stands at the end, and where its old one stood nothing does
put_rows : (rows pushed after : List (Option Lease)) (y : Lease) (known : Option ℕ) → IsFound rows y.worker known → pushed ≡ rows ++ Some y ∷ [] →
    after ≡ blanked known pushed →
    after ≡ blanked known rows ++ Some y ∷ []
put_rows rows pushed after y known f p e = e ∙ ap (blanked known) p ∙ blanked_before rows y.worker (Some y) known f

pub put_seen : (rows pushed after : List (Option Lease)) (seen : List Lease) (y : Lease) (known : Option ℕ) → AreApart (leases_of rows) →
    IsFound rows y.worker known → IsMissed rows y.worker known →
    leases_of rows ≡ seen → pushed ≡ rows ++ Some y ∷ [] → after ≡ blanked known pushed →
    leases_of after ≡ filter (λ l. not (l.worker == y.worker)) seen ++ y ∷ []
put_seen rows pushed after seen y known d f n v p e =
    ap leases_of (put_rows rows pushed after y known f p e) ∙ there_pushed (blanked known rows) y
    ∙ ap (λ ls. ls ++ y ∷ []) (blanked_leases rows y.worker known d f n ∙ ap (without y.worker) v)

pub longer_sound : (places longer : List ℕ) (rows : List (Option Lease)) → AreApart (leases_of rows) × ArePlaced places 0 rows →
    ((i : ℕ) → serial_or (slice_get longer i) ≡ serial_or (slice_get places i)) → AreApart (leases_of rows) × ArePlaced longer 0 rows
longer_sound places longer rows d k = (d.0, placed_longer places longer 0 rows k d.1)

pub put_sound : (places longer entries : List ℕ) (rows pushed after : List (Option Lease)) (y : Lease) (n : ℕ) (known : Option ℕ) →
    AreApart (leases_of rows) × ArePlaced places 0 rows →
    IsFound rows y.worker known → IsMissed rows y.worker known → ((i : ℕ) → serial_or (slice_get longer i) ≡ serial_or (slice_get places i)) →
    (has_entry y.worker ≡ true → y.worker < length longer) → pushed ≡ rows ++ Some y ∷ [] → n ≡ length pushed → entries ≡ named longer y.worker n →
    after ≡ blanked known pushed →
    AreApart (leases_of after) × ArePlaced entries 0 after
put_sound places longer entries rows pushed after y n known d f m k l p s g e =
    let others : leases_of (blanked known rows) ≡ without y.worker (leases_of rows) = blanked_leases rows y.worker known d.0 f m in
    let stands : after ≡ blanked known rows ++ Some y ∷ [] = put_rows rows pushed after y known f p e in
    let gone : has_one y.worker (leases_of (blanked known rows)) ≡ false = ap (has_one y.worker) others ∙ none_left y.worker (leases_of rows) in
    let long : n ≡ suc (0 + length (blanked known rows)) =
    (let a = ap length p ∙ length-append rows (Some y ∷ []) in let b = blanked_long rows known in omega (arith, s, a, b)) in (
      subst AreApart (sym (ap leases_of stands ∙ there_pushed (blanked known rows) y))
          (apart_push (leases_of (blanked known rows)) y (subst AreApart (sym others) (apart_others y.worker (leases_of rows) d.0)) gone),
      subst (λ ps. ArePlaced ps 0 after) (sym g) (subst (ArePlaced (named longer y.worker n) 0) (sym stands)
          (placed_push (named longer y.worker n) 0 (blanked known rows) y
          (placed_named longer 0 (blanked known rows) y.worker n gone (placed_blank longer rows known (placed_longer places longer 0 rows k d.1)))
          (λ h. entry_own longer y.worker n l h ∙ long))),
    )

-- ---- what is copied

-- it isn't the worker of one before it
pub apart_before : (xs ys : List Lease) (y : Lease) → AreApart (xs ++ y ∷ ys) → has_one y.worker xs ≡ false
apart_before [] ys y d = refl
apart_before (x ∷ xs) ys y d =
    neither (x.worker == y.worker) (has_one y.worker xs) (swapped y.worker x.worker (left_in xs d.0)) (apart_before xs ys y d.1)
  where
    left_in : (zs : List Lease) → has_one x.worker (zs ++ y ∷ ys) ≡ false → (y.worker == x.worker) ≡ false
    left_in [] h = left_false (y.worker == x.worker) (has_one x.worker ys) h
    left_in (z ∷ zs) h = left_in zs (right_false (z.worker == x.worker) (has_one x.worker (zs ++ y ∷ ys)) h)

-- a row's lease is pushed, if it has one
pub pushed_if_any : (xs after : List Lease) (r : Option Lease) (y : Lease) → r ≡ Some y → IfSome r (λ l. list_any (λ m. m.worker == l.worker) xs ≡ false) →
    after ≡ filter (λ l. not (l.worker == y.worker)) xs ++ y ∷ [] → after ≡ xs ++ leases_of (r ∷ [])
pushed_if_any xs after r y e h p =
    p ∙ ap (λ ls. ls ++ y ∷ []) (none_taken y.worker xs (subst (λ q. IfSome q (λ l. list_any (λ m. m.worker == l.worker) xs ≡ false)) e h))
    ∙ ap (λ q. xs ++ leases_of (q ∷ [])) (sym e)

next_here : (again : List Lease) (rest : List (Option Lease)) (r : Option Lease) → AreApart (again ++ leases_of (r ∷ rest)) →
    IfSome r (λ l. list_any (λ m. m.worker == l.worker) again ≡ false)
next_here again rest None d = tt
next_here again rest (Some l) d = apart_before again (leases_of rest) l d

-- the next row's isn't of a worker that has one before it
pub next_apart : (again : List Lease) (seen rows : List (Option Lease)) (i : ℕ) (r : Option Lease) → AreApart (leases_of seen) → rows ≡ seen →
    again ++ leases_of (drop i rows) ≡ leases_of rows → i < length rows → r ≡ get_or rows i r →
    IfSome r (λ l. list_any (λ m. m.worker == l.worker) again ≡ false)
next_apart again seen rows i r d s e l g =
    let here : drop i rows ≡ r ∷ drop (i + 1) rows = drop_more rows i r l ∙ ap (λ x. x ∷ drop (i + 1) rows) (sym g) in
    next_here again (drop (i + 1) rows) r (subst AreApart (sym (ap (λ xs. again ++ leases_of xs) (sym here) ∙ e ∙ ap leases_of s)) d)
