-- The index over an owner's objects: what is looked at, passed over or changed leaves it right.
use Rattle.std.proofs.Common.{◌≡◌, ◌≢◌, ℕ, ◌+◌, ◌<◌, ◌≤◌, ◌⊎◌, inl, inr, Bool, true, false, List, Option, Some, None, refl, sym, ap, subst, ◌∙◌, arith, nat_lt, zero, suc}
use Rattle.std.proofs.lemmas.Bool.Decides.{nat_tests}
use Rattle.std.specs.Prelude.{not, ◌&&◌, ◌||◌, ◌++◌, ◌∷◌, [], length, slice_get, slice_set}
use Rattle.sequence.proofs.Places.{slice_get-push_cases, slice_get-set_cases, slice_get-set_other, slice_get_below}
use Rattle.flags.specs.Blocks.{AreDown}
use Rattle.event_log.specs.Entries.{Attempt}
use Rattle.event_log.proofs.WordLaws.{same_attempt-true}
use Rattle.protocol_data.specs.declared.tables.Object.{Object}
use Rattle.protocol_data.specs.Bearers.{is_same_bearer}
use Rattle.protocol_data.specs.Searches.{IsLookedOver}
use Rattle.protocol_data.specs.Unneeded.{AllStay, AreKept, AreNotKept, Goes, IsNotKept, IsSearched, is_borne_by, is_kept, is_unneeded, stays}

some_is : {X : Type 0} (x y : X) → Some x ≡ Some y → x ≡ y
some_is x y e = cc

pub between : (i k : ℕ) → (i < k) ⊎ (k ≤ i)
between i zero = inr (omega arith)
between zero (suc k) = inl (omega arith)
between (suc i) (suc k) = elim (between i k) [ inl m ↦ inl (omega (arith, m)) | inr m ↦ inr (omega (arith, m)) ]

pub one_kept : (xs : List Object) (from place own : ℕ) (b : Option Attempt) (y : Object) → AreKept xs from place b own → slice_get xs place ≡ Some y →
    is_kept b own place y ≡ true → AreKept xs from (place + 1) b own
one_kept xs from place own b y p g k i x low less e =
    elim (here i place less) [
      | inl l ↦ p i x low l e
      | inr s ↦ let same : y ≡ x = some_is y x (sym g ∙ ap (slice_get xs) (sym s) ∙ e) in ap (is_kept b own i) (sym same) ∙ ap (λ j. is_kept b own j y) s ∙ k
    ]
  where
    here : (i place : ℕ) → i < place + 1 → (i < place) ⊎ (i ≡ place)
    here zero zero l = inr refl
    here zero (suc q) l = inl (omega (arith, l))
    here (suc j) zero l = absurd (omega (arith, l))
    here (suc j) (suc q) l = elim (here j q (omega (arith, l))) [ inl m ↦ inl (omega (arith, m)) | inr s ↦ inr (ap suc s) ]

below : (own i : ℕ) → i < own → nat_lt i own ≡ true
below own i l = grind (arith, nat_tests, l)

freed : (u l d e : Bool) → l ≡ true → (not u || (not l && d)) ≡ true → (not u || e) ≡ true
freed true true d e h k = absurd cc
freed false true d e h k = refl
freed u false d e h k = absurd cc

-- what was borne before counts as seen whatever attempt goes on
pub attended : (xs : List Object) (seen seen' own : ℕ) (fs : List Bool) (b other : Option Attempt) → IsSearched xs seen fs b own → seen' ≤ seen → seen' ≤ own →
    IsSearched xs seen' fs other seen'
attended xs seen seen' own fs b other p l m i x less down e =
    freed (is_unneeded x) (nat_lt i own) (is_borne_by b x) (not (nat_lt i seen') && is_borne_by other x) (below own i (omega (arith, less, m)))
    (p i x (omega (arith, less, l)) down e)

staying : (u l d : Bool) → (not u || (not l && d)) ≡ true → (not u || d) ≡ true
staying false l d h = refl
staying true false d h = h
staying true true d h = absurd cc

borne_same : (b going_on : Option Attempt) (x : Object) → is_same_bearer b going_on ≡ true → is_borne_by b x ≡ is_borne_by going_on x
borne_same None None x h = refl
borne_same None (Some c) x h = absurd cc
borne_same (Some a) None x h = absurd cc
borne_same (Some a) (Some c) x h = ap (λ o. is_borne_by (Some o) x) (same_attempt-true a c h)

pub kept_stays : (b going_on : Option Attempt) (own i : ℕ) (x : Object) → is_same_bearer b going_on ≡ true → is_kept b own i x ≡ true → stays going_on x ≡ true
kept_stays b going_on own i x h k =
    ap (λ d. not (is_unneeded x) || d) (sym (borne_same b going_on x h)) ∙ staying (is_unneeded x) (nat_lt i own) (is_borne_by b x) k

there : {X : Type 0} (xs : List X) (i : ℕ) (x : X) → slice_get xs i ≡ Some x → i < length xs
there [] i x e = absurd cc
there (y ∷ ys) zero x e = omega arith
there (y ∷ ys) (suc i) x e = omega (arith, there ys i x e)

-- so a search passes over them
pub passed : (xs : List Object) (seen own here next : ℕ) (fs : List Bool) (b going_on : Option Attempt) → length fs ≡ length xs → IsSearched xs seen fs b own →
    is_same_bearer b going_on ≡ true → AreDown fs here next → (next ≤ here) ⊎ (next ≤ seen) → AllStay xs here next going_on
passed xs seen own here next fs b going_on long p h down sure i x low less e =
    elim sure [
      | inl none ↦ absurd (omega (arith, low, less, none))
      | inr some ↦ kept_stays b going_on own i x h (p i x (omega (arith, less, some)) is_down e)
    ]
  where
    is_down : slice_get fs i ≡ Some false
    is_down =
        let flag = slice_get_below fs i (omega (arith, there xs i x e, long)) in
        flag.1 ∙ ap Some (down i flag.0 low less flag.1)

pub seen_less : (xs : List Object) (seen seen' own : ℕ) (fs : List Bool) (b : Option Attempt) → IsSearched xs seen fs b own → seen' ≤ seen → IsSearched xs seen' fs b own
seen_less xs seen seen' own fs b p l i x less down e = p i x (omega (arith, less, l)) down e

-- what comes at the end was never looked at
pub grown : (xs : List Object) (seen own : ℕ) (fs : List Bool) (b : Option Attempt) (y : Object) (f : Bool) → length fs ≡ length xs → IsSearched xs seen fs b own →
    seen ≤ length xs → IsSearched (xs ++ y ∷ []) seen (fs ++ f ∷ []) b own
grown xs seen own fs b y f long p l i x less down e =
    elim (slice_get-push_cases xs y i x e) [
      | inl m ↦ elim (slice_get-push_cases fs f i false down) [ inl d ↦ p i x less d m | inr r ↦ absurd (omega (arith, less, l, r.0, long)) ]
      | inr r ↦ absurd (omega (arith, less, l, r.0))
    ]

-- what is lent may become whatever it will
pub changed : (xs : List Object) (seen own place : ℕ) (fs fs' : List Bool) (b : Option Attempt) (y : Object) → IsSearched xs seen fs b own →
    (place < seen → fs' ≡ slice_set fs place true) → (seen ≤ place → fs' ≡ fs) → IsSearched (slice_set xs place y) seen fs' b own
changed xs seen own place fs fs' b y p marked unseen i x less down e =
    elim (slice_get-set_cases xs place i y x e) [
      | inl s ↦ absurd (is_marked (marked (omega (arith, less, s.0))) s.0)
      | inr s ↦ p i x less (was_down s.0 (between place seen)) s.1
    ]
  where
    is_marked : fs' ≡ slice_set fs place true → i ≡ place → ⊥
    is_marked m s =
        elim (slice_get-set_cases fs place i true false (sym (ap (λ gs. slice_get gs i) m) ∙ down)) [ inl q ↦ not_true q.1 | inr q ↦ q.0 s ]
      where
        not_true : false ≡ true → ⊥
        not_true h = cc

    was_down : i ≢ place → (place < seen) ⊎ (seen ≤ place) → slice_get fs i ≡ Some false
    was_down other (inl l) = sym (slice_get-set_other fs place i true other) ∙ sym (ap (λ gs. slice_get gs i) (marked l)) ∙ down
    was_down other (inr l) = sym (ap (λ gs. slice_get gs i) (unseen l)) ∙ down

kept_for_none : (own own' i : ℕ) (x : Object) → is_kept None own i x ≡ true → is_kept None own' i x ≡ true
kept_for_none own own' i x k = by_cases (is_unneeded x) (nat_lt i own) (nat_lt i own') k
  where
    by_cases : (u l m : Bool) → (not u || (not l && false)) ≡ true → (not u || (not m && false)) ≡ true
    by_cases false l m h = refl
    by_cases true true m h = absurd cc
    by_cases true false m h = absurd cc

-- what was looked at counts as seen
pub settled : (xs : List Object) (seen seen' own own' : ℕ) (fs : List Bool) (b : Option Attempt) → IsSearched xs seen fs b own → AreKept xs seen seen' b own →
    (own' ≡ own) ⊎ (b ≡ None) → IsSearched xs seen' fs b own'
settled xs seen seen' own own' fs b p r o i x less down e = moved b o (looked_at (between i seen))
  where
    looked_at : (i < seen) ⊎ (seen ≤ i) → is_kept b own i x ≡ true
    looked_at (inl early) = p i x early down e
    looked_at (inr late) = r i x late less e

    moved : (b : Option Attempt) → (own' ≡ own) ⊎ (b ≡ None) → is_kept b own i x ≡ true → is_kept b own' i x ≡ true
    moved b (inl s) k = ap (λ n. is_kept b n i x) s ∙ k
    moved None (inr s) k = kept_for_none own own' i x k
    moved (Some a) (inr s) k = absurd cc

pub both_stay : (xs : List Object) (from place next : ℕ) (going_on : Option Attempt) → AllStay xs from place going_on → AllStay xs place next going_on →
    AllStay xs from next going_on
both_stay xs from place next going_on p q i x low less e = elim (between i place) [ inl k ↦ p i x low k e | inr k ↦ q i x k less e ]

pub one_more_stays : (xs : List Object) (from place next : ℕ) (going_on : Option Attempt) (y : Object) → AllStay xs from place going_on →
    AllStay xs place next going_on → slice_get xs next ≡ Some y → stays going_on y ≡ true → AllStay xs from (next + 1) going_on
one_more_stays xs from place next going_on y p q g k i x low less e =
    elim (here i next less) [
      | inl l ↦ both_stay xs from place next going_on p q i x low l e
      | inr s ↦ let same : y ≡ x = some_is y x (sym g ∙ ap (slice_get xs) (sym s) ∙ e) in ap (stays going_on) (sym same) ∙ k
    ]
  where
    here : (i place : ℕ) → i < place + 1 → (i < place) ⊎ (i ≡ place)
    here zero zero l = inr refl
    here zero (suc q) l = inl (omega (arith, l))
    here (suc j) zero l = absurd (omega (arith, l))
    here (suc j) (suc q) l = elim (here j q (omega (arith, l))) [ inl m ↦ inl (omega (arith, m)) | inr s ↦ inr (ap suc s) ]

-- behind the last one there is none that goes
pub none_behind : (xs : List Object) (i : ℕ) (going_on : Option Attempt) → length xs ≤ i → Goes xs i going_on
none_behind xs i going_on past x e = absurd (omega (arith, past, there xs i x e))

pub none_kept_behind : (xs : List Object) (i own : ℕ) (b : Option Attempt) → length xs ≤ i → IsNotKept xs i b own
none_kept_behind xs i own b past x e = absurd (omega (arith, past, there xs i x e))

pub goes_there : (xs : List Object) (i : ℕ) (going_on : Option Attempt) (y : Object) → slice_get xs i ≡ Some y → stays going_on y ≡ false → Goes xs i going_on
goes_there xs i going_on y g k x e = let same : y ≡ x = some_is y x (sym g ∙ e) in ap (stays going_on) (sym same) ∙ k

pub not_kept_there : (xs : List Object) (i own : ℕ) (b : Option Attempt) (y : Object) → slice_get xs i ≡ Some y → is_kept b own i y ≡ false → IsNotKept xs i b own
not_kept_there xs i own b y g k x e = let same : y ≡ x = some_is y x (sym g ∙ e) in ap (is_kept b own i) (sym same) ∙ k

-- ---- what is looked at from its ends

not_kept_for_none : (own own' i : ℕ) (x : Object) → is_kept None own i x ≡ false → is_kept None own' i x ≡ false
not_kept_for_none own own' i x k = by_cases (is_unneeded x) (nat_lt i own) (nat_lt i own') k
  where
    by_cases : (u l m : Bool) → (not u || (not l && false)) ≡ false → (not u || (not m && false)) ≡ false
    by_cases false l m h = absurd cc
    by_cases true l true h = refl
    by_cases true l false h = refl

not_kept_moved : (xs : List Object) (i own own' : ℕ) (b : Option Attempt) → (own' ≡ own) ⊎ (b ≡ None) → IsNotKept xs i b own → IsNotKept xs i b own'
not_kept_moved xs i own own' b (inl s) k x e = ap (λ n. is_kept b n i x) s ∙ k x e
not_kept_moved xs i own own' None (inr s) k x e = not_kept_for_none own own' i x (k x e)
not_kept_moved xs i own own' (Some a) (inr s) k x e = absurd cc

pub looked_over : (xs : List Object) (seen own own' len : ℕ) (fs : List Bool) (b : Option Attempt) → len ≡ length xs → (own' ≡ own) ⊎ (b ≡ None) →
    AreNotKept xs fs b own → (len ≤ seen) ⊎ IsNotKept xs seen b own → IsLookedOver xs (record { seen = seen; changed = fs; bearer = b; own_from = own' })
looked_over xs seen own own' len fs b end moved marked rest = record {
  seen = elim rest [ inl l ↦ inl (omega (arith, l, end)) | inr k ↦ inr (not_kept_moved xs seen own own' b moved k) ];
  changed = λ i up. not_kept_moved xs i own own' b moved (marked i up);
}

pub length_set : {X : Type 0} (xs : List X) (i : ℕ) (x : X) → length (slice_set xs i x) ≡ length xs
length_set [] i x = refl
length_set (y ∷ xs) zero x = refl
length_set (y ∷ xs) (suc i) x = ap suc (length_set xs i x)

-- ---- a mark is taken from what is kept

module _ (xs : List Object) (fs : List Bool) (b : Option Attempt) (own place next : ℕ) (down : AreDown fs place next) where
  pub lowered : (seen : ℕ) (y : Object) → slice_get xs next ≡ Some y → is_kept b own next y ≡ true → IsSearched xs seen fs b own →
      IsSearched xs seen (slice_set fs next false) b own
  lowered seen y g k p i x less is_down e =
      elim (slice_get-set_cases fs next i false false is_down) [
        | inl s ↦ let same : y ≡ x = some_is y x (sym g ∙ ap (slice_get xs) (sym s.0) ∙ e) in
            ap (is_kept b own i) (sym same) ∙ ap (λ j. is_kept b own j y) s.0 ∙ k
        | inr s ↦ p i x less s.1 e
      ]

  not_down : (f : Bool) → f ≡ true → f ≡ false → ⊥
  not_down f h k = cc

  early : ((i : ℕ) → i < place → slice_get fs i ≡ Some true → IsNotKept xs i b own) → (i : ℕ) → i < next → slice_get fs i ≡ Some true → IsNotKept xs i b own
  early before i less up = elim (between i place) [ inl l ↦ before i l up | inr l ↦ absurd (not_down true refl (down i true l less up)) ]

  pub before_lowered : ((i : ℕ) → i < place → slice_get fs i ≡ Some true → IsNotKept xs i b own) → (i : ℕ) → i < next + 1 →
      slice_get (slice_set fs next false) i ≡ Some true → IsNotKept xs i b own
  before_lowered before i less up =
      elim (slice_get-set_cases fs next i false true up) [
        | inl s ↦ absurd (not_down true refl s.1)
        | inr s ↦ elim (between i next) [ inl l ↦ early before i l s.1 | inr l ↦ absurd (s.0 (omega (arith, less, l))) ]
      ]

  pub before_left : ((i : ℕ) → i < place → slice_get fs i ≡ Some true → IsNotKept xs i b own) → IsNotKept xs next b own → (i : ℕ) → i < next + 1 →
      slice_get fs i ≡ Some true → IsNotKept xs i b own
  before_left before left i less up =
      elim (between i next) [
        | inl l ↦ early before i l up
        | inr l ↦ let same : next ≡ i = omega (arith, less, l) in subst (λ j. IsNotKept xs j b own) same left
      ]

  pub none_above : ((i : ℕ) → i < place → slice_get fs i ≡ Some true → IsNotKept xs i b own) → length fs ≤ next → AreNotKept xs fs b own
  none_above before end i up = early before i (omega (arith, there fs i true up, end)) up

pub all_before : (xs : List Object) (fs : List Bool) (b : Option Attempt) (own place : ℕ) →
    ((i : ℕ) → i < place → slice_get fs i ≡ Some true → IsNotKept xs i b own) → length fs ≤ place → AreNotKept xs fs b own
all_before xs fs b own place before end i up = before i (omega (arith, there fs i true up, end)) up
