-- What lies outside of a shelf's bounds isn't on it, and shelves keep their copies within their bounds.
use Rattle.std.proofs.Common.{◌≡◌, ℕ, zero, suc, ◌+◌, ◌≤◌, ◌<◌, ◌⊎◌, inl, inr, ◌∷◌, ◌++◌, [], Bool, true, false, List, Option, Some, None, refl, sym, ap, ◌∙◌, add-one, arith, cond, drop, drop-cons, get_or, length, nat_lt, slice_index_or, subst}
use Rattle.std.proofs.lemmas.Bool.Decides.{nat_tests}
use Rattle.std.proofs.lemmas.List.Elements.{filter-append}
use Rattle.std.proofs.lemmas.Option.{slice_get_read}
use Rattle.sequence.proofs.Places.{slice_get-set_cases}
use Rattle.std.specs.Prelude.{not, ◌==◌, slice_get, slice_set}
use Rattle.std.specs.List.{filter, find}
use Rattle.std.specs.Option.{option_or}
use Rattle.std.proofs.lemmas.List.Folds.{find-append}
use Rattle.meaning.specs.Births.{same_id}
use Rattle.meaning.specs.Values.{Id}
use Rattle.meaning.proofs.BirthLaws.{same_id-true}
use Rattle.sequence.proofs.Places.{and_left}
use Rattle.protocol_data.specs.declared.copies.Shelf.{Shelf}
use Rattle.protocol_data.specs.declared.spans.Span.{Span}
use Rattle.protocol_data.specs.declared.store.Copy.{Copy}
use Rattle.protocol_data.specs.Shelves.{AreShelved, AreWithin, HaveNoneBefore, IsWithin, copies_on, is_sought}

true_false : true ≡ false → ⊥
true_false e = cc

-- ---- bounds

sought_object : (o : Id) (n : Option ℕ) (x : Copy) → is_sought o n x ≡ true → x.object ≡ o
sought_object o None x h = same_id-true x.object o h
sought_object o (Some n) x h = same_id-true x.object o (and_left (same_id x.object o) (x.number == n) h)

not_sought : (s : Span) (o : Id) (n : Option ℕ) (x : Copy) → (IsWithin s o → ⊥) → IsWithin s x.object → is_sought o n x ≡ false
not_sought s o n x f w = other (is_sought o n x) refl
  where
    other : (b : Bool) → is_sought o n x ≡ b → b ≡ false
    other false e = refl
    other true e = absurd (f (subst (IsWithin s) (sought_object o n x e) w))

pub none_here : (s : Span) (xs : List Copy) (o : Id) (n : Option ℕ) → AreWithin s xs → (IsWithin s o → ⊥) → find (is_sought o n) xs ≡ None
none_here s [] o n w f = refl
none_here s (x ∷ xs) o n w f =
    ap (λ b. cond b (Some x) (find (is_sought o n) xs)) (not_sought s o n x f w.0) ∙ none_here s xs o n w.1 f

pub all_stay : (s : Span) (xs : List Copy) (o : Id) (n : Option ℕ) → AreWithin s xs → (IsWithin s o → ⊥) → filter (λ x. not (is_sought o n x)) xs ≡ xs
all_stay s [] o n w f = refl
all_stay s (x ∷ xs) o n w f =
    ap (λ b. cond (not b) (x ∷ filter (λ x. not (is_sought o n x)) xs) (filter (λ x. not (is_sought o n x)) xs)) (not_sought s o n x f w.0)
    ∙ ap (λ ys. x ∷ ys) (all_stay s xs o n w.1 f)

pub within_filter : (s : Span) (q : Copy → Bool) (xs : List Copy) → AreWithin s xs → AreWithin s (filter q xs)
within_filter s q [] w = tt
within_filter s q (x ∷ xs) w = by_test (within_filter s q xs w.1) (q x)
  where
    by_test : AreWithin s (filter q xs) → (b : Bool) → AreWithin s (cond b (x ∷ filter q xs) (filter q xs))
    by_test rest true = (w.0, rest)
    by_test rest false = rest

pub within_more : (s wider : Span) (xs : List Copy) → ((o : Id) → IsWithin s o → IsWithin wider o) → AreWithin s xs → AreWithin wider xs
within_more s wider [] f w = tt
within_more s wider (x ∷ xs) f w = (f x.object w.0, within_more s wider xs f w.1)

pub within_push : (s : Span) (xs : List Copy) (y : Copy) → AreWithin s xs → IsWithin s y.object → AreWithin s (xs ++ y ∷ [])
within_push s [] y w h = (h, tt)
within_push s (x ∷ xs) y w h = (w.0, within_push s xs y w.1 h)

-- others stay, and one is put behind them
pub within_put : (s wider : Span) (q : Copy → Bool) (xs ys zs : List Copy) (y : Copy) → ((o : Id) → IsWithin s o → IsWithin wider o) → IsWithin wider y.object → AreWithin s xs →
    zs ≡ ys ++ y ∷ [] → ys ≡ filter q xs → AreWithin wider zs
within_put s wider q xs ys zs y kept has w e f =
    subst (λ us. AreWithin wider us) (sym (e ∙ ap (λ us. us ++ y ∷ []) f))
    (within_push wider (filter q xs) y (within_filter wider q xs (within_more s wider xs kept w)) has)

-- ---- searches

pub found_first : (p : Copy → Bool) (xs ys : List Copy) (x : Copy) → find p xs ≡ Some x → find p (xs ++ ys) ≡ Some x
found_first p xs ys x e = find-append p xs ys ∙ ap (λ o. option_or o (find p ys)) e

pub found_further : (p : Copy → Bool) (xs ys : List Copy) → find p xs ≡ None → find p (xs ++ ys) ≡ find p ys
found_further p xs ys e = find-append p xs ys ∙ ap (λ o. option_or o (find p ys)) e

-- where none is found all stay
pub none_found : (o : Id) (n : Option ℕ) (xs : List Copy) → find (is_sought o n) xs ≡ None → filter (λ x. not (is_sought o n x)) xs ≡ xs
none_found o n [] h = refl
none_found o n (x ∷ xs) h = by_test (none_found o n xs) (is_sought o n x) h
  where
    by_test : (find (is_sought o n) xs ≡ None → filter (λ x. not (is_sought o n x)) xs ≡ xs) → (b : Bool) → cond b (Some x) (find (is_sought o n) xs) ≡ None →
        cond (not b) (x ∷ filter (λ x. not (is_sought o n x)) xs) (filter (λ x. not (is_sought o n x)) xs) ≡ x ∷ xs
    by_test rest true h = absurd cc
    by_test rest false h = ap (λ ys. x ∷ ys) (rest h)

-- ---- what is taken out

filter_again : (q : Copy → Bool) (xs : List Copy) → filter q (filter q xs) ≡ filter q xs
filter_again q [] = refl
filter_again q (x ∷ xs) = by_test (filter_again q xs) (q x) refl
  where
    by_test : filter q (filter q xs) ≡ filter q xs → (b : Bool) → q x ≡ b → filter q (cond b (x ∷ filter q xs) (filter q xs)) ≡ cond b (x ∷ filter q xs) (filter q xs)
    by_test rest true e = ap (λ b. cond b (x ∷ filter q (filter q xs)) (filter q (filter q xs))) e ∙ ap (λ ys. x ∷ ys) rest
    by_test rest false e = rest

some_is : {X : Type 0} (x y : X) → Some x ≡ Some y → x ≡ y
some_is x y e = cc

pub set_filter : (q : Copy → Bool) (xs : List Shelf) (i : ℕ) (s t : Shelf) → slice_get xs i ≡ Some s → t.rows ≡ filter q s.rows →
    filter q (copies_on (slice_set xs i t)) ≡ filter q (copies_on xs)
set_filter q [] i s t e r = absurd cc
set_filter q (x ∷ xs) zero s t e r =
    let same : x ≡ s = some_is x s e in
    filter-append q t.rows (copies_on xs)
    ∙ ap (λ ys. filter q ys ++ filter q (copies_on xs)) (r ∙ ap (λ (z : Shelf). filter q z.rows) (sym same))
    ∙ ap (λ ys. ys ++ filter q (copies_on xs)) (filter_again q x.rows)
    ∙ sym (filter-append q x.rows (copies_on xs))
set_filter q (x ∷ xs) (suc i) s t e r =
    filter-append q x.rows (copies_on (slice_set xs i t))
    ∙ ap (λ ys. filter q x.rows ++ ys) (set_filter q xs i s t e r)
    ∙ sym (filter-append q x.rows (copies_on xs))

pub shelved_at : (xs : List Shelf) (i : ℕ) (s : Shelf) → AreShelved xs → slice_get xs i ≡ Some s → AreWithin s.span s.rows
shelved_at [] i s w e = absurd cc
shelved_at (x ∷ xs) zero s w e = subst (λ (z : Shelf). AreWithin z.span z.rows) (some_is x s e) w.0
shelved_at (x ∷ xs) (suc i) s w e = shelved_at xs i s w.1 e

pub taken_within : (q : Copy → Bool) (s t : Shelf) → t.span ≡ s.span → t.rows ≡ filter q s.rows → AreWithin s.span s.rows → AreWithin t.span t.rows
taken_within q s t e r w = subst (λ sp. AreWithin sp t.rows) (sym e) (subst (λ ys. AreWithin s.span ys) (sym r) (within_filter s.span q s.rows w))

pub set_shelved : (q : Copy → Bool) (xs : List Shelf) (i : ℕ) (s t : Shelf) → AreShelved xs → slice_get xs i ≡ Some s → t.span ≡ s.span → t.rows ≡ filter q s.rows →
    AreShelved (slice_set xs i t)
set_shelved q [] i s t w e k r = absurd cc
set_shelved q (x ∷ xs) zero s t w e k r = (taken_within q s t k r (shelved_at (x ∷ xs) zero s w e), w.1)
set_shelved q (x ∷ xs) (suc i) s t w e k r = (w.0, set_shelved q xs i s t w.1 e k r)

here : (i place : ℕ) → i < place + 1 → (i < place) ⊎ (i ≡ place)
here zero zero l = inr refl
here zero (suc q) l = inl (omega (arith, l))
here (suc j) zero l = absurd (omega (arith, l))
here (suc j) (suc q) l = elim (here j q (omega (arith, l))) [ inl m ↦ inl (omega (arith, m)) | inr s ↦ inr (ap suc s) ]

pub none_so_far : (o : Id) (n : Option ℕ) (xs : List Shelf) (place : ℕ) (s t : Shelf) → HaveNoneBefore o n place xs → t.rows ≡ filter (λ x. not (is_sought o n x)) s.rows →
    HaveNoneBefore o n (place + 1) (slice_set xs place t)
none_so_far o n xs place s t p r i u less e =
    elim (slice_get-set_cases xs place i t u e) [
      | inl same ↦
          ap (λ (z : Shelf). filter (λ x. not (is_sought o n x)) z.rows) same.1
          ∙ ap (filter (λ x. not (is_sought o n x))) r
          ∙ filter_again (λ x. not (is_sought o n x)) s.rows
          ∙ sym r
          ∙ ap (λ (z : Shelf). z.rows) (sym same.1)
      | inr other ↦ elim (here i place less) [ inl l ↦ p i u l other.1 | inr s' ↦ absurd (other.0 s') ]
    ]

each_stays : (q : Copy → Bool) (xs : List Shelf) → ((i : ℕ) (s : Shelf) → slice_get xs i ≡ Some s → filter q s.rows ≡ s.rows) → filter q (copies_on xs) ≡ copies_on xs
each_stays q [] f = refl
each_stays q (x ∷ xs) f =
    filter-append q x.rows (copies_on xs)
    ∙ ap (λ ys. ys ++ filter q (copies_on xs)) (f 0 x refl)
    ∙ ap (λ ys. x.rows ++ ys) (each_stays q xs (λ i s e. f (suc i) s e))

within : {X : Type 0} (xs : List X) (i : ℕ) (x : X) → slice_get xs i ≡ Some x → i < length xs
within [] i x e = absurd cc
within (y ∷ ys) zero x e = omega arith
within (y ∷ ys) (suc i) x e = omega (arith, within ys i x e)

-- where none is on any shelf, taking them out leaves all
pub all_taken : (o : Id) (n : Option ℕ) (xs : List Shelf) (place : ℕ) → HaveNoneBefore o n place xs → length xs ≤ place →
    filter (λ x. not (is_sought o n x)) (copies_on xs) ≡ copies_on xs
all_taken o n xs place p l = each_stays (λ x. not (is_sought o n x)) xs (λ i s e. p i s (omega (arith, within xs i s e, l)) e)

-- ---- empty shelves, and the last one

nil_of : (ys : List Copy) → nat_lt 0 (length ys) ≡ false → ys ≡ []
nil_of [] h = refl
nil_of (y ∷ ys) h = absurd (grind (arith, nat_tests, h))

pub stay_full : (xs : List Shelf) → copies_on (filter (λ s. nat_lt 0 (length s.rows)) xs) ≡ copies_on xs
stay_full [] = refl
stay_full (x ∷ xs) = by_test (stay_full xs) (nat_lt 0 (length x.rows)) refl
  where
    by_test : copies_on (filter (λ s. nat_lt 0 (length s.rows)) xs) ≡ copies_on xs → (b : Bool) → nat_lt 0 (length x.rows) ≡ b →
        copies_on (cond b (x ∷ filter (λ s. nat_lt 0 (length s.rows)) xs) (filter (λ s. nat_lt 0 (length s.rows)) xs)) ≡ x.rows ++ copies_on xs
    by_test rest true e = ap (λ ys. x.rows ++ ys) rest
    by_test rest false e = rest ∙ ap (λ ys. ys ++ copies_on xs) (sym (nil_of x.rows e))

pub shelved_filter : (q : Shelf → Bool) (xs : List Shelf) → AreShelved xs → AreShelved (filter q xs)
shelved_filter q [] w = tt
shelved_filter q (x ∷ xs) w = by_test (shelved_filter q xs w.1) (q x)
  where
    by_test : AreShelved (filter q xs) → (b : Bool) → AreShelved (cond b (x ∷ filter q xs) (filter q xs))
    by_test rest true = (w.0, rest)
    by_test rest false = rest

append_nil : (xs : List Copy) → xs ++ [] ≡ xs
append_nil [] = refl
append_nil (x ∷ xs) = ap (λ ys. x ∷ ys) (append_nil xs)

append_twice : (xs ys zs : List Copy) → (xs ++ ys) ++ zs ≡ xs ++ (ys ++ zs)
append_twice [] ys zs = refl
append_twice (x ∷ xs) ys zs = ap (λ us. x ∷ us) (append_twice xs ys zs)

pub copies_push : (xs : List Shelf) (s : Shelf) → copies_on (xs ++ s ∷ []) ≡ copies_on xs ++ s.rows
copies_push [] s = append_nil s.rows
copies_push (x ∷ xs) s = ap (λ ys. x.rows ++ ys) (copies_push xs s) ∙ sym (append_twice x.rows (copies_on xs) s.rows)

pub shelved_push : (xs : List Shelf) (s : Shelf) → AreShelved xs → AreWithin s.span s.rows → AreShelved (xs ++ s ∷ [])
shelved_push [] s w h = (h, tt)
shelved_push (x ∷ xs) s w h = (w.0, shelved_push xs s w.1 h)

-- room was made for one more
pub put_behind : (before made : List Copy) (room now : List Copy) (y : Copy) → made ++ room ≡ before → now ≡ room ++ y ∷ [] → made ++ now ≡ before ++ y ∷ []
put_behind before made room now y e r = ap (λ ys. made ++ ys) r ∙ sym (append_twice made room (y ∷ [])) ∙ ap (λ ys. ys ++ y ∷ []) e

pub made_room : (xs ys zs : List Shelf) (s t : Shelf) → copies_on ys ≡ copies_on xs → zs ≡ ys ++ s ∷ [] → t.rows ≡ [] → copies_on zs ++ t.rows ≡ copies_on xs ++ s.rows
made_room xs ys zs s t e z r =
    ap (λ us. copies_on zs ++ us) r ∙ append_nil (copies_on zs) ∙ ap copies_on z ∙ copies_push ys s ∙ ap (λ us. us ++ s.rows) e

pub one_more_other : (q : Copy → Bool) (xs items : List Copy) (x : Copy) → (xs ++ filter q (x ∷ [])) ++ filter q items ≡ xs ++ filter q (x ∷ items)
one_more_other q xs items x = append_twice xs (filter q (x ∷ [])) (filter q items) ∙ ap (λ ys. xs ++ ys) (by_test (q x))
  where
    by_test : (b : Bool) → cond b (x ∷ []) [] ++ filter q items ≡ cond b (x ∷ filter q items) (filter q items)
    by_test true = refl
    by_test false = refl

-- ---- what the code looks at

from_place : (items : List Shelf) (i : ℕ) (d : Shelf) → i < length items → d ≡ get_or items i d → drop i items ≡ d ∷ drop (i + 1) items
from_place items i d l is =
    let from : drop i items ≡ get_or items i d ∷ drop (i + 1) items = rw add-one (drop-cons items i d l) in
    from ∙ ap (λ (x : Shelf). x ∷ drop (i + 1) items) (sym is)

pub found_so_far : (p : Copy → Bool) (items shelves : List Shelf) (i : ℕ) (d : Shelf) (x : Copy) → items ≡ shelves → i < length items → d ≡ get_or items i d →
    find p (copies_on (drop i items)) ≡ find p (copies_on items) → find p d.rows ≡ Some x → find p (copies_on shelves) ≡ Some x
found_so_far p items shelves i d x e l is before h =
    ap (λ ss. find p (copies_on ss)) (sym e)
    ∙ sym before
    ∙ ap (λ ss. find p (copies_on ss)) (from_place items i d l is)
    ∙ found_first p d.rows (copies_on (drop (i + 1) items)) x h

pub none_further : (p : Copy → Bool) (items : List Shelf) (i : ℕ) (d : Shelf) → i < length items → d ≡ get_or items i d →
    (find p (copies_on (drop i items)) ≡ find p (copies_on items)) × AreShelved (drop i items) → find p d.rows ≡ None →
    (find p (copies_on (drop (i + 1) items)) ≡ find p (copies_on items)) × AreShelved (drop (i + 1) items)
none_further p items i d l is before h = (
  sym (found_further p d.rows (copies_on (drop (i + 1) items)) h) ∙ ap (λ ss. find p (copies_on ss)) (sym (from_place items i d l is)) ∙ before.0,
  behind (subst AreShelved (from_place items i d l is) before.1),
)
  where
    behind : AreShelved (d ∷ drop (i + 1) items) → AreShelved (drop (i + 1) items)
    behind w = w.1

item_at : (ins xs : List Shelf) (k : ℕ) (s : Shelf) → ins ≡ xs → k < length xs → s ≡ slice_index_or ins k s → slice_get xs k ≡ Some s
item_at ins xs k s e l v = slice_get_read xs (length xs) k s refl l (v ∙ ap (λ ys. slice_index_or ys k s) e)

pub at_shelved : (o : Id) (n : Option ℕ) (ins xs : List Shelf) (k : ℕ) (s t : Shelf) → ins ≡ xs → k < length xs → s ≡ slice_index_or ins k s → AreShelved xs → t.span ≡ s.span →
    (AreWithin s.span s.rows → t.rows ≡ filter (λ x. not (is_sought o n x)) s.rows) → AreShelved (slice_set ins k t)
at_shelved o n ins xs k s t e l v w sp f =
    let at = item_at ins xs k s e l v in
    subst (λ ys. AreShelved (slice_set ys k t)) (sym e) (set_shelved (λ x. not (is_sought o n x)) xs k s t w at sp (f (shelved_at xs k s w at)))

pub at_none : (o : Id) (n : Option ℕ) (ins xs : List Shelf) (k : ℕ) (s t : Shelf) → ins ≡ xs → k < length xs → s ≡ slice_index_or ins k s → AreShelved xs →
    (AreWithin s.span s.rows → t.rows ≡ filter (λ x. not (is_sought o n x)) s.rows) → (m : ℕ) → m ≡ k → HaveNoneBefore o n m xs →
    HaveNoneBefore o n (m + 1) (slice_set ins k t)
at_none o n ins xs k s t e l v w f m same p =
    let at = item_at ins xs k s e l v in
    subst (λ ys. HaveNoneBefore o n (m + 1) (slice_set ys k t)) (sym e)
    (subst (λ j. HaveNoneBefore o n (m + 1) (slice_set xs j t)) same (none_so_far o n xs m s t p (f (shelved_at xs k s w at))))

pub at_others : (o : Id) (n : Option ℕ) (ins xs : List Shelf) (k : ℕ) (s t : Shelf) → ins ≡ xs → k < length xs → s ≡ slice_index_or ins k s → AreShelved xs →
    (AreWithin s.span s.rows → t.rows ≡ filter (λ x. not (is_sought o n x)) s.rows) →
    filter (λ x. not (is_sought o n x)) (copies_on (slice_set ins k t)) ≡ filter (λ x. not (is_sought o n x)) (copies_on xs)
at_others o n ins xs k s t e l v w f =
    let at = item_at ins xs k s e l v in
    ap (λ ys. filter (λ x. not (is_sought o n x)) (copies_on (slice_set ys k t))) e
    ∙ set_filter (λ x. not (is_sought o n x)) xs k s t at (f (shelved_at xs k s w at))
