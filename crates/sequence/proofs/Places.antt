-- What stands at a place of a list that was written, lengthened or mapped.
use Rattle.std.proofs.Common.{◌≡◌, ◌≢◌, ℕ, ◌<◌, List, [], ◌∷◌, ◌++◌, length, Some, refl, ap, arith, zero, suc, ◌⊎◌, inl, inr, map, ◌∙◌, sym}
use Rattle.std.specs.Prelude.{slice_get, slice_set, Bool, true, false, ◌&&◌, ◌||◌, if◌then◌else◌}
use Rattle.std.specs.List.{list_any, list_all, AllByRecursion}

pub slice_get-append : {X : Type 0} (xs ys : List X) (k : ℕ) (x : X) → slice_get xs k ≡ Some x → slice_get (xs ++ ys) k ≡ Some x
slice_get-append [] ys k x h = absurd (cc)
slice_get-append (y ∷ xs) ys zero x h = h
slice_get-append (y ∷ xs) ys (suc k) x h = slice_get-append xs ys k x h

pub slice_get-last : {X : Type 0} (xs : List X) (x : X) (k : ℕ) → k ≡ length xs → slice_get (xs ++ x ∷ []) k ≡ Some x
slice_get-last [] x zero e = refl
slice_get-last [] x (suc k) e = absurd (omega arith)
slice_get-last (y ∷ xs) x zero e = absurd (omega arith)
slice_get-last (y ∷ xs) x (suc k) e = slice_get-last xs x k (omega arith)

pub slice_get-push_cases : {X : Type 0} (xs : List X) (y : X) (k : ℕ) (x : X) → slice_get (xs ++ y ∷ []) k ≡ Some x → (slice_get xs k ≡ Some x) ⊎ ((k ≡ length xs) × (x ≡ y))
slice_get-push_cases [] y zero x h = inr (refl, cc)
slice_get-push_cases [] y (suc k) x h = absurd (cc)
slice_get-push_cases (z ∷ xs) y zero x h = inl h
slice_get-push_cases (z ∷ xs) y (suc k) x h =
    elim (slice_get-push_cases xs y k x h) [ inl e ↦ inl e | inr e ↦ inr (omega (arith, e.0), e.1) ]

pub slice_get-set_same : {X : Type 0} (xs : List X) (k : ℕ) (y : X) → k < length xs → slice_get (slice_set xs k y) k ≡ Some y
slice_get-set_same [] k y h = absurd (omega arith)
slice_get-set_same (z ∷ xs) zero y h = refl
slice_get-set_same (z ∷ xs) (suc k) y h = slice_get-set_same xs k y (omega arith)

pub slice_get-set_other : {X : Type 0} (xs : List X) (k j : ℕ) (y : X) → j ≢ k → slice_get (slice_set xs k y) j ≡ slice_get xs j
slice_get-set_other [] k j y h = refl
slice_get-set_other (z ∷ xs) zero zero y h = absurd (h refl)
slice_get-set_other (z ∷ xs) zero (suc j) y h = refl
slice_get-set_other (z ∷ xs) (suc k) zero y h = refl
slice_get-set_other (z ∷ xs) (suc k) (suc j) y h = slice_get-set_other xs k j y (λ e. h (ap suc e))

pub slice_get-set_cases : {X : Type 0} (xs : List X) (k j : ℕ) (y x : X) → slice_get (slice_set xs k y) j ≡ Some x → ((j ≡ k) × (x ≡ y)) ⊎ ((j ≢ k) × (slice_get xs j ≡ Some x))
slice_get-set_cases [] k j y x h = absurd (cc)
slice_get-set_cases (z ∷ xs) zero zero y x h = inl (refl, cc)
slice_get-set_cases (z ∷ xs) zero (suc j) y x h = inr (λ e. omega arith, h)
slice_get-set_cases (z ∷ xs) (suc k) zero y x h = inr (λ e. omega arith, h)
slice_get-set_cases (z ∷ xs) (suc k) (suc j) y x h =
    elim (slice_get-set_cases xs k j y x h) [ inl e ↦ inl (ap suc e.0, e.1) | inr e ↦ inr (λ f. e.0 (omega arith), e.1) ]

-- a write that the function does not see
pub map-set_same : {X Y : Type 0} (f : X → Y) (xs : List X) (k : ℕ) (x y : X) → slice_get xs k ≡ Some x → f y ≡ f x → map f (slice_set xs k y) ≡ map f xs
map-set_same f [] k x y h e = refl
map-set_same f (z ∷ xs) zero x y h e = let same : z ≡ x = cc in ap (λ u. u ∷ map f xs) (e ∙ sym (ap f same))
map-set_same f (z ∷ xs) (suc k) x y h e = ap (λ us. f z ∷ us) (map-set_same f xs k x y h e)

-- a place below the length has an element
pub slice_get_below : {X : Type 0} (xs : List X) (k : ℕ) → k < length xs → (x : X) × (slice_get xs k ≡ Some x)
slice_get_below [] k h = absurd (omega arith)
slice_get_below (x ∷ xs) zero h = (x, refl)
slice_get_below (x ∷ xs) (suc k) h = slice_get_below xs k (omega arith)

pub slice_get-append_below : {X : Type 0} (xs ys : List X) (k : ℕ) → k < length xs → slice_get (xs ++ ys) k ≡ slice_get xs k
slice_get-append_below [] ys k h = absurd (omega arith)
slice_get-append_below (x ∷ xs) ys zero h = refl
slice_get-append_below (x ∷ xs) ys (suc k) h = slice_get-append_below xs ys k (omega arith)

-- what holds of either choice holds of the choice
pub at_if : {X : Type 0} (P : X → Type 0) (b : Bool) (x y : X) → (b ≡ true → P x) → (b ≡ false → P y) → P (if b then x else y)
at_if P true x y f g = f refl
at_if P false x y f g = g refl

pub or_cases : (a b : Bool) → (a || b) ≡ true → (a ≡ true) ⊎ (b ≡ true)
or_cases true b h = inl refl
or_cases false b h = inr h

pub or_left : (a b : Bool) → a ≡ true → (a || b) ≡ true
or_left true b h = refl
or_left false b h = absurd (cc)

pub or_right : (a b : Bool) → b ≡ true → (a || b) ≡ true
or_right true b h = refl
or_right false b h = h

pub list_any-push_cases : {X : Type 0} (p : X → Bool) (xs : List X) (y : X) → list_any p (xs ++ y ∷ []) ≡ true → (list_any p xs ≡ true) ⊎ (p y ≡ true)
list_any-push_cases p [] y h = elim (or_cases (p y) false h) [ inl g ↦ inr g | inr g ↦ absurd (cc) ]
list_any-push_cases p (x ∷ xs) y h =
    elim (or_cases (p x) (list_any p (xs ++ y ∷ [])) h) [
      | inl g ↦ inl (or_left (p x) (list_any p xs) g)
      | inr g ↦ elim (list_any-push_cases p xs y g) [ inl k ↦ inl (or_right (p x) (list_any p xs) k) | inr k ↦ inr k ]
    ]

pub list_any-push_left : {X : Type 0} (p : X → Bool) (xs : List X) (y : X) → list_any p xs ≡ true → list_any p (xs ++ y ∷ []) ≡ true
list_any-push_left p [] y h = absurd (cc)
list_any-push_left p (x ∷ xs) y h =
    elim (or_cases (p x) (list_any p xs) h) [ inl g ↦ or_left (p x) (list_any p (xs ++ y ∷ [])) g | inr g ↦ or_right (p x) (list_any p (xs ++ y ∷ [])) (list_any-push_left p xs y g) ]

pub list_any-push_right : {X : Type 0} (p : X → Bool) (xs : List X) (y : X) → p y ≡ true → list_any p (xs ++ y ∷ []) ≡ true
list_any-push_right p [] y h = or_left (p y) false h
list_any-push_right p (x ∷ xs) y h = or_right (p x) (list_any p (xs ++ y ∷ [])) (list_any-push_right p xs y h)

pub and_left : (a b : Bool) → (a && b) ≡ true → a ≡ true
and_left true b h = refl
and_left false b h = h

pub and_right : (a b : Bool) → (a && b) ≡ true → b ≡ true
and_right true b h = h
and_right false b h = absurd (cc)

pub each_from_list_all : {X : Type 0} (p : X → Bool) (xs : List X) → list_all p xs ≡ true → AllByRecursion (λ x. p x ≡ true) xs
each_from_list_all p [] h = tt
each_from_list_all p (x ∷ xs) h = (and_left (p x) (list_all p xs) h, each_from_list_all p xs (and_right (p x) (list_all p xs) h))

pub not_nil_from_length : {X : Type 0} (xs : List X) → 0 < length xs → xs ≢ []
not_nil_from_length [] h e = omega arith
not_nil_from_length (x ∷ xs) h e = cc

pub append_not_nil_cases : {X : Type 0} (xs ys : List X) → xs ++ ys ≢ [] → (xs ≢ []) ⊎ (ys ≢ [])
append_not_nil_cases [] ys h = inr h
append_not_nil_cases (x ∷ xs) ys h = inl (λ e. cc)

pub nil_unless : {X : Type 0} (xs : List X) → (xs ≢ [] → ⊥) → xs ≡ []
nil_unless [] h = refl
nil_unless (x ∷ xs) h = absurd (h (λ e. cc))

pub not_nil_at : {X : Type 0} (xs : List X) (k : ℕ) (x : X) → slice_get xs k ≡ Some x → xs ≢ []
not_nil_at [] k x h e = cc
not_nil_at (y ∷ xs) k x h e = cc
