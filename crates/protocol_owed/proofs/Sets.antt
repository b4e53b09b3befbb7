-- Lists of numbers: what stands in them once one is put in, is taken out, or is the least; and lists of the same.
use Rattle.std.proofs.Common.{◌≡◌, ◌≢◌, ℕ, zero, suc, ◌+◌, List, [], ◌∷◌, ◌++◌, Some, refl, ap, sym, subst, ◌∙◌, ◌⊎◌, inl, inr, arith}
use Rattle.std.specs.Prelude.{true, false, if◌then◌else◌, not, min, ◌==◌, ◌||◌, nat_lt}
use Rattle.std.proofs.lemmas.Bool.{eq-eqb, eqb-true}
use Rattle.std.proofs.lemmas.Bool.Decides.{nat_tests}
use Rattle.sequence.proofs.Places.{list_any-push_cases, list_any-push_right, or_cases, or_left, or_right}
use Rattle.meaning.proofs.BirthLaws.{at_test}
use Rattle.smallest_steps.specs.of_protocol.Sets.{first_item, has, least, least_from, repeated, rest_of, with_number, without_number}

pub has-push : (xs : List ℕ) (w v : ℕ) → has (xs ++ w ∷ []) v ≡ true → (has xs v ≡ true) ⊎ (w ≡ v)
has-push xs w v e = elim (list_any-push_cases (λ y. y == v) xs w e) [ inl f ↦ inl f | inr f ↦ inr (eqb-true w v f) ]

pub has-last : (xs : List ℕ) (w : ℕ) → has (xs ++ w ∷ []) w ≡ true
has-last xs w = list_any-push_right (λ y. y == w) xs w (eq-eqb w w refl)

pub has-with : (xs : List ℕ) (w v : ℕ) → has (with_number xs w) v ≡ true → (has xs v ≡ true) ⊎ (w ≡ v)
has-with xs w v e =
    at_test (λ b. has (if b then xs else xs ++ w ∷ []) v ≡ true → (has xs v ≡ true) ⊎ (w ≡ v)) (has xs w) (λ _ f. inl f) (λ _ f. has-push xs w v f) e

-- what is left is what was there
pub has-left : (xs : List ℕ) (w v : ℕ) → has (without_number xs w) v ≡ true → has xs v ≡ true
has-left [] w v e = e
has-left (x ∷ xs) w v e =
    at_test (λ b. has (if not b then x ∷ without_number xs w else without_number xs w) v ≡ true → has (x ∷ xs) v ≡ true) (x == w)
    (λ _ f. or_right (x == v) (has xs v) (has-left xs w v f))
    (λ _ f. elim (or_cases (x == v) (has (without_number xs w) v) f) [
      | inl g ↦ or_left (x == v) (has xs v) g
      | inr g ↦ or_right (x == v) (has xs v) (has-left xs w v g)
    ]) e

pub has-gone : (xs : List ℕ) (w : ℕ) → has (without_number xs w) w ≡ false
has-gone [] w = refl
has-gone (x ∷ xs) w =
    at_test (λ b. (x == w) ≡ b → has (if not b then x ∷ without_number xs w else without_number xs w) w ≡ false) (x == w)
    (λ _ _. has-gone xs w) (λ _ e. ap (λ b. b || has (without_number xs w) w) e ∙ has-gone xs w) refl

pub has-stays : (xs : List ℕ) (w v : ℕ) → w ≢ v → has xs v ≡ true → has (without_number xs w) v ≡ true
has-stays [] w v apart e = e
has-stays (x ∷ xs) w v apart e =
    at_test (λ b. (x == w) ≡ b → has (if not b then x ∷ without_number xs w else without_number xs w) v ≡ true) (x == w)
    (λ _ f. elim (or_cases (x == v) (has xs v) e) [
      | inl g ↦ absurd (apart (sym (eqb-true x w f) ∙ eqb-true x v g))
      | inr g ↦ has-stays xs w v apart g
    ])
    (λ _ f. elim (or_cases (x == v) (has xs v) e) [ inl g ↦ or_left (x == v) _ g | inr g ↦ or_right (x == v) _ (has-stays xs w v apart g) ]) refl

pub has-first : (xs : List ℕ) (w : ℕ) → first_item xs ≡ Some w → has xs w ≡ true
has-first [] w e = absurd (cc)
has-first (x ∷ xs) w e = let f : x ≡ w = cc in or_left (x == w) (has xs w) (ap (λ y. y == w) f ∙ eq-eqb w w refl)

pub has-rest : (xs : List ℕ) (v : ℕ) → has (rest_of xs) v ≡ true → has xs v ≡ true
has-rest [] v e = e
has-rest (x ∷ xs) v e = or_right (x == v) (has xs v) e

least_from-in : (x : ℕ) (xs : List ℕ) → has (x ∷ xs) (least_from x xs) ≡ true
least_from-in x [] = or_left (x == x) false (eq-eqb x x refl)
least_from-in x (y ∷ ys) =
    let e = least_from-in (min x y) ys in
    elim (or_cases (min x y == least_from (min x y) ys) (has ys (least_from (min x y) ys)) e) [
      | inl f ↦ elim (smaller x y) [
        | inl i ↦ or_left (x == least_from (min x y) ys) _ (ap (λ j. j == least_from (min x y) ys) (sym i) ∙ f)
        | inr i ↦ or_right (x == least_from (min x y) ys) _ (or_left (y == least_from (min x y) ys) _ (ap (λ j. j == least_from (min x y) ys) (sym i) ∙ f))
      ]
      | inr f ↦ or_right (x == least_from (min x y) ys) _ (or_right (y == least_from (min x y) ys) _ f)
    ]
  where
    smaller : (x y : ℕ) → (min x y ≡ x) ⊎ (min x y ≡ y)
    smaller x y =
        at_test (λ b. nat_lt x y ≡ b → (min x y ≡ x) ⊎ (min x y ≡ y)) (nat_lt x y)
        (λ _ e. inl (grind (arith, nat_tests))) (λ _ e. inr (grind (arith, nat_tests))) refl

pub least-in : (xs : List ℕ) (w : ℕ) → least xs ≡ Some w → has xs w ≡ true
least-in [] w e = absurd (cc)
least-in (x ∷ xs) w e = let f : least_from x xs ≡ w = cc in subst (λ v. has (x ∷ xs) v ≡ true) f (least_from-in x xs)

pub repeated_more : {X : Type 0} (k : ℕ) (x : X) → repeated k x ++ x ∷ [] ≡ repeated (k + 1) x
repeated_more {X} k x = more k ∙ ap (λ i. repeated i x) one
  where
    more : (k : ℕ) → repeated k x ++ x ∷ [] ≡ repeated (suc k) x
    more zero = refl
    more (suc k) = ap (λ xs. x ∷ xs) (more k)

    one : ◌≡◌ {A = ℕ} (suc k) (k + 1)
    one = omega arith
