-- Where objects are added one by one, one that isn't there yet wasn't there before.
use Rattle.std.proofs.Common.{◌≡◌, ◌<◌, ℕ, zero, suc, List, [], ◌∷◌, length, get_or, take, refl, sym, ap, ◌∙◌, arith}
use Rattle.std.specs.Prelude.{Bool, true, false, not, ◌||◌}
use Rattle.std.specs.List.{list_any}
use Rattle.meaning.specs.Values.{Id}
use Rattle.protocol.specs.Sets.{has_id}

false_true : false ≡ true → ⊥
false_true e = cc

left_false : (a b : Bool) → (a || b) ≡ false → a ≡ false
left_false true b e = e
left_false false b e = refl

right_false : (a b : Bool) → (a || b) ≡ false → b ≡ false
right_false true b e = absurd (false_true (sym e))
right_false false b e = e

none_before : {X : Type 0} (p : X → Bool) (n : ℕ) (xs : List X) → list_any p xs ≡ false → list_any p (take n xs) ≡ false
none_before p zero xs e = refl
none_before p (suc n) [] e = refl
none_before p (suc n) (x ∷ xs) e =
    ap (λ b. b || list_any p (take n xs)) (left_false (p x) (list_any p xs) e) ∙ none_before p n xs (right_false (p x) (list_any p xs) e)

or_true : (a : Bool) → (a || true) ≡ true
or_true true = refl
or_true false = refl

one_there : {X : Type 0} (p : X → Bool) (xs : List X) (i : ℕ) (x : X) → i < length xs → x ≡ get_or xs i x → p x ≡ true → list_any p xs ≡ true
one_there p [] i x l g e = absurd (omega (arith, l))
one_there p (y ∷ xs) zero x l g e = ap (λ b. b || list_any p xs) (ap p (sym g) ∙ e)
one_there p (y ∷ xs) (suc i) x l g e = ap (λ b. p y || b) (one_there p xs i x (omega (arith, l)) g e) ∙ or_true (p y)

pub one_is_new : (old ids more : List Id) (before i : ℕ) (o : Id) → take before ids ≡ old → i < length more → o ≡ get_or more i o → has_id ids o ≡ false
    → list_any (λ p. not (has_id old p)) more ≡ true
one_is_new old ids more before i o same l g e =
    one_there (λ p. not (has_id old p)) more i o l g (ap (λ xs. not (has_id xs o)) (sym same) ∙ ap not (none_before _ before ids e))
