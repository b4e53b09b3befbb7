-- Each item of a list changed in its place, one after the other.
use Rattle.std.proofs.Common.{◌≡◌, ℕ, zero, suc, ◌+◌, ◌<◌, ◌∷◌, ◌++◌, [], List, Some, ap, arith, drop, length, map, refl, sym, take, ◌∙◌}
use Rattle.std.specs.Prelude.{slice_get, slice_set}

module _ {X : Type 0} (f : X → X) where
  -- those before the place are changed
  abbrev changed_to : List X → ℕ → List X
  changed_to xs i = map f (take i xs) ++ drop i xs

  some_is : (x y : X) → Some x ≡ Some y → x ≡ y
  some_is x y e = cc

  next : (xs : List X) (i : ℕ) (x : X) → slice_get (changed_to xs i) i ≡ Some x → slice_set (changed_to xs i) i (f x) ≡ changed_to xs (suc i)
  next [] zero x e = absurd cc
  next [] (suc i) x e = absurd cc
  next (y ∷ ys) zero x e = ap (λ z. f z ∷ ys) (sym (some_is y x e))
  next (y ∷ ys) (suc i) x e = ap (λ zs. f y ∷ zs) (next ys i x e)

  pub one_lost : (xs ys zs : List X) (i : ℕ) (x : X) → ys ≡ map f (take i xs) ++ drop i xs → slice_get ys i ≡ Some x → zs ≡ slice_set ys i (f x) →
      zs ≡ map f (take (i + 1) xs) ++ drop (i + 1) xs
  one_lost xs ys zs i x so_far g e =
      let s : i + 1 ≡ suc i = omega arith in
      e ∙ ap (λ us. slice_set us i (f x)) so_far ∙ next xs i x (ap (λ us. slice_get us i) (sym so_far) ∙ g) ∙ ap (changed_to xs) (sym s)

  whole : (xs : List X) → map f (take (length xs) xs) ++ drop (length xs) xs ≡ map f xs
  whole [] = refl
  whole (x ∷ xs) = ap (λ ys. f x ∷ ys) (whole xs)

  pub all_lost : (xs ys : List X) (n : ℕ) → n ≡ length xs → ys ≡ map f (take n xs) ++ drop n xs → ys ≡ map f xs
  all_lost xs ys n e so_far = so_far ∙ ap (λ m. map f (take m xs) ++ drop m xs) e ∙ whole xs

  same_length : (xs : List X) (i : ℕ) → length (changed_to xs i) ≡ length xs
  same_length [] zero = refl
  same_length [] (suc i) = refl
  same_length (x ∷ xs) zero = refl
  same_length (x ∷ xs) (suc i) = ap suc (same_length xs i)

  pub as_many : (xs ys : List X) (i : ℕ) → ys ≡ map f (take i xs) ++ drop i xs → length ys ≡ length xs
  as_many xs ys i so_far = ap length so_far ∙ same_length xs i
