-- What is copied of a list, one item after the other.
use Rattle.std.proofs.Common.{◌≡◌, ℕ, zero, suc, ◌+◌, ◌∷◌, ◌++◌, [], List, Some, ap, arith, length, refl, sym, take, ◌∙◌}
use Rattle.std.specs.Prelude.{slice_get}

module _ {X : Type 0} where
  some_is : (x y : X) → Some x ≡ Some y → x ≡ y
  some_is x y e = cc

  next : (xs : List X) (i : ℕ) (x : X) → slice_get xs i ≡ Some x → take i xs ++ x ∷ [] ≡ take (suc i) xs
  next [] i x e = absurd cc
  next (y ∷ ys) zero x e = ap (λ z. z ∷ []) (sym (some_is y x e))
  next (y ∷ ys) (suc i) x e = ap (λ zs. y ∷ zs) (next ys i x e)

  pub one_more : (xs made more : List X) (i : ℕ) (x y : X) → made ≡ take i xs → slice_get xs i ≡ Some x → y ≡ x → more ≡ made ++ y ∷ [] → more ≡ take (i + 1) xs
  one_more xs made more i x y so_far g same e =
      let s : i + 1 ≡ suc i = omega arith in
      e ∙ ap (λ z. made ++ z ∷ []) same ∙ ap (λ zs. zs ++ x ∷ []) so_far ∙ next xs i x g ∙ ap (λ j. take j xs) (sym s)

  whole : (xs : List X) → take (length xs) xs ≡ xs
  whole [] = refl
  whole (x ∷ xs) = ap (λ ys. x ∷ ys) (whole xs)

  pub take_whole : (xs made : List X) (n : ℕ) → n ≡ length xs → made ≡ take n xs → made ≡ xs
  take_whole xs made n e so_far = so_far ∙ ap (λ m. take m xs) e ∙ whole xs
