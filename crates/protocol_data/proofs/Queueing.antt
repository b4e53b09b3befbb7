-- A list without its first so many, as one joins its end, or leaves it.
use Rattle.std.proofs.Common.{◌≡◌, ℕ, zero, suc, ◌+◌, ◌-◌, ◌≤◌, ◌∷◌, ◌++◌, [], List, refl, ap, ◌∙◌, arith, length, length-append, drop, take}
use Rattle.std.proofs.Math.Seq.{take-append_seam}

module _ {X : Type 0} where
  pub drop_push : (xs : List X) (x : X) (n : ℕ) → n ≤ length xs → drop n (xs ++ x ∷ []) ≡ drop n xs ++ x ∷ []
  drop_push xs x zero l = refl
  drop_push [] x (suc n) l = absurd (omega (arith, l))
  drop_push (y ∷ xs) x (suc n) l = drop_push xs x n (omega (arith, l))

  pub drop_more : (xs : List X) (n : ℕ) → drop (n + 1) xs ≡ drop 1 (drop n xs)
  drop_more xs n = let s : n + 1 ≡ suc n = omega arith in ap (λ m. drop m xs) s ∙ by_suc xs n
    where
      by_suc : (xs : List X) (n : ℕ) → drop (suc n) xs ≡ drop 1 (drop n xs)
      by_suc [] zero = refl
      by_suc [] (suc n) = refl
      by_suc (y ∷ xs) zero = refl
      by_suc (y ∷ xs) (suc n) = by_suc xs n

  none_left : (xs : List X) (n : ℕ) → length xs ≤ n → [] ≡ drop n xs
  none_left [] zero l = refl
  none_left [] (suc n) l = refl
  none_left (y ∷ xs) zero l = absurd (omega (arith, l))
  none_left (y ∷ xs) (suc n) l = none_left xs n (omega (arith, l))

  pub all_gone : (xs : List X) (n : ℕ) → n + 1 ≡ length xs → [] ≡ drop 1 (drop n xs)
  all_gone xs n l = none_left xs (n + 1) (omega (arith, l)) ∙ drop_more xs n

  not_none : (xs : List X) (x : X) → [] ≡ xs ++ x ∷ [] → ⊥
  not_none [] x e = cc
  not_none (y ∷ xs) x e = cc

  none_of : (n : ℕ) → ◌≡◌ {A = List X} [] (drop n [])
  none_of zero = refl
  none_of (suc n) = refl

  last_gone : (rows : List X) (m n : ℕ) (xs : List X) (x : X) → m + 1 ≡ length rows → drop n rows ≡ xs ++ x ∷ [] → drop n (take m rows) ≡ xs
  last_gone rows m zero xs x l e =
      let a = length-append xs (x ∷ []) in
      let b = ap length e in
      let s : m ≡ length xs = omega (arith, l, a, b) in
      ap (take m) e ∙ ap (λ k. take k (xs ++ x ∷ [])) s ∙ take-append_seam xs (x ∷ [])
  last_gone [] m (suc n) xs x l e = absurd (omega (arith, l))
  last_gone (y ∷ []) zero (suc n) xs x l e = absurd (not_none xs x (none_of n ∙ e))
  last_gone (y ∷ z ∷ rows) zero (suc n) xs x l e = absurd (omega (arith, l))
  last_gone (y ∷ rows) (suc m) (suc n) xs x l e = last_gone rows m n xs x (omega (arith, l)) e

  pub without_last : (rows : List X) (n : ℕ) (xs : List X) (x : X) → drop n rows ≡ xs ++ x ∷ [] → drop n (take (length rows - 1) rows) ≡ xs
  without_last [] n xs x e = absurd (not_none xs x (none_of n ∙ e))
  without_last (y ∷ rows) n xs x e = last_gone (y ∷ rows) (length (y ∷ rows) - 1) n xs x (omega arith) e
