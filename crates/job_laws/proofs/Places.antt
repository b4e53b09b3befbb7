-- Items of numbered lists behind a change.
use Rattle.std.proofs.Common.{◌≡◌, ℕ, zero, suc, ◌+◌, List, [], ◌∷◌, ◌++◌, Some, length, map, refl, sym, subst, ap, arith}
use Rattle.protocol.specs.Numbered.{item_at}
use Rattle.sequence.proofs.Places.{slice_get-append, slice_get-last}
use Rattle.std.specs.Prelude.{slice_get}

pub item_before : {X : Type 0} (xs ys : List X) (n : ℕ) (x : X) → item_at xs n ≡ Some x → item_at (xs ++ ys) n ≡ Some x
item_before xs ys zero x e = absurd (cc)
item_before xs ys (suc i) x e = slice_get-append xs ys i x e

get_mapped : {X : Type 0} (f : X → X) (xs : List X) (i : ℕ) (x : X) → slice_get xs i ≡ Some x → slice_get (map f xs) i ≡ Some (f x)
get_mapped f [] i x e = absurd (cc)
get_mapped f (y ∷ ys) zero x e = let h : y ≡ x = (cc) in ap (λ z. Some (f z)) h
get_mapped f (y ∷ ys) (suc i) x e = get_mapped f ys i x e

pub item_mapped : {X : Type 0} (f : X → X) (xs : List X) (n : ℕ) (x : X) → item_at xs n ≡ Some x → item_at (map f xs) n ≡ Some (f x)
item_mapped f xs zero x e = absurd (cc)
item_mapped f xs (suc i) x e = get_mapped f xs i x e

pub item_last : {X : Type 0} (xs : List X) (x : X) (n : ℕ) → n ≡ length xs + 1 → item_at (xs ++ x ∷ []) n ≡ Some x
item_last xs x n e =
    let same : n ≡ suc (length xs) = omega (arith, e) in
    subst (λ k. item_at (xs ++ x ∷ []) k ≡ Some x) (sym same) (slice_get-last xs x (length xs) refl)
