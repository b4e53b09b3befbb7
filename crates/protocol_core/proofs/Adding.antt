-- What is added at a list's end.
use Rattle.std.proofs.Common.{◌≡◌, List, [], ◌∷◌, ◌++◌, length, take, refl, ap}
use Rattle.std.proofs.Math.Seq.{take-append_seam}

-- one item, and more of them behind it
pub added : {X : Type 0} (xs : List X) (y : X) (ys : List X) → (xs ++ y ∷ []) ++ ys ≡ xs ++ y ∷ ys
added [] y ys = refl
added (x ∷ xs) y ys = ap (λ zs. x ∷ zs) (added xs y ys)

-- the item is taken off again
pub cut_back : {X : Type 0} (xs : List X) (y : X) → take (length xs) (xs ++ y ∷ []) ≡ xs
cut_back xs y = take-append_seam xs (y ∷ [])
