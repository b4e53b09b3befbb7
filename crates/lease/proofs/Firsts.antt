-- A list's first item and what is behind it, taken by place and by pattern, are the same.
use Rattle.std.proofs.Common.{◌≡◌, ◌∷◌, [], List, refl, drop}
use Rattle.std.specs.Prelude.{slice_get}
use Rattle.number_lists.specs.of_protocol.Sets.{first_item, rest_of}

pub first_is : {X : Type 0} (xs : List X) → slice_get xs 0 ≡ first_item xs
first_is [] = refl
first_is (x ∷ xs) = refl

pub rest_is : {X : Type 0} (xs : List X) → drop 1 xs ≡ rest_of xs
rest_is [] = refl
rest_is (x ∷ xs) = refl
