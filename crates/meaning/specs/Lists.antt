-- When a list begins another.
use Rattle.std.specs.Prelude.{◌≡◌, List, [], ◌∷◌}

-- the first list is a beginning of the second
abbrev pub IsFirst : {X : Type 0} → List X → List X → Type 0
IsFirst [] ys = Unit {0}
IsFirst (x ∷ xs) [] = ⊥
IsFirst (x ∷ xs) (y ∷ ys) = (y ≡ x) × IsFirst xs ys
