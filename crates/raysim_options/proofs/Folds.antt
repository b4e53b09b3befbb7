-- A loop over a slice that adds its elements one by one.
use Rattle.std.proofs.Common.{◌≡◌, ◌∙◌, ◌≤◌, ◌-◌, ap, arith, List, [], ◌∷◌, drop, get_or, length, take}
use Rattle.std.specs.List.{fold}
use Rattle.std.proofs.lemmas.List.{take_all}

-- with the first added, what is left makes the same whole
pub fold_rest : {A X : Type 0} (f : A → X → A) (a b whole : A) (xs : List X) (d : X) → 1 ≤ length xs → b ≡ f a (get_or xs 0 d) → fold f a xs ≡ whole
    → fold f b (take (length xs - 1) (drop 1 xs)) ≡ whole
fold_rest f a b whole [] d some is before = absurd (omega arith)
fold_rest f a b whole (x ∷ xs) d some is before = ap (fold f b) (take_all _ xs (omega arith)) ∙ (ap (λ m. fold f m xs) is ∙ before)
