-- Items that are shared.
use Rattle.std.proofs.Common.{◌≡◌, ℕ, ◌+◌, ◌<◌, List, [], ◌∷◌, ◌++◌, map, take, length, get_or, sym, ap, ◌∙◌, append_assoc}
use Rattle.std.proofs.lemmas.List.{map_more, map_push}

-- one more of them was added
pub added : {A B : Type 0} (f : A → B) (olds ys zs more : List A) (i : ℕ) (x d : A) → i < length more → zs ≡ ys ++ x ∷ [] → f x ≡ f (get_or more i d) →
    map f ys ≡ map f olds ++ map f (take i more) → map f zs ≡ map f olds ++ map f (take (i + 1) more)
added f olds ys zs more i x d h e same so =
    ap (map f) e ∙ map_push f ys x ∙ ap (λ l. l ++ f x ∷ []) so ∙ append_assoc (map f olds) (map f (take i more)) (f x ∷ [])
    ∙ ap (λ y. map f olds ++ (map f (take i more) ++ y ∷ [])) same ∙ ap (λ l. map f olds ++ l) (sym (map_more f more i d h))
