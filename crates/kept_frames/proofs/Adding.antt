-- Copies of a list's items, behind others.
use Rattle.std.proofs.Common.{◌≡◌, ℕ, ◌+◌, ◌<◌, List, [], ◌∷◌, ◌++◌, map, take, length, get_or, refl, sym, ap, ◌∙◌, append_assoc}
use Rattle.std.proofs.lemmas.List.{map_more}

pub map_last : {A B : Type 0} (f : A → B) (xs : List A) (x : A) → map f (xs ++ x ∷ []) ≡ map f xs ++ f x ∷ []
map_last f [] x = refl
map_last f (y ∷ xs) x = ap (λ zs. f y ∷ zs) (map_last f xs x)

pub added : {A B : Type 0} (f : A → B) (olds ys zs more : List A) (i : ℕ) (x d : A) → i < length more → zs ≡ ys ++ x ∷ [] → f x ≡ f (get_or more i d) →
    map f ys ≡ map f olds ++ map f (take i more) → map f zs ≡ map f olds ++ map f (take (i + 1) more)
added f olds ys zs more i x d h e same so =
    ap (map f) e ∙ map_last f ys x ∙ ap (λ l. l ++ f x ∷ []) so ∙ append_assoc (map f olds) (map f (take i more)) (f x ∷ [])
    ∙ ap (λ y. map f olds ++ (map f (take i more) ++ y ∷ [])) same ∙ ap (λ l. map f olds ++ l) (sym (map_more f more i d h))
