-- What begins numbered births.
use Rattle.std.proofs.Common.{◌≡◌, List, [], ◌∷◌, ◌++◌, map, refl, ap, subst}
use Rattle.meaning.specs.Lists.{IsFirst}
use Rattle.meaning.specs.Values.{Birth, Id}
use Rattle.meaning.specs.Runs.{behind}
use Rattle.meaning.specs.Births.{Bearing, numbered}

abbrev pub births_in : List Bearing → List Birth
births_in = map (λ (x : Bearing). x.birth)

abbrev pub NumbersFirst : List Bearing → Bearing → Id → List Birth → Type 0
NumbersFirst xs x base bs = (xs ≡ numbered base (births_in xs)) × IsFirst (births_in xs ++ x.birth ∷ []) bs

-- what begins numbered births is itself numbered
pub numbered_first : (xs : List Bearing) (x : Bearing) (base : Id) (bs : List Birth) → IsFirst (xs ++ x ∷ []) (numbered base bs) → NumbersFirst xs x base bs
numbered_first [] x base [] h = absurd h
numbered_first [] x base (b ∷ bs) h = (refl, (ap (λ (y : Bearing). y.birth) h.0, tt))
numbered_first (y ∷ ys) x base [] h = absurd h
numbered_first (y ∷ ys) x base (b ∷ bs) h =
    let rest = numbered_first ys x (behind base b) bs h.1 in
    let first : Bearing = record { object = base; birth = b } in
    let same : first ∷ ys ≡ first ∷ numbered (behind base b) (births_in ys) = ap (λ zs. first ∷ zs) rest.0 in
    (subst (λ (z : Bearing). z ∷ ys ≡ numbered base (z.birth ∷ births_in ys)) h.0 same, (ap (λ (z : Bearing). z.birth) h.0, rest.1))
