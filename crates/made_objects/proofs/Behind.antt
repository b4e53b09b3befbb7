-- Objects of one owner that follow one another, one more added at the end.
use Rattle.std.proofs.Common.{◌≡◌, ℕ, zero, suc, ◌+◌, List, [], ◌∷◌, ◌++◌, ap, sym, ◌∙◌, append_assoc, add-one, arith}
use Rattle.meaning.specs.Values.{Id}
use Rattle.meaning.specs.Runs.{next_id, ids_from, past}

id_at : (o s t : ℕ) → s ≡ t → ◌≡◌ {A = Id} (record { owner = o; serial = s }) (record { owner = o; serial = t })
id_at o s t e = cc

longer : (n : ℕ) (o : Id) → ids_from o n ++ past o n ∷ [] ≡ ids_from o (suc n)
longer zero o = ap (λ p. p ∷ []) (id_at o.owner (o.serial + 0) o.serial (omega arith))
longer (suc n) o =
    ap (λ p. o ∷ (ids_from (next_id o) n ++ p ∷ [])) (id_at o.owner (o.serial + suc n) (o.serial + 1 + n) (omega arith))
    ∙ ap (λ ids. o ∷ ids) (longer n (next_id o))

-- one more is added behind the first ones
pub one_added : (before : List Id) (o : Id) (n : ℕ) → (before ++ ids_from o n) ++ past o n ∷ [] ≡ before ++ ids_from o (n + 1)
one_added before o n =
    append_assoc before (ids_from o n) (past o n ∷ []) ∙ ap (λ ids. before ++ ids) (longer n o) ∙ ap (λ k. before ++ ids_from o k) (sym (add-one n))
