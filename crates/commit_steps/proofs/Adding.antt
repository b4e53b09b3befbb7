-- Ids that are added one after the other.
use Rattle.std.proofs.Common.{◌≡◌, ℕ, zero, suc, ◌+◌, ◌<◌, List, [], ◌∷◌, ◌++◌, length, drop, get_or, refl, ap, sym, ◌∙◌, arith}
use Rattle.std.specs.Prelude.{if◌then◌else◌}
use Rattle.std.specs.List.{list_any}
use Rattle.meaning.specs.Births.{same_id}
use Rattle.meaning.specs.Values.{Id}
use Rattle.values.specs.Listed.{adding, each_once}
use Rattle.values.proofs.ListedLaws.{adding-each_once}

pub adding_append : (seen xs ys : List Id) → adding seen (xs ++ ys) ≡ adding (adding seen xs) ys
adding_append seen [] ys = refl
adding_append seen (x ∷ xs) ys = adding_append (if list_any (λ p. same_id p x) seen then seen else seen ++ x ∷ []) xs ys

pub all_once : (os : List Id) → adding [] os ≡ each_once os
all_once os = adding-each_once os

-- the item at a place, and those behind it
pub drop_or : {X : Type 0} (xs : List X) (i : ℕ) (x d : X) → i < length xs → x ≡ get_or xs i d → drop i xs ≡ x ∷ drop (i + 1) xs
drop_or [] i x d h e = absurd (omega arith)
drop_or (y ∷ ys) zero x d h e = ap (λ z. z ∷ ys) (sym e)
drop_or (y ∷ ys) (suc i) x d h e =
    let f : ◌≡◌ {A = ℕ} (suc (i + 1)) (suc i + 1) = omega arith in drop_or ys i x d (omega arith) e ∙ ap (λ j. x ∷ drop j (y ∷ ys)) f
