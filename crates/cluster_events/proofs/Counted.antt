-- How many objects the births of a list make from one on.
use Rattle.std.proofs.Common.{◌≡◌, ◌∙◌, ℕ, zero, suc, ◌+◌, ◌≤◌, List, [], ◌∷◌, length, drop, Some, refl, ap, arith}
use Rattle.std.specs.Prelude.{slice_get}
use Rattle.meaning.specs.Values.{Birth, results_of}
use Rattle.protocol.specs.Events.{objects_made}

some_is : {X : Type 0} (x y : X) → Some x ≡ Some y → x ≡ y
some_is x y e = cc

one_there : (bs : List Birth) (i : ℕ) (b : Birth) → slice_get bs i ≡ Some b → objects_made (drop i bs) ≡ results_of b + objects_made (drop (suc i) bs)
one_there [] i b e = absurd cc
one_there (c ∷ bs) zero b e = ap (λ x. results_of x + objects_made bs) (some_is c b e)
one_there (c ∷ bs) (suc i) b e = one_there bs i b e

pub one_more : (bs : List Birth) (i : ℕ) (b : Birth) → slice_get bs i ≡ Some b → objects_made (drop i bs) ≡ results_of b + objects_made (drop (i + 1) bs)
one_more bs i b e = let s : suc i ≡ i + 1 = omega arith in one_there bs i b e ∙ ap (λ k. results_of b + objects_made (drop k bs)) s

pub no_more : (bs : List Birth) (i : ℕ) → length bs ≤ i → objects_made (drop i bs) ≡ 0
no_more [] zero h = refl
no_more [] (suc i) h = refl
no_more (b ∷ bs) zero h = absurd (omega arith)
no_more (b ∷ bs) (suc i) h = no_more bs i (omega arith)
