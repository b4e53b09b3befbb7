-- Bounds of what was noted: one that is raised, or added, bounds what was bounded before.
use Rattle.std.proofs.Common.{◌≡◌, ℕ, zero, suc, ◌∷◌, ◌++◌, [], Bool, true, false, List, Some, refl, sym, ap, ◌∙◌, arith}
use Rattle.std.proofs.lemmas.Bool.Decides.{nat_tests}
use Rattle.std.specs.Prelude.{nat_lt, ◌&&◌, ◌||◌, ◌==◌, slice_get, slice_set}
use Rattle.std.specs.List.{list_any}
use Rattle.meaning.specs.Values.{Id}
use Rattle.sequence.proofs.Places.{or_left, or_right}
use Rattle.protocol_data.specs.Noted.{bounds, may_be_noted}

some_is : (x y : Id) → Some x ≡ Some y → x ≡ y
some_is x y e = cc

own : (o : Id) → bounds o o ≡ true
own o = grind (arith, nat_tests)

further : (o b x : Id) → ((b.owner == x.owner) && nat_lt b.serial x.serial) ≡ true → bounds o b ≡ true → bounds o x ≡ true
further o b x h e = grind (arith, nat_tests, h, e)

pub noted_at : (all : List Id) (i : ℕ) (x b : Id) → slice_get all i ≡ Some b → may_be_noted (slice_set all i x) x ≡ true
noted_at [] i x b g = absurd cc
noted_at (y ∷ ys) zero x b g = or_left (bounds x x) (list_any (bounds x) ys) (own x)
noted_at (y ∷ ys) (suc i) x b g = or_right (bounds x y) (list_any (bounds x) (slice_set ys i x)) (noted_at ys i x b g)

pub noted_last : (all : List Id) (x : Id) → may_be_noted (all ++ x ∷ []) x ≡ true
noted_last [] x = or_left (bounds x x) false (own x)
noted_last (y ∷ ys) x = or_right (bounds x y) (list_any (bounds x) (ys ++ x ∷ [])) (noted_last ys x)

either : (a b c d : Bool) → (a ≡ true → c ≡ true) → (b ≡ true → d ≡ true) → (a || b) ≡ true → (c || d) ≡ true
either true b c d f g h = or_left c d (f refl)
either false b c d f g h = or_right c d (g h)

pub kept_at : (all : List Id) (i : ℕ) (x b o : Id) → slice_get all i ≡ Some b → ((b.owner == x.owner) && nat_lt b.serial x.serial) ≡ true
    → may_be_noted all o ≡ true → may_be_noted (slice_set all i x) o ≡ true
kept_at [] i x b o g h e = absurd cc
kept_at (y ∷ ys) zero x b o g h e =
    either (bounds o y) (list_any (bounds o) ys) (bounds o x) (list_any (bounds o) ys) (λ t. further o b x h (ap (bounds o) (sym (some_is y b g)) ∙ t)) (λ t. t) e
kept_at (y ∷ ys) (suc i) x b o g h e =
    either (bounds o y) (list_any (bounds o) ys) (bounds o y) (list_any (bounds o) (slice_set ys i x)) (λ t. t) (λ t. kept_at ys i x b o g h t) e

pub kept_last : (all : List Id) (x o : Id) → may_be_noted all o ≡ true → may_be_noted (all ++ x ∷ []) o ≡ true
kept_last (y ∷ ys) x o e = either (bounds o y) (list_any (bounds o) ys) (bounds o y) (list_any (bounds o) (ys ++ x ∷ [])) (λ t. t) (λ t. kept_last ys x o t) e
kept_last [] x o e = absurd cc

pub noted_by : (all : List Id) (i : ℕ) (b o : Id) → slice_get all i ≡ Some b → bounds o b ≡ true → may_be_noted all o ≡ true
noted_by [] i b o g h = absurd cc
noted_by (y ∷ ys) zero b o g h = or_left (bounds o y) (list_any (bounds o) ys) (ap (bounds o) (some_is y b g) ∙ h)
noted_by (y ∷ ys) (suc i) b o g h = or_right (bounds o y) (list_any (bounds o) ys) (noted_by ys i b o g h)
