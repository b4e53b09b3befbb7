-- Between which places flags are up, as one is added.
use Rattle.std.proofs.Common.{◌≡◌, ℕ, zero, suc, ◌<◌, ◌≤◌, Bool, true, false, List, [], ◌∷◌, ◌++◌, Some, refl, ap, arith, length, ◌∙◌, sym}
use Rattle.std.specs.Prelude.{slice_get, slice_set}
use Rattle.flags.specs.Blocks.{AreWithin}

some_is : (b c : Bool) → Some b ≡ Some c → c ≡ b
some_is b c e = cc

-- where a flag that is down is added, any that is up was there before
get_added : (fs : List Bool) (i : ℕ) → slice_get (fs ++ false ∷ []) i ≡ Some true → slice_get fs i ≡ Some true
get_added [] zero e = absurd (let z : true ≡ false = some_is false true e in cc)
get_added [] (suc i) e = absurd cc
get_added (f ∷ fs) zero e = e
get_added (f ∷ fs) (suc i) e = get_added fs i e

pub added_down : (fs : List Bool) (first end : ℕ) → AreWithin fs first end → AreWithin (fs ++ false ∷ []) first end
added_down fs first end w = record { before = before; behind = behind }
  where
    before : (i : ℕ) (b : Bool) → 0 ≤ i → i < first → slice_get (fs ++ false ∷ []) i ≡ Some b → b ≡ false
    before i false l h e = refl
    before i true l h e = w.before i true l h (get_added fs i e)

    behind : (i : ℕ) (b : Bool) → end ≤ i → slice_get (fs ++ false ∷ []) i ≡ Some b → b ≡ false
    behind i false h e = refl
    behind i true h e = w.behind i true h (get_added fs i e)

pub one_longer : (fs : List Bool) → length fs < length (fs ++ false ∷ [])
one_longer [] = omega arith
one_longer (f ∷ fs) = omega (arith, one_longer fs)

pub set_added : (fs : List Bool) → slice_set (fs ++ false ∷ []) (length fs) true ≡ fs ++ true ∷ []
set_added [] = refl
set_added (f ∷ fs) = ap (λ gs. f ∷ gs) (set_added fs)

-- what stands there already is written there for nothing
pub set_as_is : (fs : List Bool) (i : ℕ) (b c : Bool) → slice_get fs i ≡ Some b → b ≡ c → fs ≡ slice_set fs i c
set_as_is [] i b c e s = refl
set_as_is (f ∷ fs) zero b c e s = ap (λ g. g ∷ fs) (sym (some_is f b e) ∙ s)
set_as_is (f ∷ fs) (suc i) b c e s = ap (λ gs. f ∷ gs) (set_as_is fs i b c e s)
