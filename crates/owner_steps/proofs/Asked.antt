-- An object for which nobody else waits.
use Rattle.std.proofs.Common.{◌≡◌, ℕ, zero, suc, true, false, ◌==◌, List, [], ◌∷◌, length, Option, Some, None, refl, sym, ap, ◌∙◌, arith}
use Rattle.std.proofs.lemmas.Bool.Decides.{nat_tests}
use Rattle.std.specs.Prelude.{Bool, if◌then◌else◌, slice_get, slice_set}
use Rattle.meaning.specs.Values.{Id}
use Rattle.protocol.specs.Numbered.{changed_at, changed_by, item_at}
use Rattle.protocol.specs.Tables.{without_askers}
use Rattle.protocol.specs.Steps.{changes, is_own, object_at, own_object, with_worker}
use Rattle.protocol.specs.Locations.{answers_settled, answers_settled_by, needs_own_if_waiting, tells_locations}
use Rattle.protocol_data.specs.declared.tables.Object.{Object}
use Rattle.protocol_data.specs.declared.tables.WorkerContext.{WorkerContext}

some_is : {X : Type 0} (x y : X) → Some x ≡ Some y → x ≡ y
some_is x y e = cc

set_same : {X : Type 0} (xs : List X) (i : ℕ) (x y : X) → slice_get xs i ≡ Some x → y ≡ x → slice_set xs i y ≡ xs
set_same [] i x y g e = absurd cc
set_same (z ∷ xs) zero x y g e = ap (λ w. w ∷ xs) (e ∙ sym (some_is z x g))
set_same (z ∷ xs) (suc i) x y g e = ap (λ ws. z ∷ ws) (set_same xs i x y g e)

none_ask : (xs : List Object) (n : ℕ) (x : Object) → item_at xs n ≡ Some x → x.askers ≡ [] → changed_at xs n without_askers ≡ xs
none_ask xs zero x g e = refl
none_ask xs (suc i) x g e =
    ap (changed_by xs (suc i) without_askers) g ∙ set_same xs i x (without_askers x) g (ap (λ ws. record x { askers = ws }) (sym e))

-- nobody is told, and nothing changes
pub nobody_told : (h : WorkerContext) (o : Id) (x : Object) → item_at h.worker.objects o.serial ≡ Some x → x.askers ≡ []
    → tells_locations (changes h o without_askers) x.askers o x ≡ h
nobody_told h o x g e =
    ap (λ ws. tells_locations (changes h o without_askers) ws o x) e
    ∙ ap (λ xs. with_worker h (record h.worker { objects = xs })) (none_ask h.worker.objects o.serial x g e)

empty_so : {X : Type 0} (xs : List X) → true ≡ (length xs == 0) → xs ≡ []
empty_so [] e = refl
empty_so (x ∷ xs) e = absurd (true-not-false (e ∙ suc-not-zero (length xs)))
  where
    suc-not-zero : (n : ℕ) → (suc n == zero) ≡ false
    suc-not-zero n = grind (arith, nat_tests)

    true-not-false : true ≡ false → ⊥
    true-not-false h = cc

own_then : (b : Bool) (y : Option Object) (x : Object) → (if b then y else None) ≡ Some x → y ≡ Some x
own_then true y x e = e
own_then false y x e = absurd cc

-- of an object that no one else asked for the own attempt alone is answered
pub own_alone : (h : WorkerContext) (o : Id) (x : Object) → object_at h o ≡ Some x → true ≡ (length x.askers == 0) → needs_own_if_waiting h o ≡ answers_settled h o
own_alone h o x at none =
    sym (ap (answers_settled_by h o) at ∙ ap (λ g. needs_own_if_waiting g o) (nobody_told h o x (own_then (is_own h o) (own_object h o.serial) x at) (empty_so x.askers none)))
