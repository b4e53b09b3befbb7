-- Results that are settled one by one.
use Rattle.std.proofs.Common.{◌≡◌, ℕ, zero, suc, ◌+◌, ◌-◌, ◌<◌, ◌≤◌, List, [], ◌∷◌, Some, None, drop, length, refl, sym, ap, ◌∙◌, arith}
use Rattle.std.specs.Prelude.{slice_get}
use Rattle.meaning.specs.Values.{Id}
use Rattle.protocol.specs.Messages.{EndedResult}
use Rattle.protocol.specs.Sets.{object_id, rest_of}
use Rattle.protocol.specs.Tables.{with_content}
use Rattle.protocol.specs.Steps.{WorkerContext, changes}
use Rattle.protocol.specs.Ends.{first_result, settles}

pub none_told : (rs : List EndedResult) (i : ℕ) → length rs ≤ i → first_result (drop i rs) ≡ record { ids = []; kept = None }
none_told [] zero e = refl
none_told [] (suc i) e = refl
none_told (r ∷ rs) zero e = absurd (omega (arith, e))
none_told (r ∷ rs) (suc i) e = none_told rs i (omega (arith, e))

pub one_told : (rs : List EndedResult) (i : ℕ) (r : EndedResult) → slice_get rs i ≡ Some r → first_result (drop i rs) ≡ r
one_told [] i r e = absurd (cc)
one_told (x ∷ rs) zero r e = cc
one_told (x ∷ rs) (suc i) r e = one_told rs i r e

rest_dropped : {X : Type 0} (xs : List X) (i : ℕ) → rest_of (drop i xs) ≡ drop (suc i) xs
rest_dropped [] zero = refl
rest_dropped [] (suc i) = refl
rest_dropped (x ∷ xs) zero = refl
rest_dropped (x ∷ xs) (suc i) = rest_dropped xs i

pub first_settled : (h : WorkerContext) (o : Id) (number n k : ℕ) (rs : List EndedResult) →
    settles h (object_id o.owner o.serial) number n k (drop 0 rs) ≡ settles h o number n k rs
first_settled h o number n k rs = refl

pub next_settled : (h : WorkerContext) (owner serial number n end i : ℕ) (rs : List EndedResult) → serial < end →
    settles (changes h (object_id owner serial) (with_content number n (first_result (drop i rs)).ids (first_result (drop i rs)).kept))
    (object_id owner (serial + 1)) number n (end - (serial + 1)) (drop (i + 1) rs)
    ≡ settles h (object_id owner serial) number n (end - serial) (drop i rs)
next_settled h owner serial number n end i rs less =
    let e : end - serial ≡ suc (end - (serial + 1)) = omega (arith, less) in
    let s : suc i ≡ i + 1 = omega arith in
    let told : EndedResult = first_result (drop i rs) in
    ap (λ qs. settles (changes h (object_id owner serial) (with_content number n told.ids told.kept)) (object_id owner (serial + 1)) number n (end - (serial + 1)) qs)
    (ap (λ j. drop j rs) (sym s) ∙ sym (rest_dropped rs i))
    ∙ sym (ap (λ m. settles h (object_id owner serial) number n m (drop i rs)) e)

pub all_settled : (h : WorkerContext) (o : Id) (number n end i : ℕ) (rs : List EndedResult) → end ≤ i → settles h o number n (end - i) rs ≡ h
all_settled h o number n end i rs past =
    let e : end - i ≡ 0 = omega (arith, past) in ap (λ m. settles h o number n m rs) e
