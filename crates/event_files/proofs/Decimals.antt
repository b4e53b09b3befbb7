-- A text is read as a number exactly where it is that number in decimal, and the number has its type.
use Rattle.std.proofs.Common.{◌≡◌, ℕ, ◌<◌, ◌^◌, Bool, true, false, List, Option, Some, None, refl, sym, ap, ◌∙◌, subst, arith}
use Rattle.std.specs.Prelude.{if◌then◌else◌, IfSome, nat_lt}
use Rattle.std.specs.Fmt.{decimal}
use Rattle.std.specs.Str.{bytes_eq}
use Rattle.std.specs.Str.Parse.{AllDigits, digits_value}
use Rattle.std.proofs.lemmas.Bool.Decides.{nat_tests}
use Rattle.std.proofs.lemmas.Slice.Eq.{bytes_eq-Decides}
use Rattle.std.proofs.lemmas.Fmt.{digits_value-decimal, decimal_injective}
use Rattle.std.proofs.lemmas.Str.Parse.{IsNumeralModel, numerals_by_value, tells_digits}
use Rattle.event_files.specs.Reading.{number_in}

own : IsNumeralModel (AllDigits 10) (digits_value 10)
own = numerals_by_value (AllDigits 10) tells_digits

pub same_bytes : (bytes : List ℕ) → bytes_eq bytes bytes ≡ true
same_bytes bytes = (bytes_eq-Decides bytes bytes).1 refl

pub number_in-decimal : (bits n : ℕ) → n < 2 ^ 64 → n < 2 ^ bits → number_in bits (decimal n) ≡ Some n
unfolding number_in
number_in-decimal bits n h k =
    let e = digits_value-decimal own n h in
    let l : nat_lt n (2 ^ bits) ≡ true = grind (arith, nat_tests) in
    rw (e, same_bytes (decimal n), l) refl

pub number_in-is : (bits : ℕ) (bytes : List ℕ) → IfSome (number_in bits bytes) (λ n. (n < 2 ^ bits) × (bytes ≡ decimal n))
unfolding number_in
number_in-is bits bytes = by_tests (digits_value 10 bytes) (bytes_eq (decimal (digits_value 10 bytes)) bytes) refl (nat_lt (digits_value 10 bytes) (2 ^ bits)) refl
  where
    by_tests : (n : ℕ) (t : Bool) → bytes_eq (decimal n) bytes ≡ t → (u : Bool) → nat_lt n (2 ^ bits) ≡ u →
        IfSome (if t then (if u then Some n else None) else None) (λ m. (m < 2 ^ bits) × (bytes ≡ decimal m))
    by_tests n true e true f = (grind (arith, nat_tests), sym ((bytes_eq-Decides (decimal n) bytes).0 e))
    by_tests n true e false f = tt
    by_tests n false e u f = tt

pub none_of : {A : Type 0} (P : A → Type 0) (r : Option A) → IfSome r P → ((a : A) → P a → ⊥) → r ≡ None
none_of P None h k = refl
none_of P (Some a) h k = absurd (k a h)

pub given_of : {A : Type 0} (P : A → Type 0) (r : Option A) (a : A) → IfSome r P → r ≡ Some a → P a
given_of P r a h e = subst (λ q. IfSome q P) e h

pub no_number : (bits : ℕ) (bytes : List ℕ) → ((n : ℕ) → n < 2 ^ bits → bytes ≡ decimal n → ⊥) → number_in bits bytes ≡ None
no_number bits bytes h = none_of (λ n. (n < 2 ^ bits) × (bytes ≡ decimal n)) (number_in bits bytes) (number_in-is bits bytes) (λ n k. h n k.0 k.1)

pub is_number : (bits n : ℕ) (bytes : List ℕ) → n < 2 ^ 64 → n < 2 ^ bits → bytes ≡ decimal n → number_in bits bytes ≡ Some n
is_number bits n bytes h k e = ap (number_in bits) e ∙ number_in-decimal bits n h k

pub same_number : (m n : ℕ) (bytes : List ℕ) → m < 2 ^ 64 → n < 2 ^ 64 → bytes ≡ decimal m → bytes ≡ decimal n → m ≡ n
same_number m n bytes h k e f = decimal_injective m n h k (sym e ∙ f)
