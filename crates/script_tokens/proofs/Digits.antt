-- A run of digits is a number exactly where it is that number in decimal, within its range.
use Rattle.std.proofs.Common.{◌≡◌, ◌≤◌, ◌<◌, ◌+◌, ◌*◌, ◌-◌, ℕ, zero, suc, true, false, cond, eqb, ltb, List, [], ◌∷◌, length, Some, None, refl, sym, ap, subst, ◌∙◌, arith, inl, inr, get_or}
use Rattle.std.specs.Fmt.{decimal}
use Rattle.std.proofs.lemmas.Bool.{ltb-false, le-ltb, eqb-true}
use Rattle.std.proofs.lemmas.Fmt.{digits_decimal, digits_value-decimal, decimal-digits_value, decimal_nonempty, decimal_digit, first_decimal}
use Rattle.std.proofs.lemmas.Str.Parse.{IsNumeralModel, numerals_by_fold}
use Rattle.script_tokens.specs.Bytes.{is_digit, all}
use Rattle.script_tokens.specs.Lexing.{is_numeral, is_empty, value_from, number_of}
use Rattle.script_tokens.proofs.Cases.{chosen, no, both, bool_cases, some_is}
use Rattle.script_tokens.proofs.Runs.{digit_range, range_digit}

pub numeral_digits : (text : List ℕ) → is_numeral text ≡ true → all is_digit text ≡ true
numeral_digits [] h = absurd (no false h refl)
numeral_digits (d ∷ []) h = elim (chosen (eqb d 48) true (all is_digit (d ∷ [])) true h) [ inl x ↦ (let e : d ≡ 48 = eqb-true _ _ x.0 in rw e refl) | inr x ↦ x.1 ]
numeral_digits (d ∷ e ∷ text) h = elim (chosen (eqb d 48) false (all is_digit (d ∷ e ∷ text)) true h) [ inl x ↦ absurd (no false x.1 refl) | inr x ↦ x.1 ]

value_grows : (n : ℕ) (digits : List ℕ) → n ≤ value_from n digits
value_grows n [] = omega arith
value_grows n (d ∷ digits) = omega (arith, value_grows (10 * n + (d - 48)) digits)

pub value_long : (n : ℕ) (digits : List ℕ) → 1 ≤ length digits → 10 * n + (get_or digits 0 0 - 48) ≤ value_from n digits
value_long n [] h = absurd (omega (arith, h))
value_long n (d ∷ digits) h = value_grows (10 * n + (d - 48)) digits

-- ---- the digits of a number, and the number of digits

own : IsNumeralModel (λ ds. all is_digit ds ≡ true) (value_from 0)
own = numerals_by_fold (λ ds. all is_digit ds ≡ true)
    (record {
      empty = refl;
      parts = λ c cs h. (let p = both (is_digit c) (all is_digit cs) h in (digit_range c p.0, p.1));
      more = λ c cs k h. rw (range_digit c k.0 k.1) h;
    })
    value_from
    (record { empty = λ n. refl; more = λ n c cs k. (let e : 10 * n + (c - 48) ≡ n * 10 + (c - 48) = omega arith in ap (λ m. value_from m cs) e) })

pub decimal_digits : (n : ℕ) → n ≤ 9223372036854775807 → all is_digit (decimal n) ≡ true
decimal_digits n h = digits_decimal own n (omega (arith, h))

decimal_value : (n : ℕ) → n ≤ 9223372036854775807 → value_from 0 (decimal n) ≡ n
decimal_value n h = digits_value-decimal own n (omega (arith, h))

pub decimal_long : (n : ℕ) → n ≤ 9223372036854775807 → 0 < length (decimal n)
decimal_long n h = decimal_nonempty n (omega (arith, h))

decimal_lead : (n : ℕ) → n ≤ 9223372036854775807 → get_or (decimal n) 0 0 ≡ 48 → length (decimal n) ≡ 1
decimal_lead zero h e = ap (λ (l : List ℕ). length l) (decimal_digit 0 (omega arith))
decimal_lead (suc n) h e = absurd (omega (arith, first_decimal (suc n) (omega arith) (omega (arith, h)), e))

short_empty : (d : ℕ) (ds : List ℕ) → length (d ∷ ds) ≡ 1 → is_empty ds ≡ true
short_empty d [] h = refl
short_empty d (e ∷ ds) h = absurd (omega (arith, h))

empty_short : (ds : List ℕ) → is_empty ds ≡ true → length ds ≡ 0
empty_short [] h = refl
empty_short (d ∷ ds) h = absurd (no false h refl)

numeral_shape : (ds : List ℕ) → all is_digit ds ≡ true → 0 < length ds → (get_or ds 0 0 ≡ 48 → length ds ≡ 1) → is_numeral ds ≡ true
numeral_shape [] h some lead = absurd (omega (arith, some))
numeral_shape (d ∷ ds) h some lead = elim (bool_cases (eqb d 48)) [ inl e ↦ rw e (short_empty d ds (lead (eqb-true _ _ e))) | inr e ↦ rw e h ]

numeral_long : (ds : List ℕ) → is_numeral ds ≡ true → 0 < length ds
numeral_long [] h = absurd (no false h refl)
numeral_long (d ∷ ds) h = omega arith

numeral_lead : (ds : List ℕ) → is_numeral ds ≡ true → get_or ds 0 0 ≡ 48 → length ds ≡ 1
numeral_lead [] h e = absurd (no false h refl)
numeral_lead (d ∷ ds) h e =
    let k : d ≡ 48 = e in
    let m : is_numeral (48 ∷ ds) ≡ true = subst (λ (c : ℕ). is_numeral (c ∷ ds) ≡ true) k h in
    omega (arith, empty_short ds m)

pub decimal_number : (n : ℕ) → n ≤ 9223372036854775807 → number_of (decimal n) ≡ Some n
unfolding number_of
decimal_number n h =
    let shape = numeral_shape (decimal n) (decimal_digits n h) (decimal_long n h) (decimal_lead n h) in
    let value = decimal_value n h in
    let few : ltb 9223372036854775807 (value_from 0 (decimal n)) ≡ false = le-ltb _ _ (omega (arith, h, value)) in
    rw (shape, few, value) refl

pub number_decimal : (run : List ℕ) (n : ℕ) → number_of run ≡ Some n → (n ≤ 9223372036854775807) × (decimal n ≡ run)
unfolding number_of
number_decimal run n e =
    elim (chosen (is_numeral run) (cond (ltb 9223372036854775807 (value_from 0 run)) None (Some (value_from 0 run))) None (Some n) e) [
      | inl x ↦ elim (chosen (ltb 9223372036854775807 (value_from 0 run)) None (Some (value_from 0 run)) (Some n) x.1) [
        | inl y ↦ absurd (let k : None ≡ Some n = y.1 in cc)
        | inr y ↦
            let v : value_from 0 run ≡ n = some_is (value_from 0 run) n y.1 in
            let few : value_from 0 run ≤ 9223372036854775807 = ltb-false _ _ y.0 in
            let same : decimal (value_from 0 run) ≡ run = decimal-digits_value own run (numeral_digits run x.0) (numeral_long run x.0) (numeral_lead run x.0) (omega (arith, few)) in
            (omega (arith, few, v), ap decimal (sym v) ∙ same)
      ]
      | inr x ↦ absurd (let k : None ≡ Some n = x.1 in cc)
    ]
