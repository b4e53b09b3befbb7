-- A number in decimal is read as itself, and no dot stands in it.
use Rattle.std.proofs.Common.{◌≡◌, ◌≢◌, ℕ, zero, suc, ◌+◌, ◌-◌, ◌<◌, ◌≤◌, ◌^◌, Bool, true, false, List, [], ◌∷◌, ◌++◌, length, take, drop, get_or, Option, Some, refl, sym, ap, ◌∙◌, subst, arith}
use Rattle.std.specs.Prelude.{◌==◌, if◌then◌else◌, Result, Ok, Err, IfSome}
use Rattle.std.specs.Result.{result_ok}
use Rattle.std.specs.declared.num.ParseIntError.{ParseIntError}
use Rattle.std.proofs.lemmas.List.{take_all, length-drop}
use Rattle.std.specs.Fmt.{decimal}
use Rattle.std.specs.Int.{IsInRange}
use Rattle.std.specs.Str.{IsUtf8}
use Rattle.std.proofs.lemmas.Str.{IsUtf8-from_ascii}
use Rattle.std.specs.Str.Parse.{ParsesUnsigned, AllDigits, digits_value}
use Rattle.std.specs.Result.{OkIff}
use Rattle.std.proofs.lemmas.Bool.Decides.{nat_tests}
use Rattle.std.proofs.lemmas.Fmt.{decimal_is_IsNumeral, parse-decimal, decimal_digit, decimal_nonempty, first_decimal, decimal-digits_value, IsAscii-decimal}
use Rattle.std.proofs.lemmas.Str.Parse.{IsNumeralModel, numerals_by_value, tells_digits, parse_plain, digit_at}
use Rattle.ids.specs.Texts.{has_dot}

own : IsNumeralModel (AllDigits 10) (digits_value 10)
own = numerals_by_value (AllDigits 10) tells_digits

-- what is written is not empty and begins with a digit, which is no 0 but for 0 alone
pub not_empty : (n : ℕ) (bs : List ℕ) → n < 2 ^ 64 → bs ≡ decimal n → length bs < 1 → ⊥
not_empty n bs h e short = let l : 0 < length bs = subst (λ ds. 0 < length ds) (sym e) (decimal_nonempty n h) in omega arith

first_digit : (n : ℕ) (bs : List ℕ) → n < 2 ^ 64 → bs ≡ decimal n → IsInRange 48 57 (get_or bs 0 0)
first_digit n bs h e = subst (λ ds. IsInRange 48 57 (get_or ds 0 0)) (sym e) (digit_at (decimal n) 0 (decimal_is_IsNumeral n h).0.1 (decimal_nonempty n h))

pub no_plus : (n : ℕ) (bs : List ℕ) → n < 2 ^ 64 → bs ≡ decimal n → get_or bs 0 0 ≡ 43 → ⊥
no_plus n bs h e p = let d = first_digit n bs h e in omega (arith, d.0)

zero_first : (n : ℕ) (bs : List ℕ) → n < 2 ^ 64 → bs ≡ decimal n → get_or bs 0 0 ≡ 48 → n ≡ 0
zero_first zero bs h e z = refl
zero_first (suc n) bs h e z = let f : 48 < get_or bs 0 0 = subst (λ ds. 48 < get_or ds 0 0) (sym e) (first_decimal (suc n) (omega arith) h) in absurd (omega arith)

pub zero_text : decimal 0 ≡ 48 ∷ []
zero_text = decimal_digit 0 (omega arith)

pub zero_alone : (n : ℕ) (bs : List ℕ) → n < 2 ^ 64 → bs ≡ decimal n → get_or bs 0 0 ≡ 48 → (n ≡ 0) × (length bs ≡ 1)
zero_alone n bs h e z =
    let zero_n = zero_first n bs h e z in
    let text : bs ≡ 48 ∷ [] = e ∙ ap decimal zero_n ∙ zero_text in
    (zero_n, ap length text)

-- what is parsed
pub parsed_is_written : {E : Type 0} (bs : List ℕ) (r : Result ℕ E) (n : ℕ) → ParsesUnsigned 64 10 bs r → get_or bs 0 0 ≢ 43 → get_or bs 0 0 ≢ 48 → r ≡ Ok n → bs ≡ decimal n
parsed_is_written {E} bs r n h p z e =
    let k : OkIff {E = E} (Ok n) (AllDigits 10 bs × (0 < length bs) × (digits_value 10 bs < 2 ^ 64)) (digits_value 10 bs) = subst (λ (q : Result ℕ E). OkIff {E = E} q (AllDigits 10 bs × (0 < length bs) × (digits_value 10 bs < 2 ^ 64)) (digits_value 10 bs)) e (parse_plain own 64 bs r h p) in
    sym (ap decimal k.1 ∙ decimal-digits_value own bs k.0.0 k.0.1 (λ x. absurd (z x)) k.0.2)

-- dots

dot_here : (b : ℕ) (bs : List ℕ) → has_dot (b ∷ bs) ≡ false → (b ≢ 46) × (has_dot bs ≡ false)
dot_here b bs h = choose (b == 46) refl h
  where
    choose : (t : Bool) → (b == 46) ≡ t → (if t then true else has_dot bs) ≡ false → (b ≢ 46) × (has_dot bs ≡ false)
    choose true e k = absurd (cc)
    choose false e k = (λ z. grind (arith, nat_tests), k)

no_dot_cons : (b : ℕ) (bs : List ℕ) → b ≢ 46 → has_dot bs ≡ false → has_dot (b ∷ bs) ≡ false
no_dot_cons b bs n h = let e : (b == 46) ≡ false = grind (arith, nat_tests) in ap (λ t. if t then true else has_dot bs) e ∙ h

no_dot_in_digits : (bs : List ℕ) → ((i : ℕ) → i < length bs → IsInRange 48 57 (get_or bs i 0)) → has_dot bs ≡ false
no_dot_in_digits [] h = refl
no_dot_in_digits (b ∷ bs) h =
    no_dot_cons b bs (λ e. let d = h 0 (omega arith) in omega (arith, d.0)) (no_dot_in_digits bs (λ i l. h (suc i) (omega arith)))

pub no_dot_in_decimal : (n : ℕ) → n < 2 ^ 64 → has_dot (decimal n) ≡ false
no_dot_in_decimal n h = no_dot_in_digits (decimal n) (λ i l. digit_at (decimal n) i (decimal_is_IsNumeral n h).0.1 l)

pub has_dot-between : (xs ys : List ℕ) → has_dot (xs ++ 46 ∷ ys) ≡ true
has_dot-between [] ys = refl
has_dot-between (x ∷ xs) ys = let e = has_dot-between xs ys in choose (x == 46) e
  where
    choose : (t : Bool) → has_dot (xs ++ 46 ∷ ys) ≡ true → (if t then true else has_dot (xs ++ 46 ∷ ys)) ≡ true
    choose true k = refl
    choose false k = k

-- a text is parted at its first dot in one way
pub one_parting : (a b c d : List ℕ) → has_dot a ≡ false → has_dot c ≡ false → a ++ 46 ∷ b ≡ c ++ 46 ∷ d → (a ≡ c) × (b ≡ d)
one_parting [] b [] d h k e = (refl, cc)
one_parting [] b (y ∷ c) d h k e = let f : 46 ≡ y = cc in absurd ((dot_here y c k).0 (sym f))
one_parting (x ∷ a) b [] d h k e = let f : x ≡ 46 = cc in absurd ((dot_here x a h).0 f)
one_parting (x ∷ a) b (y ∷ c) d h k e =
    let r = one_parting a b c d (dot_here x a h).1 (dot_here y c k).1 (cc) in
    (let e0 = r.0 in cc, r.1)

-- up to a place that is no dot
pub no_dot_up_to : (bs : List ℕ) (i : ℕ) → i < length bs → get_or bs i 0 ≢ 46 → has_dot (take i bs) ≡ false → has_dot (take (i + 1) bs) ≡ false
no_dot_up_to [] i l n h = absurd (omega arith)
no_dot_up_to (b ∷ bs) zero l n h = no_dot_cons b [] n refl
no_dot_up_to (b ∷ bs) (suc i) l n h =
    let k = dot_here b (take i bs) h in
    let more : suc (i + 1) ≡ suc i + 1 = omega arith in
    subst (λ m. has_dot (take m (b ∷ bs)) ≡ false) more (no_dot_cons b (take (i + 1) bs) k.0 (no_dot_up_to bs i (omega arith) n k.1))

pub parted_at : (bs : List ℕ) (i : ℕ) → i < length bs → get_or bs i 0 ≡ 46 → bs ≡ take i bs ++ 46 ∷ drop (i + 1) bs
parted_at [] i l e = absurd (omega arith)
parted_at (b ∷ bs) zero l e = ap (λ x. x ∷ bs) e
parted_at (b ∷ bs) (suc i) l e =
    let more : suc (i + 1) ≡ suc i + 1 = omega arith in
    subst (λ m. b ∷ bs ≡ take (suc i) (b ∷ bs) ++ 46 ∷ drop m (b ∷ bs)) more (ap (λ xs. b ∷ xs) (parted_at bs i (omega arith) e))

pub parted_found : (bs : List ℕ) (i : ℕ) → i < length bs → get_or bs i 0 ≡ 46 → has_dot (take i bs) ≡ false →
    (has_dot (take i bs) ≡ false) × (bs ≡ take i bs ++ 46 ∷ take (length bs - (i + 1)) (drop (i + 1) bs))
parted_found bs i l e h =
    let all : take (length bs - (i + 1)) (drop (i + 1) bs) ≡ drop (i + 1) bs = take_all (length bs - (i + 1)) (drop (i + 1) bs) (let n = length-drop (i + 1) bs in omega arith) in
    (h, subst (λ ds. bs ≡ take i bs ++ 46 ∷ ds) (sym all) (parted_at bs i l e))

pub no_dot_at_all : (bs : List ℕ) (i : ℕ) → length bs ≤ i → has_dot (take i bs) ≡ false → has_dot bs ≡ false
no_dot_at_all bs i l h = subst (λ ds. has_dot ds ≡ false) (take_all i bs l) h

pub zero_written : (bs : List ℕ) → get_or bs 0 0 ≡ 48 → length bs ≡ 1 → bs ≡ decimal 0
zero_written [] z l = absurd (omega arith)
zero_written (b ∷ []) z l = ap (λ x. x ∷ []) z ∙ sym zero_text
zero_written (b ∷ c ∷ bs) z l = absurd (omega arith)

pub found_if_parsed : (bs : List ℕ) (p : Option ℕ) (r : Result ℕ ParseIntError) → ParsesUnsigned 64 10 bs r → get_or bs 0 0 ≢ 43 → get_or bs 0 0 ≢ 48 → p ≡ result_ok r → IfSome p (λ n. bs ≡ decimal n)
found_if_parsed bs p (Ok n) h plus z e = subst (λ q. IfSome q (λ m. bs ≡ decimal m)) (sym e) (parsed_is_written {E = ParseIntError} bs (Ok n) n h plus z refl)
found_if_parsed bs p (Err x) h plus z e = subst (λ q. IfSome q (λ m. bs ≡ decimal m)) (sym e) tt

pub parsed_if_written : (bs : List ℕ) (n : ℕ) (r : Result ℕ ParseIntError) → n < 2 ^ 64 → bs ≡ decimal n → ParsesUnsigned 64 10 bs r → result_ok r ≡ Some n
parsed_if_written bs n r h e p = ap (λ (q : Result ℕ ParseIntError). result_ok q) (parse-decimal {E = ParseIntError} 64 n bs r h h e p)

pub utf8_written : (n : ℕ) (bs : List ℕ) → n < 2 ^ 64 → bs ≡ decimal n → IsUtf8 bs
utf8_written n bs h e = subst (λ ds. IsUtf8 ds) (sym e) (IsUtf8-from_ascii (decimal n) (IsAscii-decimal n h))
