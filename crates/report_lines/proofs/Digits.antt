-- A number is written as the one without its last digit, and that digit behind it.
use Rattle.std.proofs.Common.{◌≡◌, ◌<◌, ◌≤◌, ◌/◌, ◌%◌, ◌^◌, ◌+◌, ◌∷◌, ◌++◌, ℕ, [], map, ap, arith, sym, ◌∙◌}
use Rattle.std.proofs.lemmas.Fmt.{decimal_digit, decimal-digits_of}
use Rattle.std.proofs.lemmas.Int.Digits.{digits_of_step}
use Rattle.std.proofs.lemmas.List.{map_push}
use Rattle.std.specs.Fmt.{decimal}
use Rattle.std.specs.Int.Digits.{digits_of}

pub one_more : (n : ℕ) → 10 ≤ n → n < 2 ^ 64 → decimal n ≡ decimal (n / 10) ++ decimal (n % 10)
one_more n l h =
    let some : 0 < n = omega (arith, l) in
    let more : 0 < n / 10 = omega (arith, l) in
    let less : n / 10 < 2 ^ 64 = omega (arith, h) in
    let last : n % 10 < 10 = omega arith in
    decimal-digits_of n some h ∙ ap (map (λ d. 48 + d)) (digits_of_step 10 n (omega arith) some) ∙ map_push (λ d. 48 + d) (digits_of 10 (n / 10)) (n % 10)
    ∙ ap (λ ds. ds ++ (48 + n % 10) ∷ []) (sym (decimal-digits_of (n / 10) more less)) ∙ ap (λ ds. decimal (n / 10) ++ ds) (sym (decimal_digit (n % 10) last))
