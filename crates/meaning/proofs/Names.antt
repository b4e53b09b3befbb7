-- Names are the same where the test says so.
use Rattle.std.proofs.Common.{◌≡◌, true, false, [], ◌∷◌, refl, sym, ap, ◌∙◌, arith}
use Rattle.std.specs.Prelude.{◌≢◌, nat_eq, ◌&&◌}
use Rattle.std.proofs.lemmas.Bool.Decides.{nat_tests}
use Rattle.meaning.specs.Values.{Name}
use Rattle.meaning.specs.Meaning.{same_name}
use Rattle.meaning.proofs.BirthLaws.{at_test}

pub same_name-true : (x y : Name) → same_name x y ≡ true → x ≡ y
same_name-true [] [] h = refl
same_name-true [] (d ∷ y) h = absurd (cc)
same_name-true (c ∷ x) [] h = absurd (cc)
same_name-true (c ∷ x) (d ∷ y) h =
    let rest = same_name-true x y in
    at_test (λ b. (b && same_name x y) ≡ true → c ∷ x ≡ d ∷ y) (nat_eq c d)
    (λ e k. let first : c ≡ d = grind (arith, nat_tests, e) in let others = rest k in cc) (λ e k. absurd (cc)) h

pub same_name-refl : (x : Name) → same_name x x ≡ true
same_name-refl [] = refl
same_name-refl (c ∷ x) = let first : nat_eq c c ≡ true = grind (arith, nat_tests) in ap (λ b. b && same_name x x) first ∙ same_name-refl x

pub same_name-false : (x y : Name) → same_name x y ≡ false → x ≢ y
same_name-false x y h e = let same : same_name x y ≡ true = ap (λ z. same_name x z) (sym e) ∙ same_name-refl x in absurd (cc)
