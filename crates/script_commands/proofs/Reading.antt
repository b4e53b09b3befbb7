-- Texts of scripts, as far as they are read.
use Rattle.std.proofs.Common.{◌≡◌, ◌∙◌, ◌<◌, ◌≤◌, ◌*◌, ℕ, List, Option, None, Some, inl, inr, refl, ap, subst, take, length, arith}
use Rattle.std.specs.Prelude.{IfSome}
use Rattle.std.proofs.lemmas.Bool.{cases_lt}
use Rattle.std.proofs.lemmas.List.{take_all, length-take-le}
use Rattle.script_tokens.specs.declared.error.SyntaxError.TheVariants as syntax
use Rattle.script_syntax.specs.Trees.{Program}
use Rattle.script_syntax.specs.Grammar.{Reads}
use Rattle.raysim_streams.specs.declared.CommandRefusal.TheVariants.{At}
use Rattle.script_commands.specs.Scripts.{IsNoScriptFor}

-- a long text reads as no program
too_long : (bytes : List ℕ) → 65536 < length bytes → (program : Program) → Reads bytes program → ⊥
too_long bytes more program r = let short : length bytes ≤ 65536 = r.1.short in omega arith

-- a long text is refused for its length
long_refused : (bytes : List ℕ) → 65536 < length bytes → IsNoScriptFor bytes (At 4 (record { start = 0; end = 0 }))
long_refused bytes more = record {
  none = λ script s. too_long bytes more s.0 s.1;
  told = inl (
    syntax.TooLarge (record { start = 0; end = 0 }),
    record { cause = inl (more, refl, refl); only = λ program r. absurd (too_long bytes more program r) },
    refl,
  );
}

-- where more was read than a script may have, the text is refused for its length
pub known_long : (known : Option (List ℕ)) (all : List ℕ) → IfSome known (λ b. all ≡ take 65537 b) → 65536 < length all → IfSome known (λ b. IsNoScriptFor b (At 4 (record { start = 0; end = 0 })))
known_long None all same more = tt
known_long (Some b) all same more = elim (cases_lt 65536 (length b)) [
  | inl longer ↦ long_refused b longer
  | inr shorter ↦
      let whole : length all ≡ length b = ap length (same ∙ take_all 65537 b (omega arith)) in
      let bad : ⊥ = omega arith in absurd bad
]

-- where less was read, all was
pub known_short : (known : Option (List ℕ)) (all : List ℕ) → IfSome known (λ b. all ≡ take 65537 b) → length all ≤ 65536 → IfSome known (λ b. all ≡ b)
known_short None all same less = tt
known_short (Some b) all same less = elim (cases_lt 65536 (length b)) [
  | inl longer ↦
      let cut : length all ≡ 65537 = ap length same ∙ length-take-le 65537 b (omega arith) in
      let bad : ⊥ = omega arith in absurd bad
  | inr shorter ↦ same ∙ take_all 65537 b (omega arith)
]

-- where less was read than might have been, all was
known_whole : (known : Option (List ℕ)) (all : List ℕ) (most : ℕ) → IfSome known (λ b. all ≡ take most b) → length all < most →
    IfSome known (λ b. all ≡ b)
known_whole None all most same less = tt
known_whole (Some b) all most same less = elim (cases_lt (length b) most) [
  | inl shorter ↦ same ∙ take_all most b (omega (arith, shorter))
  | inr longer ↦
      let cut : length all ≡ most = ap length same ∙ length-take-le most b longer in
      let bad : ⊥ = omega (arith, cut, less) in absurd bad
]

-- what holds of a text holds of what is known of it
pub of_known : (P : List ℕ → Type 0) (known : Option (List ℕ)) (text : List ℕ) → IfSome known (λ b. text ≡ b) → P text → IfSome known P
of_known P None text same h = tt
of_known P (Some b) text same h = subst P same h

-- what holds of the text that was read holds of what was left to read
pub of_read : (P : List ℕ → Type 0) (known : Option (List ℕ)) (text shown : List ℕ) → IfSome known (λ b. text ≡ take 18446744073709551615 b) →
    shown ≡ text → length shown * 1 < 9223372036854775808 → P shown → IfSome known P
of_read P known text shown same value bound h =
    let short : length shown * 1 < 9223372036854775808 → length shown < 18446744073709551615 = λ b. omega (arith, b) in
    let less : length text < 18446744073709551615 = subst (λ t. length t < 18446744073709551615) value (short bound) in
    of_known P known text (known_whole known text 18446744073709551615 same less) (subst P value h)
