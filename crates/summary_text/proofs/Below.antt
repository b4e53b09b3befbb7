-- What is told of the entries of a log, one after the other.
use Rattle.std.proofs.Common.{◌≡◌, ◌∙◌, ◌+◌, ◌++◌, ℕ, suc, List, [], ap, append-nil, append_assoc, sym, refl, arith}
use Rattle.summary_text.specs.Below.{below}

pub none_told : (told : ℕ → List ℕ) → below told 0 ≡ []
unfolding below
none_told told = refl

next_told : (told : ℕ → List ℕ) (n : ℕ) → below told (suc n) ≡ below told n ++ told n
unfolding below
next_told told n = refl

pub one_more_told : (told : ℕ → List ℕ) (n : ℕ) → below told (n + 1) ≡ below told n ++ told n
one_more_told told n =
    let next : n + 1 ≡ suc n = omega arith in
    ap (below told) next ∙ next_told told n

-- nothing is told yet
pub begun_told : (s : List ℕ) (told : ℕ → List ℕ) → s ≡ s ++ below told 0
begun_told s told = sym (ap (λ t. s ++ t) (none_told told) ∙ append-nil s)

-- one more is told
pub further_told : (s mid new : List ℕ) (told : ℕ → List ℕ) (n : ℕ) → mid ≡ s ++ below told n → new ≡ mid ++ told n → new ≡ s ++ below told (n + 1)
further_told s mid new told n e f =
    f ∙ ap (λ t. t ++ told n) e ∙ append_assoc s (below told n) (told n) ∙ ap (λ t. s ++ t) (sym (one_more_told told n))
