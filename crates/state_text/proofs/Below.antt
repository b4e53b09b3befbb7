-- What is told of numbered things, one after the other.
use Rattle.std.proofs.Common.{◌≡◌, ◌∙◌, ◌+◌, ◌++◌, ℕ, suc, List, [], None, Some, ap, append-nil, append_assoc, sym, refl, length, arith, ◌≤◌}
use Rattle.std.specs.Prelude.{slice_get}
use Rattle.std.proofs.lemmas.Option.{slice_get_past}
use Rattle.event_log.specs.Events.{from_one}
use Rattle.state_text.specs.Below.{below}

pub none_told : (told : ℕ → List ℕ) → below told 0 ≡ []
unfolding below
none_told told = refl

next_told : (told : ℕ → List ℕ) (n : ℕ) → below told (suc n) ≡ below told n ++ told n
unfolding below
next_told told n = refl

pub one_more_told : (told : ℕ → List ℕ) (n : ℕ) → below told (n + 1) ≡ below told n ++ told n
one_more_told told n =
    let next : n + 1 ≡ suc n = omega arith in
    ap (below told) next ∙ next_told told n

-- nothing is told yet
pub begun_told : (s : List ℕ) (told : ℕ → List ℕ) → s ≡ s ++ below told 0
begun_told s told = sym (ap (λ t. s ++ t) (none_told told) ∙ append-nil s)

-- one more is told
pub further_told : (s mid new : List ℕ) (told : ℕ → List ℕ) (n : ℕ) → mid ≡ s ++ below told n → new ≡ mid ++ told n → new ≡ s ++ below told (n + 1)
further_told s mid new told n e f =
    f ∙ ap (λ t. t ++ told n) e ∙ append_assoc s (below told n) (told n) ∙ ap (λ t. s ++ t) (sym (one_more_told told n))

-- the item of a number stands at the place before it
pub item_there : {X : Type 0} (xs : List X) (i n : ℕ) (x : X) → n ≡ suc i → slice_get xs i ≡ Some x → from_one xs n ≡ Some x
item_there xs i n x e g = ap (from_one xs) e ∙ g

pub no_item : {X : Type 0} (xs : List X) (i n : ℕ) → n ≡ suc i → length xs ≤ i → from_one xs n ≡ None
no_item xs i n e h = ap (from_one xs) e ∙ slice_get_past xs i h
