-- What stands among envelopes that were joined.
use Rattle.std.proofs.Common.{◌≡◌, zero, suc, List, [], ◌∷◌, ◌++◌, refl, ◌⊎◌, inl, inr}
use Rattle.sequence.proofs.Places.{slice_get-append, slice_get-push_cases}
use Rattle.smallest_steps.specs.of_event_log.Breaks.{Among}

module _ {X : Type 0} where
  pub among-more : (xs ys : List X) (x : X) → Among x xs → Among x (xs ++ ys)
  among-more xs ys x h = (h.0, slice_get-append xs ys h.0 x h.1)

  pub among-last : (xs : List X) (x : X) → Among x (xs ++ x ∷ [])
  among-last [] x = (zero, refl)
  among-last (y ∷ xs) x = let h = among-last xs x in (suc h.0, h.1)

  pub among-push_cases : (xs : List X) (y x : X) → Among x (xs ++ y ∷ []) → Among x xs ⊎ (x ≡ y)
  among-push_cases xs y x h = elim (slice_get-push_cases xs y h.0 x h.1) [ inl e ↦ inl (h.0, e) | inr e ↦ inr e.1 ]

  pub among-nothing : (x : X) → Among x [] → ⊥
  among-nothing x h = let e = h.1 in cc

  pub among-append_cases : (xs ys : List X) (x : X) → Among x (xs ++ ys) → Among x xs ⊎ Among x ys
  among-append_cases [] ys x h = inr h
  among-append_cases (y ∷ xs) ys x (zero, e) = inl (zero, e)
  among-append_cases (y ∷ xs) ys x (suc k, e) = elim (among-append_cases xs ys x (k, e)) [ inl h ↦ inl (suc h.0, h.1) | inr h ↦ inr h ]

  pub among-behind : (xs ys : List X) (x : X) → Among x ys → Among x (xs ++ ys)
  among-behind [] ys x h = h
  among-behind (y ∷ xs) ys x h = let g = among-behind xs ys x h in (suc g.0, g.1)
