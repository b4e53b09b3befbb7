-- Seats one after the other, and the parts that they take.
use Rattle.std.proofs.Common.{◌≡◌, ◌⊎◌, inl, inr, ℕ, zero, suc, ◌+◌, ◌*◌, ◌<◌, ◌≤◌, Bool, true, false, [], ◌∷◌, ◌++◌, ap, sym, refl, ◌∙◌, arith}
use Rattle.std.proofs.lemmas.Bool.{eqb-true, eqb-false}
use Rattle.std.specs.Prelude.{◌==◌, if◌then◌else◌}
use Rattle.event_log.specs.Laws.{nothing}
use Rattle.seat_books.specs.Seats.{new_seats, seat_at, parts_at, parts_to, further_parts, further_parts_to, AreParts, IsSeat}

further : (from n k : ℕ) → k ≡ from + n → new_seats from n ++ seat_at k nothing ∷ [] ≡ new_seats from (suc n)
further from zero k e = ap (λ i. seat_at i nothing ∷ []) (let f : k ≡ from = omega (arith, e) in f)
further from (suc n) k e = ap (λ xs. seat_at from nothing ∷ xs) (further (from + 1) n k (omega (arith, e)))

pub one_more_seat : (n : ℕ) → new_seats 1 n ++ seat_at (n + 1) nothing ∷ [] ≡ new_seats 1 (n + 1)
one_more_seat n =
    let s : suc n ≡ n + 1 = omega arith in
    further 1 n (n + 1) (omega arith) ∙ ap (new_seats 1) s

-- ---- the parts that the first seats take

-- before the watched seat is reached, and behind it
abbrev Taken : ℕ → ℕ → Type 0
Taken w t =
    ((t < w) × (parts_to w t ≡ 2 * t) × (further_parts_to w t ≡ 0)) ⊎ ((w ≤ t) × (parts_to w t + 1 ≡ 2 * t) × (further_parts_to w t ≡ 1))

one_more : (w t : ℕ) (b : Bool) → (suc t == w) ≡ b → Taken w t → Taken w (suc t)
one_more w t true e (inl (before, parts, more)) =
    let same : suc t ≡ w = eqb-true (suc t) w e in
    let a : parts_to w (suc t) ≡ parts_to w t + 1 = ap (λ (b : Bool). parts_to w t + (if b then 1 else 2)) e in
    let f : further_parts_to w (suc t) ≡ further_parts_to w t + 1 = ap (λ (b : Bool). further_parts_to w t + (if b then 1 else 0)) e in
    inr (omega (arith, same), omega (arith, a, parts), omega (arith, f, more))
one_more w t false e (inl (before, parts, more)) =
    let other : ¬ (suc t ≡ w) = eqb-false (suc t) w e in
    let a : parts_to w (suc t) ≡ parts_to w t + 2 = ap (λ (b : Bool). parts_to w t + (if b then 1 else 2)) e in
    let f : further_parts_to w (suc t) ≡ further_parts_to w t + 0 = ap (λ (b : Bool). further_parts_to w t + (if b then 1 else 0)) e in
    inl (omega (arith, other, before), omega (arith, a, parts), omega (arith, f, more))
one_more w t true e (inr (behind, parts, more)) = let same : suc t ≡ w = eqb-true (suc t) w e in absurd (omega (arith, same, behind))
one_more w t false e (inr (behind, parts, more)) =
    let a : parts_to w (suc t) ≡ parts_to w t + 2 = ap (λ (b : Bool). parts_to w t + (if b then 1 else 2)) e in
    let f : further_parts_to w (suc t) ≡ further_parts_to w t + 0 = ap (λ (b : Bool). further_parts_to w t + (if b then 1 else 0)) e in
    inr (omega (arith, behind), omega (arith, a, parts), omega (arith, f, more))

taken : (w t : ℕ) → 1 ≤ w → Taken w t
taken w zero first = inl (omega (arith, first), refl, refl)
taken w (suc t) first = one_more w t (suc t == w) refl (taken w t first)

-- the next seat's parts are there
fits : (w n t p : ℕ) → w ≤ n → t < n → AreParts n p → Taken w (suc t) → (parts_to w (suc t) ≤ p) × (further_parts_to w (suc t) ≤ 1)
fits w n t p last more all (inl (before, parts, further)) = (omega (arith, last, more, all, before, parts), omega (arith, further))
fits w n t p last more all (inr (behind, parts, further)) = (omega (arith, last, more, all, behind, parts), omega (arith, further))

next : (t : ℕ) → t + 1 ≡ suc t
next t = omega arith

pub parts_next : (w t : ℕ) → parts_to w (t + 1) ≡ parts_to w t + parts_at w (t + 1)
parts_next w t = ap (parts_to w) (next t) ∙ ap (λ k. parts_to w t + parts_at w k) (sym (next t))

pub further_parts_next : (w t : ℕ) → further_parts_to w (t + 1) ≡ further_parts_to w t + further_parts w (t + 1)
further_parts_next w t = ap (further_parts_to w) (next t) ∙ ap (λ k. further_parts_to w t + further_parts w k) (sym (next t))

pub enough : (w n t p q : ℕ) → 1 ≤ w → w ≤ n → t < n → AreParts n p → q + parts_to w t ≡ p → parts_at w (t + 1) ≤ q
enough w n t p q first last more all left =
    let a = fits w n t p last more all (taken w (suc t) first) in
    let b = ap (parts_at w) (next t) in
    omega (arith, a.0, b, left)

pub enough_further : (w n t q : ℕ) → 1 ≤ w → w ≤ n → t < n → q + further_parts_to w t ≡ 1 → further_parts w (t + 1) ≤ q
enough_further w n t q first last more left =
    let b = ap (further_parts w) (next t) in
    let a = further_fits (taken w (suc t) first) in
    omega (arith, a, b, left)
  where
    further_fits : Taken w (suc t) → further_parts_to w (suc t) ≤ 1
    further_fits (inl (before, parts, further)) = omega (arith, further)
    further_fits (inr (behind, parts, further)) = omega (arith, further)

-- of so many seats
pub is_next : (n t seats : ℕ) → t < n → n ≡ seats → IsSeat seats (t + 1)
is_next n t seats more same = (omega arith, omega (arith, more, same))
