-- Items by number: lists with a changed item, lists with one more, lists put together, lists of the same.
use Rattle.std.proofs.Common.{◌≡◌, ℕ, ◌+◌, ◌<◌, Bool, true, false, List, [], ◌∷◌, ◌++◌, ◌⊎◌, inl, inr, Some, None, zero, suc, refl, sym, ◌∙◌, ap, subst, length, arith}
use Rattle.std.specs.Prelude.{if◌then◌else◌, ◌==◌}
use Rattle.std.proofs.lemmas.Bool.{eqb-false, eqb-true}
use Rattle.std.proofs.lemmas.Option.{same_Some}
use Rattle.protocol.specs.Numbered.{item_at, changed_at}
use Rattle.protocol.specs.Sets.{repeated}
use Rattle.step_laws.specs.Counting.{item_of, changed}
use Rattle.step_laws.proofs.Places.{changed_is, counted, placed, counted_changed}

-- the item of a changed list is the changed item, or as it was
abbrev WasChanged : {X : Type 0} → List X → ℕ → (X → X) → ℕ → ℕ → X → Type 0
WasChanged {X} xs n f k m y = ((m ≡ n) × ((x : X) × (item_of k xs m ≡ Some x) × (f x ≡ y))) ⊎ ((m ≡ n → ⊥) × (item_of k xs m ≡ Some y))

changed_up : {X : Type 0} (x : X) (xs : List X) (n : ℕ) (f : X → X) (k m : ℕ) (y : X) → (k == m) ≡ false → WasChanged xs n f (k + 1) m y → WasChanged (x ∷ xs) n f k m y
changed_up x xs n f k m y e (inl h) = inl (h.0, (h.1.0, ap (λ b. if b then Some x else item_of (k + 1) xs m) e ∙ h.1.1, h.1.2))
changed_up x xs n f k m y e (inr h) = inr (h.0, ap (λ b. if b then Some x else item_of (k + 1) xs m) e ∙ h.1)

changed_first : {X : Type 0} (x : X) (xs : List X) (n : ℕ) (f : X → X) (k m : ℕ) (y : X) → (k == m) ≡ true → (c : Bool) → (k == n) ≡ c → Some (if c then f x else x) ≡ Some y → WasChanged (x ∷ xs) n f k m y
changed_first x xs n f k m y e true g h = inl (sym (eqb-true k m e) ∙ eqb-true k n g, (x, ap (λ b. if b then Some x else item_of (k + 1) xs m) e, same_Some (f x) y h))
changed_first x xs n f k m y e false g h = inr (λ i. eqb-false k n g (eqb-true k m e ∙ i), ap (λ b. if b then Some x else item_of (k + 1) xs m) e ∙ h)

changed_one : {X : Type 0} (x : X) (xs : List X) (n : ℕ) (f : X → X) (k m : ℕ) (y : X) → (item_of (k + 1) (changed (k + 1) xs n f) m ≡ Some y → WasChanged xs n f (k + 1) m y)
    → (b : Bool) → (k == m) ≡ b → (if b then Some (if k == n then f x else x) else item_of (k + 1) (changed (k + 1) xs n f) m) ≡ Some y → WasChanged (x ∷ xs) n f k m y
changed_one x xs n f k m y ih true e h = changed_first x xs n f k m y e (k == n) refl h
changed_one x xs n f k m y ih false e h = changed_up x xs n f k m y e (ih h)

counted_changed_cases : {X : Type 0} (xs : List X) (n : ℕ) (f : X → X) (k m : ℕ) (y : X) → item_of k (changed k xs n f) m ≡ Some y → WasChanged xs n f k m y
counted_changed_cases [] n f k m y h = absurd (cc)
counted_changed_cases (x ∷ xs) n f k m y h = changed_one x xs n f k m y (counted_changed_cases xs n f (k + 1) m y) (k == m) refl h

-- an item stands within the list
within_at : {X : Type 0} (x : X) (xs : List X) (k m : ℕ) (y : X) → (item_of (k + 1) xs m ≡ Some y → (m < (k + 1) + length xs) × (k < m + 1)) → (b : Bool) → (k == m) ≡ b → (if b then Some x else item_of (k + 1) xs m) ≡ Some y → (m < k + suc (length xs)) × (k < m + 1)
within_at x xs k m y ih true e h = let f = eqb-true k m e in (omega (arith, f), omega (arith, f))
within_at x xs k m y ih false e h = let f = ih h in let a = f.0 in let b = f.1 in (omega (arith, a), omega (arith, b))

pub counted_item_within : {X : Type 0} (xs : List X) (k m : ℕ) (y : X) → item_of k xs m ≡ Some y → (m < k + length xs) × (k < m + 1)
counted_item_within [] k m y h = absurd (cc)
counted_item_within (x ∷ xs) k m y h = within_at x xs k m y (λ g. let r = counted_item_within xs (k + 1) m y g in let a = r.0 in let b = r.1 in (a, omega (arith, b))) (k == m) refl h

pub counted_repeated_at : {X : Type 0} (n : ℕ) (z : X) (k m : ℕ) (y : X) → item_of k (repeated n z) m ≡ Some y → (z ≡ y) × (k < m + 1)
counted_repeated_at zero z k m y h = absurd (cc)
counted_repeated_at (suc n) z k m y h = first (k == m) refl (counted_repeated_at n z (k + 1) m y) h
  where
    first : (b : Bool) → (k == m) ≡ b → (item_of (k + 1) (repeated n z) m ≡ Some y → (z ≡ y) × (k + 1 < m + 1)) → (if b then Some z else item_of (k + 1) (repeated n z) m) ≡ Some y → (z ≡ y) × (k < m + 1)
    first true e ih g = let i = eqb-true k m e in (same_Some z y g, omega (arith, i))
    first false e ih g = let r = ih g in let i = r.1 in (r.0, omega (arith, i))

-- one more item
pushed_at : {X : Type 0} (x z : X) (xs : List X) (k m : ℕ) (y : X) → (item_of (k + 1) (xs ++ z ∷ []) m ≡ Some y → (item_of (k + 1) xs m ≡ Some y) ⊎ ((m ≡ (k + 1) + length xs) × (z ≡ y)))
    → (b : Bool) → (k == m) ≡ b → (if b then Some x else item_of (k + 1) (xs ++ z ∷ []) m) ≡ Some y → ((if b then Some x else item_of (k + 1) xs m) ≡ Some y) ⊎ ((m ≡ k + suc (length xs)) × (z ≡ y))
pushed_at x z xs k m y ih true e h = inl h
pushed_at x z xs k m y ih false e h = elim (ih h) [ inl g ↦ inl g | inr g ↦ let i = g.0 in inr (omega (arith, i), g.1) ]

counted_pushed : {X : Type 0} (xs : List X) (z : X) (k m : ℕ) (y : X) → item_of k (xs ++ z ∷ []) m ≡ Some y → (item_of k xs m ≡ Some y) ⊎ ((m ≡ k + length xs) × (z ≡ y))
counted_pushed [] z k m y h = last (k == m) refl h
  where
    last : (b : Bool) → (k == m) ≡ b → (if b then Some z else None) ≡ Some y → (None ≡ Some y) ⊎ ((m ≡ k + 0) × (z ≡ y))
    last true e g = let f = eqb-true k m e in inr (omega (arith, f), same_Some z y g)
    last false e g = inl g
counted_pushed (x ∷ xs) z k m y h = pushed_at x z xs k m y (counted_pushed xs z (k + 1) m y) (k == m) refl h

joined_at : {X : Type 0} (x : X) (xs ys : List X) (k m : ℕ) (y : X) → (item_of (k + 1) (xs ++ ys) m ≡ Some y → (item_of (k + 1) xs m ≡ Some y) ⊎ (item_of ((k + 1) + length xs) ys m ≡ Some y)) → (b : Bool) → (k == m) ≡ b
    → (if b then Some x else item_of (k + 1) (xs ++ ys) m) ≡ Some y → ((if b then Some x else item_of (k + 1) xs m) ≡ Some y) ⊎ (item_of (k + suc (length xs)) ys m ≡ Some y)
joined_at x xs ys k m y ih true e h = inl h
joined_at x xs ys k m y ih false e h = elim (ih h) [ inl g ↦ inl g | inr g ↦ inr (subst (λ (i : ℕ). item_of i ys m ≡ Some y) (sum_is k (length xs)) g) ]
  where
    sum_is : (a b : ℕ) → (a + 1) + b ≡ a + suc b
    sum_is a b = omega arith

counted_joined_cases : {X : Type 0} (xs ys : List X) (k m : ℕ) (y : X) → item_of k (xs ++ ys) m ≡ Some y → (item_of k xs m ≡ Some y) ⊎ (item_of (k + length xs) ys m ≡ Some y)
counted_joined_cases [] ys k m y h = inr (subst (λ (i : ℕ). item_of i ys m ≡ Some y) (zero_is k) h)
  where
    zero_is : (a : ℕ) → a ≡ a + 0
    zero_is a = omega arith
counted_joined_cases (x ∷ xs) ys k m y h = joined_at x xs ys k m y (counted_joined_cases xs ys (k + 1) m y) (k == m) refl h

counted_changed-length : {X : Type 0} (k : ℕ) (xs : List X) (n : ℕ) (f : X → X) → length (changed k xs n f) ≡ length xs
counted_changed-length k [] n f = refl
counted_changed-length k (x ∷ xs) n f = ap suc (counted_changed-length (k + 1) xs n f)

-- ---- the same by place

pub changed_cases : {X : Type 0} (xs : List X) (n : ℕ) (f : X → X) (m : ℕ) (y : X) → item_at (changed_at xs n f) m ≡ Some y → ((m ≡ n) × ((x : X) × (item_at xs m ≡ Some x) × (f x ≡ y))) ⊎ ((m ≡ n → ⊥) × (item_at xs m ≡ Some y))
changed_cases xs n f m y h = elim (counted_changed_cases xs n f 1 m y (counted_changed xs n m f h)) [ inl c ↦ inl (c.0, (c.1.0, placed xs m c.1.1, c.1.2)) | inr c ↦ inr (c.0, placed xs m c.1) ]

pub item_within : {X : Type 0} (xs : List X) (m : ℕ) (y : X) → item_at xs m ≡ Some y → (m < 1 + length xs) × (1 < m + 1)
item_within xs m y h = counted_item_within xs 1 m y (counted xs m h)

pub repeated_at : {X : Type 0} (n : ℕ) (z : X) (m : ℕ) (y : X) → item_at (repeated n z) m ≡ Some y → (z ≡ y) × (1 < m + 1)
repeated_at n z m y h = counted_repeated_at n z 1 m y (counted (repeated n z) m h)

-- in a list behind another one, items are found by counting on
pub joined_cases : {X : Type 0} (xs ys : List X) (m : ℕ) (y : X) → item_at (xs ++ ys) m ≡ Some y → (item_at xs m ≡ Some y) ⊎ (item_of (1 + length xs) ys m ≡ Some y)
joined_cases xs ys m y h = elim (counted_joined_cases xs ys 1 m y (counted (xs ++ ys) m h)) [ inl c ↦ inl (placed xs m c) | inr c ↦ inr c ]

pub changed-length : {X : Type 0} (xs : List X) (n : ℕ) (f : X → X) → length (changed_at xs n f) ≡ length xs
changed-length xs n f = ap length (sym (changed_is xs n f)) ∙ counted_changed-length 1 xs n f

pub pushed_cases : {X : Type 0} (xs : List X) (z : X) (m : ℕ) (y : X) → item_at (xs ++ z ∷ []) m ≡ Some y → (item_at xs m ≡ Some y) ⊎ ((m ≡ 1 + length xs) × (z ≡ y))
pushed_cases xs z m y h = elim (counted_pushed xs z 1 m y (counted (xs ++ z ∷ []) m h)) [ inl g ↦ inl (placed xs m g) | inr g ↦ inr g ]
