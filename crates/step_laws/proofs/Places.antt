-- An item found by counting from one on is that at its place.
use Rattle.std.proofs.Common.{◌≡◌, ℕ, zero, suc, ◌+◌, ◌<◌, true, false, List, [], ◌∷◌, Option, Some, None, refl, sym, ap, ◌∙◌, arith}
use Rattle.std.specs.Prelude.{◌==◌, if◌then◌else◌, slice_get}
use Rattle.std.proofs.lemmas.Bool.Decides.{nat_tests}
use Rattle.protocol.specs.Numbered.{item_at, changed_at, changed_by}
use Rattle.step_laws.specs.Counting.{item_of, changed}

module _ {X : Type 0} where
  get_of : (k i : ℕ) (xs : List X) → item_of k xs (k + i) ≡ slice_get xs i
  get_of k i [] = refl
  get_of k zero (x ∷ xs) = let e : (k == (k + 0)) ≡ true = grind (arith, nat_tests) in ap (λ b. if b then Some x else item_of (k + 1) xs (k + 0)) e
  get_of k (suc i) (x ∷ xs) =
      let e : (k == (k + suc i)) ≡ false = grind (arith, nat_tests) in
      let f : ◌≡◌ {A = ℕ} (k + suc i) (k + 1 + i) = omega arith in
      ap (λ b. if b then Some x else item_of (k + 1) xs (k + suc i)) e ∙ ap (λ j. item_of (k + 1) xs j) f ∙ get_of (k + 1) i xs

  none_below : (k : ℕ) (xs : List X) (n : ℕ) → n < k → item_of k xs n ≡ None
  none_below k [] n h = refl
  none_below k (x ∷ xs) n h =
      let e : (k == n) ≡ false = grind (arith, nat_tests) in
      ap (λ b. if b then Some x else item_of (k + 1) xs n) e ∙ none_below (k + 1) xs n (omega (arith, h))

  same_below : (k : ℕ) (xs : List X) (n : ℕ) (f : X → X) → n < k → changed k xs n f ≡ xs
  same_below k [] n f h = refl
  same_below k (x ∷ xs) n f h =
      let e : (k == n) ≡ false = grind (arith, nat_tests) in
      ap (λ b. (if b then f x else x) ∷ changed (k + 1) xs n f) e ∙ ap (λ ys. x ∷ ys) (same_below (k + 1) xs n f (omega (arith, h)))

  set_of : (k i : ℕ) (xs : List X) (f : X → X) → changed k xs (k + i) f ≡ changed_by xs (suc i) f (slice_get xs i)
  set_of k i [] f = refl
  set_of k zero (x ∷ xs) f =
      let e : (k == (k + 0)) ≡ true = grind (arith, nat_tests) in
      ap (λ b. (if b then f x else x) ∷ changed (k + 1) xs (k + 0) f) e ∙ ap (λ ys. f x ∷ ys) (same_below (k + 1) xs (k + 0) f (omega arith))
  set_of k (suc i) (x ∷ xs) f =
      let e : (k == (k + suc i)) ≡ false = grind (arith, nat_tests) in
      let g : ◌≡◌ {A = ℕ} (k + suc i) (k + 1 + i) = omega arith in
      ap (λ b. (if b then f x else x) ∷ changed (k + 1) xs (k + suc i) f) e ∙ ap (λ j. x ∷ changed (k + 1) xs j f) g ∙ ap (λ ys. x ∷ ys) (set_of (k + 1) i xs f) ∙ behind (slice_get xs i)
    where
      behind : (o : Option X) → x ∷ changed_by xs (suc i) f o ≡ changed_by (x ∷ xs) (suc (suc i)) f o
      behind None = refl
      behind (Some y) = refl

  pub item_is : (xs : List X) (n : ℕ) → item_of 1 xs n ≡ item_at xs n
  item_is xs zero = none_below 1 xs 0 (omega arith)
  item_is xs (suc i) = let e : ◌≡◌ {A = ℕ} (suc i) (1 + i) = omega arith in ap (λ n. item_of 1 xs n) e ∙ get_of 1 i xs

  pub changed_is : (xs : List X) (n : ℕ) (f : X → X) → changed 1 xs n f ≡ changed_at xs n f
  changed_is xs zero f = same_below 1 xs 0 f (omega arith)
  changed_is xs (suc i) f = let e : ◌≡◌ {A = ℕ} (suc i) (1 + i) = omega arith in ap (λ n. changed 1 xs n f) e ∙ set_of 1 i xs f

  -- the same of what was found, both ways
  pub counted : (xs : List X) (n : ℕ) {o : Option X} → item_at xs n ≡ o → item_of 1 xs n ≡ o
  counted xs n e = item_is xs n ∙ e

  pub placed : (xs : List X) (n : ℕ) {o : Option X} → item_of 1 xs n ≡ o → item_at xs n ≡ o
  placed xs n e = sym (item_is xs n) ∙ e

  pub counted_changed : (xs : List X) (n m : ℕ) (f : X → X) {o : Option X} → item_at (changed_at xs n f) m ≡ o → item_of 1 (changed 1 xs n f) m ≡ o
  counted_changed xs n m f e = ap (λ ys. item_of 1 ys m) (changed_is xs n f) ∙ counted (changed_at xs n f) m e

  pub placed_changed : (xs : List X) (n m : ℕ) (f : X → X) {o : Option X} → item_of 1 (changed 1 xs n f) m ≡ o → item_at (changed_at xs n f) m ≡ o
  placed_changed xs n m f e = placed (changed_at xs n f) m (ap (λ ys. item_of 1 ys m) (sym (changed_is xs n f)) ∙ e)
