-- Marks of workers, which go with the workers.
use Rattle.std.proofs.Common.{◌≡◌, ℕ, zero, suc, ◌+◌, ◌<◌, ◌≤◌, ◌⊎◌, inl, inr, Bool, true, false, List, [], ◌∷◌, ◌++◌, length, Option, Some, None, refl, sym, ap, ◌∙◌, arith}
use Rattle.std.specs.Prelude.{slice_get, slice_set}
use Rattle.flags.specs.Blocks.{AreDown}
use Rattle.sequence.proofs.Places.{slice_get-append, slice_get-last, slice_get-push_cases, slice_get-set_cases, slice_get-set_other}
use Rattle.protocol_data.specs.declared.tables.Worker.{Worker}
use Rattle.protocol_data.specs.Going.{AreMarked}

-- what stands there is within
pub there_within : (xs : List Worker) (i : ℕ) (x : Worker) → slice_get xs i ≡ Some x → i < length xs
there_within [] i x e = absurd cc
there_within (y ∷ ys) zero x e = omega arith
there_within (y ∷ ys) (suc i) x e = omega (arith, there_within ys i x e)

set_length : {X : Type 0} (xs : List X) (i : ℕ) (x : X) → length (slice_set xs i x) ≡ length xs
set_length [] i x = refl
set_length (y ∷ ys) zero x = refl
set_length (y ∷ ys) (suc i) x = ap suc (set_length ys i x)

push_length : {X Y : Type 0} (xs : List X) (ys : List Y) (x : X) (y : Y) → length xs ≡ length ys → length (xs ++ x ∷ []) ≡ length (ys ++ y ∷ [])
push_length [] [] x y e = refl
push_length [] (z ∷ zs) x y e = absurd (omega (arith, e))
push_length (z ∷ zs) [] x y e = absurd (omega (arith, e))
push_length (z ∷ zs) (w ∷ ws) x y e = ap suc (push_length zs ws x y (omega (arith, e)))

is_no : (b : Bool) → (b ≡ true → ⊥) → b ≡ false
is_no true n = absurd (n refl)
is_no false n = refl

-- a worker comes to a place that is marked where the worker is so
pub marked_there : (f : Worker → Bool) (fs gs : List Bool) (xs : List Worker) (i : ℕ) (x : Worker) (b : Bool) → AreMarked f fs xs → b ≡ f x
    → (b ≡ true → slice_get gs i ≡ Some true) → ((j : ℕ) → slice_get fs j ≡ Some true → slice_get gs j ≡ Some true) → length gs ≡ length fs
    → AreMarked f gs (slice_set xs i x)
marked_there f fs gs xs i x b w e there kept l = record { marked = marked; len = l ∙ w.len ∙ sym (set_length xs i x) }
  where
    marked : (j : ℕ) (y : Worker) → slice_get (slice_set xs i x) j ≡ Some y → f y ≡ true → slice_get gs j ≡ Some true
    marked j y g h = elim (slice_get-set_cases xs i j x y g) [
      | inl k ↦ ap (λ n. slice_get gs n) k.0 ∙ there (e ∙ sym (ap f k.1) ∙ h)
      | inr k ↦ kept j (w.marked j y k.1 h)
    ]

settled_at : (f : Worker → Bool) (fs : List Bool) (xs : List Worker) (i j : ℕ) (x y : Worker) → slice_get xs i ≡ Some x → slice_get xs j ≡ Some y → f y ≡ true
    → slice_get fs j ≡ Some true → slice_get (slice_set fs i (f x)) j ≡ Some true
settled_at f [] xs i j x y a b h m = absurd cc
settled_at f (g ∷ fs) [] i j x y a b h m = absurd cc
settled_at f (g ∷ fs) (z ∷ xs) zero zero x y a b h m = let same : x ≡ y = cc in ap Some (ap f same ∙ h)
settled_at f (g ∷ fs) (z ∷ xs) zero (suc j) x y a b h m = m
settled_at f (g ∷ fs) (z ∷ xs) (suc i) zero x y a b h m = m
settled_at f (g ∷ fs) (z ∷ xs) (suc i) (suc j) x y a b h m = settled_at f fs xs i j x y a b h m

-- a place has a mark exactly where its worker is so
pub settled : (f : Worker → Bool) (fs : List Bool) (xs : List Worker) (i : ℕ) (x : Worker) (b : Bool) → AreMarked f fs xs → slice_get xs i ≡ Some x → b ≡ f x
    → AreMarked f (slice_set fs i b) xs
settled f fs xs i x b w at e = record { marked = marked; len = set_length fs i b ∙ w.len }
  where
    marked : (j : ℕ) (y : Worker) → slice_get xs j ≡ Some y → f y ≡ true → slice_get (slice_set fs i b) j ≡ Some true
    marked j y g h = ap (λ c. slice_get (slice_set fs i c) j) e ∙ settled_at f fs xs i j x y at g h (w.marked j y g h)

-- one more worker, with its mark
pub marked_last : (f : Worker → Bool) (fs : List Bool) (xs : List Worker) (x : Worker) (b : Bool) → AreMarked f fs xs → b ≡ f x
    → AreMarked f (fs ++ b ∷ []) (xs ++ x ∷ [])
marked_last f fs xs x b w e = record { marked = marked; len = push_length fs xs b x w.len }
  where
    marked : (j : ℕ) (y : Worker) → slice_get (xs ++ x ∷ []) j ≡ Some y → f y ≡ true → slice_get (fs ++ b ∷ []) j ≡ Some true
    marked j y g h = elim (slice_get-push_cases xs x j y g) [
      | inl k ↦ slice_get-append fs (b ∷ []) j true (w.marked j y k h)
      | inr k ↦ slice_get-last fs b j (k.0 ∙ sym w.len) ∙ ap Some (e ∙ sym (ap f k.1) ∙ h)
    ]

none_past : (xs : List Worker) (i : ℕ) → i < length xs → slice_get xs i ≡ None → ⊥
none_past [] i h e = absurd (omega (arith, h))
none_past (x ∷ xs) zero h e = absurd cc
none_past (x ∷ xs) (suc i) h e = none_past xs i (omega (arith, h)) e

-- a worker that dies loses its mark
pub lowered : (f : Worker → Bool) → ((x : Worker) → f (record x { is_live = false }) ≡ false) → (fs : List Bool) (xs ys : List Worker) (i : ℕ)
    → AreMarked f fs xs → i < length xs
    → ((x : Worker) → slice_get xs i ≡ Some x → ys ≡ slice_set xs i (record x { is_live = false })) → AreMarked f (slice_set fs i false) ys
lowered f dead fs xs ys i w h g = by (slice_get xs i) refl
  where
    marked : (x : Worker) (j : ℕ) (y : Worker) → slice_get (slice_set xs i (record x { is_live = false })) j ≡ Some y → f y ≡ true
        → slice_get (slice_set fs i false) j ≡ Some true
    marked x j y k t = elim (slice_get-set_cases xs i j (record x { is_live = false }) y k) [
      | inl e ↦ absurd (let z : true ≡ false = sym t ∙ ap f e.1 ∙ dead x in cc)
      | inr e ↦ slice_get-set_other fs i j false e.0 ∙ w.marked j y e.1 t
    ]

    by : (o : Option Worker) → slice_get xs i ≡ o → AreMarked f (slice_set fs i false) ys
    by None k = absurd (none_past xs i h k)
    by (Some x) k = record {
      marked = λ j y a t. marked x j y (ap (λ zs. slice_get zs j) (sym (g x k)) ∙ a) t;
      len = set_length fs i false ∙ w.len ∙ sym (ap length (g x k) ∙ set_length xs i (record x { is_live = false }));
    }

-- where no mark is, no worker is so
pub none_so : (f : Worker → Bool) (fs : List Bool) (xs : List Worker) (from to : ℕ) → AreMarked f fs xs → AreDown fs from to
    → (i : ℕ) (x : Worker) → from ≤ i → i < to → slice_get xs i ≡ Some x → f x ≡ false
none_so f fs xs from to w down i x a b g = is_no (f x) (λ t. let z : true ≡ false = down i true a b (w.marked i x g t) in cc)

-- no worker before the place is so, nor the one there, and behind it is no mark up to the next
pub none_further : (f : Worker → Bool) (fs : List Bool) (xs : List Worker) (from place next : ℕ) (y : Worker) → AreMarked f fs xs
    → ((i : ℕ) (x : Worker) → from ≤ i → i < place → slice_get xs i ≡ Some x → f x ≡ false)
    → slice_get xs place ≡ Some y → f y ≡ false → AreDown fs (place + 1) next
    → (i : ℕ) (x : Worker) → from ≤ i → i < next → slice_get xs i ≡ Some x → f x ≡ false
none_further f fs xs from place next y w before at isnt down i x a b g = elim (where_is i place) [
  | inl k ↦ before i x a k g
  | inr (inl k) ↦ (let same : x ≡ y = (let z : Some x ≡ Some y = sym g ∙ ap (λ n. slice_get xs n) k ∙ at in cc) in ap f same ∙ isnt)
  | inr (inr k) ↦ none_so f fs xs (place + 1) next w down i x k b g
]
  where
    where_is : (i place : ℕ) → (i < place) ⊎ ((i ≡ place) ⊎ (place + 1 ≤ i))
    where_is zero zero = inr (inl refl)
    where_is zero (suc p) = inl (omega arith)
    where_is (suc i) zero = inr (inr (omega arith))
    where_is (suc i) (suc p) = elim (where_is i p) [
      | inl k ↦ inl (omega (arith, k))
      | inr (inl k) ↦ inr (inl (ap suc k))
      | inr (inr k) ↦ inr (inr (omega (arith, k)))
    ]
