-- A slot that is passed on by its holder: who gets it has it first, and then the holder gives it up.
use Rattle.std.proofs.Common.{◌≡◌, ℕ, ◌<◌, ◌≤◌, List, [], ◌∷◌, ◌++◌, length, refl, sym, ap, ◌∙◌, arith, cond}
use Rattle.std.specs.Prelude.{Bool, true, false, nat_lt, not, if◌then◌else◌, ◌||◌, ◌==◌}
use Rattle.std.specs.List.{filter}
use Rattle.std.proofs.lemmas.Bool.Decides.{nat_tests}
use Rattle.number_lists.specs.of_protocol.Sets.{has, without_number, first_item}
use Rattle.number_lists.specs.of_protocol.Nodes.{NodeContext, Scheduler, with_scheduler}
use Rattle.number_lists.specs.of_protocol.Slots.{forgets, frees, grants, grants_next, grants_queued, has_free_slot, without_slot, without_worker}
use Rattle.lease.specs.Promises.{is_waited_for}

true_false : true ≡ false → ⊥
true_false e = cc

no_longer : (p : ℕ → Bool) (xs : List ℕ) → length (filter p xs) ≤ length xs
no_longer p [] = omega arith
no_longer p (x ∷ xs) = by (p x) (no_longer p xs)
  where
    by : (b : Bool) → length (filter p xs) ≤ length xs → length (cond b (x ∷ filter p xs) (filter p xs)) ≤ length (x ∷ xs)
    by true h = omega (arith, h)
    by false h = omega (arith, h)

shorter : (w : ℕ) (xs : List ℕ) → has xs w ≡ true → length (without_number xs w) < length xs
shorter w [] h = absurd (true_false (sym h))
shorter w (x ∷ xs) h = by (x == w) refl (no_longer (λ y. not (y == w)) xs) (λ e. shorter w xs e) h
  where
    by : (b : Bool) → (x == w) ≡ b → length (without_number xs w) ≤ length xs → (has xs w ≡ true → length (without_number xs w) < length xs) →
        (b || has xs w) ≡ true → length (cond (not b) (x ∷ without_number xs w) (without_number xs w)) < length (x ∷ xs)
    by true e l f t = omega (arith, l)
    by false e l f t = omega (arith, f t)

-- once the holder gives its slot up, one is free
free_behind : (s : Scheduler) (w : ℕ) → has s.slot_holders w ≡ true → length s.slot_holders ≤ s.slots → has_free_slot (without_slot s w) ≡ true
free_behind s w h l = let m = shorter w s.slot_holders h in grind (arith, nat_tests, m, l)

pub is_free_behind : (h : NodeContext) (w : ℕ) → has h.node.scheduler.slot_holders w ≡ true → length h.node.scheduler.slot_holders ≤ h.node.scheduler.slots
    → frees h w ≡ grants_next (with_scheduler h (without_slot h.node.scheduler w)) (first_item h.node.scheduler.answered)
is_free_behind h w e l =
    let h1 = with_scheduler h (without_slot h.node.scheduler w) in
    ap (λ b. if b then grants h1 else h) e
    ∙ ap (λ b. if b then grants_next h1 (first_item h.node.scheduler.answered) else h1) (free_behind h.node.scheduler w e l)

-- ---- a slot that nobody waits for

or_false_left : (a b : Bool) → (a || b) ≡ false → a ≡ false
or_false_left true b e = e
or_false_left false b e = refl

or_false_right : (a b : Bool) → (a || b) ≡ false → b ≡ false
or_false_right true b e = absurd (true_false e)
or_false_right false b e = e

empty : {X : Type 0} (xs : List X) → nat_lt 0 (length xs) ≡ false → xs ≡ []
empty [] e = refl
empty (x ∷ xs) e = absurd (grind (arith, nat_tests, e))

either_same : (b : Bool) (x y : NodeContext) → x ≡ y → (if b then x else y) ≡ y
either_same true x y e = e
either_same false x y e = refl

granted_to_nobody : (h : NodeContext) → h.node.scheduler.answered ≡ [] → h.node.scheduler.queue ≡ [] → grants h ≡ h
granted_to_nobody h a q =
    either_same (has_free_slot h.node.scheduler) (grants_next h (first_item h.node.scheduler.answered)) h
    (ap (λ xs. grants_next h (first_item xs)) a ∙ ap (λ xs. grants_queued h (first_item xs)) q)

pub freed_for_nobody : (h : NodeContext) (w : ℕ) → has h.node.scheduler.slot_holders w ≡ true → is_waited_for h.node.scheduler ≡ false
    → frees h w ≡ with_scheduler h (without_slot h.node.scheduler w)
freed_for_nobody h w has nobody =
    let h1 = with_scheduler h (without_slot h.node.scheduler w) in
    ap (λ b. if b then grants h1 else h) has
    ∙ granted_to_nobody h1 (empty h.node.scheduler.answered (or_false_left _ _ nobody)) (empty h.node.scheduler.queue (or_false_right _ _ nobody))

pub forgotten_for_nobody : (h : NodeContext) (w : ℕ) → has h.node.scheduler.slot_holders w ≡ true → is_waited_for h.node.scheduler ≡ false
    → forgets h w ≡ with_scheduler h (without_slot (without_worker h.node.scheduler w) w)
forgotten_for_nobody h w has nobody =
    let h1 = with_scheduler h (without_worker h.node.scheduler w) in
    let h2 = with_scheduler h1 (without_slot h1.node.scheduler w) in
    let none = ap (λ xs. without_number xs w) (empty h.node.scheduler.answered (or_false_left _ _ nobody)) in
    ap (λ b. if b then grants h2 else h1) has ∙ granted_to_nobody h2 none (empty h.node.scheduler.queue (or_false_right _ _ nobody))

-- ---- a list and its last item

head_is : (x y : ℕ) (xs ys : List ℕ) → ◌≡◌ {A = List ℕ} (x ∷ xs) (y ∷ ys) → x ≡ y
head_is x y xs ys e = cc

tail_is : (x y : ℕ) (xs ys : List ℕ) → ◌≡◌ {A = List ℕ} (x ∷ xs) (y ∷ ys) → xs ≡ ys
tail_is x y xs ys e = cc

never_empty : (xs : List ℕ) (x : ℕ) → [] ≡ xs ++ x ∷ [] → ⊥
never_empty [] x e = absurd cc
never_empty (y ∷ xs) x e = absurd cc

pub last_parts : (xs ys : List ℕ) (x y : ℕ) → xs ++ x ∷ [] ≡ ys ++ y ∷ [] → (xs ≡ ys) × (x ≡ y)
last_parts [] [] x y e = (refl, head_is x y [] [] e)
last_parts [] (z ∷ ys) x y e = absurd (never_empty ys y (tail_is x z [] (ys ++ y ∷ []) e))
last_parts (z ∷ xs) [] x y e = absurd (never_empty xs x (sym (tail_is z y (xs ++ x ∷ []) [] e)))
last_parts (z ∷ xs) (v ∷ ys) x y e =
    let rest = last_parts xs ys x y (tail_is z v (xs ++ x ∷ []) (ys ++ y ∷ []) e) in
    let first = head_is z v (xs ++ x ∷ []) (ys ++ y ∷ []) e in
    (ap (λ w. w ∷ xs) first ∙ ap (λ zs. v ∷ zs) rest.0, rest.1)
