-- The objects of births as they come into the owner's table: those of a task stand one behind the other, and the first has the task.
use Rattle.std.proofs.Common.{◌≡◌, ℕ, zero, suc, ◌+◌, ◌<◌, ◌≤◌, true, false, List, [], ◌∷◌, ◌++◌, length, Some, None, inl, inr, refl, sym, ap, ◌∙◌, subst, arith}
use Rattle.std.specs.Prelude.{◌==◌, ◌⊎◌, if◌then◌else◌}
use Rattle.std.proofs.lemmas.Bool.Decides.{nat_tests}
use Rattle.std.proofs.lemmas.Bool.{eqb-true}
use Rattle.std.proofs.lemmas.List.{length-append}
use Rattle.meaning.specs.Values.{Birth, Put, Task, others_of, results_of, Id}
use Rattle.meaning.specs.Runs.{past as past_ids, behind}
use Rattle.meaning.specs.Births.{numbered}
use Rattle.meaning.proofs.BirthLaws.{at_test}
use Rattle.values.specs.Listed.{each_once}
use Rattle.kind_laws.specs.of_event_log.Entries.{Attempt}
use Rattle.kind_laws.specs.of_event_log.Holding.{ids_of_birth}
use Rattle.step_laws.specs.of_protocol.Numbered.{item_at, changed_at}
use Rattle.step_laws.specs.Counting.{item_of, changed}
use Rattle.step_laws.proofs.Places.{changed_is, placed}
use Rattle.step_laws.proofs.Lists.{counted_item_within, counted_repeated_at}
use Rattle.step_laws.specs.of_protocol.Sets.{repeated}
use Rattle.step_laws.specs.of_protocol.Tables.{AskedAt, OwnTask, ObjectSource, ByTask, Beside, Object, new_task, new_object, put_object}
use Rattle.step_laws.specs.of_protocol.Events.{objects_made}

-- ---- lists

pub repeated-length : {X : Type 0} (n : ℕ) (x : X) → ◌≡◌ {A = ℕ} (length (repeated n x)) n
repeated-length zero x = refl
repeated-length (suc n) x = ap suc (repeated-length n x)

-- the items of the same thing so many times
pub repeated_there : {X : Type 0} (k n : ℕ) (x : X) (m : ℕ) → k ≤ m → m < k + n → item_of k (repeated n x) m ≡ Some x
repeated_there k zero x m l r = absurd (omega (arith, l, r))
repeated_there k (suc n) x m l r =
    at_test (λ b. (k == m) ≡ b → (if b then Some x else item_of (k + 1) (repeated n x) m) ≡ Some x) (k == m)
    (λ b e. refl) (λ b e. repeated_there (k + 1) n x m (grind (arith, nat_tests)) (omega (arith, r))) refl

-- what stands in the second of two lists put together
pub counted_item_behind : {X : Type 0} (k : ℕ) (xs ys : List X) (m : ℕ) (z : X) → item_of (k + length xs) ys m ≡ Some z → item_of k (xs ++ ys) m ≡ Some z
counted_item_behind k [] ys m z e = let i : ◌≡◌ {A = ℕ} (k + 0) k = omega arith in subst (λ j. item_of j ys m ≡ Some z) i e
counted_item_behind k (x ∷ xs) ys m z e =
    let l = (counted_item_within ys (k + length (x ∷ xs)) m z e).1 in
    let d : (k == m) ≡ false = grind (arith, nat_tests, l) in
    let i : ◌≡◌ {A = ℕ} (k + length (x ∷ xs)) (k + 1 + length xs) = omega arith in
    ap (λ b. if b then Some x else item_of (k + 1) (xs ++ ys) m) d ∙ counted_item_behind (k + 1) xs ys m z (subst (λ j. item_of j ys m ≡ Some z) i e)

pub item_behind : {X : Type 0} (xs ys : List X) (m : ℕ) (z : X) → item_of (1 + length xs) ys m ≡ Some z → item_at (xs ++ ys) m ≡ Some z
item_behind xs ys m z e = placed (xs ++ ys) m (counted_item_behind 1 xs ys m z e)

-- the only item of a list of one
pub only_item : {X : Type 0} (k : ℕ) (x : X) (m : ℕ) (z : X) → item_of k (x ∷ []) m ≡ Some z → (k ≡ m) × (x ≡ z)
only_item k x m z e =
    at_test (λ b. (k == m) ≡ b → (if b then Some x else None) ≡ Some z → (k ≡ m) × (x ≡ z)) (k == m)
    (λ b t f. (eqb-true k m t, cc)) (λ b t f. absurd (cc)) refl e

-- one item, and so many of another behind it
pub one_or_repeated : {X : Type 0} (k n : ℕ) (x y : X) (m : ℕ) (z : X) → item_of k (x ∷ repeated n y) m ≡ Some z → ((k ≡ m) × (x ≡ z)) ⊎ ((k < m) × (m < k + suc n) × (y ≡ z))
one_or_repeated k n x y m z e =
    at_test (λ b. (k == m) ≡ b → (if b then Some x else item_of (k + 1) (repeated n y) m) ≡ Some z → ((k ≡ m) × (x ≡ z)) ⊎ ((k < m) × (m < k + suc n) × (y ≡ z))) (k == m)
    (λ b t f. inl (eqb-true k m t, cc))
    (λ b t f.
    let r = counted_repeated_at n y (k + 1) m z f in
    let low = r.1 in
    let high = (counted_item_within (repeated n y) (k + 1) m z f).0 in
    let l : ◌≡◌ {A = ℕ} (length (repeated n y)) n = repeated-length n y in
    inr (omega (arith, low), omega (arith, high, l), r.0)) refl e

pub first_there : {X : Type 0} (k n : ℕ) (x y : X) → item_of k (x ∷ repeated n y) k ≡ Some x
first_there k n x y = let t : (k == k) ≡ true = grind (arith, nat_tests) in ap (λ b. if b then Some x else item_of (k + 1) (repeated n y) k) t

pub repeated_behind : {X : Type 0} (k n : ℕ) (x y : X) (m : ℕ) → k < m → m < k + suc n → item_of k (x ∷ repeated n y) m ≡ Some y
repeated_behind k n x y m l r =
    let d : (k == m) ≡ false = grind (arith, nat_tests, l) in
    ap (λ b. if b then Some x else item_of (k + 1) (repeated n y) m) d ∙ repeated_there (k + 1) n y m (omega (arith, l)) (omega (arith, r))

-- ---- changes

-- from the number on there is nothing more to change
pub beyond : {X : Type 0} (k : ℕ) (xs : List X) (n : ℕ) (f : X → X) → n < k → changed k xs n f ≡ xs
beyond k [] n f l = refl
beyond k (x ∷ xs) n f l =
    let e : (k == n) ≡ false = grind (arith, nat_tests) in
    ap (λ b. (if b then f x else x) ∷ changed (k + 1) xs n f) e ∙ ap (λ ys. x ∷ ys) (beyond (k + 1) xs n f (omega (arith, l)))

counted_changed_middle : {X : Type 0} (k : ℕ) (xs : List X) (x : X) (ys : List X) (n : ℕ) (f : X → X) → n ≡ k + length xs → changed k (xs ++ x ∷ ys) n f ≡ xs ++ f x ∷ ys
counted_changed_middle k [] x ys n f e =
    let t : (k == n) ≡ true = grind (arith, nat_tests, e) in
    ap (λ b. (if b then f x else x) ∷ changed (k + 1) ys n f) t ∙ ap (λ zs. f x ∷ zs) (beyond (k + 1) ys n f (omega (arith, e)))
counted_changed_middle k (z ∷ xs) x ys n f e =
    let t : (k == n) ≡ false = grind (arith, nat_tests, e) in
    ap (λ b. (if b then f z else z) ∷ changed (k + 1) (xs ++ x ∷ ys) n f) t ∙ ap (λ zs. z ∷ zs) (counted_changed_middle (k + 1) xs x ys n f (omega (arith, e)))

pub changed_middle : {X : Type 0} (xs : List X) (x : X) (ys : List X) (n : ℕ) (f : X → X) → n ≡ 1 + length xs → changed_at (xs ++ x ∷ ys) n f ≡ xs ++ f x ∷ ys
changed_middle xs x ys n f e = sym (changed_is (xs ++ x ∷ ys) n f) ∙ counted_changed_middle 1 xs x ys n f e

-- ---- ids

pub made-append : (bs cs : List Birth) → ◌≡◌ {A = ℕ} (objects_made (bs ++ cs)) (objects_made bs + objects_made cs)
made-append [] cs = omega arith
made-append (b ∷ bs) cs = let e = made-append bs cs in omega (arith, e)

pub numbered-append : (base : Id) (bs cs : List Birth) → numbered base (bs ++ cs) ≡ numbered base bs ++ numbered (past_ids base (objects_made bs)) cs
numbered-append base [] cs = let e : ◌≡◌ {A = ℕ} base.serial (base.serial + 0) = omega arith in ap (λ i. numbered (record { owner = base.owner; serial = i }) cs) e
numbered-append base (b ∷ bs) cs =
    let next = behind base b in
    let e : ◌≡◌ {A = ℕ} (base.serial + results_of b + objects_made bs) (base.serial + objects_made (b ∷ bs)) = omega arith in
    ap (λ xs. record { object = base; birth = b } ∷ xs) (numbered-append next bs cs ∙ ap (λ i. numbered next bs ++ numbered (record { owner = base.owner; serial = i }) cs) e)

-- ---- the objects of a birth

abbrev pub asks_of_task : Birth → ℕ → OwnTask
asks_of_task spec n = record (new_task spec) { progress = AskedAt 0 n }

-- the object as it was put
abbrev pub put_row : Attempt → ℕ → Birth → Object
put_row a n b = put_object a (each_once (ids_of_birth b)) n

-- a new object of a task
abbrev pub task_row : Attempt → Birth → ObjectSource → Object
task_row a b source = new_object source a (each_once (ids_of_birth b))

-- the objects of a task that is asked for, the first of them with that serial
abbrev pub task_rows : Attempt → ℕ → ℕ → Birth → List Object
task_rows a n serial b = task_row a b (ByTask (asks_of_task b n)) ∷ repeated (others_of b) (task_row a b (Beside serial))

-- those of a birth
abbrev pub born_objects : Attempt → ℕ → ℕ → Birth → List Object
born_objects a n serial (Put v) = put_row a n (Put v) ∷ []
born_objects a n serial (Task g args depth retries others) = task_rows a n serial (Task g args depth retries others)

pub rows-length : (a : Attempt) (n serial : ℕ) (b : Birth) → length (task_rows a n serial b) ≡ results_of b
rows-length a n serial b = ap suc (repeated-length (others_of b) (task_row a b (Beside serial)))

pub born-length : (a : Attempt) (n serial : ℕ) (b : Birth) → length (born_objects a n serial b) ≡ results_of b
born-length a n serial (Put v) = refl
born-length a n serial (Task g args depth retries others) = rows-length a n serial (Task g args depth retries others)

-- those of all births, behind so many objects
abbrev pub all_born : Attempt → ℕ → ℕ → List Birth → List Object
all_born a n k [] = []
all_born a n k (b ∷ bs) = born_objects a n (k + 1) b ++ all_born a n (k + results_of b) bs

pub length-born : (a : Attempt) (n serial : ℕ) (b : Birth) (objects : List Object) → length (objects ++ born_objects a n serial b) ≡ length objects + results_of b
length-born a n serial b objects = length-append objects (born_objects a n serial b) ∙ ap (λ i. length objects + i) (born-length a n serial b)
