-- The way round the circle of nodes, and a task that is changed in its place.
use Rattle.std.proofs.Common.{◌≡◌, ℕ, zero, ◌+◌, ◌-◌, ◌<◌, true, false, if◌then◌else◌, suc, refl, ap, arith, sym, ◌∙◌, List, [], ◌∷◌, Option, Some, None}
use Rattle.std.specs.Prelude.{slice_get, slice_set}
use Rattle.protocol.specs.Numbered.{changed_at, changed_by, item_at}
use Rattle.protocol.specs.Sets.{has}
use Rattle.protocol.specs.Slots.{next_in_circle}
use Rattle.protocol.specs.Tables.{Object, OwnTask, Worker, task_of, with_task}
use Rattle.protocol.specs.Asking.{first_live}

pub live_here : (x : Worker) (count n i at : ℕ) → i < n → has x.dead_nodes at ≡ false → first_live x count (n - i) at ≡ at
live_here x count n i at less live =
    let e : n - i ≡ suc (n - (i + 1)) = omega arith in
    ap (λ m. first_live x count m at) e ∙ ap (λ b. if b then first_live x count (n - (i + 1)) (next_in_circle count at) else at) live

pub dead_here : (x : Worker) (count n i at : ℕ) → i < n → has x.dead_nodes at ≡ true
    → first_live x count (n - i) at ≡ first_live x count (n - (i + 1)) (next_in_circle count at)
dead_here x count n i at less dead =
    let e : n - i ≡ suc (n - (i + 1)) = omega arith in
    ap (λ m. first_live x count m at) e ∙ ap (λ b. if b then first_live x count (n - (i + 1)) (next_in_circle count at) else at) dead

pub none_left : (x : Worker) (count n at : ℕ) → first_live x count (n - n) at ≡ at
none_left x count n at = let e : n - n ≡ 0 = omega arith in ap (λ m. first_live x count m at) e

written : (xs : List Object) (i : ℕ) (x y : Object) → slice_get xs i ≡ Some x → slice_get (slice_set xs i y) i ≡ Some y
written [] i x y e = absurd (cc)
written (z ∷ xs) zero x y e = refl
written (z ∷ xs) (suc i) x y e = written xs i x y e

task_by : (xs : List Object) (i : ℕ) (old new : OwnTask) (o : Option Object) → slice_get xs i ≡ o → task_of o ≡ Some old
    → task_of (item_at (changed_by xs (suc i) (with_task new) o) (suc i)) ≡ Some new
task_by xs i old new None g e = absurd (cc)
task_by xs i old new (Some x) g e = ap task_of (written xs i x (with_task new x) g)

-- the task that was written is the one that is read
pub task_changed : (xs : List Object) (n : ℕ) (old new : OwnTask) → task_of (item_at xs n) ≡ Some old
    → task_of (item_at (changed_at xs n (with_task new)) n) ≡ Some new
task_changed xs zero old new e = absurd (cc)
task_changed xs (suc i) old new e = task_by xs i old new (slice_get xs i) refl e

abbrev task_or : OwnTask → Option OwnTask → OwnTask
task_or d None = d
task_or d (Some x) = x

-- what is read twice is the same task
pub same_task : (o : Option OwnTask) (x y : OwnTask) → o ≡ Some x → o ≡ Some y → x ≡ y
same_task o x y e f = ap (task_or x) (sym e ∙ f)
