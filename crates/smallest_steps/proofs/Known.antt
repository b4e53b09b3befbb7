-- What tests tell of own objects, their tasks and the attempt that waits, and what a change leaves of them.
use Rattle.std.proofs.Common.{[], ap, arith, inl, inr, length, length-append, List, None, Option, refl, Some, suc, sym, ℕ, ◌++◌, ◌+◌, ◌∙◌, ◌∷◌, ◌≡◌}
use Rattle.std.specs.Prelude.{Bool, ◌⊎◌, false, if◌then◌else◌, is_none, not, slice_get, true, zero, ◌&&◌, ◌==◌}
use Rattle.std.proofs.lemmas.Bool.Decides.{nat_tests}
use Rattle.std.proofs.lemmas.Bool.{eqb-true, not-true}
use Rattle.sequence.proofs.Places.{and_left, and_right, slice_get-append, slice_get-last}
use Rattle.meaning.proofs.BirthLaws.{at_test}
use Rattle.meaning.specs.Values.{Birth, Id, Outcome, results_of}
use Rattle.step_laws.specs.of_event_log.Entries.{Attempt}
use Rattle.step_laws.specs.of_event_log.Words.{attempt, same_attempt}
use Rattle.step_laws.specs.Counting.{changed, item_of}
use Rattle.step_laws.proofs.Lists.{counted_repeated_at, joined_cases}
use Rattle.step_laws.proofs.Places.{changed_is, counted, item_is, placed_changed}
use Rattle.step_laws.specs.of_protocol.Numbered.{changed_at, item_at}
use Rattle.step_laws.specs.of_protocol.Sets.{is_empty, repeated}
use Rattle.step_laws.specs.of_protocol.Steps.{changes, each_from, WorkerContext, is_own, object_at, own_id, own_object, with_run, with_task_of}
use Rattle.step_laws.specs.of_protocol.Tables.{AskedAt, AtRest, Beside, ByTask, Fetching, has_content, HasEnded, HasFaulted, is_nowhere, is_pending_task, is_same_id}
use Rattle.step_laws.specs.of_protocol.Tables.{is_waiting_for, is_whole, knows_dead, needed_by, new_object, new_task, Object, object_needed, Out, OwnTask, Phase, locations_for}
use Rattle.step_laws.specs.of_protocol.Tables.{Progress, Ready, Execution, RunsOn, task_in, task_of, Waits, with_dead_holder, with_holder, with_task, Worker}
use Rattle.step_laws.specs.of_protocol.Runs.{hears_by, with_fetching, with_fetching_at, with_fetching_by}
use Rattle.step_laws.specs.of_protocol.Asking.{if_asked, stands_at}
use Rattle.step_laws.specs.of_protocol.Holders.{adds_holder, awaits_hold_by, holding, holds_id, holds_ids, sends_hold}
use Rattle.step_laws.specs.of_protocol.Commits.{each_holds, next_id_here, task_objects, with_objects}
use Rattle.step_laws.specs.of_protocol.Ends.{if_present}
use Rattle.step_laws.specs.of_protocol.Notices.{runs_on_node, runs_on_worker}

-- ---- numbered lists

module _ {X : Type 0} where
  counted_here : (k : ℕ) (xs : List X) (n : ℕ) (f : X → X) (x : X) → item_of k xs n ≡ Some x → item_of k (changed k xs n f) n ≡ Some (f x)
  counted_here k [] n f x e = absurd (cc)
  counted_here k (y ∷ xs) n f x e =
      at_test (λ b. (if b then Some y else item_of (k + 1) xs n) ≡ Some x →
      (if b then Some (if b then f y else y) else item_of (k + 1) (changed (k + 1) xs n f) n) ≡ Some (f x)) (k == n)
      (λ _ g. let same : y ≡ x = cc in ap (λ z. Some (f z)) same) (λ _ g. counted_here (k + 1) xs n f x g) e

  pub changed_here : (xs : List X) (n : ℕ) (f : X → X) (x : X) → item_at xs n ≡ Some x → item_at (changed_at xs n f) n ≡ Some (f x)
  changed_here xs n f x e = placed_changed xs n n f (counted_here 1 xs n f x (counted xs n e))

  pub item_last : (xs : List X) (x : X) → item_at (xs ++ x ∷ []) (length xs + 1) ≡ Some x
  item_last xs x =
      let f : ◌≡◌ {A = ℕ} (length xs + 1) (suc (length xs)) = omega arith in
      ap (item_at (xs ++ x ∷ [])) f ∙ slice_get-last xs x (length xs) refl

counted_tasks : (k : ℕ) (xs : List Object) (n m : ℕ) (f : Object → Object) → ((y : Object) → (f y).source ≡ y.source) →
    task_of (item_of k (changed k xs n f) m) ≡ task_of (item_of k xs m)
counted_tasks k [] n m f keeps = refl
counted_tasks k (x ∷ xs) n m f keeps =
    at_test (λ b. task_of (if b then Some (if k == n then f x else x) else item_of (k + 1) (changed (k + 1) xs n f) m) ≡ task_of
    (if b then Some x else item_of (k + 1) xs m)) (k == m)
    (λ _. at_test (λ b. task_in (if b then f x else x).source ≡ task_in x.source) (k == n) (λ _. ap task_in (keeps x)) (λ _. refl))
    (λ _. counted_tasks (k + 1) xs n m f keeps)

-- what makes objects stays, where a change leaves it
pub same_tasks : (xs : List Object) (n m : ℕ) (f : Object → Object) → ((y : Object) → (f y).source ≡ y.source) →
    task_of (item_at (changed_at xs n f) m) ≡ task_of (item_at xs m)
same_tasks xs n m f keeps =
    ap task_of (sym (item_is (changed_at xs n f) m)) ∙ ap (λ ys. task_of (item_of 1 ys m)) (sym (changed_is xs n f)) ∙ counted_tasks 1 xs n m f keeps ∙
    ap task_of (item_is xs m)

-- ---- own objects

-- only an own object has a task here
pub own_at : (h : WorkerContext) (o : Id) (task : OwnTask) → task_of (object_at h o) ≡ Some task → o.owner ≡ h.me
own_at h o task e =
    at_test (λ b. is_own h o ≡ b → task_of (if b then own_object h o.serial else None) ≡ Some task → o.owner ≡ h.me) (is_own h o)
    (λ _ f _. eqb-true o.owner h.me f) (λ _ f g. absurd (cc)) refl e

-- the object at an own id
pub own_there : (h : WorkerContext) (k : ℕ) → task_of (object_at h (own_id h k)) ≡ task_of (own_object h k)
own_there h k = ap (λ b. task_of (if b then own_object h k else None)) (equal h.me)
  where
    equal : (n : ℕ) → (n == n) ≡ true
    equal n = grind (arith, nat_tests)

pub own_here : (h : WorkerContext) (k : ℕ) → object_at h (own_id h k) ≡ own_object h k
own_here h k = ap (λ b. if b then own_object h k else None) (equal h.me)
  where
    equal : (n : ℕ) → (n == n) ≡ true
    equal n = grind (arith, nat_tests)

-- the object with its change
pub object_now : (h : WorkerContext) (o : Id) (f : Object → Object) (x : Object) → object_at h o ≡ Some x → object_at (changes h o f) o ≡ Some (f x)
object_now h o f x e =
    at_test (λ b. (if b then own_object h o.serial else None) ≡ Some x →
    (if b then item_at (changed_at h.worker.objects o.serial f) o.serial else None) ≡ Some (f x)) (is_own h o)
    (λ _ g. changed_here h.worker.objects o.serial f x g) (λ _ g. absurd (cc)) e

-- an object whose task there is
pub object_of : (h : WorkerContext) (o : Id) (task : OwnTask) → task_of (object_at h o) ≡ Some task → (x : Object) × (object_at h o ≡ Some x)
object_of h o task e = by_object (object_at h o) refl e
  where
    by_object : (x : Option Object) → object_at h o ≡ x → task_of x ≡ Some task → (y : Object) × (object_at h o ≡ Some y)
    by_object None f g = absurd (cc)
    by_object (Some y) f g = (y, f)

-- the task that was put in place
pub task_now : (h : WorkerContext) (o : Id) (old task : OwnTask) → task_of (object_at h o) ≡ Some old → task_of (object_at (with_task_of h o task) o) ≡ Some task
task_now h o old task e = let x = object_of h o old e in ap task_of (object_now h o (with_task task) x.0 x.1)

-- what can be had has a place, or its owner keeps it
pub some_locations : (x : Object) → has_content x ≡ true → is_nowhere x ≡ false
some_locations x e = not-true (is_nowhere x) (and_right (is_whole x) (not (is_nowhere x)) e)

-- so has what was just accepted
pub somewhere : (n : ℕ) (kept : Option Outcome) → (is_empty (locations_for n kept) && is_none kept) ≡ false
somewhere n None = refl
somewhere n (Some c) = refl

-- a Fetch that begins or ends changes nothing of who owns what
pub fetching_foreign : (h : WorkerContext) (o : Id) (f : Option Fetching) → is_own h o ≡ false → is_own (with_fetching h f) o ≡ false
fetching_foreign h o f e = by_run h.worker.run
  where
    by_phase : (run : Execution) (p : Phase) → is_own (with_fetching_at h run f p) o ≡ false
    by_phase run (Waits y g) = e
    by_phase run Ready = e
    by_phase run (Out j) = e
    by_phase run (HasEnded c) = e
    by_phase run (HasFaulted g) = e

    by_run : (r : Option Execution) → is_own (with_fetching_by h f r) o ≡ false
    by_run None = e
    by_run (Some run) = by_phase run run.phase

pub hears_by-node : (h : WorkerContext) (a : Attempt) (r : Option Execution) → h.worker.node ≡ (hears_by h a r).worker.node
hears_by-node h a None = refl
hears_by-node h a (Some run) =
    at_test (λ b. h.worker.node ≡ (if b then with_run h (record run { is_acknowledged = true }) else h).worker.node)
    (same_attempt run.attempt a && run.is_over) (λ _. refl) (λ _. refl)

-- ---- tests

-- the ask that stands is one for the present attempt
pub present_is : (t : ℕ) (a : Attempt) (task : OwnTask) → if_asked t a task ≡ true → a ≡ attempt a.object task.number
present_is t a task e = ap (attempt a.object) (sym (eqb-true task.number a.number (and_left (task.number == a.number) (stands_at task.progress t) e)))

pub present_was : (a : Attempt) (task : OwnTask) → if_present a task ≡ true → a ≡ attempt a.object task.number
present_was a task e = ap (attempt a.object) (sym (eqb-true task.number a.number (and_right (is_pending_task task) (task.number == a.number) e)))

-- where the ask that stands was sent
pub asked_where : (t : ℕ) (a : Attempt) (task : OwnTask) → if_asked t a task ≡ true → (m : ℕ) × (task.progress ≡ AskedAt t m) × (task.number ≡ a.number)
asked_where t a task e = by_progress task.progress refl (and_right (task.number == a.number) (stands_at task.progress t) e)
  where
    numbers : task.number ≡ a.number
    numbers = eqb-true task.number a.number (and_left (task.number == a.number) (stands_at task.progress t) e)

    by_progress : (q : Progress) → task.progress ≡ q → stands_at q t ≡ true → (m : ℕ) × (task.progress ≡ AskedAt t m) × (task.number ≡ a.number)
    by_progress (AskedAt u m) f g = (m, f ∙ ap (λ i. AskedAt i m) (eqb-true u t g), numbers)
    by_progress AtRest f g = absurd (cc)
    by_progress (RunsOn w n) f g = absurd (cc)

-- a worker that waits has an attempt that does
pub record IsWaiting (x : Worker) : Type 0 where
  pub run : Execution
  pub object : Id
  pub fetching : Option Fetching
  pub at : x.run ≡ Some run
  pub waits : run.phase ≡ Waits object fetching

pub waiting : (x : Worker) (o : Id) → is_waiting_for x o ≡ true → IsWaiting x
waiting x o e = by_run x.run refl e
  where
    by_phase : (run : Execution) → x.run ≡ Some run → (p : Phase) → run.phase ≡ p → is_same_id (object_needed p) o ≡ true → IsWaiting x
    by_phase run f (Waits y g) q i = record { run = run; object = y; fetching = g; at = f; waits = q }
    by_phase run f Ready q i = absurd (cc)
    by_phase run f (Out j) q i = absurd (cc)
    by_phase run f (HasEnded c) q i = absurd (cc)
    by_phase run f (HasFaulted g) q i = absurd (cc)

    by_run : (r : Option Execution) → x.run ≡ r → is_same_id (needed_by r) o ≡ true → IsWaiting x
    by_run None f i = absurd (cc)
    by_run (Some run) f i = by_phase run f run.phase refl i

pub on_worker : (v : ℕ) (q : Progress) → runs_on_worker v q ≡ true → (w n : ℕ) × (q ≡ RunsOn w n)
on_worker v (RunsOn w n) e = (w, n, refl)
on_worker v AtRest e = absurd (cc)
on_worker v (AskedAt t n) e = absurd (cc)

pub on_node : (m : ℕ) (q : Progress) → runs_on_node m q ≡ true → (w n : ℕ) × (q ≡ RunsOn w n)
on_node m (RunsOn w n) e = (w, n, refl)
on_node m AtRest e = absurd (cc)
on_node m (AskedAt t n) e = absurd (cc)

-- ---- births

changed_one : (h : WorkerContext) (p o : Id) (f : Object → Object) → ((y : Object) → (f y).source ≡ y.source) →
    task_of (object_at (changes h p f) o) ≡ task_of (object_at h o)
changed_one h p o f keeps =
    at_test (λ b. task_of (if b then item_at (changed_at h.worker.objects p.serial f) o.serial else None) ≡ task_of (if b then own_object h o.serial else None))
    (is_own h o) (λ _. same_tasks h.worker.objects p.serial o.serial f keeps) (λ _. refl)

held_one : (h : WorkerContext) (e p o : Id) → task_of (object_at (holds_id h e p) o) ≡ task_of (object_at h o)
held_one h e p o =
    at_test (λ b. task_of (object_at (if b then adds_holder h e p else if knows_dead h.worker p.owner then h else sends_hold h e p) o) ≡ task_of
    (object_at h o)) (is_own h p)
    (λ _. at_test (λ d. task_of (object_at (if d then changes (changes h p (with_holder e)) p (with_dead_holder e) else changes h p (with_holder e)) o) ≡
    task_of (object_at h o)) (knows_dead h.worker e.owner)
    (λ _. changed_one (changes h p (with_holder e)) p o (with_dead_holder e) (λ y. refl) ∙ changed_one h p o (with_holder e) (λ y. refl))
    (λ _. changed_one h p o (with_holder e) (λ y. refl)))
    (λ _. at_test (λ b. task_of (object_at (if b then h else sends_hold h e p) o) ≡ task_of (object_at h o)) (knows_dead h.worker p.owner) (λ _. refl)
    (λ _. by_run h.worker.run))
  where
    by_run : (r : Option Execution) → task_of (object_at (awaits_hold_by h (holding e p) r) o) ≡ task_of (object_at h o)
    by_run None = refl
    by_run (Some run) = refl

pub held_task : (h : WorkerContext) (e o : Id) (ids : List Id) → task_of (object_at (holds_ids h e ids) o) ≡ task_of (object_at h o)
held_task h e o [] = refl
held_task h e o (p ∷ ids) = held_task (holds_id h e p) e o ids ∙ held_one h e p o

each_held_from : (h : WorkerContext) (k n : ℕ) (ids : List Id) (o : Id) → task_of (object_at (each_from (λ g i. holds_ids g (own_id g i) ids) h k n) o) ≡ task_of (object_at h o)
each_held_from h k zero ids o = refl
each_held_from h k (suc n) ids o = each_held_from (holds_ids h (own_id h k) ids) (k + 1) n ids o ∙ held_task h (own_id h k) o ids

pub each_held_task : (h : WorkerContext) (e : Id) (task : OwnTask) (ids : List Id) (o : Id) → task_of (object_at (each_holds h e task ids) o) ≡ task_of (object_at h o)
each_held_task h e task ids o = each_held_from h e.serial (results_of task.spec) ids o

item_behind : {X : Type 0} (xs ys : List X) (x : X) → item_at (xs ++ x ∷ ys) (length xs + 1) ≡ Some x
item_behind {X} xs ys x =
    let f : ◌≡◌ {A = ℕ} (length xs + 1) (suc (length xs)) = omega arith in
    ap (item_at (xs ++ x ∷ ys)) f ∙ first xs
  where
    first : (zs : List X) → slice_get (zs ++ x ∷ ys) (length zs) ≡ Some x
    first [] = refl
    first (z ∷ zs) = first zs

pub new_there : (h : WorkerContext) (a : Attempt) (spec : Birth) (others : ℕ) (ids : List Id) →
    task_of (object_at (with_objects h (task_objects a (length h.worker.objects + 1) spec others ids)) (next_id_here h)) ≡ Some (new_task spec)
new_there h a spec others ids =
    let serial : ℕ = length h.worker.objects + 1 in
    own_there (with_objects h (task_objects a serial spec others ids)) serial ∙
    ap task_of (item_behind h.worker.objects (repeated others (new_object (Beside serial) a ids)) (new_object (ByTask (new_task spec)) a ids))

repeated-length : {X : Type 0} (n : ℕ) (x : X) → length (repeated n x) ≡ n
repeated-length zero x = refl
repeated-length (suc n) x = ap suc (repeated-length n x)

-- with the objects of a task there are so many more
pub length-new : (xs : List Object) (a : Attempt) (serial : ℕ) (spec : Birth) (others : ℕ) (ids : List Id) →
    length (xs ++ task_objects a serial spec others ids) ≡ length xs + suc others
length-new xs a serial spec others ids =
    length-append xs (task_objects a serial spec others ids) ∙ ap (λ k. length xs + suc k) (repeated-length others (new_object (Beside serial) a ids))

module _ (xs : List Object) (a : Attempt) (serial : ℕ) (spec : Birth) (others : ℕ) (ids : List Id) where
  abbrev first : Object
  first = new_object (ByTask (new_task spec)) a ids

  abbrev beside : Object
  beside = new_object (Beside serial) a ids

  abbrev ys : List Object
  ys = task_objects a serial spec others ids

  abbrev Cases : ℕ → Type 0
  Cases k = (task_of (item_at (xs ++ ys) k) ≡ task_of (item_at xs k)) ⊎
      ((task_of (item_at xs k) ≡ None) × (task_of (item_at (xs ++ ys) k) ≡ Some (new_task spec)))

  still : (k : ℕ) (u : Object) → item_at xs k ≡ Some u → item_at (xs ++ ys) k ≡ Some u
  still zero u e = absurd (cc)
  still (suc k) u e = slice_get-append xs ys k u e

  by_new : (k : ℕ) → item_at xs k ≡ None → (z : Object) → item_at (xs ++ ys) k ≡ Some z → (b : Bool) →
      (if b then Some first else item_of ((1 + length xs) + 1) (repeated others beside) k) ≡ Some z → Cases k
  by_new k e z f true g = inr (ap task_of e, ap task_of f ∙ ap task_of (sym g))
  by_new k e z f false g =
      let same : beside ≡ z = (counted_repeated_at others beside ((1 + length xs) + 1) k z g).0 in
      inl (ap task_of f ∙ ap (λ (y : Object). task_in y.source) (sym same) ∙ ap task_of (sym e))

  by_item : (k : ℕ) (o : Option Object) → item_at xs k ≡ o → (p : Option Object) → item_at (xs ++ ys) k ≡ p → Cases k
  by_item k (Some u) e p f = inl (ap task_of (still k u e) ∙ ap task_of (sym e))
  by_item k None e None f = inl (ap task_of f ∙ ap task_of (sym e))
  by_item k None e (Some z) f = elim (joined_cases xs ys k z f) [
    | inl old ↦ inl (ap task_of f ∙ ap task_of (sym old))
    | inr new ↦ by_new k e z f ((1 + length xs) == k) new
  ]

  -- with the objects of a task each row has the task that it had, or is new and has the new one
  pub new_tasks : (k : ℕ) → (task_of (item_at (xs ++ task_objects a serial spec others ids) k) ≡ task_of (item_at xs k)) ⊎
      ((task_of (item_at xs k) ≡ None) × (task_of (item_at (xs ++ task_objects a serial spec others ids) k) ≡ Some (new_task spec)))
  new_tasks k = by_item k (item_at xs k) refl (item_at (xs ++ ys) k) refl
