-- What is made again may be tried again, and so may the others still while it is asked for.
use Rattle.std.proofs.Common.{◌≡◌, ◌<◌, ◌+◌, ◌⊎◌, inl, inr, ℕ, zero, suc, Bool, true, false, if◌then◌else◌, List, [], ◌∷◌, Option, None, Some, Result, Ok, drop, length, slice_index_or, ◌∙◌, refl, sym, ap, subst, arith}
use Rattle.std.specs.Prelude.{slice_get, slice_set}
use Rattle.std.proofs.Math.Seq.{drop-cons}
use Rattle.meaning.specs.Values.{Id}
use Rattle.meaning.proofs.BirthLaws.{at_test}
use Rattle.event_log.specs.Entries.{Fault}
use Rattle.protocol.specs.Numbered.{changed_at, changed_by, item_at}
use Rattle.protocol.specs.Tables.{AskedAt, Beside, ByTask, ObjectSource, Object, OwnTask, WasPut, first_by, is_pending_task, may_try_again, task_by, task_in, task_of, with_task}
use Rattle.protocol.specs.Steps.{WorkerContext, own_id, own_object}
use Rattle.protocol.specs.Asking.{next_attempt, requests}
use Rattle.protocol.specs.Laws.{CanBeMade, PlanMeans}
use Rattle.protocol.specs.Recovery.{first_stop, members, remakes, remakes_by, remakes_one, stop_at, stop_by, task_for}
use Rattle.lineage.specs.Plans.{planned, planned_by}
use Rattle.lineage.specs.declared.recovery.Plan.{Plan}
use Rattle.lineage.specs.declared.recovery.Stop.{Stop}
use Rattle.owner_steps.specs.Made.{AllMayBeMade, MayBeMade}

-- ---- the task of an object

pub has_retries : (h : WorkerContext) (k : ℕ) (x : Object) (task : OwnTask) → MayBeMade h k → own_object h k ≡ Some x → task_by h.worker.objects x.source ≡ Some task →
    is_pending_task task ≡ false → may_try_again task ≡ true
has_retries h k x task may own made idle = may task (ap (task_for h) own ∙ made) idle

first_has : (xs : List Object) (k : ℕ) (x : Object) (task : OwnTask) (m : ObjectSource) → x.source ≡ m → item_at xs k ≡ Some x → task_by xs m ≡ Some task →
    task_of (item_at xs (first_by k m)) ≡ Some task
first_has xs k x task WasPut e own made = absurd (cc)
first_has xs k x task (ByTask t) e own made = ap task_of own ∙ ap task_in e ∙ made
first_has xs k x task (Beside i) e own made = made

-- the task that makes an object stands with the first of its objects
pub stands_first : (xs : List Object) (k : ℕ) (x : Object) (task : OwnTask) → item_at xs k ≡ Some x → task_by xs x.source ≡ Some task →
    task_of (item_at xs (first_by k x.source)) ≡ Some task
stands_first xs k x task own made = first_has xs k x task x.source refl own made

-- ---- a task that is asked for, and the others

set_item : {X : Type 0} (xs : List X) (i j : ℕ) (x y : X) → slice_get xs i ≡ Some x →
    (slice_get (slice_set xs i y) j ≡ slice_get xs j) ⊎ (slice_get (slice_set xs i y) j ≡ Some y)
set_item [] i j x y e = absurd (cc)
set_item (z ∷ zs) zero zero x y e = inr refl
set_item (z ∷ zs) zero (suc j) x y e = inl refl
set_item (z ∷ zs) (suc i) zero x y e = inl refl
set_item (z ∷ zs) (suc i) (suc j) x y e = set_item zs i j x y e

-- with the task of an item changed, an item is as before, or has that task
changed_item : (xs : List Object) (n j : ℕ) (t : OwnTask) (o : Option Object) → item_at xs n ≡ o →
    (item_at (changed_by xs n (with_task t) o) j ≡ item_at xs j) ⊎ ((x : Object) × (item_at (changed_by xs n (with_task t) o) j ≡ Some (with_task t x)))
changed_item xs zero j t o e = inl refl
changed_item xs (suc i) j t None e = inl refl
changed_item xs (suc i) zero t (Some x) e = inl refl
changed_item xs (suc i) (suc j) t (Some x) e = elim (set_item xs i j x (with_task t x) e) [ inl f ↦ inl f | inr f ↦ inr (x, f) ]

apart : (t u : OwnTask) → is_pending_task t ≡ true → is_pending_task u ≡ false → ◌≡◌ {A = Option OwnTask} (Some t) (Some u) → ⊥
apart t u asked idle e = absurd (cc)

module _ (xs : List Object) (n : ℕ) (t u : OwnTask) (asked : is_pending_task t ≡ true) (idle : is_pending_task u ≡ false) where
  abbrev changed : List Object
  changed = changed_at xs n (with_task t)

  at_item : (j : ℕ) → task_of (item_at changed j) ≡ Some u → task_of (item_at xs j) ≡ Some u
  at_item j e = elim (changed_item xs n j t (item_at xs n) refl) [
    | inl same ↦ ap task_of (sym same) ∙ e
    | inr it ↦ absurd (apart t u asked idle (sym (ap task_of it.1) ∙ e))
  ]

  by_source : (m : ObjectSource) → task_by changed m ≡ Some u → task_by xs m ≡ Some u
  by_source WasPut e = e
  by_source (ByTask v) e = e
  by_source (Beside k) e = at_item k e

by_object : (h : WorkerContext) (f : ℕ) (t u : OwnTask) → is_pending_task u ≡ false → (o : Option Object) →
    task_for (requests h (own_id h f) t) o ≡ Some u → task_for h o ≡ Some u
by_object h f t u idle None e = absurd (cc)
by_object h f t u idle (Some x) e = by_source h.worker.objects f (record t { progress = AskedAt 0 h.worker.node }) u refl idle x.source e

asked_for : (h : WorkerContext) (f j : ℕ) (t : OwnTask) → MayBeMade h j → MayBeMade (requests h (own_id h f) t) j
asked_for h f j t may u e idle =
    let g : WorkerContext = requests h (own_id h f) t in
    let new : OwnTask = record t { progress = AskedAt 0 h.worker.node } in
    elim (changed_item h.worker.objects f j new (item_at h.worker.objects f) refl) [
      | inl same ↦ may u (by_object h f t u idle (own_object h j) (ap (task_for g) (sym same) ∙ e)) idle
      | inr it ↦ absurd (apart new u refl idle (sym (ap (task_for g) it.1) ∙ e))
    ]

still_by : (h : WorkerContext) (f j : ℕ) (o : Option OwnTask) → MayBeMade h j → MayBeMade (remakes_by h f o) j
still_by h f j None may = may
still_by h f j (Some task) may =
    at_test (λ b. MayBeMade (if b then h else requests h (own_id h f) (next_attempt task)) j) (is_pending_task task)
    (λ _. may) (λ _. asked_for h f j (next_attempt task) may)

still_one : (h : WorkerContext) (k j : ℕ) (o : Option Object) → MayBeMade h j → MayBeMade (remakes_one h k o) j
still_one h k j None may = may
still_one h k j (Some x) may = still_by h (first_by k x.source) j (task_by h.worker.objects x.source) may

still_all : (h : WorkerContext) (k : ℕ) (o : Option Object) (ks : List ℕ) → AllMayBeMade h ks → AllMayBeMade (remakes_one h k o) ks
still_all h k o [] may = tt
still_all h k o (j ∷ ks) may = (still_one h k j o may.0, still_all h k o ks may.1)

-- ---- the next of a list is made

made_next : (h g : WorkerContext) (k : ℕ) (ks rest : List ℕ) (done : WorkerContext) → rest ≡ k ∷ ks → g ≡ remakes_one h k (own_object h k) → remakes h rest ≡ done →
    AllMayBeMade h rest → (remakes g ks ≡ done) × AllMayBeMade g ks
made_next h g k ks rest done parts made all left =
    let later = still_all h k (own_object h k) ks (subst (AllMayBeMade h) parts left).1 in
    (ap (λ (x : WorkerContext). remakes x ks) made ∙ sym (ap (remakes h) parts) ∙ all, subst (λ (x : WorkerContext). AllMayBeMade x ks) (sym made) later)

next_of : (xs : List ℕ) (i : ℕ) → i < length xs → drop i xs ≡ slice_index_or xs i 0 ∷ drop (i + 1) xs
next_of xs i less = let e : suc i ≡ i + 1 = omega arith in subst (λ j. drop i xs ≡ slice_index_or xs i 0 ∷ drop j xs) e (drop-cons xs i 0 less)

pub one_may : (h : WorkerContext) (xs : List ℕ) (i : ℕ) → i < length xs → AllMayBeMade h (drop i xs) → MayBeMade h (slice_index_or xs i 0)
one_may h xs i less left = (subst (AllMayBeMade h) (next_of xs i less) left).0

pub one_made : (h g : WorkerContext) (xs : List ℕ) (i : ℕ) (done : WorkerContext) → i < length xs →
    g ≡ remakes_one h (slice_index_or xs i 0) (own_object h (slice_index_or xs i 0)) → remakes h (drop i xs) ≡ done →
    AllMayBeMade h (drop i xs) → (remakes g (drop (i + 1) xs) ≡ done) × AllMayBeMade g (drop (i + 1) xs)
one_made h g xs i done less made all left = made_next h g (slice_index_or xs i 0) (drop (i + 1) xs) (drop i xs) done (next_of xs i less) made all left

-- ---- a plan's

unstopped_if : (b : Bool) (f : Fault) → (if b then None else Some f) ≡ None → b ≡ true
unstopped_if true f e = refl
unstopped_if false f e = absurd (cc)

unstopped : (h : WorkerContext) (k : ℕ) → stop_at h k ≡ None → MayBeMade h k
unstopped h k e task own idle = unstopped_if (may_try_again task) _ (subst (λ o. stop_by h k o ≡ None) own e)

all_unstopped : (h : WorkerContext) (ks : List ℕ) → CanBeMade h ks → AllMayBeMade h ks
all_unstopped h [] e = tt
all_unstopped h (k ∷ ks) e = (unstopped h k e.0, all_unstopped h ks e.1)

serials_in : (p q : Plan) → ◌≡◌ {A = Result Plan Stop} (Ok p) (Ok q) → p.serials ≡ q.serials
serials_in p q e = cc

by_stop : PlanMeans → (h : WorkerContext) (ks : List ℕ) (plan : Plan) (f : Option Fault) → first_stop h ks ≡ f → Ok plan ≡ planned_by ks f → AllMayBeMade h plan.serials
by_stop means h ks plan None stop e =
    subst (AllMayBeMade h) (sym (serials_in plan (record { serials = ks }) e)) (all_unstopped h ks (means.unstopped h ks stop))
by_stop means h ks plan (Some f) stop e = absurd (cc)

pub can_be_remade : PlanMeans → (h : WorkerContext) (o : Id) (plan : Plan) → Ok plan ≡ planned h o.serial → AllMayBeMade h plan.serials
can_be_remade means h o plan e = by_stop means h (members h o.serial) plan (first_stop h (members h o.serial)) refl e
