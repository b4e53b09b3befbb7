-- A search for what can be released may pass over what the index says.
use Rattle.std.proofs.Common.{◌≡◌, ℕ, ◌+◌, ◌-◌, ◌<◌, ◌≤◌, ◌⊎◌, inl, inr, Bool, true, false, subst, Option, Some, None, zero, suc, length, refl, sym, ap, ◌∙◌, arith}
use Rattle.std.specs.Prelude.{not, ◌==◌, ◌&&◌, ◌||◌, if◌then◌else◌, slice_get, is_some, nat_lt}
use Rattle.std.proofs.lemmas.Bool.Decides.{nat_tests}
use Rattle.event_log.specs.Words.{same_attempt}
use Rattle.protocol_data.specs.Unneeded.{AllStay, is_awaited, is_borne_by, stays}
use Rattle.protocol.specs.Numbered.{item_at}
use Rattle.protocol.specs.Releases.{are_unneeded, entries_made, going_with, is_unneeded_at, may_release, release_pass, release_passes, release_step, releases_by}
use Rattle.protocol.specs.Steps.{WorkerContext, each_from, own_object}
use Rattle.protocol.specs.Tables.{AskedAt, AtRest, Beside, ByTask, ObjectSource, Object, Execution, RunsOn, WasPut, Worker, is_bearer_over, is_going_on, is_held, is_pending_by, is_under_way, Progress, task_in}
use Rattle.meaning.specs.Values.{others_of}
use Rattle.protocol_data.specs.Unneeded.{is_under_way as is_on_its_way}
use Rattle.worker_steps.proofs.EachLaws.{each_step, pass_last}
use Rattle.worker_steps.proofs.Goings.{none_released, stays_held}
use Rattle.worker_steps.specs.Looking.{NoneGoes, SomeGoes, attempt_going_on, goes_at}

on_its_way : (p : Progress) → is_on_its_way p ≡ is_under_way p
on_its_way AtRest = refl
on_its_way (AskedAt t n) = refl
on_its_way (RunsOn w n) = refl

awaited : (m : ObjectSource) → is_awaited m ≡ is_pending_by (task_in m)
awaited WasPut = refl
awaited (ByTask task) = on_its_way task.progress
awaited (Beside k) = refl

borne_goes_on : (run : Option Execution) (x : Object) → is_borne_by (attempt_going_on run) x ≡ true → not (is_going_on run x.bearer) ≡ false
borne_goes_on None x h = absurd cc
borne_goes_on (Some run) x h = either run.is_over h
  where
    either : (over : Bool) → is_borne_by (if over then None else Some run.attempt) x ≡ true → not (same_attempt run.attempt x.bearer && not over) ≡ false
    either true h = absurd cc
    either false h = ap (λ b. not (b && true)) h

none_of : (free full idle over unheld borne rest : Bool) → (not (free && full && idle && unheld) || borne) ≡ true → (borne ≡ true → over ≡ false) →
    (idle && over && ((free && full && unheld) && rest)) ≡ false
none_of free full false over unheld borne rest h g = refl
none_of free full true false unheld borne rest h g = refl
none_of false full true true unheld borne rest h g = refl
none_of true false true true unheld borne rest h g = refl
none_of true true true true false borne rest h g = refl
none_of true true true true true borne rest h g = absurd (differ (sym (g h)))
  where
    differ : false ≡ true → ⊥
    differ e = absurd cc

-- an object whose row says that it is needed isn't released, whatever goes with it
row_stays : (w : Worker) (k n : ℕ) (x : Object) → item_at w.objects k ≡ Some x → stays (attempt_going_on w.run) x ≡ true →
    (not (is_pending_by (task_in x.source)) && is_bearer_over w x && are_unneeded w.objects k (suc n)) ≡ false
row_stays w k n x there h =
    ap (λ o. not (is_pending_by (task_in x.source)) && is_bearer_over w x && (is_unneeded_at o && are_unneeded w.objects (k + 1) n)) there
    ∙ none_of (not x.is_released) (is_some x.settled || is_some x.fault) (not (is_pending_by (task_in x.source))) (is_bearer_over w x) (not (is_held x))
    (is_borne_by (attempt_going_on w.run) x) (are_unneeded w.objects (k + 1) n)
    (ap (λ b. not (not x.is_released && (is_some x.settled || is_some x.fault) && not b && not (is_held x)) || is_borne_by (attempt_going_on w.run) x) (sym (awaited x.source)) ∙ h)
    (borne_goes_on w.run x)

by_source : (w : Worker) (i : ℕ) (x : Object) (m : ObjectSource) → x.source ≡ m → slice_get w.objects i ≡ Some x → stays (attempt_going_on w.run) x ≡ true →
    (may_release w (suc i) x ≡ false) ⊎ (going_with x.source ≡ 0)
by_source w i x WasPut e there h =
    inl (ap (λ m. not (is_pending_by (task_in x.source)) && is_bearer_over w x && are_unneeded w.objects (suc i) (going_with m)) e ∙ row_stays w (suc i) 0 x there h)
by_source w i x (ByTask task) e there h =
    inl (ap (λ m. not (is_pending_by (task_in x.source)) && is_bearer_over w x && are_unneeded w.objects (suc i) (going_with m)) e
    ∙ row_stays w (suc i) (others_of task.spec) x there h)
by_source w i x (Beside k) e there h = inr (ap going_with e)

pub staying : (w : Worker) (i : ℕ) (x : Object) → slice_get w.objects i ≡ Some x → stays (attempt_going_on w.run) x ≡ true →
    (may_release w (suc i) x ≡ false) ⊎ (going_with x.source ≡ 0)
staying w i x there h = by_source w i x x.source refl there h

pub none_goes : (w : Worker) (from to : ℕ) → AllStay w.objects from to (attempt_going_on w.run) → NoneGoes w from to
none_goes w from to p i x low less e = staying w i x e (p i x low less e)

-- ---- a way through the objects

abbrev release_at : WorkerContext → ℕ → WorkerContext
release_at g k = releases_by g k (own_object g k)

none_here : (h : WorkerContext) (p : ℕ) → ((x : Object) → slice_get h.worker.objects p ≡ Some x → (may_release h.worker (suc p) x ≡ false) ⊎ (going_with x.source ≡ 0)) →
    release_at h (p + 1) ≡ h
none_here h p g =
    let s : p + 1 ≡ suc p = omega arith in
    ap (λ n. release_at h n) s ∙ by_row (slice_get h.worker.objects p) refl
  where
    by_row : (o : Option Object) → slice_get h.worker.objects p ≡ o → release_at h (suc p) ≡ h
    by_row None e = ap (releases_by h (suc p)) e
    by_row (Some x) e = elim (g x e) [ inl stays ↦ stays_held h (suc p) x e stays | inr none ↦ none_released h (suc p) x e none ]

nothing_left : (h : WorkerContext) (k n : ℕ) → n ≡ 0 → each_from (λ g k. releases_by g k (own_object g k)) h k n ≡ h
nothing_left h k n e = ap (λ m. each_from release_at h k m) e

split : (i k : ℕ) → (i < k) ⊎ (k ≤ i)
split i zero = inr (omega arith)
split zero (suc k) = inl (omega arith)
split (suc i) (suc k) = elim (split i k) [ inl m ↦ inl (omega (arith, m)) | inr m ↦ inr (omega (arith, m)) ]

skipped : (h : WorkerContext) (n p d : ℕ) → NoneGoes h.worker p (p + d) → each_from release_at h (p + 1) (n - p) ≡ each_from release_at h (p + d + 1) (n - (p + d))
skipped h n p zero quiet = let e : p + 0 ≡ p = omega arith in ap (λ q. each_from release_at h (q + 1) (n - q)) (sym e)
skipped h n p (suc d) quiet =
    elim (split p n) [
      | inl less ↦
          each_step release_at h (p + 1) n p less
          ∙ ap (λ g. each_from release_at g (p + 1 + 1) (n - (p + 1))) (none_here h p (λ x e. quiet p x (omega arith) (omega arith) e))
          ∙ skipped h n (p + 1) d (λ i x low under e. quiet i x (omega (arith, low)) (omega (arith, under)) e)
          ∙ ap (λ q. each_from release_at h (q + 1) (n - q)) moved
      | inr past ↦ nothing_left h (p + 1) (n - p) (omega (arith, past)) ∙ sym (nothing_left h (p + suc d + 1) (n - (p + suc d)) (omega (arith, past)))
    ]
  where
    moved : p + 1 + d ≡ p + suc d
    moved = omega arith

-- what is passed over isn't released
pub passed_over : (h : WorkerContext) (n p q : ℕ) → p ≤ q → NoneGoes h.worker p q →
    each_from (λ g k. releases_by g k (own_object g k)) h (p + 1) (n - p) ≡ each_from (λ g k. releases_by g k (own_object g k)) h (q + 1) (n - q)
passed_over h n p q le quiet =
    let e : p + (q - p) ≡ q = omega (arith, le) in
    skipped h n p (q - p) (λ i x low under s. quiet i x low (omega (arith, under, le)) s) ∙ ap (λ r. each_from release_at h (r + 1) (n - r)) e

-- so behind the last one
pub passed_all : (h : WorkerContext) (n p q : ℕ) → p ≤ q → n ≤ q → NoneGoes h.worker p q → each_from (λ g k. releases_by g k (own_object g k)) h (p + 1) (n - p) ≡ h
passed_all h n p q le past quiet = passed_over h n p q le quiet ∙ nothing_left h (q + 1) (n - q) (omega (arith, past))

pub all_passed : (h : WorkerContext) (n p : ℕ) → n ≤ p → each_from (λ g k. releases_by g k (own_object g k)) h (p + 1) (n - p) ≡ h
all_passed h n p past = nothing_left h (p + 1) (n - p) (omega (arith, past))

-- one turn: what is passed over, and the object behind it
pub one_released : (h g : WorkerContext) (n p q : ℕ) (last : WorkerContext) → p ≤ q → NoneGoes h.worker p q → q < n → g ≡ releases_by h (q + 1) (own_object h (q + 1)) →
    each_from (λ g k. releases_by g k (own_object g k)) h (p + 1) (n - p) ≡ last →
    each_from (λ g k. releases_by g k (own_object g k)) g (q + 1 + 1) (n - (q + 1)) ≡ last
one_released h g n p q last le quiet less new so_far =
    ap (λ a. each_from release_at a (q + 1 + 1) (n - (q + 1))) new
    ∙ sym (each_step release_at h (q + 1) n q less)
    ∙ sym (passed_over h n p q le quiet)
    ∙ so_far

-- where nothing at all may be released
still_pass : (h : WorkerContext) (q : ℕ) → length h.worker.objects ≤ q → NoneGoes h.worker 0 q → release_pass h ≡ h
still_pass h q past quiet =
    let n = length h.worker.objects in
    let all : n ≡ n - 0 = omega arith in
    ap (each_from (λ g k. releases_by g k (own_object g k)) h 1) all ∙ passed_all h n 0 q (omega arith) past quiet

pub nothing_released : (h : WorkerContext) (q : ℕ) → length h.worker.objects ≤ q → NoneGoes h.worker 0 q → release_step h ≡ h
nothing_released h q past quiet =
    let n = length h.worker.objects in
    let still : release_pass h ≡ h = still_pass h q past quiet in
    let same : (entries_made h == entries_made h) ≡ true = grind (arith, nat_tests) in
    let turns : n + 1 ≡ n + 1 - 0 = omega arith in
    ap (λ m. release_passes false m h) turns ∙ pass_last h n 0 (omega arith) (ap (λ g. entries_made g == entries_made h) still ∙ same) ∙ still

-- ---- where an object is released, one may be

-- nothing may be released of what the worker has
abbrev pub IsQuiet : WorkerContext → Type 0
IsQuiet h = NoneGoes h.worker 0 (length h.worker.objects)

true_or : (a b : Bool) → a ≡ false → (a && b) ≡ true → ⊥
true_or a b h e = differ (sym (ap (λ c. c && b) h) ∙ e)
  where
    differ : false ≡ true → ⊥
    differ e = absurd cc

or_true : (a : Bool) (k : ℕ) → k ≡ 0 → (a && nat_lt 0 k) ≡ true → ⊥
or_true true k h e = differ (sym (ap (λ m. nat_lt 0 m) h) ∙ e)
  where
    differ : false ≡ true → ⊥
    differ e = absurd cc
or_true false k h e = absurd cc

stays_there : (h : WorkerContext) (p : ℕ) → ((x : Object) → slice_get h.worker.objects p ≡ Some x → (may_release h.worker (suc p) x ≡ false) ⊎ (going_with x.source ≡ 0)) →
    goes_at h.worker (p + 1) (own_object h (p + 1)) ≡ true → ⊥
stays_there h p g e =
    let s : p + 1 ≡ suc p = omega arith in
    by_row (slice_get h.worker.objects p) refl (sym (ap (λ n. goes_at h.worker n (own_object h n)) s) ∙ e)
  where
    by_row : (o : Option Object) → slice_get h.worker.objects p ≡ o → goes_at h.worker (suc p) (own_object h (suc p)) ≡ true → ⊥
    by_row None there goes = differ (sym (ap (goes_at h.worker (suc p)) there) ∙ goes)
      where
        differ : false ≡ true → ⊥
        differ e = absurd cc
    by_row (Some x) there goes =
        let it : (may_release h.worker (suc p) x && nat_lt 0 (going_with x.source)) ≡ true = sym (ap (goes_at h.worker (suc p)) there) ∙ goes in
        elim (g x there) [ inl stays ↦ true_or (may_release h.worker (suc p) x) (nat_lt 0 (going_with x.source)) stays it | inr none ↦ or_true (may_release h.worker (suc p) x) (going_with x.source) none it ]

-- where an object goes on the way, one may be released at first: until then nothing changed
pub one_goes : (h g : WorkerContext) (n q : ℕ) → n ≡ length h.worker.objects → q < n → (IsQuiet h → g ≡ h) → goes_at g.worker (q + 1) (own_object g (q + 1)) ≡ true →
    SomeGoes h.worker
one_goes h g n q e less same goes quiet =
    stays_there h q (λ x there. quiet q x (omega arith) (omega (arith, e, less)) there)
    (subst (λ a. goes_at a.worker (q + 1) (own_object a (q + 1)) ≡ true) (same quiet) goes)

-- one turn changes nothing where nothing may be released
pub none_gone : (h g next : WorkerContext) (n q : ℕ) → n ≡ length h.worker.objects → q < n → (IsQuiet h → g ≡ h) → next ≡ releases_by g (q + 1) (own_object g (q + 1)) →
    IsQuiet h → next ≡ h
none_gone h g next n q e less same made quiet =
    made ∙ ap (λ a. release_at a (q + 1)) (same quiet) ∙ none_here h q (λ x there. quiet q x (omega arith) (omega (arith, e, less)) there)

-- so of passes
pub pass_goes : (h g : WorkerContext) → (IsQuiet h → g ≡ h) → SomeGoes g.worker → SomeGoes h.worker
pass_goes h g same some quiet = some (subst (λ a. NoneGoes a.worker 0 (length a.worker.objects)) (sym (same quiet)) quiet)

pub none_passed : (h g next : WorkerContext) → (IsQuiet h → g ≡ h) → next ≡ release_pass g → IsQuiet h → next ≡ h
none_passed h g next same made quiet = made ∙ ap release_pass (same quiet) ∙ still_pass h (length h.worker.objects) (omega arith) quiet
