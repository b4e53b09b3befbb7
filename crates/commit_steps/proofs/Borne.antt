-- Objects that are borne one by one.
use Rattle.std.proofs.Common.{◌≡◌, ℕ, suc, ◌+◌, ◌-◌, ◌<◌, ◌≤◌, List, [], ◌∷◌, ◌++◌, refl, sym, ap, ◌∙◌, append-nil, append_assoc, arith}
use Rattle.meaning.specs.Values.{Birth, Id, results_of}
use Rattle.event_log.specs.Entries.{Attempt}
use Rattle.protocol.specs.Sets.{repeated}
use Rattle.protocol.specs.Tables.{Beside, ByTask, Object, new_object, new_task}
use Rattle.protocol.specs.Steps.{WorkerContext}
use Rattle.protocol.specs.Asking.{requests}
use Rattle.protocol.specs.Holders.{holds_ids}
use Rattle.protocol.specs.Commits.{bears_task, task_objects, with_objects}
use Rattle.owner_steps.specs.Each.{each_own}
use Rattle.owner_steps.proofs.Each.{each_of_task}

abbrev with_table : WorkerContext → List Object → WorkerContext
with_table h xs = record h { worker = record h.worker { objects = xs } }

two_borne : (h : WorkerContext) (xs ys : List Object) → with_objects (with_objects h xs) ys ≡ with_objects h (xs ++ ys)
two_borne h xs ys = ap (with_table h) (append_assoc h.worker.objects xs ys)

pub one_beside : (h : WorkerContext) (x : Object) (n i : ℕ) → i < n →
    with_objects (with_objects h (x ∷ [])) (repeated (n - (i + 1)) x) ≡ with_objects h (repeated (n - i) x)
one_beside h x n i less =
    let e : n - i ≡ suc (n - (i + 1)) = omega (arith, less) in
    two_borne h (x ∷ []) (repeated (n - (i + 1)) x) ∙ sym (ap (λ m. with_objects h (repeated m x)) e)

pub all_beside : (h : WorkerContext) (x : Object) (n i : ℕ) → n ≤ i → with_objects h (repeated (n - i) x) ≡ h
all_beside h x n i past =
    let e : n - i ≡ 0 = omega (arith, past) in
    ap (λ m. with_objects h (repeated m x)) e ∙ ap (with_table h) (append-nil h.worker.objects)

-- the first object, the others, what each holds, and the ask
pub borne : (h first all held : WorkerContext) (a : Attempt) (o : Id) (serial : ℕ) (spec : Birth) (others end : ℕ) (ids : List Id) →
    results_of spec ≡ 1 + others → serial ≡ o.serial → end ≡ serial + 1 + others →
    first ≡ with_objects h (new_object (ByTask (new_task spec)) a ids ∷ []) →
    all ≡ with_objects first (repeated others (new_object (Beside serial) a ids)) →
    held ≡ each_own (λ g e. holds_ids g e ids) all serial end →
    requests held o (new_task spec) ≡ bears_task h a o spec others ids
borne h first all held a o serial spec others end ids count same last one rest holds =
    let e : end ≡ o.serial + results_of spec = omega (arith, count, same, last) in
    let rows : List Object = task_objects a o.serial spec others ids in
    let further : ℕ → List Object = λ k. repeated others (new_object (Beside k) a ids) in
    ap (λ g. requests g o (new_task spec))
    (holds
    ∙ ap (λ k. each_own (λ f e. holds_ids f e ids) all k end) same
    ∙ ap (λ g. each_own (λ f e. holds_ids f e ids) g o.serial end)
    (rest
    ∙ ap (λ k. with_objects first (further k)) same
    ∙ ap (λ g. with_objects g (further o.serial)) one
    ∙ two_borne h (new_object (ByTask (new_task spec)) a ids ∷ []) (further o.serial))
    ∙ each_of_task (λ g e. holds_ids g e ids) (with_objects h rows) o (new_task spec) end e)
