-- What goes with an object that is released.
use Rattle.std.proofs.Common.{◌≡◌, ℕ, zero, suc, ◌+◌, ◌-◌, ◌<◌, ◌≤◌, List, [], ◌∷◌, Bool, true, false, Some, refl, sym, ap, ◌∙◌, append-nil, append_assoc, arith}
use Rattle.std.specs.Prelude.{Err, Ok, OnErr, Result, if◌then◌else◌, ◌&&◌, ◌==◌, map, nat_lt, not}
use Rattle.worker_steps.specs.Looking.{goes_at}
use Rattle.std.proofs.lemmas.Bool.Decides.{nat_tests}
use Rattle.meaning.specs.Runs.{ids_from}
use Rattle.event_log.specs.Entries.{Entry, Released}
use Rattle.protocol.specs.Numbered.{item_at}
use Rattle.protocol.specs.Releases.{are_unneeded, going_with, is_unneeded_at, lets_all_go, marks_released, may_release, releases_all, releases_by}
use Rattle.protocol.specs.Sets.{object_id}
use Rattle.protocol.specs.Steps.{WorkerContext, changes, each_from, logs, logs_all, own_id, own_object}
use Rattle.protocol.specs.Tables.{Object, Worker, is_bearer_over, is_pending_by, released, task_in}

-- ---- whether they may go

pub next_unneeded : (xs : List Object) (k n i : ℕ) → i < n → is_unneeded_at (item_at xs k) ≡ true →
    are_unneeded xs k (n - i) ≡ are_unneeded xs (k + 1) (n - (i + 1))
next_unneeded xs k n i less one =
    let e : n - i ≡ suc (n - (i + 1)) = omega (arith, less) in
    ap (are_unneeded xs k) e ∙ ap (λ b. b && are_unneeded xs (k + 1) (n - (i + 1))) one

pub one_needed : (xs : List Object) (k n i : ℕ) → i < n → is_unneeded_at (item_at xs k) ≡ false → are_unneeded xs k (n - i) ≡ false
one_needed xs k n i less one =
    let e : n - i ≡ suc (n - (i + 1)) = omega (arith, less) in
    ap (are_unneeded xs k) e ∙ ap (λ b. b && are_unneeded xs (k + 1) (n - (i + 1))) one

pub none_needed : (xs : List Object) (k n i : ℕ) → n ≤ i → are_unneeded xs k (n - i) ≡ true
none_needed xs k n i past = let e : n - i ≡ 0 = omega (arith, past) in ap (are_unneeded xs k) e

pub may_all : (w : Worker) (k end : ℕ) (x : Object) → end ≡ k + going_with x.source →
    (not (is_pending_by (task_in x.source)) && is_bearer_over w x && are_unneeded w.objects k (end - k)) ≡ may_release w k x
may_all w k end x e =
    let count : end - k ≡ going_with x.source = omega (arith, e) in
    ap (λ n. not (is_pending_by (task_in x.source)) && is_bearer_over w x && are_unneeded w.objects k n) count

-- ---- their releases

abbrev with_entries : WorkerContext → List Entry → WorkerContext
with_entries h es = record h { there = record h.there { out = record h.there.out { entries = es } } }

pub next_logged : (h g : WorkerContext) (k n i : ℕ) → i < n → g ≡ logs h (Released (own_id h k)) →
    logs_all h (map Released (ids_from (own_id h k) (n - i))) ≡ logs_all g (map Released (ids_from (own_id g (k + 1)) (n - (i + 1))))
next_logged h g k n i less made =
    let e : n - i ≡ suc (n - (i + 1)) = omega (arith, less) in
    let rest : List Entry = map Released (ids_from (own_id h (k + 1)) (n - (i + 1))) in
    ap (λ m. logs_all h (map Released (ids_from (own_id h k) m))) e
    ∙ sym (ap (with_entries h) (append_assoc h.there.out.entries (Released (own_id h k) ∷ []) rest))
    ∙ ap (λ f. logs_all f (map Released (ids_from (own_id f (k + 1)) (n - (i + 1))))) (sym made)

nothing_logged : (h : WorkerContext) → logs_all h [] ≡ h
nothing_logged h = ap (with_entries h) (append-nil h.there.out.entries)

pub all_logged : (h : WorkerContext) (k n i : ℕ) → n ≤ i → logs_all h (map Released (ids_from (own_id h k) (n - i))) ≡ h
all_logged h k n i past =
    let e : n - i ≡ 0 = omega (arith, past) in
    ap (λ m. logs_all h (map Released (ids_from (own_id h k) m))) e ∙ nothing_logged h

marked_by : (h : WorkerContext) (k n : ℕ) → (marks_released h k n).me ≡ h.me
marked_by h k zero = refl
marked_by h k (suc n) = marked_by (changes h (own_id h k) released) (k + 1) n

-- all are marked, then all are logged, and then each lets go
pub together : (h marked logged : WorkerContext) (k n : ℕ) → marked ≡ marks_released h k n →
    logged ≡ logs_all marked (map Released (ids_from (own_id marked k) n)) →
    each_from (λ g i. lets_all_go g (own_id g i) (own_object g i)) logged k n ≡ releases_all h k n
together h marked logged k n e f =
    let all : WorkerContext = marks_released h k n in
    ap (λ l. each_from (λ g i. lets_all_go g (own_id g i) (own_object g i)) l k n)
    (f
    ∙ ap (λ m. logs_all m (map Released (ids_from (own_id m k) n))) e
    ∙ ap (λ me. logs_all all (map Released (ids_from (object_id me k) n))) (marked_by h k n))

-- where they may be, they are released
pub all_released : (h g : WorkerContext) (k end : ℕ) (x : Object) → own_object h k ≡ Some x → end ≡ k + going_with x.source → may_release h.worker k x ≡ true →
    g ≡ releases_all h k (end - k) → g ≡ releases_by h k (own_object h k)
all_released h g k end x there e goes made =
    let count : end - k ≡ going_with x.source = omega (arith, e) in
    made
    ∙ ap (λ n. releases_all h k n) count
    ∙ sym (ap (λ b. if b then releases_all h k (going_with x.source) else h) goes)
    ∙ sym (ap (releases_by h k) there)

-- nothing goes with a further result
either : (b : Bool) (h : WorkerContext) (k n : ℕ) → n ≡ 0 → (if b then releases_all h k n else h) ≡ h
either true h k n e = ap (λ m. releases_all h k m) e ∙ nothing_logged h
either false h k n e = refl

pub none_released : (h : WorkerContext) (k : ℕ) (x : Object) → own_object h k ≡ Some x → going_with x.source ≡ 0 → releases_by h k (own_object h k) ≡ h
none_released h k x there none = ap (releases_by h k) there ∙ either (may_release h.worker k x) h k (going_with x.source) none

pub stays_held : (h : WorkerContext) (k : ℕ) (x : Object) → own_object h k ≡ Some x → may_release h.worker k x ≡ false → releases_by h k (own_object h k) ≡ h
stays_held h k x there stays = ap (releases_by h k) there ∙ ap (λ b. if b then releases_all h k (going_with x.source) else h) stays

-- numbers that aren't equal
pub differ : (m n : ℕ) → (m ≡ n → ⊥) → (m == n) ≡ false
differ m n h = grind (arith, nat_tests, h)

-- what holds anyway holds after an error
pub any_err : {X E : Type 0} {P : Type 0} (r : Result X E) → P → OnErr r P
any_err (Ok x) p = record {}
any_err (Err e) p = p

-- what follows of what holds after an error
pub on_err : {X E : Type 0} {P Q : Type 0} (r : Result X E) → (P → Q) → OnErr r P → OnErr r Q
on_err (Ok x) f p = p
on_err (Err e) f p = f p

more : (k n : ℕ) → k < k + n → nat_lt 0 n ≡ true
more k n less = let some : 0 < n = omega (arith, less) in grind (arith, nat_tests, some)

-- where it may be released, and something goes with it, it goes
pub going_there : (h : WorkerContext) (k end : ℕ) (x : Object) → own_object h k ≡ Some x → end ≡ k + going_with x.source → may_release h.worker k x ≡ true → k < end →
    goes_at h.worker k (own_object h k) ≡ true
going_there h k end x there e goes less =
    ap (goes_at h.worker k) there
    ∙ ap (λ b. b && nat_lt 0 (going_with x.source)) goes
    ∙ more k (going_with x.source) (omega (arith, e, less))
