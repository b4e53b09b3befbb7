-- Changes of a worker's own objects: whoever waits for one waits on, unless it has its content or a fault.
use Rattle.std.proofs.Common.{◌≡◌, ◌≢◌, ℕ, zero, suc, List, [], ◌∷◌, ◌++◌, map, Some, None, Option, refl, ap, sym, subst, ◌∙◌, ◌⊎◌, inl, inr}
use Rattle.std.specs.Prelude.{true, false, if◌then◌else◌, is_some, slice_get, ◌==◌, Bool, ◌&&◌, is_none}
use Rattle.sequence.proofs.Places.{list_any-push_left}
use Rattle.meaning.proofs.BirthLaws.{at_test}
use Rattle.meaning.specs.Values.{Id, Outcome}
use Rattle.event_log.specs.Entries.{Fault}
use Rattle.protocol.specs.Numbered.{changed_at, item_at}
use Rattle.protocol.specs.Sets.{has, is_empty, with_number}
use Rattle.protocol.specs.Tables.{Object, OwnTask, with_asker}
use Rattle.protocol.specs.Tables.{with_fault, with_task, without_askers}
use Rattle.protocol.specs.Steps.{WorkerContext, is_own, object_at, own_object}
use Rattle.owed_replies.specs.Kept.{IsAnswered}
use Rattle.protocol_owed.proofs.Nodes.{changed_cases, there_more, there_still}

pub record Succeeds (x y : Object) : Type 0 where
  pub askers : (w : ℕ) → has x.askers w ≡ true → (has y.askers w ≡ true) ⊎ IsAnswered y
  pub answered : IsAnswered x → IsAnswered y

pub record IsGrown (ys : List Object) (k : ℕ) (x : Object) : Type 0 where
  pub object : Object
  pub there : item_at ys k ≡ Some object
  pub succeeds : Succeeds x object

-- each object is there, and succeeds
abbrev pub Grows : List Object → List Object → Type 0
Grows xs ys = (k : ℕ) (x : Object) → item_at xs k ≡ Some x → IsGrown ys k x

pub succeeds_itself : (x : Object) → Succeeds x x
succeeds_itself x = record { askers = λ w e. inl e; answered = λ a. a }

pub then_succeeds : (x y z : Object) → Succeeds x y → Succeeds y z → Succeeds x z
then_succeeds x y z p q = record {
  askers = λ w e. elim (p.askers w e) [ inl f ↦ q.askers w f | inr f ↦ inr (q.answered f) ];
  answered = λ a. q.answered (p.answered a);
}

pub succeeds_alike : (x y : Object) → y.askers ≡ x.askers → y.settled ≡ x.settled → y.fault ≡ x.fault → Succeeds x y
succeeds_alike x y askers settled fault = record {
  askers = λ w e. inl (ap (λ ws. has ws w) askers ∙ e);
  answered = λ a. elim a [ inl e ↦ inl (ap is_some settled ∙ e) | inr e ↦ inr (ap is_some fault ∙ e) ];
}

pub grows_itself : (xs : List Object) → Grows xs xs
grows_itself xs k x at = record { object = x; there = at; succeeds = succeeds_itself x }

pub then_grows : (xs ys zs : List Object) → Grows xs ys → Grows ys zs → Grows xs zs
then_grows xs ys zs p q k x at =
    let y = p k x at in
    let z = q k y.object y.there in
    record { object = z.object; there = z.there; succeeds = then_succeeds x y.object z.object y.succeeds z.succeeds }

pub same_item : (xs : List Object) (k : ℕ) (x y : Object) → item_at xs k ≡ Some x → item_at xs k ≡ Some y → x ≡ y
same_item xs k x y e f = let g : ◌≡◌ {A = Option Object} (Some x) (Some y) = sym e ∙ f in cc

-- one object is changed
pub changed_grows : (xs : List Object) (n : ℕ) (f : Object → Object) → ((x : Object) → item_at xs n ≡ Some x → Succeeds x (f x)) → Grows xs (changed_at xs n f)
changed_grows xs n f each k x at =
    let y = there_still xs n k f x at in
    record { object = y.0; there = y.1; succeeds = by_case y.0 (changed_cases xs n k f y.0 y.1) }
  where
    by_case : (y : Object) → ((k ≡ n) × (z : Object) × (item_at xs k ≡ Some z) × (y ≡ f z)) ⊎ ((k ≢ n) × (item_at xs k ≡ Some y)) → Succeeds x y
    by_case y (inl (same, z, there, is)) =
        let old : z ≡ x = same_item xs k z x there at in
        subst (Succeeds x) (sym (is ∙ ap f old)) (each x (subst (λ i. item_at xs i ≡ Some x) same at))
    by_case y (inr (_, there)) = subst (Succeeds x) (same_item xs k x y at there) (succeeds_itself x)

pub same_grows : (xs : List Object) (n : ℕ) (f : Object → Object) → ((x : Object) → Succeeds x (f x)) → Grows xs (changed_at xs n f)
same_grows xs n f each = changed_grows xs n f (λ x _. each x)

-- one waits more
pub asker_grows : (xs : List Object) (n w : ℕ) → Grows xs (changed_at xs n (with_asker w))
asker_grows xs n w = same_grows xs n (with_asker w) (λ x. record { askers = λ v e. inl (stays x.askers v e); answered = λ a. a })
  where
    stays : (ws : List ℕ) (v : ℕ) → has ws v ≡ true → has (with_number ws w) v ≡ true
    stays ws v e = at_test (λ b. has (if b then ws else ws ++ w ∷ []) v ≡ true) (has ws w) (λ _. e) (λ _. list_any-push_left (λ i. i == v) ws w e)

-- another task in its place
pub put_grows : (h : WorkerContext) (o : Id) (task : OwnTask) → Grows h.worker.objects (changed_at h.worker.objects o.serial (with_task task))
put_grows h o task = same_grows h.worker.objects o.serial (with_task task) (λ x. succeeds_alike x (with_task task x) refl refl refl)

pub fault_grows : (h : WorkerContext) (o : Id) (f : Fault) → Grows h.worker.objects (changed_at h.worker.objects o.serial (with_fault f))
fault_grows h o f = same_grows h.worker.objects o.serial (with_fault f) (λ x. record { askers = λ w e. inl e; answered = λ _. inr refl })

-- all of them are
get_mapped : (f : Object → Object) (xs : List Object) (i : ℕ) (x : Object) → slice_get xs i ≡ Some x → slice_get (map f xs) i ≡ Some (f x)
get_mapped f [] i x e = absurd (cc)
get_mapped f (y ∷ xs) zero x e = let same : y ≡ x = cc in ap (λ z. Some (f z)) same
get_mapped f (y ∷ xs) (suc i) x e = get_mapped f xs i x e

pub mapped_grows : (xs : List Object) (f : Object → Object) → ((x : Object) → Succeeds x (f x)) → Grows xs (map f xs)
mapped_grows xs f each zero x at = absurd (cc)
mapped_grows xs f each (suc i) x at = record { object = f x; there = get_mapped f xs i x at; succeeds = each x }

-- an object more
pub joined_grows : (xs ys : List Object) → Grows xs (xs ++ ys)
joined_grows xs ys k x at = record { object = x; there = there_more xs ys k x at; succeeds = succeeds_itself x }

-- nobody waits for it any more, where it is answered
pub answered_grows : (h : WorkerContext) (o : Id) → ((x : Object) → item_at h.worker.objects o.serial ≡ Some x → IsAnswered x) →
    Grows h.worker.objects (changed_at h.worker.objects o.serial without_askers)
answered_grows h o answered = changed_grows h.worker.objects o.serial without_askers (λ x at. record { askers = λ w e. inr (answered x at); answered = λ a. a })

-- ---- what a look at an own object tells

pub looked_up : (h : WorkerContext) (o : Id) (x : Object) → object_at h o ≡ Some x → item_at h.worker.objects o.serial ≡ Some x
looked_up h o x e =
    at_test (λ b. (if b then own_object h o.serial else None) ≡ Some x → item_at h.worker.objects o.serial ≡ Some x) (is_own h o)
    (λ _ f. f) (λ _ f. absurd (cc)) e

pub answered_there : (h : WorkerContext) (o : Id) (x y : Object) → IsAnswered x → object_at h o ≡ Some x → item_at h.worker.objects o.serial ≡ Some y → IsAnswered y
answered_there h o x y answered at there = subst IsAnswered (same_item h.worker.objects o.serial x y (looked_up h o x at) there) answered

-- what has a place where the owner doesn't keep it
pub there_is : (ns : List ℕ) (n : ℕ) (kept : Option Outcome) → (kept ≡ None → has ns n ≡ true) → (is_empty ns && is_none kept) ≡ false
there_is ns n None f = ap (λ b. b && true) (has_some ns (f refl))
  where
    has_some : (xs : List ℕ) → has xs n ≡ true → is_empty xs ≡ false
    has_some [] e = absurd (cc)
    has_some (x ∷ xs) e = refl
there_is ns n (Some c) f = neither (is_empty ns)
  where
    neither : (b : Bool) → (b && false) ≡ false
    neither true = refl
    neither false = refl
