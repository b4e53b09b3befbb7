-- Events and lines, one after the other.
use Rattle.std.proofs.Common.{◌≡◌, ℕ, zero, suc, ◌+◌, ◌<◌, false, List, [], ◌∷◌, ◌++◌, take, length, get_or, Option, Some, refl, sym, ap, subst, arith}
use Rattle.std.specs.Prelude.{slice_get}
use Rattle.meaning.specs.Syntax.{Script}
use Rattle.event_log.specs.Entries.{Event}
use Rattle.protocol.specs.Settling.{next}
use Rattle.segment.specs.Jobs.{Done}
use Rattle.protocol_core.specs.Steps.{Answers, Reply}
use Rattle.protocol_board.specs.Replays.{AllPlay, Gives, IsDoneOn, Play, Settles, Step, found_no_memory, given_by, job_for, left_by, with_given}

-- an event that is applied, with what it gives
pub gives_so : (script : Script) (before after : Play) (e : Event) (seat : ℕ) (done : Option Done) (told : Reply) (given : Option ℕ) →
    before.applied < 100000 → IsDoneOn script (job_for e before.jobs) done → Answers before.run e seat done after.run told → found_no_memory told ≡ false →
    after.jobs ≡ with_given told (left_by e before.jobs) → after.applied ≡ before.applied + 1 → after.sent ≡ before.sent ++ length after.run.whole.network ∷ [] →
    after.begun ≡ before.begun → after.lines ≡ before.lines ++ before.begun ∷ [] → given ≡ given_by e told → Gives script before e seat after given
gives_so script before after e seat done told given within is_done answers goes_on jobs counted sent same_line lines is_given = (
  record {
    within = within;
    told = told;
    answered = (done, is_done, answers);
    goes_on = goes_on;
    jobs = jobs;
    counted = counted;
    sent = sent;
    same_line = same_line;
    lines = lines;
  },
  is_given,
)

pub no_event : (script : Script) (but : List ℕ) (p : Play) → Settles script but 0 p p
unfolding Settles
no_event script but p = refl

pub one_more : (script : Script) (but : List ℕ) (n : ℕ) (before between after : Play) (e : Event) → Settles script but n before between →
    next between.run.whole but ≡ Some e → Step script between e 0 after → Settles script but (suc n) before after
unfolding Settles
one_more script but n before between after e h named step = (between, e, h, named, step)

pub no_item : {A : Type 0} (plays : A → Play → Play → Type 0) (p : Play) → AllPlay plays [] p p
unfolding AllPlay
no_item plays p = refl

first_item : {A : Type 0} (plays : A → Play → Play → Type 0) (x : A) (before after : Play) → plays x before after → AllPlay plays (x ∷ []) before after
unfolding AllPlay
first_item plays x before after h = (after, h, refl)

item_before : {A : Type 0} (plays : A → Play → Play → Type 0) (x : A) (rest : List A) (before between after : Play) → plays x before between →
    AllPlay plays rest between after → AllPlay plays (x ∷ rest) before after
unfolding AllPlay
item_before plays x rest before between after h t = (between, h, t)

of_none : {A : Type 0} (plays : A → Play → Play → Type 0) (before after : Play) → AllPlay plays [] before after → after ≡ before
unfolding AllPlay
of_none plays before after h = h

of_more : {A : Type 0} (plays : A → Play → Play → Type 0) (x : A) (rest : List A) (before after : Play) → AllPlay plays (x ∷ rest) before after →
    (between : Play) × plays x before between × AllPlay plays rest between after
unfolding AllPlay
of_more plays x rest before after h = h

some_of : {A : Type 0} (a b : A) → Some a ≡ Some b → a ≡ b
some_of a b e = cc

next_item : {A : Type 0} (plays : A → Play → Play → Type 0) (xs : List A) (n : ℕ) (x : A) (before between after : Play) → slice_get xs n ≡ Some x →
    AllPlay plays (take n xs) before between → plays x between after → AllPlay plays (take (suc n) xs) before after
next_item plays [] n x before between after e h t = absurd (cc)
next_item plays (y ∷ xs) zero x before between after e h t =
    let same : y ≡ x = some_of y x e in
    let begins : between ≡ before = of_none plays before between h in
    first_item plays y before after (subst (λ l. plays l before after) (sym same) (subst (λ p. plays x p after) begins t))
next_item plays (y ∷ xs) (suc n) x before between after e h t =
    let f = of_more plays y (take n xs) before between h in
    item_before plays y (take (suc n) xs) before f.0 after f.1 (next_item plays xs n x f.0 between after e f.2 t)

pub one_more_item : {A : Type 0} (plays : A → Play → Play → Type 0) (xs : List A) (n : ℕ) (x : A) (before between after : Play) → slice_get xs n ≡ Some x →
    AllPlay plays (take n xs) before between → plays x between after → AllPlay plays (take (n + 1) xs) before after
one_more_item plays xs n x before between after e h t =
    let same : ◌≡◌ {A = ℕ} (suc n) (n + 1) = omega arith in
    subst (λ k. AllPlay plays (take k xs) before after) same (next_item plays xs n x before between after e h t)

-- the item at which a loop over them stands
pub item_there : {A : Type 0} (items xs : List A) (i : ℕ) (x : A) → items ≡ xs → i < length items → x ≡ get_or items i x → slice_get xs i ≡ Some x
item_there {A} items xs i x same h e = subst (λ l. slice_get l i ≡ Some x) same (there items i h e)
  where
    there : (xs : List A) (i : ℕ) → i < length xs → x ≡ get_or xs i x → slice_get xs i ≡ Some x
    there [] i h e = absurd (omega arith)
    there (y ∷ ys) zero h e = ap (λ z. Some z) (sym e)
    there (y ∷ ys) (suc i) h e = there ys i (omega arith) e

-- the same of items that are copied
pub item_copied : {A : Type 0} (items xs : List A) (i : ℕ) (default : A) → items ≡ xs → i < length items → slice_get xs i ≡ Some (get_or items i default)
item_copied {A} items xs i default same h = subst (λ l. slice_get l i ≡ Some (get_or items i default)) same (there items i h)
  where
    there : (ys : List A) (i : ℕ) → i < length ys → slice_get ys i ≡ Some (get_or ys i default)
    there [] i h = absurd (omega arith)
    there (y ∷ ys) zero h = refl
    there (y ∷ ys) (suc i) h = there ys i (omega arith)
