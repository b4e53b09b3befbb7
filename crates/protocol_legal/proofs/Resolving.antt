-- Several objects of a task are resolved one after the other, to a fault each: what is logged, the rows of the table, and that each entry is allowed.
use Rattle.std.proofs.Common.{◌≡◌, ℕ, zero, suc, ◌+◌, ◌<◌, ◌≤◌, Bool, true, false, List, [], ◌∷◌, ◌++◌, length, Option, Some, None, inl, inr, refl, sym, ap, ◌∙◌, subst, arith, append_assoc, append-nil}
use Rattle.std.specs.Prelude.{◌==◌, ◌⊎◌, if◌then◌else◌}
use Rattle.std.specs.List.{flat_map}
use Rattle.std.proofs.lemmas.List.Concat.{flat_map-append}
use Rattle.std.proofs.lemmas.Bool.Decides.{nat_tests}
use Rattle.meaning.specs.Births.{same_id}
use Rattle.meaning.specs.Values.{Id}
use Rattle.meaning.proofs.BirthLaws.{at_test, same_id-refl, same_id-true}
use Rattle.kind_laws.specs.of_event_log.Entries.{Attempt, Entry, Fault, Resolved, main_object}
use Rattle.kind_laws.specs.of_event_log.Words.{opened_in, resolved_in, resolves_of}
use Rattle.kind_laws.specs.of_event_log.Rules.{Allowed, IsOwn, MayResolve, Setting}
use Rattle.kind_laws.proofs.of_event_log.OwnLaws.{own-plain}
use Rattle.kind_laws.proofs.of_event_log.WordLaws.{word_push}
use Rattle.step_laws.specs.of_protocol.Numbered.{item_at, changed_at}
use Rattle.step_laws.specs.of_protocol.Sets.{object_id}
use Rattle.step_laws.specs.of_protocol.Tables.{Object, with_fault}
use Rattle.step_laws.specs.of_protocol.Steps.{WorkerContext, each_from, logs, logs_all, object_at, own_id, own_object, with_worker}
use Rattle.step_laws.specs.of_protocol.Asking.{resolves}
use Rattle.protocol_legal.specs.Past.{Asking, WasAskedAt}
use Rattle.protocol_legal.specs.Grows.{Grows}
use Rattle.protocol_legal.specs.Knows.{KnowsWorker}
use Rattle.protocol_legal.specs.During.{Frame, SoundHere, SoundThere, past_of, so_far}
use Rattle.protocol_legal.proofs.Numbers.{item-same, item-elsewhere}
use Rattle.protocol_legal.proofs.Growing.{grows_on}
use Rattle.protocol_legal.proofs.Logging.{beside_plain, grows_logged, is_beside, so_far_push, there_logs}
use Rattle.step_laws.proofs.Lists.{changed-length}

-- ---- a worker in its event, but for what it knows of its objects

pub record SoundEvent (f : Frame) (asked : List Asking) (h : WorkerContext) : Type 0 where
  pub there : SoundThere f asked h.there
  pub who : h.me ≡ f.actor
  pub own : IsOwn f.setting (so_far f h.there.out.entries) h.me
  pub at_home : h.worker.node ≡ h.there.number
  pub worker_lives : h.worker.is_live ≡ true
  pub grows : Grows f.anchor (past_of f h.there.out.entries asked)
  pub mine : (a : Attempt) (k : ℕ) → WasAskedAt (past_of f h.there.out.entries asked) a k → (a.object.owner ≡ h.me → ⊥) → WasAskedAt (past_of f h.there.out.entries f.asked) a k

pub event_of : (f : Frame) (asked : List Asking) (h : WorkerContext) → SoundHere f asked h → SoundEvent f asked h
event_of f asked h s = record { there = s.there; who = s.who; own = s.own; at_home = s.at_home; worker_lives = s.worker_lives; grows = s.grows; mine = s.mine }

pub sound_of : (f : Frame) (asked : List Asking) (h : WorkerContext) → SoundEvent f asked h → KnowsWorker f.setting (past_of f h.there.out.entries asked) h.me h.worker → SoundHere f asked h
sound_of f asked h e k = record { there = e.there; who = e.who; own = e.own; at_home = e.at_home; worker_lives = e.worker_lives; grows = e.grows; mine = e.mine; knows = k }

-- its objects change
pub event_changes : (f : Frame) (asked : List Asking) (h : WorkerContext) (ys : List Object) → SoundEvent f asked h → SoundEvent f asked (with_worker h (record h.worker { objects = ys }))
event_changes f asked h ys e = record { there = e.there; who = e.who; own = e.own; at_home = e.at_home; worker_lives = e.worker_lives; grows = e.grows; mine = e.mine }

pub event_logs : (f : Frame) (asked : List Asking) (h : WorkerContext) (x : Entry) → SoundEvent f asked h → Allowed f.setting (so_far f h.there.out.entries) x → is_beside x ≡ true → opened_in x ≡ [] → SoundEvent f asked (logs h x)
event_logs f asked h x e a b o = record {
  there = there_logs f asked h.there e.there x a b o;
  who = e.who;
  own = subst (λ l. IsOwn f.setting l h.me) (so_far_push f h.there.out.entries x) (own-plain f.setting (so_far f h.there.out.entries) x h.me (beside_plain x b) e.own);
  at_home = e.at_home;
  worker_lives = e.worker_lives;
  grows = grows_on f.anchor (past_of f h.there.out.entries asked) (past_of f (h.there.out.entries ++ x ∷ []) asked) e.grows (grows_logged f asked h.there e.there x a b);
  mine = λ c k r n. e.mine c k r n;
}

-- ---- one step

-- a step that changes objects and logs
abbrev pub goes_to : WorkerContext → List Object → List Entry → WorkerContext
goes_to h ys es = logs_all (with_worker h (record h.worker { objects = ys })) es

same_here : (h : WorkerContext) → h ≡ goes_to h h.worker.objects []
same_here h = ap (λ es. record h { there = record h.there { out = record h.there.out { entries = es } } }) (sym (append-nil h.there.out.entries))

mine : (h : WorkerContext) (j : ℕ) → object_at h (own_id h j) ≡ own_object h j
mine h j = let e : (h.me == h.me) ≡ true = grind (arith, nat_tests) in ap (λ b. if b then own_object h j else None) e

goes_on : (h : WorkerContext) (ys zs : List Object) (es fs : List Entry) → goes_to (goes_to h ys es) zs fs ≡ goes_to h zs (es ++ fs)
goes_on h ys zs es fs = ap (λ gs. record h { worker = record h.worker { objects = zs }; there = record h.there { out = record h.there.out { entries = gs } } }) (append_assoc h.there.out.entries es fs)

pub same_serial : (w i j : ℕ) → (i == j) ≡ false → same_id (object_id w j) (object_id w i) ≡ false
same_serial w i j d =
    at_test (λ t. same_id (object_id w j) (object_id w i) ≡ t → t ≡ false) (same_id (object_id w j) (object_id w i))
    (λ t e. let same : j ≡ i = ap (λ (z : Id). z.serial) (same_id-true (object_id w j) (object_id w i) e) in
    let r : (i == j) ≡ true = grind (arith, nat_tests, same) in absurd (cc)) (λ t e. refl) refl

apart_of : (i j m : ℕ) → (i < j) ⊎ (j + suc m ≤ i) → (i == j) ≡ false
apart_of i j m (inl l) = grind (arith, nat_tests, l)
apart_of i j m (inr l) = let b : j < i = omega (arith, l) in grind (arith, nat_tests, b)

further : (i j n : ℕ) → (i < j) ⊎ (j + suc n ≤ i) → (i < j + 1) ⊎ (j + 1 + n ≤ i)
further i j n (inl l) = inl (omega (arith, l))
further i j n (inr l) = inr (omega (arith, l))

-- ---- what is logged, and the rows then: each object of which the test is true is resolved to its fault

module _ (test : Object → Bool) (cause : ℕ → ℕ → Fault) where
  -- such an object is resolved
  abbrev pub resolved_row : ℕ → ℕ → Object → Object
  resolved_row w j z = if test z then with_fault (cause w j) z else z

  abbrev pub rows_at : List Object → ℕ → ℕ → Option Object → List Object
  rows_at xs w j None = xs
  rows_at xs w j (Some z) = if test z then changed_at xs j (with_fault (cause w j)) else xs

  abbrev pub resolved_rows : List Object → ℕ → ℕ → ℕ → List Object
  resolved_rows xs w j zero = xs
  resolved_rows xs w j (suc n) = resolved_rows (rows_at xs w j (item_at xs j)) w (j + 1) n

  abbrev pub entry_at : ℕ → ℕ → Option Object → List Entry
  entry_at w j None = []
  entry_at w j (Some z) = if test z then Resolved (object_id w j) (cause w j) ∷ [] else []

  abbrev pub resolved_entries : List Object → ℕ → ℕ → ℕ → List Entry
  resolved_entries xs w j zero = []
  resolved_entries xs w j (suc n) = entry_at w j (item_at xs j) ++ resolved_entries (rows_at xs w j (item_at xs j)) w (j + 1) n

  -- the step of one object
  module _ (by : WorkerContext → Id → Option Object → WorkerContext) (for_none : (h : WorkerContext) (j : ℕ) → by h (own_id h j) None ≡ h)
      (for_some : (h : WorkerContext) (j : ℕ) (z : Object) → by h (own_id h j) (Some z) ≡ (if test z then resolves h (own_id h j) (cause h.me j) else h)) where
    one_resolved : (h : WorkerContext) (j : ℕ) → by h (own_id h j) (object_at h (own_id h j)) ≡ goes_to h (rows_at h.worker.objects h.me j (item_at h.worker.objects j)) (entry_at h.me j (item_at h.worker.objects j))
    one_resolved h j = ap (by h (own_id h j)) (mine h j) ∙ go (item_at h.worker.objects j)
      where
        go : (r : Option Object) → by h (own_id h j) r ≡ goes_to h (rows_at h.worker.objects h.me j r) (entry_at h.me j r)
        go None = for_none h j ∙ same_here h
        go (Some z) = for_some h j z ∙ at_test (λ b. (if b then logs (with_worker h (record h.worker { objects = changed_at h.worker.objects j (with_fault (cause h.me j)) })) (Resolved (own_id h j) (cause h.me j)) else h)
            ≡ goes_to h (if b then changed_at h.worker.objects j (with_fault (cause h.me j)) else h.worker.objects) (if b then Resolved (object_id h.me j) (cause h.me j) ∷ [] else [])) (test z) (λ b. refl) (λ b. same_here h)

    -- all of them, in order
    pub resolves_rows : (h : WorkerContext) (j n : ℕ) → each_from (λ g i. by g (own_id g i) (object_at g (own_id g i))) h j n ≡ goes_to h (resolved_rows h.worker.objects h.me j n) (resolved_entries h.worker.objects h.me j n)
    resolves_rows h j zero = same_here h
    resolves_rows h j (suc n) =
        let xs = rows_at h.worker.objects h.me j (item_at h.worker.objects j) in
        let es = entry_at h.me j (item_at h.worker.objects j) in
        ap (λ g. each_from (λ g' i. by g' (own_id g' i) (object_at g' (own_id g' i))) g (j + 1) n) (one_resolved h j)
        ∙ resolves_rows (goes_to h xs es) (j + 1) n
        ∙ goes_on h xs (resolved_rows xs h.me (j + 1) n) es (resolved_entries xs h.me (j + 1) n)

  -- ---- the rows

  rows_at-length : (xs : List Object) (w j : ℕ) (r : Option Object) → length (rows_at xs w j r) ≡ length xs
  rows_at-length xs w j None = refl
  rows_at-length xs w j (Some z) = at_test (λ b. length (if b then changed_at xs j (with_fault (cause w j)) else xs) ≡ length xs) (test z) (λ b. changed-length xs j (with_fault (cause w j))) (λ b. refl)

  pub resolved-length : (xs : List Object) (w j n : ℕ) → length (resolved_rows xs w j n) ≡ length xs
  resolved-length xs w j zero = refl
  resolved-length xs w j (suc n) = resolved-length (rows_at xs w j (item_at xs j)) w (j + 1) n ∙ rows_at-length xs w j (item_at xs j)

  rows_at-out : (xs : List Object) (w j : ℕ) (r : Option Object) (i : ℕ) → (i == j) ≡ false → item_at (rows_at xs w j r) i ≡ item_at xs i
  rows_at-out xs w j None i d = refl
  rows_at-out xs w j (Some z) i d = at_test (λ b. item_at (if b then changed_at xs j (with_fault (cause w j)) else xs) i ≡ item_at xs i) (test z) (λ b. item-elsewhere xs i j (with_fault (cause w j)) d) (λ b. refl)

  pub row_out : (xs : List Object) (w j n i : ℕ) → (i < j) ⊎ (j + n ≤ i) → item_at (resolved_rows xs w j n) i ≡ item_at xs i
  row_out xs w j zero i b = refl
  row_out xs w j (suc n) i b = row_out (rows_at xs w j (item_at xs j)) w (j + 1) n i (further i j n b) ∙ rows_at-out xs w j (item_at xs j) i (apart_of i j n b)

  rows_at-in : (xs : List Object) (w j : ℕ) (z : Object) → item_at xs j ≡ Some z → item_at (rows_at xs w j (Some z)) j ≡ Some (resolved_row w j z)
  rows_at-in xs w j z e =
      at_test (λ b. item_at (if b then changed_at xs j (with_fault (cause w j)) else xs) j ≡ Some (if b then with_fault (cause w j) z else z)) (test z) (λ b. item-same xs j (with_fault (cause w j)) z e) (λ b. e)

  pub row_in : (xs : List Object) (w j n i : ℕ) (z : Object) → i < n → item_at xs (j + i) ≡ Some z → item_at (resolved_rows xs w j n) (j + i) ≡ Some (resolved_row w (j + i) z)
  row_in xs w j zero i z l e = absurd (omega (arith, l))
  row_in xs w j (suc n) zero z l e =
      let s : ◌≡◌ {A = ℕ} (j + 0) j = omega arith in
      let low : j + 0 < j + 1 = omega arith in
      let at : item_at xs j ≡ Some z = ap (item_at xs) (sym s) ∙ e in
      row_out (rows_at xs w j (item_at xs j)) w (j + 1) n (j + 0) (inl low)
      ∙ ap (λ r. item_at (rows_at xs w j r) (j + 0)) at ∙ ap (item_at (rows_at xs w j (Some z))) s ∙ rows_at-in xs w j z at ∙ ap (λ k. Some (resolved_row w k z)) (sym s)
  row_in xs w j (suc n) (suc i) z l e =
      let s : ◌≡◌ {A = ℕ} (j + suc i) (j + 1 + i) = omega arith in
      let d : ((j + suc i) == j) ≡ false = grind (arith, nat_tests) in
      let there : item_at (rows_at xs w j (item_at xs j)) (j + 1 + i) ≡ Some z = ap (item_at (rows_at xs w j (item_at xs j))) (sym s) ∙ rows_at-out xs w j (item_at xs j) (j + suc i) d ∙ e in
      ap (item_at (resolved_rows (rows_at xs w j (item_at xs j)) w (j + 1) n)) s ∙ row_in (rows_at xs w j (item_at xs j)) w (j + 1) n i z (omega (arith, l)) there ∙ ap (λ k. Some (resolved_row w k z)) (sym s)

  -- ---- the words of what is logged

  -- a word that resolutions don't change
  pub none_in : {X : Type 0} (word : Entry → List X) → ((o : Id) (g : Fault) → word (Resolved o g) ≡ []) → (xs : List Object) (w j n : ℕ) → flat_map word (resolved_entries xs w j n) ≡ []
  none_in word unsaid xs w j zero = refl
  none_in word unsaid xs w j (suc n) =
      flat_map-append word (entry_at w j (item_at xs j)) (resolved_entries (rows_at xs w j (item_at xs j)) w (j + 1) n)
      ∙ ap (λ ys. ys ++ flat_map word (resolved_entries (rows_at xs w j (item_at xs j)) w (j + 1) n)) (here (item_at xs j))
      ∙ none_in word unsaid (rows_at xs w j (item_at xs j)) w (j + 1) n
    where
      here : (r : Option Object) → flat_map word (entry_at w j r) ≡ []
      here None = refl
      here (Some z) = at_test (λ b. flat_map word (if b then Resolved (object_id w j) (cause w j) ∷ [] else []) ≡ []) (test z) (λ b. ap (λ ys. ys ++ []) (unsaid (object_id w j) (cause w j))) (λ b. refl)

  word_apart : (w i j : ℕ) (r : Option Object) → (i == j) ≡ false → flat_map (resolved_in (object_id w i)) (entry_at w j r) ≡ []
  word_apart w i j None d = refl
  word_apart w i j (Some z) d = at_test (λ b. flat_map (resolved_in (object_id w i)) (if b then Resolved (object_id w j) (cause w j) ∷ [] else []) ≡ []) (test z)
      (λ b. ap (λ t. (if t then cause w j ∷ [] else []) ++ []) (same_serial w i j d)) (λ b. refl)

  -- nothing is said of other objects
  pub resolved_out : (xs : List Object) (w j n i : ℕ) → (i < j) ⊎ (j + n ≤ i) → flat_map (resolved_in (object_id w i)) (resolved_entries xs w j n) ≡ []
  resolved_out xs w j zero i b = refl
  resolved_out xs w j (suc n) i b =
      flat_map-append (resolved_in (object_id w i)) (entry_at w j (item_at xs j)) (resolved_entries (rows_at xs w j (item_at xs j)) w (j + 1) n)
      ∙ ap (λ ys. ys ++ flat_map (resolved_in (object_id w i)) (resolved_entries (rows_at xs w j (item_at xs j)) w (j + 1) n)) (word_apart w i j (item_at xs j) (apart_of i j n b))
      ∙ resolved_out (rows_at xs w j (item_at xs j)) w (j + 1) n i (further i j n b)

  -- such an object is resolved once, another one isn't
  abbrev pub resolved_once : ℕ → ℕ → Object → List Fault
  resolved_once w j z = if test z then cause w j ∷ [] else []

  pub resolved_in_row : (xs : List Object) (w j n i : ℕ) (z : Object) → i < n → item_at xs (j + i) ≡ Some z → flat_map (resolved_in (object_id w (j + i))) (resolved_entries xs w j n) ≡ resolved_once w (j + i) z
  resolved_in_row xs w j zero i z l e = absurd (omega (arith, l))
  resolved_in_row xs w j (suc n) zero z l e =
      let s : ◌≡◌ {A = ℕ} (j + 0) j = omega arith in
      let low : j + 0 < j + 1 = omega arith in
      let at : item_at xs j ≡ Some z = ap (item_at xs) (sym s) ∙ e in
      flat_map-append (resolved_in (object_id w (j + 0))) (entry_at w j (item_at xs j)) (resolved_entries (rows_at xs w j (item_at xs j)) w (j + 1) n)
      ∙ ap (λ ys. flat_map (resolved_in (object_id w (j + 0))) (entry_at w j (item_at xs j)) ++ ys) (resolved_out (rows_at xs w j (item_at xs j)) w (j + 1) n (j + 0) (inl low))
      ∙ append-nil (flat_map (resolved_in (object_id w (j + 0))) (entry_at w j (item_at xs j)))
      ∙ ap (λ r. flat_map (resolved_in (object_id w (j + 0))) (entry_at w j r)) at ∙ here s
    where
      here : (j + 0) ≡ j → flat_map (resolved_in (object_id w (j + 0))) (entry_at w j (Some z)) ≡ resolved_once w (j + 0) z
      here s = at_test (λ b. flat_map (resolved_in (object_id w (j + 0))) (if b then Resolved (object_id w j) (cause w j) ∷ [] else []) ≡ (if b then cause w (j + 0) ∷ [] else [])) (test z)
          (λ b. ap (λ k. (if same_id (object_id w j) (object_id w k) then cause w j ∷ [] else []) ++ []) s ∙ ap (λ t. (if t then cause w j ∷ [] else []) ++ []) (same_id-refl (object_id w j)) ∙ ap (λ k. cause w k ∷ []) (sym s)) (λ b. refl)
  resolved_in_row xs w j (suc n) (suc i) z l e =
      let s : ◌≡◌ {A = ℕ} (j + suc i) (j + 1 + i) = omega arith in
      let d : ((j + suc i) == j) ≡ false = grind (arith, nat_tests) in
      let there : item_at (rows_at xs w j (item_at xs j)) (j + 1 + i) ≡ Some z = ap (item_at (rows_at xs w j (item_at xs j))) (sym s) ∙ rows_at-out xs w j (item_at xs j) (j + suc i) d ∙ e in
      flat_map-append (resolved_in (object_id w (j + suc i))) (entry_at w j (item_at xs j)) (resolved_entries (rows_at xs w j (item_at xs j)) w (j + 1) n)
      ∙ ap (λ ys. ys ++ flat_map (resolved_in (object_id w (j + suc i))) (resolved_entries (rows_at xs w j (item_at xs j)) w (j + 1) n)) (word_apart w (j + suc i) j (item_at xs j) d)
      ∙ ap (λ k. flat_map (resolved_in (object_id w k)) (resolved_entries (rows_at xs w j (item_at xs j)) w (j + 1) n)) s
      ∙ resolved_in_row (rows_at xs w j (item_at xs j)) w (j + 1) n i z (omega (arith, l)) there
      ∙ ap (λ k. resolved_once w k z) (sym s)

  -- ---- each entry is allowed

  -- a reason that stays, and allows it
  module _ (Reason : List Entry → ℕ → ℕ → Type 0) (stays : (log : List Entry) (w j k : ℕ) → Reason log w k → Reason (log ++ Resolved (object_id w j) (cause w j) ∷ []) w k)
      (allowed : (s : Setting) (log : List Entry) (w j : ℕ) → same_id (object_id w j) main_object ≡ false → IsOwn s log w → resolves_of (object_id w j) log ≡ [] → Reason log w j → MayResolve s log (object_id w j) (cause w j)) where
    -- those of these objects for which the test is true aren't resolved, and there is a reason to resolve them
    abbrev pub CanResolve : Frame → WorkerContext → List Object → ℕ → ℕ → Type 0
    CanResolve f h xs j n = (i : ℕ) (z : Object) → i < n → item_at xs (j + i) ≡ Some z → test z ≡ true →
        (same_id (object_id h.me (j + i)) main_object ≡ false) × (resolves_of (object_id h.me (j + i)) (so_far f h.there.out.entries) ≡ []) × Reason (so_far f h.there.out.entries) h.me (j + i)

    module _ (f : Frame) (asked : List Asking) where
      one_allowed : (h : WorkerContext) (j : ℕ) (r : Option Object) → SoundEvent f asked h → ((z : Object) → r ≡ Some z → test z ≡ true → (same_id (object_id h.me j) main_object ≡ false) × (resolves_of (object_id h.me j) (so_far f h.there.out.entries) ≡ []) × Reason (so_far f h.there.out.entries) h.me j) →
          SoundEvent f asked (logs_all h (entry_at h.me j r))
      one_allowed h j None e can = subst (SoundEvent f asked) (same_here h) e
      one_allowed h j (Some z) e can =
          at_test (λ b. test z ≡ b → SoundEvent f asked (logs_all h (if b then Resolved (object_id h.me j) (cause h.me j) ∷ [] else []))) (test z)
          (λ b i. let c = can z refl i in event_logs f asked h (Resolved (object_id h.me j) (cause h.me j)) e (allowed f.setting (so_far f h.there.out.entries) h.me j c.0 e.own c.1 c.2) refl refl)
          (λ b i. subst (SoundEvent f asked) (same_here h) e) refl

      -- what could be resolved can be so behind what is logged of another object
      still_can : (h : WorkerContext) (j : ℕ) (r : Option Object) (k : ℕ) → (k == j) ≡ false → resolves_of (object_id h.me k) (so_far f h.there.out.entries) ≡ [] → Reason (so_far f h.there.out.entries) h.me k →
          (resolves_of (object_id h.me k) (so_far f (h.there.out.entries ++ entry_at h.me j r)) ≡ []) × Reason (so_far f (h.there.out.entries ++ entry_at h.me j r)) h.me k
      still_can h j None k d none reason =
          let e : so_far f (h.there.out.entries ++ []) ≡ so_far f h.there.out.entries = ap (so_far f) (append-nil h.there.out.entries) in
          (ap (resolves_of (object_id h.me k)) e ∙ none, subst (λ l. Reason l h.me k) (sym e) reason)
      still_can h j (Some z) k d none reason =
          at_test (λ b. (resolves_of (object_id h.me k) (so_far f (h.there.out.entries ++ (if b then Resolved (object_id h.me j) (cause h.me j) ∷ [] else []))) ≡ [])
          × Reason (so_far f (h.there.out.entries ++ (if b then Resolved (object_id h.me j) (cause h.me j) ∷ [] else []))) h.me k) (test z)
          (λ b. let x = Resolved (object_id h.me j) (cause h.me j) in
          let push = so_far_push f h.there.out.entries x in (
            ap (resolves_of (object_id h.me k)) (sym push) ∙ word_push (resolved_in (object_id h.me k)) (so_far f h.there.out.entries) x
                ∙ ap (λ t. resolves_of (object_id h.me k) (so_far f h.there.out.entries) ++ (if t then cause h.me j ∷ [] else [])) (same_serial h.me k j d)
                ∙ append-nil (resolves_of (object_id h.me k) (so_far f h.there.out.entries)) ∙ none,
            subst (λ l. Reason l h.me k) push (stays (so_far f h.there.out.entries) h.me j k reason),
          ))
          (λ b. let e : so_far f (h.there.out.entries ++ []) ≡ so_far f h.there.out.entries = ap (so_far f) (append-nil h.there.out.entries) in
          (ap (resolves_of (object_id h.me k)) e ∙ none, subst (λ l. Reason l h.me k) (sym e) reason))

      pub all_allowed : (h : WorkerContext) (xs : List Object) (j n : ℕ) → SoundEvent f asked h → CanResolve f h xs j n → SoundEvent f asked (logs_all h (resolved_entries xs h.me j n))
      all_allowed h xs j zero e can = subst (SoundEvent f asked) (same_here h) e
      all_allowed h xs j (suc n) e can =
          let es = entry_at h.me j (item_at xs j) in
          let rest = rows_at xs h.me j (item_at xs j) in
          let s : ◌≡◌ {A = ℕ} (j + 0) j = omega arith in
          let none : 0 < suc n = omega arith in
          let first = one_allowed h j (item_at xs j) e
          (λ z at w. let c = can 0 z none (ap (item_at xs) s ∙ at) w in
          (ap (λ k. same_id (object_id h.me k) main_object) (sym s) ∙ c.0, ap (λ k. resolves_of (object_id h.me k) (so_far f h.there.out.entries)) (sym s) ∙ c.1, subst (λ k. Reason (so_far f h.there.out.entries) h.me k) s c.2)) in
          let later : CanResolve f (logs_all h es) rest (j + 1) n =
          λ i z l at w.
          let t : ◌≡◌ {A = ℕ} (j + 1 + i) (j + suc i) = omega arith in
          let d : ((j + suc i) == j) ≡ false = grind (arith, nat_tests) in
          let at' : item_at xs (j + suc i) ≡ Some z = sym (rows_at-out xs h.me j (item_at xs j) (j + suc i) d) ∙ ap (item_at rest) (sym t) ∙ at in
          let c = can (suc i) z (omega (arith, l)) at' w in
          let m = still_can h j (item_at xs j) (j + suc i) d c.1 c.2 in
          (ap (λ k. same_id (object_id h.me k) main_object) t ∙ c.0, ap (λ k. resolves_of (object_id h.me k) (so_far f (h.there.out.entries ++ es))) t ∙ m.0, subst (λ k. Reason (so_far f (h.there.out.entries ++ es)) h.me k) (sym t) m.1) in
          subst (SoundEvent f asked) (ap (λ gs. record h { there = record h.there { out = record h.there.out { entries = gs } } }) (append_assoc h.there.out.entries es (resolved_entries rest h.me (j + 1) n)))
          (all_allowed (logs_all h es) rest (j + 1) n first later)
