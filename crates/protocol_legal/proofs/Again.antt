-- Each task of a plan is asked for once, however many of its objects are lost.
use Rattle.std.proofs.Common.{◌≡◌, ℕ, ◌+◌, true, false, List, [], ◌∷◌, length, Some, None, inl, inr, refl, sym, ap, ◌∙◌, subst, arith}
use Rattle.std.specs.Prelude.{◌==◌, ◌&&◌, ◌⊎◌, not, is_none, if◌then◌else◌}
use Rattle.std.specs.List.{AllByRecursion}
use Rattle.std.specs.Option.{option_map}
use Rattle.std.proofs.lemmas.Bool.{eqb-true}
use Rattle.std.proofs.lemmas.Bool.Decides.{nat_tests}
use Rattle.meaning.specs.Births.{Part, birth_at}
use Rattle.meaning.specs.Values.{Task}
use Rattle.meaning.proofs.BirthLaws.{at_test}
use Rattle.kind_laws.specs.of_event_log.Words.{attempt, births, runs_of}
use Rattle.kind_laws.specs.of_event_log.Breaks.{RetriesAreUsed}
use Rattle.step_laws.specs.of_protocol.Numbered.{item_at, changed_at}
use Rattle.step_laws.specs.of_protocol.Sets.{is_empty, object_id, retries_in}
use Rattle.step_laws.specs.of_protocol.Tables.{AskedAt, Beside, ByTask, ObjectSource, Object, OwnTask, WasPut, first_by, is_lost, is_nowhere, is_pending, is_pending_by, is_pending_task, is_whole, may_try_again, task_by, task_of, with_task}
use Rattle.step_laws.specs.of_protocol.Steps.{WorkerContext}
use Rattle.step_laws.specs.of_protocol.Asking.{next_attempt, requests}
use Rattle.step_laws.specs.of_protocol.Recovery.{remakes, remakes_by, remakes_one}
use Rattle.protocol_legal.specs.Past.{Asking}
use Rattle.protocol_legal.specs.Lost.{IsLost}
use Rattle.protocol_legal.specs.Knows.{IsBegun, IsSpent, IsWanted, KnowsTask}
use Rattle.protocol_legal.specs.During.{Frame, SoundHere, Sound}
use Rattle.protocol_legal.proofs.Breaking.{lost_breaks}
use Rattle.protocol_legal.proofs.Numbers.{item-same, item-elsewhere}
use Rattle.protocol_legal.proofs.Steps.{now}
use Rattle.protocol_legal.proofs.Asking.{OwnTaskAt, known_task, next_sound}
use Rattle.protocol_legal.proofs.Recovering.{LostHere, LostParts, LostResult, lost_parts, lost_result}

-- an object without a copy, of a task that is under way or has a retry left
pub record Fits (h : WorkerContext) (k : ℕ) : Type 0 where
  pub object : Object
  pub there : item_at h.worker.objects k ≡ Some object
  pub bare : (is_whole object && is_nowhere object) ≡ true
  pub task : OwnTask
  pub by : task_by h.worker.objects object.source ≡ Some task
  pub more : (is_pending_task task ≡ true) ⊎ (may_try_again task ≡ true)

not_put : (m : ObjectSource) (xs : List Object) (t : OwnTask) → m ≡ WasPut → task_by xs m ≡ Some t → ⊥
not_put m xs t e g = let c : task_by xs m ≡ None = ap (task_by xs) e in absurd (cc)

module _ (f : Frame) where
  -- a task with a retry left isn't spent
  not_spent : (asked : List Asking) (h : WorkerContext) (s : SoundHere f asked h) (first : ℕ) (task : OwnTask) (at : OwnTaskAt h first task) (w n : ℕ) → IsBegun (now f asked h s) (object_id h.me first) task w n → may_try_again task ≡ true →
      IsSpent (now f asked h s).log (object_id h.me first) → ⊥
  not_spent asked h s first task at w n b more spent =
      let o = object_id h.me first in
      let p = now f asked h s in
      let kt = known_task f asked h s first task at in
      let used : RetriesAreUsed p.log spent.object = spent.known.cause in
      let here_ = spent.born in
      let there = used.born in
      let same : used.part ≡ spent.part = cc in
      let is : used.part.born.object ≡ o = ap (λ (q : Part). q.born.object) same ∙ spent.same in
      let birth : birth_at (births p.log) o ≡ Some (Task used.function used.args used.depth used.retries used.others) = subst (λ y. birth_at (births p.log) y ≡ Some (Task used.function used.args used.depth used.retries used.others)) is used.task in
      let retries : Some (retries_in task.spec) ≡ Some used.retries = ap (option_map retries_in) (sym kt.spec ∙ birth) in
      let r : retries_in task.spec ≡ used.retries = cc in
      let l : length (runs_of o p.log) ≡ used.retries + 1 = ap (λ y. length (runs_of y p.log)) (sym is) ∙ used.begun in
      let c : length (runs_of o p.log) ≡ task.number + 1 = ap length kt.begun ∙ b.count in
      let equal : task.number ≡ retries_in task.spec = omega (arith, r, l, c) in
      let less = more in
      absurd (grind (arith, nat_tests, equal, less))

  asks_one : (asked : List Asking) (h : WorkerContext) (s : SoundHere f asked h) (k : ℕ) (l : LostHere h k) (r : LostResult (now f asked h s) h k l.object) → may_try_again r.task ≡ true → Sound f (requests h (object_id h.me r.first) (next_attempt r.task))
  asks_one asked h s k l r more =
      let p = now f asked h s in
      let o = object_id h.me r.first in
      let kt : KnowsTask p o h.worker.objects r.task = known_task f asked h s r.first r.task r.at in
      let parts : LostParts h.worker.objects l.object = lost_parts h.worker.objects l.object l.lost in
      let at' : item_at h.worker.objects (r.first + r.result.0) ≡ Some l.object = ap (item_at h.worker.objects) (sym r.result.2) ∙ l.there in
      let row = kt.rows r.result.0 r.result.1 in
      let there = row.there in
      let is : row.object ≡ l.object = cc in
      let kept : kt.released ≡ false = sym row.is_released ∙ ap (λ (x : Object). x.is_released) is ∙ parts.kept in
      let wanted : IsWanted h.worker.objects r.first r.task = record {
        place = r.result.0;
        within = r.result.1;
        object = l.object;
        there = at';
        first = ap (λ j. first_by j l.object.source) (sym r.result.2) ∙ r.is_first;
        wanted = ap (λ t. is_none t && is_nowhere l.object) parts.healthy ∙ ap (λ ps. is_empty ps && is_none l.object.kept) parts.nowhere ∙ ap is_none parts.unkept;
      } in
      let lost : IsLost p.log (attempt o r.task.number) = elim r.lost.gone [ inl i ↦ i | inr spent ↦ absurd (not_spent asked h s r.first r.task r.at r.lost.worker r.lost.node r.lost.begun more spent) ] in
      next_sound f asked h s r.first r.task r.at r.lost.worker r.lost.node lost.place r.lost.begun (lost_breaks p.log (attempt o r.task.number) lost) kept wanted more

  -- ---- the others fit still

  module _ (h : WorkerContext) (first : ℕ) (task : OwnTask) (at : OwnTaskAt h first task) where
    abbrev next : OwnTask
    next = record (next_attempt task) { progress = AskedAt 0 h.worker.node }

    abbrev ys : List Object
    ys = changed_at h.worker.objects first (with_task next)

    abbrev then_ : WorkerContext
    then_ = requests h (object_id h.me first) (next_attempt task)

    task_then : task_of (item_at ys first) ≡ Some next
    task_then = ap task_of (item-same h.worker.objects first (with_task next) at.object at.there)

    -- how an object is made then
    by_then : (m : ObjectSource) (t : OwnTask) → task_by h.worker.objects m ≡ Some t → ((is_pending_task t ≡ true) ⊎ (may_try_again t ≡ true)) → (u : OwnTask) × (task_by ys m ≡ Some u) × ((is_pending_task u ≡ true) ⊎ (may_try_again u ≡ true))
    by_then WasPut t e more = absurd (cc)
    by_then (ByTask v) t e more = (v, refl, let same : v ≡ t = cc in subst (λ (x : OwnTask). (is_pending_task x ≡ true) ⊎ (may_try_again x ≡ true)) (sym same) more)
    by_then (Beside n) t e more =
        at_test (λ b. (n == first) ≡ b → (u : OwnTask) × (task_of (item_at ys n) ≡ Some u) × ((is_pending_task u ≡ true) ⊎ (may_try_again u ≡ true))) (n == first)
        (λ b _. (next, ap (λ i. task_of (item_at ys i)) (eqb-true n first b) ∙ task_then, inl refl))
        (λ b _. (t, ap task_of (item-elsewhere h.worker.objects n first (with_task next) b) ∙ e, more)) refl

    fits_then : (j : ℕ) → Fits h j → Fits then_ j
    fits_then j fit =
        at_test (λ b. (j == first) ≡ b → Fits then_ j) (j == first)
        (λ b _. let same = eqb-true j first b in
        let i : item_at h.worker.objects first ≡ Some fit.object = ap (item_at h.worker.objects) (sym same) ∙ fit.there in
        record { object = with_task next fit.object; there = ap (item_at ys) same ∙ item-same h.worker.objects first (with_task next) fit.object i; bare = fit.bare; task = next; by = refl; more = inl refl })
        (λ b _. let r = by_then fit.object.source fit.task fit.by fit.more in
        record { object = fit.object; there = item-elsewhere h.worker.objects j first (with_task next) b ∙ fit.there; bare = fit.bare; task = r.0; by = r.1; more = r.2 }) refl

    all_then : (ks : List ℕ) → AllByRecursion (Fits h) ks → AllByRecursion (Fits then_) ks
    all_then [] all = tt
    all_then (j ∷ ks) all = (fits_then j all.0, all_then ks all.1)

  -- ---- each in turn

  pub remakes_sound : (ks : List ℕ) (asked : List Asking) (h : WorkerContext) → SoundHere f asked h → AllByRecursion (Fits h) ks → Sound f (remakes h ks)
  remakes_sound [] asked h s all = (asked, s)
  remakes_sound (k ∷ ks) asked h s all =
      let fit = all.0 in
      subst (λ r. Sound f (remakes (remakes_one h k r) ks)) (sym fit.there)
      (subst (λ r. Sound f (remakes (remakes_by h (first_by k fit.object.source) r) ks)) (sym fit.by)
      (at_test (λ b. is_pending_task fit.task ≡ b → Sound f (remakes (if b then h else requests h (object_id h.me (first_by k fit.object.source)) (next_attempt fit.task)) ks)) (is_pending_task fit.task)
      (λ b _. remakes_sound ks asked h s all.1)
      (λ b _. let lost : is_lost h.worker.objects fit.object ≡ true = ap (λ t. t && not (is_pending h.worker.objects fit.object)) fit.bare ∙ ap not (ap is_pending_by fit.by ∙ b) in
      let l : LostHere h k = record { object = fit.object; there = fit.there; lost = lost } in
      let r = lost_result f asked h s k l fit.object.source refl (λ put. not_put fit.object.source h.worker.objects fit.task put fit.by) in
      let g = r.by in
      let e = fit.by in
      let same : r.task ≡ fit.task = cc in
      let more : may_try_again r.task ≡ true = elim fit.more [ inl c ↦ absurd (cc) | inr m ↦ ap may_try_again same ∙ m ] in
      let one = asks_one asked h s k l r more in
      subst (λ i. Sound f (remakes (requests h (object_id h.me i) (next_attempt fit.task)) ks)) (sym r.is_first)
      (subst (λ t. Sound f (remakes (requests h (object_id h.me r.first) (next_attempt t)) ks)) same
      (remakes_sound ks one.0 (requests h (object_id h.me r.first) (next_attempt r.task)) one.1 (all_then h r.first r.task r.at ks all.1)))) refl))
