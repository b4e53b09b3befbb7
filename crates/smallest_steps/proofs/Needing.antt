-- What the smallest steps keep that are made where an object is needed or answered, or made again.
use Rattle.std.proofs.Common.{ap, inl, inr, refl, subst, sym, ◌∙◌}
use Rattle.std.specs.Prelude.{[], false, is_some, List, None, Option, Some, true, ℕ, ◌∷◌, ◌≡◌}
use Rattle.meaning.specs.Values.{Id, Outcome}
use Rattle.step_laws.specs.of_event_log.Entries.{Fault}
use Rattle.step_laws.specs.of_protocol.Messages.{At, Gone}
use Rattle.step_laws.specs.of_protocol.Stores.{copy_in}
use Rattle.step_laws.specs.of_protocol.Tables.{Beside, ByTask, Fetching, first_by, HasEnded, HasFaulted}
use Rattle.step_laws.specs.of_protocol.Tables.{is_nowhere, is_pending_task, live_location, ObjectSource, Object}
use Rattle.step_laws.specs.of_protocol.Tables.{Out, OwnTask, Phase, Ready, Execution, settled_number, task_by, task_in, task_of, Waits}
use Rattle.step_laws.specs.of_protocol.Tables.{WasPut, without_location, without_locations}
use Rattle.step_laws.specs.of_protocol.Steps.{changes, WorkerContext, object_at, own_id, own_object, says, store_here}
use Rattle.step_laws.specs.of_protocol.Runs.{faults, faults_at, faults_by, fetches, gets, gets_at, gets_by}
use Rattle.step_laws.specs.of_protocol.Runs.{with_fetching, with_fetching_at, with_fetching_by}
use Rattle.step_laws.specs.of_protocol.Asking.{answers_faulted, answers_faulted_by, answers_gone}
use Rattle.step_laws.specs.of_protocol.Asking.{faults_if_waiting, next_attempt, tells_gone}
use Rattle.step_laws.specs.of_protocol.Recovery.{first_stop, gives_up, members, recovers, recovers_by, recovers_if_lost, remakes, remakes_by, remakes_one}
use Rattle.step_laws.specs.of_protocol.Locations.{answers_settled, answers_settled_by}
use Rattle.step_laws.specs.of_protocol.Locations.{looks_at_locations}
use Rattle.step_laws.specs.of_protocol.Locations.{looks_elsewhere, looks_elsewhere_by, looks_for, looks_for_by, looks_here_by}
use Rattle.step_laws.specs.of_protocol.Locations.{needs_at, needs_by, needs_own, needs_own_if_waiting, needs_released, needs_unresolved}
use Rattle.step_laws.specs.of_protocol.Locations.{tells_locations}
use Rattle.smallest_steps.proofs.Known.{own_there}
use Rattle.smallest_steps.proofs.Over.{either}
use Rattle.smallest_steps.proofs.Smallest.{KeepsNeeds}

module _ (P : WorkerContext → Type 0) (MayLocation : Id → Type 0) (kept : KeepsNeeds MayLocation P) where
  pub faults_at-kept : (h : WorkerContext) (run : Execution) (f : Fault) (phase : Phase) → h.worker.run ≡ Some run → run.phase ≡ phase → P h → P (faults_at h run f phase)
  faults_at-kept h run f (Waits y g) e q p = kept.faulted h run f y g e q p
  faults_at-kept h run f Ready e q p = p
  faults_at-kept h run f (Out j) e q p = p
  faults_at-kept h run f (HasEnded c) e q p = p
  faults_at-kept h run f (HasFaulted g) e q p = p

  pub faults_by-kept : (h : WorkerContext) (f : Fault) (r : Option Execution) → h.worker.run ≡ r → P h → P (faults_by h f r)
  faults_by-kept h f None e p = p
  faults_by-kept h f (Some run) e p = faults_at-kept h run f run.phase e refl p

  pub faults-kept : (h : WorkerContext) (f : Fault) → P h → P (faults h f)
  faults-kept h f p = faults_by-kept h f h.worker.run refl p

  pub gets_at-kept : (h : WorkerContext) (run : Execution) (c : Outcome) (phase : Phase) → h.worker.run ≡ Some run → run.phase ≡ phase → P h → P (gets_at h run c phase)
  gets_at-kept h run c (Waits y g) e q p = kept.got h run c y g e q p
  gets_at-kept h run c Ready e q p = p
  gets_at-kept h run c (Out j) e q p = p
  gets_at-kept h run c (HasEnded d) e q p = p
  gets_at-kept h run c (HasFaulted g) e q p = p

  pub gets_by-kept : (h : WorkerContext) (c : Outcome) (r : Option Execution) → h.worker.run ≡ r → P h → P (gets_by h c r)
  gets_by-kept h c None e p = p
  gets_by-kept h c (Some run) e p = gets_at-kept h run c run.phase e refl p

  pub gets-kept : (h : WorkerContext) (c : Outcome) → P h → P (gets h c)
  gets-kept h c p = gets_by-kept h c h.worker.run refl p

  pub with_fetching_at-kept : (h : WorkerContext) (run : Execution) (f : Option Fetching) (phase : Phase) → h.worker.run ≡ Some run → run.phase ≡ phase → P h →
      P (with_fetching_at h run f phase)
  with_fetching_at-kept h run f (Waits y g) e q p = kept.fetching h run y g f e q p
  with_fetching_at-kept h run f Ready e q p = p
  with_fetching_at-kept h run f (Out j) e q p = p
  with_fetching_at-kept h run f (HasEnded d) e q p = p
  with_fetching_at-kept h run f (HasFaulted g) e q p = p

  pub with_fetching_by-kept : (h : WorkerContext) (f : Option Fetching) (r : Option Execution) → h.worker.run ≡ r → P h → P (with_fetching_by h f r)
  with_fetching_by-kept h f None e p = p
  with_fetching_by-kept h f (Some run) e p = with_fetching_at-kept h run f run.phase e refl p

  pub with_fetching-kept : (h : WorkerContext) (f : Option Fetching) → P h → P (with_fetching h f)
  with_fetching-kept h f p = with_fetching_by-kept h f h.worker.run refl p

  pub fetches-kept : (h : WorkerContext) (o : Id) (number n : ℕ) → P h → P (fetches h o number n)
  fetches-kept h o number n p = kept.copy_asked _ _ _ _ (with_fetching-kept h _ p)

  pub tells_gone-kept : (h : WorkerContext) (ws : List ℕ) (o : Id) (f : Fault) → P h → P (tells_gone h ws o f)
  tells_gone-kept h [] o f p = p
  tells_gone-kept h (w ∷ ws) o f p = tells_gone-kept (says h w (Gone o f)) ws o f (kept.gone_told h w o f p)

  pub faults_if_waiting-kept : (h : WorkerContext) (o : Id) (f : Fault) → P h → P (faults_if_waiting h o f)
  faults_if_waiting-kept h o f p = either P _ _ _ (faults-kept h f p) p

  pub answers_gone-kept : (h : WorkerContext) (o : Id) (x : Object) (f : Option Fault) → object_at h o ≡ Some x → x.fault ≡ f → P h → P (answers_gone h o x f)
  answers_gone-kept h o x None e has p = p
  answers_gone-kept h o x (Some f) e has p =
      faults_if_waiting-kept _ o f (tells_gone-kept _ x.askers o f (kept.answered h o x e (inr (ap is_some has)) p))

  pub answers_faulted_by-kept : (h : WorkerContext) (o : Id) (x : Option Object) → object_at h o ≡ x → P h → P (answers_faulted_by h o x)
  answers_faulted_by-kept h o None e p = p
  answers_faulted_by-kept h o (Some x) e p = answers_gone-kept h o x x.fault e refl p

  pub answers_faulted-kept : (h : WorkerContext) (o : Id) → P h → P (answers_faulted h o)
  answers_faulted-kept h o p = answers_faulted_by-kept h o (object_at h o) refl p

  remakes_by-kept : (h : WorkerContext) (k : ℕ) (task : Option OwnTask) → task_of (own_object h k) ≡ task → P h → P (remakes_by h k task)
  remakes_by-kept h k None e p = p
  remakes_by-kept h k (Some task) e p =
      either P (is_pending_task task) _ _ p (kept.asked_anew h (own_id h k) task (next_attempt task) (own_there h k ∙ e) (inl refl) p)

  remakes_one-kept : (h : WorkerContext) (k : ℕ) (x : Option Object) → own_object h k ≡ x → P h → P (remakes_one h k x)
  remakes_one-kept h k None e p = p
  remakes_one-kept h k (Some x) e p = by_source x.source refl
    where
      by_source : (m : ObjectSource) → x.source ≡ m → P (remakes_by h (first_by k m) (task_by h.worker.objects m))
      by_source WasPut f = p
      by_source (ByTask task) f = remakes_by-kept h k (Some task) (ap task_of e ∙ ap task_in f) p
      by_source (Beside i) f = remakes_by-kept h i (task_of (own_object h i)) refl p

  remakes-kept : (h : WorkerContext) (ks : List ℕ) → P h → P (remakes h ks)
  remakes-kept h [] p = p
  remakes-kept h (k ∷ ks) p = remakes-kept (remakes_one h k (own_object h k)) ks (remakes_one-kept h k (own_object h k) refl p)

  pub gives_up-kept : (h : WorkerContext) (o : Id) (f : Fault) → P h → P (gives_up h o f)
  gives_up-kept h o f p = either P _ _ _ (answers_faulted-kept _ o (kept.resolved h o f p))
      (answers_faulted-kept _ o (answers_faulted-kept _ f.object (kept.resolved _ o f (kept.resolved h f.object f p))))

  pub recovers_by-kept : (h : WorkerContext) (o : Id) (ks : List ℕ) (f : Option Fault) → P h → P (recovers_by h o ks f)
  recovers_by-kept h o ks None p = remakes-kept h ks p
  recovers_by-kept h o ks (Some f) p = gives_up-kept h o f p

  pub recovers-kept : (h : WorkerContext) (o : Id) → P h → P (recovers h o)
  recovers-kept h o p = recovers_by-kept h o (members h o.serial) (first_stop h (members h o.serial)) p

  recovers_if_lost-kept : (h : WorkerContext) (o : Id) → P h → P (recovers_if_lost h o)
  recovers_if_lost-kept h o p = either P _ _ _ (recovers-kept h o p) p

  pub looks_elsewhere_by-kept : (h : WorkerContext) (o : Id) (x : Object) (n : Option ℕ) → MayLocation o → P h → P (looks_elsewhere_by h o x n)
  looks_elsewhere_by-kept h o x None may p = recovers_if_lost-kept _ o (kept.placed h o without_locations may (λ _. (refl, refl, refl, refl)) p)
  looks_elsewhere_by-kept h o x (Some n) may p = fetches-kept h o _ n p

  pub looks_elsewhere-kept : (h : WorkerContext) (o : Id) (x : Object) → MayLocation o → P h → P (looks_elsewhere h o x)
  looks_elsewhere-kept h o x may p = looks_elsewhere_by-kept h o x (live_location h.worker x.locations) may p

  pub looks_here_by-kept : (h : WorkerContext) (o : Id) (x : Object) (c : Option Outcome) → MayLocation o → P h → P (looks_here_by h o x c)
  looks_here_by-kept h o x None may p = looks_elsewhere-kept (changes h o (without_location h.worker.node)) o (without_location h.worker.node x) may
      (kept.placed h o (without_location h.worker.node) may (λ _. (refl, refl, refl, refl)) p)
  looks_here_by-kept h o x (Some c) may p = gets-kept _ c (kept.looked h o (settled_number x) p)

  pub looks_at_locations-kept : (h : WorkerContext) (o : Id) (x : Object) → MayLocation o → P h → P (looks_at_locations h o x)
  looks_at_locations-kept h o x may p =
      either P _ _ _ (looks_here_by-kept h o x (copy_in (store_here h) o (settled_number x)) may p) (looks_elsewhere-kept h o x may p)

  pub looks_for_by-kept : (h : WorkerContext) (o : Id) (x : Object) (c : Option Outcome) → MayLocation o → P h → P (looks_for_by h o x c)
  looks_for_by-kept h o x None may p = looks_at_locations-kept h o x may p
  looks_for_by-kept h o x (Some c) may p = gets-kept h c p

  pub looks_for-kept : (h : WorkerContext) (o : Id) (x : Object) → MayLocation o → P h → P (looks_for h o x)
  looks_for-kept h o x may p = looks_for_by-kept h o x x.kept may p

  needs_released-kept : (h : WorkerContext) (e : Option Id) → P h → P (needs_released h e)
  needs_released-kept h None p = p
  needs_released-kept h (Some e) p = faults-kept h _ p

  pub needs_unresolved-kept : (h : WorkerContext) (o : Id) (x : Object) → MayLocation o → P h → P (needs_unresolved h o x)
  needs_unresolved-kept h o x may p = either P _ _ _ (looks_for-kept h o x may p)
      (either P _ _ _ (recovers-kept h o p) (either P _ _ _ (needs_released-kept h x.dead_holder p) p))

  pub needs_by-kept : (h : WorkerContext) (o : Id) (x : Object) (f : Option Fault) → MayLocation o → P h → P (needs_by h o x f)
  needs_by-kept h o x None may p = needs_unresolved-kept h o x may p
  needs_by-kept h o x (Some f) may p = faults-kept h f p

  pub needs_at-kept : (h : WorkerContext) (o : Id) (x : Option Object) → MayLocation o → P h → P (needs_at h o x)
  needs_at-kept h o None may p = p
  needs_at-kept h o (Some x) may p = needs_by-kept h o x x.fault may p

  pub needs_own-kept : (h : WorkerContext) (o : Id) → MayLocation o → P h → P (needs_own h o)
  needs_own-kept h o may p = needs_at-kept _ o (object_at h o) may (with_fetching-kept h None p)

  pub needs_own_if_waiting-kept : (h : WorkerContext) (o : Id) → MayLocation o → P h → P (needs_own_if_waiting h o)
  needs_own_if_waiting-kept h o may p = either P _ _ _ (needs_own-kept h o may p) p

  pub tells_locations-kept : (h : WorkerContext) (ws : List ℕ) (o : Id) (x : Object) → is_nowhere x ≡ false → P h → P (tells_locations h ws o x)
  tells_locations-kept h [] o x some p = p
  tells_locations-kept h (w ∷ ws) o x some p = tells_locations-kept (says h w (At o (settled_number x) x.locations x.kept)) ws o x some
      (kept.place_told h w o (settled_number x) x.locations x.kept some p)

  -- of an object that has its content
  pub answers_settled-kept : (h : WorkerContext) (o : Id) (x : Object) → object_at h o ≡ Some x → is_nowhere x ≡ false → is_some x.settled ≡ true → MayLocation o → P h →
      P (answers_settled h o)
  answers_settled-kept h o x at some settled may p =
      subst (λ y. P (answers_settled_by h o y)) (sym at)
      (needs_own_if_waiting-kept _ o may (tells_locations-kept _ x.askers o x some (kept.answered h o x at (inl settled) p)))
