-- The worker's attempt comes to be over, and steps that are made or not, or one after the other.
use Rattle.std.proofs.Common.{ap, refl}
use Rattle.std.specs.Prelude.{Bool, false, if◌then◌else◌, List, None, not, Option, Some, suc, true, zero, ℕ, ◌&&◌, ◌+◌, ◌≡◌}
use Rattle.meaning.specs.Values.{Id}
use Rattle.sequence.proofs.Places.{and_left}
use Rattle.step_laws.specs.of_event_log.Entries.{main_attempt}
use Rattle.step_laws.specs.of_event_log.Words.{same_attempt}
use Rattle.step_laws.specs.of_protocol.Messages.{EndedResult}
use Rattle.step_laws.specs.of_protocol.Sets.{is_empty, rest_of}
use Rattle.step_laws.specs.of_protocol.Tables.{has_stopped, HasEnded, HasFaulted}
use Rattle.step_laws.specs.of_protocol.Tables.{knows_dead, Out, owner_of, Phase}
use Rattle.step_laws.specs.of_protocol.Tables.{Ready, Execution, Waits, with_content}
use Rattle.step_laws.specs.of_protocol.Tables.{Worker}
use Rattle.step_laws.specs.of_protocol.Steps.{changes, each_from, WorkerContext, with_run}
use Rattle.step_laws.specs.of_protocol.Runs.{is_heard}
use Rattle.step_laws.specs.of_protocol.Runs.{leaves, leaves_by, leaves_if_free, tells, tells_stop}
use Rattle.step_laws.specs.of_protocol.Ends.{first_result, settles}
use Rattle.smallest_steps.proofs.Untouched.{tells_stop-worker}
use Rattle.smallest_steps.proofs.Smallest.{KeepsOver}
use Rattle.meaning.specs.Runs.{next_id}

module _ (P : WorkerContext → Type 0) where
  pub either : (b : Bool) (x y : WorkerContext) → P x → P y → P (if b then x else y)
  either true x y p q = p
  either false x y p q = q

  pub either_by : (b : Bool) (x y : WorkerContext) → (b ≡ true → P x) → (b ≡ false → P y) → P (if b then x else y)
  either_by true x y p q = p refl
  either_by false x y p q = q refl

  pub each_from-kept : (f : WorkerContext → ℕ → WorkerContext) → ((g : WorkerContext) (k : ℕ) → P g → P (f g k)) → (h : WorkerContext) (k n : ℕ) → P h → P (each_from f h k n)
  each_from-kept f each h k zero p = p
  each_from-kept f each h k (suc n) p = each_from-kept f each (f h k) (k + 1) n (each h k p)

-- ---- the worker's attempt comes to be over

module _ (P : WorkerContext → Type 0) (kept : KeepsOver P) where
  pub tells_stop-kept : (h : WorkerContext) (run : Execution) (phase : Phase) → h.worker.run ≡ Some run → run.is_over ≡ true → P h → P (tells_stop h run phase)
  tells_stop-kept h run (HasEnded cs) e o p = kept.end_told h run _ _ e o p
  tells_stop-kept h run (HasFaulted f) e o p = kept.fault_told h run f e o p
  tells_stop-kept h run Ready e o p = p
  tells_stop-kept h run (Out j) e o p = p
  tells_stop-kept h run (Waits y f) e o p = p

  pub is_heard-kept : (h : WorkerContext) (run : Execution) → h.worker.run ≡ Some run → run.is_over ≡ true → P h → P (is_heard h run)
  is_heard-kept h run e o p =
      kept.back (with_run h (record run { is_acknowledged = true })) (record run { is_acknowledged = true }) refl o (kept.heard h run e o p)

  pub leaves-kept : (h : WorkerContext) (run : Execution) → h.worker.run ≡ Some run → has_stopped run.phase ≡ true → P h → P (leaves h (record run { is_over = true }))
  leaves-kept h run e s p =
      let next : Execution = record run { is_over = true } in
      let g : WorkerContext = with_run h next in
      let told : WorkerContext = tells h next in
      let q : P told = tells_stop-kept g next next.phase refl refl (kept.over h run next e s refl refl refl p) in
      let there : told.worker.run ≡ Some next = ap (λ (x : Worker). x.run) (tells_stop-worker g next next.phase) in
      either P (same_attempt run.attempt main_attempt) (with_run h (record next { is_acknowledged = true }))
      (if knows_dead h.worker (owner_of next) then is_heard told next else told)
      (kept.over h run (record next { is_acknowledged = true }) e s refl refl refl p)
      (either P (knows_dead h.worker (owner_of next)) (is_heard told next) told (is_heard-kept told next there refl q) q)

  pub leaves_by-kept : (h : WorkerContext) (r : Option Execution) → h.worker.run ≡ r → P h → P (leaves_by h r)
  leaves_by-kept h None e p = p
  leaves_by-kept h (Some run) e p =
      either_by P (has_stopped run.phase && not run.is_over && is_empty run.holds) (leaves h (record run { is_over = true })) h
      (λ t. leaves-kept h run e (and_left (has_stopped run.phase) (not run.is_over)
      (and_left (has_stopped run.phase && not run.is_over) (is_empty run.holds) t)) p) (λ t. p)

  pub leaves_if_free-kept : (h : WorkerContext) → P h → P (leaves_if_free h)
  leaves_if_free-kept h p = leaves_by-kept h h.worker.run refl p

-- ---- an acceptance

-- each object of the task has its content
pub settles-kept : (P : WorkerContext → Type 0) →
    ((h : WorkerContext) (o : Id) (number n : ℕ) (r : EndedResult) → P h → P (changes h o (with_content number n r.ids r.kept))) →
    (count : ℕ) (h : WorkerContext) (o : Id) (number n : ℕ) (rs : List EndedResult) → P h → P (settles h o number n count rs)
settles-kept P each zero h o number n rs p = p
settles-kept P each (suc count) h o number n rs p =
    settles-kept P each count (changes h o (with_content number n (first_result rs).ids (first_result rs).kept)) (next_id o) number n (rest_of rs)
    (each h o number n (first_result rs) p)
