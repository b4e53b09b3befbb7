-- Whatever the smallest steps of a worker keep, each of its steps keeps. How an attempt begins here, is given out and is committed stands apart.
use Rattle.std.proofs.Common.{ap, append-nil, append_assoc, arith, inl, inr, refl, subst, sym, ◌∙◌}
use Rattle.std.specs.Prelude.{[], Bool, false, if◌then◌else◌, is_none, is_some, length, List, map, None, not, Option, Some, suc, true, zero, ℕ, ◌&&◌, ◌+◌}
use Rattle.std.specs.Prelude.{◌<◌, ◌==◌, ◌∷◌, ◌≡◌, ◌≤◌}
use Rattle.meaning.specs.Values.{Birth, Id, Outcome, Put, results_of, Task, Value}
use Rattle.step_laws.specs.of_values.Listed.{each_once, ids_in_outcome}
use Rattle.sequence.proofs.Places.{and_left, and_right}
use Rattle.step_laws.specs.of_event_log.Entries.{Attempt, Entry, Fault, Released, RetriesUsed}
use Rattle.step_laws.specs.of_event_log.Words.{attempt, same_attempt}
use Rattle.step_laws.specs.of_event_log.Holding.{ids_of_birth}
use Rattle.step_laws.specs.of_protocol.Messages.{Ask, At, Back, CopyOf, Elsewhere, EndedResult, Failed, Fetch, Finished, FinishedAck, Give, Gone, Hold, HoldAck, Message}
use Rattle.step_laws.specs.of_protocol.Messages.{Missing, OwnerIsDead, Endpoint, Push, Reason, TheNode, TheWorker, Unhold, Wait, WasReleased, Where}
use Rattle.step_laws.specs.of_protocol.Stores.{copy_in, with_ended}
use Rattle.step_laws.specs.of_protocol.Holders.{adds_holder, awaits_hold_by, collects, drops_dead, drops_dead_by, drops_holders, first_born_first, hold_ack_by}
use Rattle.step_laws.specs.of_protocol.Holders.{hold_ack_reached, hold_reached, hold_reached_by, holding, holds_id, holds_ids, lets_go_of_dead, passes_on, same_holding}
use Rattle.step_laws.specs.of_protocol.Holders.{sends_hold, unhold_reached}
use Rattle.step_laws.specs.of_protocol.Steps.{changes, each_from, each_result, WorkerContext, is_own, logs, logs_all, object_at, own_id, own_object, says, says_to_node, store_here}
use Rattle.step_laws.specs.of_protocol.Steps.{with_phase, with_run, with_store, with_task_of, with_there}
use Rattle.step_laws.specs.of_protocol.Sets.{fault}
use Rattle.step_laws.specs.of_protocol.Tables.{AskedAt, AtRest, chosen_location, Fetching, has_content, HasEnded, HasFaulted, holders_of, Holding}
use Rattle.step_laws.specs.of_protocol.Tables.{is_nowhere, is_waiting_for, is_wanted, knows_dead, needed_by, new_task, Object, Out, owner_of}
use Rattle.step_laws.specs.of_protocol.Tables.{OwnTask, Phase, Progress, put_object, Ready, released, Execution, RunsOn, settled_number, task_of, Waits}
use Rattle.step_laws.specs.of_protocol.Tables.{with_dead_holder, with_holder, with_location, without_holder, without_location, Worker}
use Rattle.meaning.specs.Runs.{ids_from, next_id}
use Rattle.step_laws.specs.of_protocol.Runs.{faults, fetches, finished_ack_reached, gets, gives_slot_back, hears_by, is_heard}
use Rattle.step_laws.specs.of_protocol.Runs.{tells_stop, with_fetching}
use Rattle.step_laws.specs.of_protocol.Asking.{answers_faulted, asks_next, begins, breaks, elsewhere_by, elsewhere_reached}
use Rattle.step_laws.specs.of_protocol.Asking.{faults_if_waiting, given_by, given_reached, if_asked, next_attempt, pushes, resolves_used, resolves_used_by, rests}
use Rattle.step_laws.specs.of_protocol.Asking.{uses_up, with_begun}
use Rattle.step_laws.specs.of_protocol.Recovery.{recovers}
use Rattle.step_laws.specs.of_protocol.Locations.{adds_location, adds_location_by, adds_locations, answered_here, answers_asker, answers_settled, answers_settled_by, answers_unsettled}
use Rattle.step_laws.specs.of_protocol.Locations.{asker_by, at_answers, at_reached, copy_reached, finds_none, goes_to, hands_missing_on, lets_wait}
use Rattle.step_laws.specs.of_protocol.Locations.{makes_copy_known, missing_from, missing_reached}
use Rattle.step_laws.specs.of_protocol.Locations.{needs_own, needs_own_if_waiting, takes_location, takes_location_by}
use Rattle.step_laws.specs.of_protocol.Locations.{tells_released, where_reached}
use Rattle.step_laws.specs.of_protocol.Commits.{asks_where, bears, bears_all, bears_as, bears_put, bears_task, each_holds, keeps_content, keeps_contents, needs}
use Rattle.step_laws.specs.of_protocol.Commits.{next_id_here, rests_if_waiting, task_objects, with_objects}
use Rattle.step_laws.specs.of_protocol.Ends.{accepts, failed_by, failed_reached, fails, finished_by, finished_reached, hears_of_end, if_present, resolves_open}
use Rattle.step_laws.specs.of_protocol.Ends.{resolves_open_by}
use Rattle.step_laws.specs.of_protocol.Notices.{breaks_if, breaks_where, drops_holds, drops_holds_by, drops_stop, drops_stop_by, hears_of_node, hears_of_worker, is_unheard}
use Rattle.step_laws.specs.of_protocol.Notices.{loses_fetch, loses_fetch_at, loses_fetch_by, loses_fetch_of, loses_owner, loses_owner_of, loses_locations, moves_ask}
use Rattle.step_laws.specs.of_protocol.Notices.{moves_ask_at, moves_asks, notice_node_step, notice_step, runs_on_node, runs_on_worker, with_dead_node, with_dead_worker}
use Rattle.step_laws.specs.of_protocol.Ticks.{asks_again, asks_location_again, sends_holds, sends_run, sends_stop, sends_task, sends_task_at, sends_tasks, tick_step}
use Rattle.step_laws.specs.of_protocol.Releases.{drops_copies, entries_made, going_with, lets_all_go, lets_go, lets_go_of, marks_released, may_release, release_pass}
use Rattle.step_laws.specs.of_protocol.Releases.{release_passes, release_step, releases_all, releases_by}
use Rattle.step_laws.specs.of_protocol.Deliveries.{reached, reached_from_node, reached_from_worker}
use Rattle.std.proofs.lemmas.Bool.{eqb-true, not-true}
use Rattle.step_laws.specs.of_event_log.Breaks.{Among}
use Rattle.smallest_steps.specs.Steps.{IsRunning, Needs}
use Rattle.smallest_steps.proofs.Known.{asked_where, each_held_task, fetching_foreign, hears_by-node, new_there, on_node, on_worker}
use Rattle.smallest_steps.proofs.Known.{own_at, own_here, own_there, present_is, present_was, some_locations, task_now, waiting}
use Rattle.smallest_steps.proofs.Untouched.{asks_again-worker, sends_holds-worker, sends_tasks-worker}
use Rattle.smallest_steps.proofs.Contents.{HasContent, others_stay, settled_rows}
use Rattle.smallest_steps.proofs.Needing as N
pub use Rattle.smallest_steps.proofs.Over.{each_from-kept, either, either_by, is_heard-kept, leaves_if_free-kept, settles-kept, tells_stop-kept}
use Rattle.smallest_steps.proofs.Smallest.{AnyLocation, KeepsAccepted, KeepsAnswers, KeepsBirths, KeepsHeard, KeepsHere, KeepsNeeds}

-- ---- answers, locations, deaths, ticks, releases

module _ {IsToldBy : ℕ → Attempt → Type 0} {IsPassedBy : Attempt → ℕ → ℕ → Type 0} {MayHold MayPush : Type 0} (P : WorkerContext → Type 0)
    (kept : KeepsHere IsToldBy IsPassedBy MayHold MayPush P) where
  -- an object is looked for, made again or answered
  needing : KeepsNeeds AnyLocation P
  needing = record {
    placed = λ h o f _ same p. kept.alike h o f same p;
    answered = kept.answered;
    resolved = kept.resolved;
    looked = kept.looked;
    asked_anew = kept.asked_anew;
    fetching = kept.fetching;
    got = kept.got;
    faulted = kept.faulted;
    place_told = kept.place_told;
    gone_told = kept.gone_told;
    copy_asked = kept.copy_asked;
  }

  pub faults-kept : (h : WorkerContext) (f : Fault) → P h → P (faults h f)
  faults-kept h f p = N.faults-kept P AnyLocation needing h f p

  pub gets-kept : (h : WorkerContext) (c : Outcome) → P h → P (gets h c)
  gets-kept h c p = N.gets-kept P AnyLocation needing h c p

  pub with_fetching-kept : (h : WorkerContext) (f : Option Fetching) → P h → P (with_fetching h f)
  with_fetching-kept h f p = N.with_fetching-kept P AnyLocation needing h f p

  pub fetches-kept : (h : WorkerContext) (o : Id) (number n : ℕ) → P h → P (fetches h o number n)
  fetches-kept h o number n p = N.fetches-kept P AnyLocation needing h o number n p

  pub faults_if_waiting-kept : (h : WorkerContext) (o : Id) (f : Fault) → P h → P (faults_if_waiting h o f)
  faults_if_waiting-kept h o f p = N.faults_if_waiting-kept P AnyLocation needing h o f p

  pub answers_faulted-kept : (h : WorkerContext) (o : Id) → P h → P (answers_faulted h o)
  answers_faulted-kept h o p = N.answers_faulted-kept P AnyLocation needing h o p

  pub recovers-kept : (h : WorkerContext) (o : Id) → P h → P (recovers h o)
  recovers-kept h o p = N.recovers-kept P AnyLocation needing h o p

  pub needs_own-kept : (h : WorkerContext) (o : Id) → P h → P (needs_own h o)
  needs_own-kept h o p = N.needs_own-kept P AnyLocation needing h o tt p

  pub needs_own_if_waiting-kept : (h : WorkerContext) (o : Id) → P h → P (needs_own_if_waiting h o)
  needs_own_if_waiting-kept h o p = N.needs_own_if_waiting-kept P AnyLocation needing h o tt p

  -- of an object that has its content
  pub answers_settled-kept : (h : WorkerContext) (o : Id) (x : Object) → object_at h o ≡ Some x → is_nowhere x ≡ false → is_some x.settled ≡ true → P h →
      P (answers_settled h o)
  answers_settled-kept h o x at some settled p = N.answers_settled-kept P AnyLocation needing h o x at some settled tt p

  -- ---- the objects of a task, one after the other

  pub each_result-kept : (f : WorkerContext → Id → WorkerContext) → ((g : WorkerContext) (o : Id) → P g → P (f g o)) → (h : WorkerContext) (o : Id) (task : OwnTask) → P h →
      P (each_result f h o task)
  each_result-kept f each h o task p = each_from-kept P (λ g k. f g (own_id g k)) (λ g k. each g (own_id g k)) h o.serial (results_of task.spec) p

  resolves_used-kept : (h : WorkerContext) (o : Id) → P h → P (resolves_used h o)
  resolves_used-kept h o p = by_object (object_at h o)
    where
      by_object : (x : Option Object) → P (resolves_used_by h o x)
      by_object None = p
      by_object (Some x) = either P (is_wanted x) _ _ (kept.resolved h o (fault RetriesUsed o) p) p

  resolves_open-kept : (f : Fault) (h : WorkerContext) (o : Id) → P h → P (resolves_open f h o)
  resolves_open-kept f h o p = by_object (object_at h o)
    where
      by_object : (x : Option Object) → P (resolves_open_by h o f x)
      by_object None = p
      by_object (Some x) = either P (is_none x.fault) _ _ (kept.resolved h o f p) p

  -- each that has its content is answered
  answers_row-kept : (h : WorkerContext) (k : ℕ) → HasContent k h → P h → P (answers_settled h (own_id h k))
  answers_row-kept h k has p = by_object (own_object h k) refl
    where
      by_object : (x : Option Object) → own_object h k ≡ x → P (answers_settled h (own_id h k))
      by_object None e = subst (λ y. P (answers_settled_by h (own_id h k) y)) (sym (own_here h k ∙ e)) p
      by_object (Some x) e = answers_settled-kept h (own_id h k) x (own_here h k ∙ e) (has x e).1 (has x e).0 p

  answers_rows-kept : (n : ℕ) (h : WorkerContext) (k : ℕ) → ((i : ℕ) → k ≤ i → i < k + n → HasContent i h) → P h →
      P (each_from (λ g i. answers_settled g (own_id g i)) h k n)
  answers_rows-kept zero h k has p = p
  answers_rows-kept (suc n) h k has p =
      answers_rows-kept n (answers_settled h (own_id h k)) (k + 1)
      (λ i low high. others_stay h k i (λ e. omega (arith, low, e)) (has k (omega arith) (omega arith)) (has i (omega (arith, low)) (omega (arith, high))))
      (answers_row-kept h k (has k (omega arith) (omega arith)) p)

  -- at an acceptance
  answers_results-kept : (h : WorkerContext) (o : Id) (task : OwnTask) → ((i : ℕ) → o.serial ≤ i → i < o.serial + results_of task.spec → HasContent i h) → P h →
      P (each_result answers_settled h o task)
  answers_results-kept h o task has p = answers_rows-kept (results_of task.spec) h o.serial has p

  pub hears_by-kept : (h : WorkerContext) (a : Attempt) (r : Option Execution) → h.worker.run ≡ r → P h → P (hears_by h a r)
  hears_by-kept h a None e p = p
  hears_by-kept h a (Some run) e p =
      either_by P (same_attempt run.attempt a && run.is_over) (with_run h (record run { is_acknowledged = true })) h
      (λ t. kept.heard h run e (and_right (same_attempt run.attempt a) run.is_over t) p) (λ _. p)

  pub uses_up-kept : (h : WorkerContext) (o : Id) (task : OwnTask) → task_of (object_at h o) ≡ Some task → IsRunning task → P h → P (uses_up h o task)
  uses_up-kept h o task at runs p =
      each_result-kept answers_faulted answers_faulted-kept (each_result resolves_used (with_task_of h o (rests task)) o task) o task
      (each_result-kept resolves_used resolves_used-kept (with_task_of h o (rests task)) o task (kept.rested h o task at (inl runs) p))

  pub breaks-kept : (h : WorkerContext) (o : Id) (task : OwnTask) → task_of (object_at h o) ≡ Some task → IsRunning task → P h → P (breaks h o task)
  breaks-kept h o task at runs p = either P _ _ _ (kept.asked_anew h o task (next_attempt task) at (inl refl) p) (uses_up-kept h o task at runs p)

  pub lets_wait-kept : (h : WorkerContext) (o : Id) (w : ℕ) (x : Object) → P h → P (lets_wait h o w x)
  lets_wait-kept h o w x p = either P _ _ _ (recovers-kept _ o (kept.asker h o w p)) (kept.asker h o w p)

  tells_released-kept : (h : WorkerContext) (o : Id) (w : ℕ) (e : Option Id) → P h → P (tells_released h o w e)
  tells_released-kept h o w None p = p
  tells_released-kept h o w (Some e) p = kept.gone_told h w o _ p

  answers_unsettled-kept : (h : WorkerContext) (o : Id) (w : ℕ) (x : Object) → P h → P (answers_unsettled h o w x)
  answers_unsettled-kept h o w x p = either P _ _ _ (tells_released-kept h o w x.dead_holder p) (lets_wait-kept h o w x p)

  pub answers_asker-kept : (h : WorkerContext) (o : Id) (w : ℕ) (x : Object) (f : Option Fault) → P h → P (answers_asker h o w x f)
  answers_asker-kept h o w x None p =
      either_by P (has_content x) _ _ (λ t. kept.place_told h w o (settled_number x) x.locations x.kept (some_locations x t) p)
      (λ _. answers_unsettled-kept h o w x p)
  answers_asker-kept h o w x (Some f) p = kept.gone_told h w o f p

  pub asker_by-kept : (h : WorkerContext) (o : Id) (w : ℕ) (x : Option Object) → P h → P (asker_by h o w x)
  asker_by-kept h o w None p = p
  asker_by-kept h o w (Some x) p = either P _ _ _ p (answers_asker-kept h o w x x.fault p)

  pub where_reached-kept : (h : WorkerContext) (w : ℕ) (o : Id) → P h → P (where_reached h w o)
  where_reached-kept h w o p = asker_by-kept h o w (object_at h o) p

  pub adds_location_by-kept : (h : WorkerContext) (o : Id) (number n : ℕ) (x : Option Object) → P h → P (adds_location_by h o number n x)
  adds_location_by-kept h o number n None p = p
  adds_location_by-kept h o number n (Some x) p = either P _ _ _ (kept.alike h o (with_location n) (λ _. (refl, refl, refl, refl)) p) p

  pub adds_location-kept : (h : WorkerContext) (o : Id) (number n : ℕ) → P h → P (adds_location h o number n)
  adds_location-kept h o number n p = adds_location_by-kept h o number n (object_at h o) p

  pub adds_locations-kept : (h : WorkerContext) (o : Id) (number : ℕ) (ns : List ℕ) → P h → P (adds_locations h o number ns)
  adds_locations-kept h o number [] p = p
  adds_locations-kept h o number (n ∷ ns) p = adds_locations-kept (adds_location h o number n) o number ns (adds_location-kept h o number n p)

  pub takes_location_by-kept : (h : WorkerContext) (o : Id) (number n : ℕ) (x : Option Object) → P h → P (takes_location_by h o number n x)
  takes_location_by-kept h o number n None p = p
  takes_location_by-kept h o number n (Some x) p = either P _ _ _ (kept.alike h o (without_location n) (λ _. (refl, refl, refl, refl)) p) p

  pub takes_location-kept : (h : WorkerContext) (o : Id) (number n : ℕ) → P h → P (takes_location h o number n)
  takes_location-kept h o number n p = takes_location_by-kept h o number n (object_at h o) p

  pub finds_none-kept : (h : WorkerContext) (o : Id) (number n : ℕ) → is_own h o ≡ false → P h → P (finds_none h o number n)
  finds_none-kept h o number n foreign p = kept.missing_told _ o number n (fetching_foreign h o None foreign) (with_fetching-kept h None p)

  pub answered_here-kept : (h : WorkerContext) (o : Id) (number : ℕ) (c : Option Outcome) → is_own h o ≡ false → P h → P (answered_here h o number c)
  answered_here-kept h o number None foreign p = finds_none-kept h o number _ foreign p
  answered_here-kept h o number (Some c) foreign p = gets-kept _ c (kept.looked h o number p)

  pub goes_to-kept : (h : WorkerContext) (o : Id) (number : ℕ) (n : Option ℕ) → is_own h o ≡ false → P h → P (goes_to h o number n)
  goes_to-kept h o number None foreign p = p
  goes_to-kept h o number (Some n) foreign p = either P _ _ _ (answered_here-kept h o number (copy_in (store_here h) o number) foreign p)
      (either P _ _ _ (finds_none-kept h o number n foreign p) (fetches-kept h o number n p))

  pub at_answers-kept : (h : WorkerContext) (o : Id) (number : ℕ) (ns : List ℕ) (c : Option Outcome) → is_own h o ≡ false → P h → P (at_answers h o number ns c)
  at_answers-kept h o number ns None foreign p = goes_to-kept h o number (chosen_location h.worker ns) foreign p
  at_answers-kept h o number ns (Some c) foreign p = gets-kept h c p

  pub at_reached-kept : (h : WorkerContext) (o : Id) (number : ℕ) (ns : List ℕ) (c : Option Outcome) → P h → P (at_reached h o number ns c)
  at_reached-kept h o number ns c p = either_by P (is_own h o) _ _ (λ _. adds_locations-kept h o number ns p)
      (λ foreign. either P _ _ _ (at_answers-kept h o number ns c foreign p) p)

  pub makes_copy_known-kept : (h : WorkerContext) (o : Id) (number : ℕ) → P h → P (makes_copy_known h o number)
  makes_copy_known-kept h o number p = either P _ _ _ (adds_location-kept h o number _ p) (kept.place_told h _ o number _ None refl p)

  pub copy_reached-kept : (h : WorkerContext) (o : Id) (number : ℕ) (c : Outcome) → P h → P (copy_reached h o number c)
  copy_reached-kept h o number c p = either P _ _ _ (gets-kept _ c (makes_copy_known-kept _ o number (kept.copied h o number c p))) p

  pub hands_missing_on-kept : (h : WorkerContext) (o : Id) (number n : ℕ) → is_own h o ≡ false → P h → P (hands_missing_on h o number n)
  hands_missing_on-kept h o number n foreign p =
      either P _ _ _ (finds_none-kept h o number n foreign p) (kept.missing_told h o number n foreign p)

  pub missing_from-kept : (h : WorkerContext) (from : Endpoint) (o : Id) → P h → P (missing_from h from o)
  missing_from-kept h (TheWorker w) o p = where_reached-kept h w o p
  missing_from-kept h (TheNode n) o p = needs_own_if_waiting-kept h o p

  pub missing_reached-kept : (h : WorkerContext) (from : Endpoint) (o : Id) (number n : ℕ) → P h → P (missing_reached h from o number n)
  missing_reached-kept h from o number n p = either_by P (is_own h o) _ _ (λ _. missing_from-kept _ from o (takes_location-kept h o number n p))
      (λ foreign. hands_missing_on-kept h o number n foreign p)

  dead_holder-kept : (h : WorkerContext) (e o : Id) → P h → P (changes h o (with_dead_holder e))
  dead_holder-kept h e o p = kept.alike h o (with_dead_holder e) (λ _. (refl, refl, refl, refl)) p

  pub adds_holder-kept : (h : WorkerContext) (e o : Id) → P h → P (adds_holder h e o)
  adds_holder-kept h e o p =
      let added : P (changes h o (with_holder e)) = kept.alike h o (with_holder e) (λ _. (refl, refl, refl, refl)) p in
      either P _ _ _ (dead_holder-kept (changes h o (with_holder e)) e o added) added

  pub hold_reached_by-kept : (h : WorkerContext) (w : ℕ) (e o : Id) (x : Option Object) → P h → P (hold_reached_by h w e o x)
  hold_reached_by-kept h w e o None p = p
  hold_reached_by-kept h w e o (Some x) p = kept.held_told _ w e o (adds_holder-kept h e o p)

  pub hold_reached-kept : (h : WorkerContext) (w : ℕ) (e o : Id) → P h → P (hold_reached h w e o)
  hold_reached-kept h w e o p = hold_reached_by-kept h w e o (object_at h o) p

  pub hold_ack_by-kept : (h : WorkerContext) (k : Holding) (r : Option Execution) → h.worker.run ≡ r → P h → P (hold_ack_by h k r)
  hold_ack_by-kept h k None e p = p
  hold_ack_by-kept h k (Some run) e p = kept.acknowledged h run (λ j. not (same_holding j k)) e p

  pub hold_ack_reached-kept : (h : WorkerContext) (e o : Id) → P h → P (hold_ack_reached h e o)
  hold_ack_reached-kept h e o p = hold_ack_by-kept h (holding e o) h.worker.run refl p

  pub unhold_reached-kept : (h : WorkerContext) (e o : Id) (why : Reason) → P h → P (unhold_reached h e o why)
  unhold_reached-kept h e o WasReleased p = either P _ _ _ (kept.alike h o (without_holder e) (λ _. (refl, refl, refl, refl)) p) p
  unhold_reached-kept h e o OwnerIsDead p = either P _ _ _ (dead_holder-kept h e o p) p

  pub asks_where-kept : (h : WorkerContext) (y : Id) → Needs h y → P h → P (asks_where h y)
  asks_where-kept h y waits p = either_by P (is_own h y) _ _ (λ _. needs_own-kept h y p)
      (λ foreign. either P _ _ _ (faults-kept h _ p) (kept.where_asked h y foreign waits p))

  pub rests_if_waiting-kept : (h : WorkerContext) (y : Id) → P h → P (rests_if_waiting h y)
  rests_if_waiting-kept h y p =
      either_by P (is_waiting_for h.worker y) (gives_slot_back h) h
      (λ t. let r = waiting h.worker y t in kept.waited h r.run r.object r.fetching r.at r.waits p) (λ _. p)

  -- behind the new phase
  pub needs-kept : (h : WorkerContext) (run : Execution) (y : Id) → P (with_phase h run (Waits y None)) → P (needs h run y)
  needs-kept h run y p = rests_if_waiting-kept (asks_where (with_phase h run (Waits y None)) y) y
      (asks_where-kept (with_phase h run (Waits y None)) y
      (record { run = record run { phase = Waits y None }; fetching = None; at = refl; waits = refl }) p)

  breaks_if-kept : (test : Progress → Bool) → ((q : Progress) → test q ≡ true → (w n : ℕ) × (q ≡ RunsOn w n)) →
      (h : WorkerContext) (k : ℕ) (task : Option OwnTask) → task_of (own_object h k) ≡ task → P h → P (breaks_if test h k task)
  breaks_if-kept test runs h k None e p = p
  breaks_if-kept test runs h k (Some task) e p =
      either_by P (test task.progress) (breaks h (own_id h k) task) h
      (λ t. breaks-kept h (own_id h k) task (own_there h k ∙ e) (runs task.progress t) p) (λ _. p)

  breaks_where-kept : (test : Progress → Bool) → ((q : Progress) → test q ≡ true → (w n : ℕ) × (q ≡ RunsOn w n)) → (h : WorkerContext) → P h → P (breaks_where test h)
  breaks_where-kept test runs h p =
      each_from-kept P (λ g k. breaks_if test g k (task_of (own_object g k))) (λ g k q. breaks_if-kept test runs g k (task_of (own_object g k)) refl q)
      h 1 (length h.worker.objects) p

  pub loses_owner_of-kept : (h : WorkerContext) (v : ℕ) (y : Option Id) → P h → P (loses_owner_of h v y)
  loses_owner_of-kept h v None p = p
  loses_owner_of-kept h v (Some y) p = either P _ _ _ (faults-kept h _ p) p

  pub drops_holds_by-kept : (h : WorkerContext) (v : ℕ) (r : Option Execution) → h.worker.run ≡ r → P h → P (drops_holds_by h v r)
  drops_holds_by-kept h v None e p = p
  drops_holds_by-kept h v (Some run) e p = kept.acknowledged h run (λ k. not (k.object.owner == v)) e p

  pub drops_stop_by-kept : (h : WorkerContext) (v : ℕ) (r : Option Execution) → h.worker.run ≡ r → P h → P (drops_stop_by h v r)
  drops_stop_by-kept h v None e p = p
  drops_stop_by-kept h v (Some run) e p = either_by P (is_unheard run && (owner_of run == v)) (is_heard h run) h
      (λ t. kept.back h run e (and_left run.is_over (not run.is_acknowledged) (and_left (is_unheard run) (owner_of run == v) t)) p) (λ t. p)

  pub loses_owner-kept : (h : WorkerContext) (v : ℕ) → P h → P (loses_owner h v)
  loses_owner-kept h v p = loses_owner_of-kept h v (needed_by h.worker.run) p

  pub drops_holds-kept : (h : WorkerContext) (v : ℕ) → P h → P (drops_holds h v)
  drops_holds-kept h v p = drops_holds_by-kept h v h.worker.run refl p

  pub drops_stop-kept : (h : WorkerContext) (v : ℕ) → P h → P (drops_stop h v)
  drops_stop-kept h v p = drops_stop_by-kept h v h.worker.run refl p

  drops_holders-kept : (h : WorkerContext) (o : Id) (es : List Id) → P h → P (drops_holders h o es)
  drops_holders-kept h o [] p = p
  drops_holders-kept h o (e ∷ es) p = drops_holders-kept (changes h o (with_dead_holder e)) o es (dead_holder-kept h e o p)

  drops_dead_by-kept : (h : WorkerContext) (v : ℕ) (o : Id) (x : Option Object) → P h → P (drops_dead_by h v o x)
  drops_dead_by-kept h v o None p = p
  drops_dead_by-kept h v o (Some x) p = drops_holders-kept h o (first_born_first (holders_of v x)) p

  lets_go_of_dead-kept : (h : WorkerContext) (v : ℕ) (ks : List Holding) → P h → P (lets_go_of_dead h v ks)
  lets_go_of_dead-kept h v [] p = p
  lets_go_of_dead-kept h v (k ∷ ks) p =
      lets_go_of_dead-kept (if k.holder.owner == v then says h k.object.owner (Unhold k.holder k.object OwnerIsDead) else h) v ks
      (either P _ _ _ (kept.unheld_told h _ _ _ _ p) p)

  pub collects-kept : (h : WorkerContext) (v : ℕ) → P h → P (collects h v)
  collects-kept h v p = lets_go_of_dead-kept (drops_dead h v) v h.worker.passed_on
      (each_from-kept P (λ g k. drops_dead_by g v (own_id g k) (own_object g k)) (λ g k q. drops_dead_by-kept g v (own_id g k) (own_object g k) q)
      h 1 (length h.worker.objects) p)

  pub hears_of_worker-kept : (h : WorkerContext) (v : ℕ) → P h → P (hears_of_worker h v)
  hears_of_worker-kept h v p = let g : WorkerContext = breaks_where (runs_on_worker v) (with_dead_worker h v) in
      collects-kept (drops_stop (drops_holds (loses_owner g v) v) v) v (drops_stop-kept (drops_holds (loses_owner g v) v) v
      (drops_holds-kept (loses_owner g v) v (loses_owner-kept g v
      (breaks_where-kept (runs_on_worker v) (on_worker v) (with_dead_worker h v) (kept.worker_dead h v p)))))

  pub notice_step-kept : (h : WorkerContext) (v : ℕ) → P h → P (notice_step h v)
  notice_step-kept h v p = either P _ _ _ p (hears_of_worker-kept h v p)

  pub moves_ask_at-kept : (h : WorkerContext) (m k : ℕ) (task : OwnTask) (q : Progress) → task_of (own_object h k) ≡ Some task → task.progress ≡ q →
      ((a : Attempt) (t : ℕ) → IsPassedBy a t m) → P h → P (moves_ask_at h m (own_id h k) task q)
  moves_ask_at-kept h m k task (AskedAt t n) e f dead p =
      either_by P (n == m) (asks_next h (own_id h k) task t m) h
      (λ same. kept.asked_on h (own_id h k) task t n _ (own_there h k ∙ e) f
      (subst (IsPassedBy (attempt (own_id h k) task.number) t) (sym (eqb-true n m same)) (dead _ t)) p) (λ _. p)
  moves_ask_at-kept h m k task AtRest e f dead p = p
  moves_ask_at-kept h m k task (RunsOn w n) e f dead p = p

  pub moves_ask-kept : (h : WorkerContext) (m k : ℕ) (task : Option OwnTask) → task_of (own_object h k) ≡ task → ((a : Attempt) (t : ℕ) → IsPassedBy a t m) →
      P h → P (moves_ask h m k task)
  moves_ask-kept h m k None e dead p = p
  moves_ask-kept h m k (Some task) e dead p = moves_ask_at-kept h m k task task.progress e refl dead p

  pub moves_asks-kept : (h : WorkerContext) (m : ℕ) → ((a : Attempt) (t : ℕ) → IsPassedBy a t m) → P h → P (moves_asks h m)
  moves_asks-kept h m dead p =
      each_from-kept P (λ g k. moves_ask g m k (task_of (own_object g k))) (λ g k q. moves_ask-kept g m k (task_of (own_object g k)) refl dead q)
      h 1 (length h.worker.objects) p

  pub loses_fetch_by-kept : (h : WorkerContext) (m : ℕ) (y : Id) (f : Option Fetching) → P h → P (loses_fetch_by h m y f)
  loses_fetch_by-kept h m y None p = p
  loses_fetch_by-kept h m y (Some f) p = either P _ _ _ (missing_reached-kept h (TheNode m) y _ m p) p

  pub loses_fetch_at-kept : (h : WorkerContext) (m : ℕ) (phase : Phase) → P h → P (loses_fetch_at h m phase)
  loses_fetch_at-kept h m (Waits y f) p = loses_fetch_by-kept h m y f p
  loses_fetch_at-kept h m Ready p = p
  loses_fetch_at-kept h m (Out j) p = p
  loses_fetch_at-kept h m (HasEnded d) p = p
  loses_fetch_at-kept h m (HasFaulted g) p = p

  pub loses_fetch_of-kept : (h : WorkerContext) (m : ℕ) (r : Option Execution) → P h → P (loses_fetch_of h m r)
  loses_fetch_of-kept h m None p = p
  loses_fetch_of-kept h m (Some run) p = loses_fetch_at-kept h m run.phase p

  pub loses_fetch-kept : (h : WorkerContext) (m : ℕ) → P h → P (loses_fetch h m)
  loses_fetch-kept h m p = loses_fetch_of-kept h m h.worker.run p

  pub hears_of_node-kept : (h : WorkerContext) (m : ℕ) → ((a : Attempt) (t : ℕ) → IsPassedBy a t m) → P h → P (hears_of_node h m)
  hears_of_node-kept h m dead p =
      let g : WorkerContext = breaks_where (runs_on_node m) (with_dead_node h m) in
      let first : P g = breaks_where-kept (runs_on_node m) (on_node m) (with_dead_node h m) (kept.node_dead h m p) in
      loses_fetch-kept (moves_asks (loses_locations g m) m) m (moves_asks-kept (loses_locations g m) m dead (kept.locations_lost g m first))

  pub notice_node_step-kept : (h : WorkerContext) (m : ℕ) → ((a : Attempt) (t : ℕ) → IsPassedBy a t m) → P h → P (notice_node_step h m)
  notice_node_step-kept h m dead p = either P _ _ _ p (hears_of_node-kept h m dead p)

  pub sends_task_at-kept : (h : WorkerContext) (k : ℕ) (task : OwnTask) (q : Progress) → task_of (own_object h k) ≡ Some task → task.progress ≡ q → MayPush → P h →
      P (sends_task_at h (own_id h k) task q)
  sends_task_at-kept h k task AtRest e f may p = p
  sends_task_at-kept h k task (AskedAt t n) e f may p = kept.asked_again h k task t n e f p
  sends_task_at-kept h k task (RunsOn w n) e f may p = kept.pushed_again h k task w n e f may p

  pub sends_task-kept : (h : WorkerContext) (k : ℕ) (task : Option OwnTask) → task_of (own_object h k) ≡ task → MayPush → P h → P (sends_task h k task)
  sends_task-kept h k None e may p = p
  sends_task-kept h k (Some task) e may p = sends_task_at-kept h k task task.progress e refl may p

  pub sends_tasks-kept : (h : WorkerContext) → MayPush → P h → P (sends_tasks h)
  sends_tasks-kept h may p = each_from-kept P (λ g k. sends_task g k (task_of (own_object g k)))
      (λ g k q. sends_task-kept g k (task_of (own_object g k)) refl may q) h 1 (length h.worker.objects) p

  pub asks_location_again-kept : (h : WorkerContext) (y : Id) (f : Option Fetching) → Needs h y → P h → P (asks_location_again h y f)
  asks_location_again-kept h y None waits p = either_by P (is_own h y) _ _ (λ _. p) (λ foreign. kept.where_asked h y foreign waits p)
  asks_location_again-kept h y (Some f) waits p = kept.copy_asked h _ _ _ p

  pub asks_again-kept : (h : WorkerContext) (run : Execution) (phase : Phase) → h.worker.run ≡ Some run → run.phase ≡ phase → P h → P (asks_again h phase)
  asks_again-kept h run (Waits y f) e q p = asks_location_again-kept h y f (record { run = run; fetching = f; at = e; waits = q }) p
  asks_again-kept h run Ready e q p = p
  asks_again-kept h run (Out j) e q p = p
  asks_again-kept h run (HasEnded d) e q p = p
  asks_again-kept h run (HasFaulted g) e q p = p

  pub sends_holds-kept : (h : WorkerContext) (run : Execution) (ks : List Holding) → h.worker.run ≡ Some run → ((k : Holding) → Among k ks → Among k run.holds) → MayHold →
      P h → P (sends_holds h ks)
  sends_holds-kept h run [] e part may p = p
  sends_holds-kept h run (k ∷ ks) e part may p =
      sends_holds-kept (says h k.object.owner (Hold k.holder k.object)) run ks e (λ j i. part j (suc i.0, i.1)) may
      (kept.hold_again h run k e (part k (zero, refl)) may p)

  pub sends_stop-kept : (h : WorkerContext) (run : Execution) → h.worker.run ≡ Some run → P h → P (sends_stop h run)
  sends_stop-kept h run e p = either_by P (is_unheard run) (tells_stop h run run.phase) h
      (λ t. kept.told_again h run e (and_left run.is_over (not run.is_acknowledged) t)
      (not-true run.is_acknowledged (and_right run.is_over (not run.is_acknowledged) t)) p) (λ _. p)

  pub sends_run-kept : (h : WorkerContext) (r : Option Execution) → h.worker.run ≡ r → MayHold → P h → P (sends_run h r)
  sends_run-kept h None e may p = p
  sends_run-kept h (Some run) e may p = sends_stop-kept _ run
      (ap (λ (x : Worker). x.run) (sends_holds-worker (asks_again h run.phase) run.holds ∙ asks_again-worker h run.phase) ∙ e)
      (sends_holds-kept (asks_again h run.phase) run run.holds (ap (λ (x : Worker). x.run) (asks_again-worker h run.phase) ∙ e) (λ k i. i) may
      (asks_again-kept h run run.phase e refl p))

  pub tick_step-kept : (h : WorkerContext) → MayHold → MayPush → P h → P (tick_step h)
  tick_step-kept h holds pushes p =
      sends_run-kept (sends_tasks h) h.worker.run (ap (λ (x : Worker). x.run) (sends_tasks-worker h)) holds (sends_tasks-kept h pushes p)

  pub lets_go_of-kept : (h : WorkerContext) (e o : Id) → P h → P (lets_go_of h e o)
  lets_go_of-kept h e o p = either P _ _ _ (unhold_reached-kept h e o WasReleased p) (kept.unheld_told h _ _ _ _ p)

  pub lets_go-kept : (h : WorkerContext) (e : Id) (os : List Id) → P h → P (lets_go h e os)
  lets_go-kept h e [] p = p
  lets_go-kept h e (o ∷ os) p = lets_go-kept (lets_go_of h e o) e os (lets_go_of-kept h e o p)

  pub drops_copies-kept : (h : WorkerContext) (e : Id) (ns : List ℕ) → P h → P (drops_copies h e ns)
  drops_copies-kept h e [] p = p
  drops_copies-kept h e (n ∷ ns) p = drops_copies-kept (says_to_node h n (Unhold e e WasReleased)) e ns (kept.copy_dropped h n e p)

  -- the worker with these entries logged
  abbrev logging : WorkerContext → List Entry → WorkerContext
  logging h es = with_there h (record h.there { out = record h.there.out { entries = es } })

  logs_released : (h : WorkerContext) (os : List Id) → P h → P (logs_all h (map Released os))
  logs_released h [] p = subst (λ es. P (logging h es)) (sym (append-nil h.there.out.entries)) p
  logs_released h (o ∷ os) p =
      subst (λ es. P (logging h es)) (append_assoc h.there.out.entries (Released o ∷ []) (map Released os)) (logs_released (logs h (Released o)) os (kept.freed h o p))

  lets_all_go-kept : (h : WorkerContext) (e : Id) (x : Option Object) → P h → P (lets_all_go h e x)
  lets_all_go-kept h e None p = p
  lets_all_go-kept h e (Some x) p = drops_copies-kept _ e x.all_locations (lets_go-kept h e x.ids p)

  marks_released-kept : (h : WorkerContext) (k n : ℕ) → P h → P (marks_released h k n)
  marks_released-kept h k n p =
      each_from-kept P (λ g i. changes g (own_id g i) released) (λ g i q. kept.alike g (own_id g i) released (λ _. (refl, refl, refl, refl)) q) h k n p

  pub releases_all-kept : (h : WorkerContext) (k n : ℕ) → P h → P (releases_all h k n)
  releases_all-kept h k n p =
      each_from-kept P (λ g i. lets_all_go g (own_id g i) (own_object g i)) (λ g i q. lets_all_go-kept g (own_id g i) (own_object g i) q)
      (logs_all (marks_released h k n) (map Released (ids_from (own_id h k) n))) k n
      (logs_released (marks_released h k n) (ids_from (own_id h k) n) (marks_released-kept h k n p))

  pub releases_by-kept : (h : WorkerContext) (k : ℕ) (x : Option Object) → P h → P (releases_by h k x)
  releases_by-kept h k None p = p
  releases_by-kept h k (Some x) p = either P (may_release h.worker k x) _ _ (releases_all-kept h k (going_with x.source) p) p

  pub release_pass-kept : (h : WorkerContext) → P h → P (release_pass h)
  release_pass-kept h p = each_from-kept P (λ g k. releases_by g k (own_object g k)) (λ g k q. releases_by-kept g k (own_object g k) q) h 1
      (length h.worker.objects) p

  release_passes-kept : (b : Bool) (n : ℕ) (h : WorkerContext) → P h → P (release_passes b n h)
  release_passes-kept true n h p = p
  release_passes-kept false zero h p = p
  release_passes-kept false (suc n) h p = release_passes-kept (entries_made (release_pass h) == entries_made h) n (release_pass h) (release_pass-kept h p)

  pub release_step-kept : (h : WorkerContext) → P h → P (release_step h)
  release_step-kept h p = release_passes-kept false (length h.worker.objects + 1) h p

  -- ---- births

  module _ (borne : KeepsBirths P) where
    pub sends_hold-kept : (h : WorkerContext) (e o : Id) → P h → P (sends_hold h e o)
    sends_hold-kept h e o p = borne.hold_sent _ e o (by_run h.worker.run refl)
      where
        by_run : (r : Option Execution) → h.worker.run ≡ r → P (awaits_hold_by h (holding e o) r)
        by_run None f = p
        by_run (Some run) f = borne.awaited h run (holding e o) f p

    pub holds_id-kept : (h : WorkerContext) (e o : Id) → P h → P (holds_id h e o)
    holds_id-kept h e o p = either P _ _ _ (adds_holder-kept h e o p) (either P _ _ _ p (sends_hold-kept h e o p))

    pub holds_ids-kept : (h : WorkerContext) (e : Id) (os : List Id) → P h → P (holds_ids h e os)
    holds_ids-kept h e [] p = p
    holds_ids-kept h e (o ∷ os) p = holds_ids-kept (holds_id h e o) e os (holds_id-kept h e o p)

    pub keeps_content-kept : (h : WorkerContext) (o : Id) (number : ℕ) (c : Outcome) → P h → P (keeps_content h o number c)
    keeps_content-kept h o number c p =
        let ids : List Id = each_once (ids_in_outcome c) in
        holds_ids-kept (passes_on (with_store h (with_ended (store_here h) o number c)) o ids) o ids (borne.passed _ o ids (borne.ended h o number c p))

    pub keeps_contents-kept : (h : WorkerContext) (o : Id) (number : ℕ) (cs : List Outcome) → P h → P (keeps_contents h o number cs)
    keeps_contents-kept h o number [] p = p
    keeps_contents-kept h o number (c ∷ cs) p = keeps_contents-kept (keeps_content h o number c) (next_id o) number cs (keeps_content-kept h o number c p)

    pub bears_put-kept : (h : WorkerContext) (a : Attempt) (o : Id) (v : Value) (ids : List Id) → P h → P (bears_put h a o v ids)
    bears_put-kept h a o v ids p = holds_ids-kept _ o ids (borne.primary _ o v (borne.put h (put_object a ids h.worker.node) refl p))

    pub each_holds-kept : (h : WorkerContext) (o : Id) (task : OwnTask) (ids : List Id) → P h → P (each_holds h o task ids)
    each_holds-kept h o task ids p = each_result-kept (λ g e. holds_ids g e ids) (λ g e. holds_ids-kept g e ids) h o task p

    pub bears_task-kept : (h : WorkerContext) (a : Attempt) (spec : Birth) (others : ℕ) (ids : List Id) → P h → P (bears_task h a (next_id_here h) spec others ids)
    bears_task-kept h a spec others ids p =
        let o : Id = next_id_here h in
        let g : WorkerContext = with_objects h (task_objects a o.serial spec others ids) in
        kept.asked_anew (each_holds g o (new_task spec) ids) o (new_task spec) (new_task spec)
        (each_held_task g o (new_task spec) ids o ∙ new_there h a spec others ids)
        (inr (spec, refl, refl)) (each_holds-kept g o (new_task spec) ids (borne.task h a spec others ids p))

    pub bears_as-kept : (h : WorkerContext) (a : Attempt) (b : Birth) (ids : List Id) → P h → P (bears_as h a (next_id_here h) b ids)
    bears_as-kept h a (Put v) ids p = bears_put-kept h a (next_id_here h) v ids p
    bears_as-kept h a (Task g args depth retries others) ids p = bears_task-kept h a (Task g args depth retries others) others ids p

    pub bears-kept : (h : WorkerContext) (a : Attempt) (b : Birth) → P h → P (bears h a b)
    bears-kept h a b p = bears_as-kept h a b (each_once (ids_of_birth b)) p

    pub bears_all-kept : (h : WorkerContext) (a : Attempt) (bs : List Birth) → P h → P (bears_all h a bs)
    bears_all-kept h a [] p = p
    bears_all-kept h a (b ∷ bs) p = bears_all-kept (bears h a b) a bs (bears-kept h a b p)

  -- ---- replies to ends, and to asks

  module _ {IsOverOf : Attempt → Type 0} {IsGivenBy : ℕ → ℕ → Attempt → ℕ → Type 0} (replies : KeepsAnswers IsToldBy IsOverOf IsGivenBy P) where
    pub finished_ack_reached-kept : (h : WorkerContext) (a : Attempt) → IsOverOf a → P h → P (finished_ack_reached h a)
    finished_ack_reached-kept h a o p = replies.back_of (hears_by h a h.worker.run) h.worker.node a (hears_by-node h a h.worker.run) o
        (hears_by-kept h a h.worker.run refl p)

    begins-kept : (h : WorkerContext) (o : Id) (task : OwnTask) (w n t m : ℕ) → o.owner ≡ h.me → task_of (object_at h o) ≡ Some task → task.progress ≡ AskedAt t m →
        IsGivenBy n t (attempt o task.number) w → P h → P (begins h o task w n)
    begins-kept h o task w n t m own at asked given p =
        let q : P (pushes h o (with_begun task w n) w) = replies.begun h o task w n t m own at asked given p in
        either P (knows_dead h.worker w) _ _
        (breaks-kept (pushes h o (with_begun task w n) w) o (with_begun task w n) (task_now h o task (with_begun task w n) at) (w, n, refl) q) q

    given_by-kept : (h : WorkerContext) (a : Attempt) (t w n : ℕ) (task : Option OwnTask) → task_of (object_at h a.object) ≡ task →
        (a.object.owner ≡ h.me → IsGivenBy n t a w) → P h → P (given_by h a t w n task)
    given_by-kept h a t w n None e given p = p
    given_by-kept h a t w n (Some task) e given p =
        let own : a.object.owner ≡ h.me = own_at h a.object task e in
        either_by P (if_asked t a task) (begins h a.object task w n) h
        (λ asked.
        let there = asked_where t a task asked in
        begins-kept h a.object task w n t there.0 own e there.1 (subst (λ b. IsGivenBy n t b w) (present_is t a task asked) (given own)) p) (λ _. p)

    pub given_reached-kept : (h : WorkerContext) (n : ℕ) (a : Attempt) (t w : ℕ) → (a.object.owner ≡ h.me → IsGivenBy n t a w) → P h → P (given_reached h n a t w)
    given_reached-kept h n a t w given p = given_by-kept h a t w n (task_of (object_at h a.object)) refl given p

    failed_by-kept : (h : WorkerContext) (w : ℕ) (a : Attempt) (f : Fault) (task : Option OwnTask) → task_of (object_at h a.object) ≡ task →
        IsToldBy w a → P h → P (failed_by h w a f task)
    failed_by-kept h w a f None e s p = replies.acked h _ _ s p
    failed_by-kept h w a f (Some task) e s p =
        either_by P (if_present a task) (each_result answers_faulted (hears_of_end (fails h a task f) w a) a.object task) (hears_of_end h w a)
        (λ t.
        each_result-kept answers_faulted answers_faulted-kept (hears_of_end (fails h a task f) w a) a.object task
        (replies.acked _ _ _ s (each_result-kept (resolves_open f) (resolves_open-kept f) (with_task_of h a.object (rests task)) a.object task
        (kept.rested h a.object task e (inr (w, subst (IsToldBy w) (present_was a task t) s)) p)))) (λ _. replies.acked h _ _ s p)

    pub failed_reached-kept : (h : WorkerContext) (w : ℕ) (a : Attempt) (f : Fault) → IsToldBy w a → P h → P (failed_reached h w a f)
    failed_reached-kept h w a f s p = failed_by-kept h w a f (task_of (object_at h a.object)) refl s p

    module _ (accepted : KeepsAccepted IsToldBy P) where
      finished_by-kept : (h : WorkerContext) (w : ℕ) (a : Attempt) (n : ℕ) (rs : List EndedResult) (task : Option OwnTask) →
          task_of (object_at h a.object) ≡ task → IsToldBy w a → P h → P (finished_by h w a n rs task)
      finished_by-kept h w a n rs None e s p = replies.acked h _ _ s p
      finished_by-kept h w a n rs (Some task) e s p =
          either_by P (if_present a task) (each_result answers_settled (hears_of_end (accepts h a task n rs) w a) a.object task) (hears_of_end h w a)
          (λ t.
          answers_results-kept (hears_of_end (accepts h a task n rs) w a) a.object task
          (settled_rows (results_of task.spec) (with_task_of h a.object (rests task)) a.object a.number n rs)
          (replies.acked _ _ _ s (accepted h a task n rs w e s (subst (IsToldBy w) (present_was a task t) s) p))) (λ _. replies.acked h _ _ s p)

      pub finished_reached-kept : (h : WorkerContext) (w : ℕ) (a : Attempt) (n : ℕ) (rs : List EndedResult) → IsToldBy w a → P h → P (finished_reached h w a n rs)
      finished_reached-kept h w a n rs s p = finished_by-kept h w a n rs (task_of (object_at h a.object)) refl s p

  pub elsewhere_by-kept : (h : WorkerContext) (a : Attempt) (t n : ℕ) (task : Option OwnTask) → task_of (object_at h a.object) ≡ task →
      ((own : OwnTask) (m : ℕ) → a.object.owner ≡ h.me → task_of (object_at h a.object) ≡ Some own → own.progress ≡ AskedAt t m → own.number ≡ a.number →
      IsPassedBy a t m) →
      P h → P (elsewhere_by h a t n task)
  elsewhere_by-kept h a t n None e passed p = p
  elsewhere_by-kept h a t n (Some task) e passed p =
      either_by P (if_asked t a task) (asks_next h a.object task t n) h
      (λ asked.
      let there = asked_where t a task asked in
      kept.asked_on h a.object task t there.0 _ e there.1
      (subst (λ b. IsPassedBy b t there.0) (present_is t a task asked) (passed task there.0 (own_at h a.object task e) e there.1 there.2)) p) (λ _. p)

  pub elsewhere_reached-kept : (h : WorkerContext) (a : Attempt) (t n : ℕ) →
      ((own : OwnTask) (m : ℕ) → a.object.owner ≡ h.me → task_of (object_at h a.object) ≡ Some own → own.progress ≡ AskedAt t m → own.number ≡ a.number →
      IsPassedBy a t m) →
      P h → P (elsewhere_reached h a t n)
  elsewhere_reached-kept h a t n passed p = elsewhere_by-kept h a t n (task_of (object_at h a.object)) refl passed p

  -- ---- messages

  module _ {IsHeard : WorkerContext → Endpoint → Message → Type 0} (heard : KeepsHeard IsHeard P) where
    pub reached_from_worker-kept : (h : WorkerContext) (w : ℕ) (m : Message) → IsHeard h (TheWorker w) m → P h → P (reached_from_worker h w m)
    reached_from_worker-kept h w (Ask a t) s p = p
    reached_from_worker-kept h w (Give a t v) s p = p
    reached_from_worker-kept h w (Elsewhere a t m) s p = p
    reached_from_worker-kept h w (Wait a t) s p = p
    reached_from_worker-kept h w (Back a) s p = p
    reached_from_worker-kept h w (Push a spec) s p = heard.push h w a spec s p
    reached_from_worker-kept h w (Finished a n rs) s p = heard.finished h w a n rs s p
    reached_from_worker-kept h w (FinishedAck a) s p = heard.finished_ack h w a s p
    reached_from_worker-kept h w (Failed a f) s p = heard.failed h w a f s p
    reached_from_worker-kept h w (Where o) s p = where_reached-kept h w o p
    reached_from_worker-kept h w (At o number ns c) s p = at_reached-kept h o number ns c p
    reached_from_worker-kept h w (Gone o f) s p = faults_if_waiting-kept h o f p
    reached_from_worker-kept h w (Fetch o n) s p = p
    reached_from_worker-kept h w (CopyOf o number c) s p = p
    reached_from_worker-kept h w (Missing o number n) s p = missing_reached-kept h (TheWorker w) o number n p
    reached_from_worker-kept h w (Hold e o) s p = hold_reached-kept h w e o p
    reached_from_worker-kept h w (HoldAck e o) s p = hold_ack_reached-kept h e o p
    reached_from_worker-kept h w (Unhold e o why) s p = unhold_reached-kept h e o why p

    pub reached_from_node-kept : (h : WorkerContext) (n : ℕ) (m : Message) → IsHeard h (TheNode n) m → P h → P (reached_from_node h n m)
    reached_from_node-kept h n (Ask a t) s p = p
    reached_from_node-kept h n (Give a t w) s p = heard.given h n a t w s p
    reached_from_node-kept h n (Elsewhere a t m) s p = heard.elsewhere h n a t m s p
    reached_from_node-kept h n (Wait a t) s p = p
    reached_from_node-kept h n (Back a) s p = p
    reached_from_node-kept h n (Push a spec) s p = p
    reached_from_node-kept h n (Finished a m rs) s p = p
    reached_from_node-kept h n (FinishedAck a) s p = p
    reached_from_node-kept h n (Failed a f) s p = p
    reached_from_node-kept h n (Where o) s p = p
    reached_from_node-kept h n (At o number ns c) s p = p
    reached_from_node-kept h n (Gone o f) s p = p
    reached_from_node-kept h n (Fetch o number) s p = p
    reached_from_node-kept h n (CopyOf o number c) s p = copy_reached-kept h o number c p
    reached_from_node-kept h n (Missing o number m) s p = missing_reached-kept h (TheNode n) o number m p
    reached_from_node-kept h n (Hold e o) s p = p
    reached_from_node-kept h n (HoldAck e o) s p = p
    reached_from_node-kept h n (Unhold e o why) s p = p

    pub reached-kept : (h : WorkerContext) (from : Endpoint) (m : Message) → IsHeard h from m → P h → P (reached h from m)
    reached-kept h (TheWorker w) m s p = reached_from_worker-kept h w m s p
    reached-kept h (TheNode n) m s p = reached_from_node-kept h n m s p
