-- Whatever the smallest steps of a worker keep, each of its steps keeps, where nothing needs to be known of the worker's attempt and objects.
use Rattle.std.proofs.Common.{refl}
use Rattle.std.specs.Prelude.{[], filter, List, None, Option, Some, ℕ, ◌∷◌, ◌≡◌}
use Rattle.meaning.specs.Values.{Id, Outcome, results_of, Val, Value}
use Rattle.step_laws.specs.of_event_log.Entries.{Accepted, Attempt, Begun, Fault, Faulted, Got, Released, Resolved, RetriesUsed}
use Rattle.step_laws.specs.of_event_log.Words.{attempt}
use Rattle.step_laws.specs.of_protocol.Messages.{At, Message}
use Rattle.step_laws.specs.of_protocol.Stores.{looked_up, with_ended, with_primary, with_secondary}
use Rattle.step_laws.specs.of_protocol.Tables.{HasEnded, HasFaulted, is_wanted, may_try_again, Object, OwnTask, Execution, settled_number, Worker}
use Rattle.step_laws.specs.of_protocol.Steps.{each_result, WorkerContext, logs, object_at, says, says_to_node, store_here, with_phase, with_run, with_store, with_task_of}
use Rattle.step_laws.specs.of_protocol.Steps.{with_worker}
use Rattle.step_laws.specs.of_protocol.Runs.{asks_for_slot, gives_slot_back}
use Rattle.step_laws.specs.of_protocol.Asking.{answers_faulted, breaks, resolves_used, resolves_used_by, rests}
use Rattle.step_laws.specs.of_protocol.Locations.{answers_settled, answers_settled_by, tells_locations}
use Rattle.step_laws.specs.of_protocol.Commits.{asks_where, claim_by, claim_step, ends, stops_by}
use Rattle.step_laws.specs.of_protocol.Sets.{fault}
use Rattle.step_laws.specs.of_protocol.Jobs.{AtEnd, AtGet, Stopped}
use Rattle.smallest_steps.proofs.Smallest.{AnyGiven, AnyHeard, AnyOver, AnyPassed, AnyTold, KeepsAccepted, KeepsAnswers, KeepsBirths, KeepsHeard, KeepsHere}
use Rattle.smallest_steps.proofs.Smallest.{KeepsOver}
use Rattle.smallest_steps.proofs.Moves as S

-- it logs, it says, its tables are changed, its node's store is looked at or has one more copy, and the node is asked for a slot or has one back
pub record KeepsPlainly (P : WorkerContext → Type 0) : Type 0 where
  pub accepted : (h : WorkerContext) (a : Attempt) → P h → P (logs h (Accepted a))
  pub begun : (h : WorkerContext) (a : Attempt) (w : ℕ) → P h → P (logs h (Begun a w))
  pub got : (h : WorkerContext) (a : Attempt) (y : Id) (c : Outcome) → P h → P (logs h (Got a y c))
  pub faulted : (h : WorkerContext) (a : Attempt) (y : Id) (f : Fault) → P h → P (logs h (Faulted a y f))
  pub resolved : (h : WorkerContext) (o : Id) (f : Fault) → P h → P (logs h (Resolved o f))
  pub released : (h : WorkerContext) (o : Id) → P h → P (logs h (Released o))
  pub said : (h : WorkerContext) (w : ℕ) (m : Message) → P h → P (says h w m)
  pub said_to_node : (h : WorkerContext) (n : ℕ) (m : Message) → P h → P (says_to_node h n m)
  pub worker : (h : WorkerContext) (x : Worker) → x.node ≡ h.worker.node → x.is_live ≡ h.worker.is_live → P h → P (with_worker h x)
  pub looked : (h : WorkerContext) (o : Id) (number : ℕ) → P h → P (with_store h (looked_up (store_here h) o number))
  pub copied : (h : WorkerContext) (o : Id) (number : ℕ) (c : Outcome) → P h → P (with_store h (with_secondary (store_here h) o number c))
  pub primary : (h : WorkerContext) (o : Id) (v : Value) → P h → P (with_store h (with_primary (store_here h) o 0 (Val v)))
  pub ended : (h : WorkerContext) (o : Id) (number : ℕ) (c : Outcome) → P h → P (with_store h (with_ended (store_here h) o number c))
  pub frees : (h : WorkerContext) → P h → P (gives_slot_back h)
  pub asks : (h : WorkerContext) → P h → P (asks_for_slot h)

module _ (P : WorkerContext → Type 0) (kept : KeepsPlainly P) where
  -- ---- the smallest steps are among these

  pub over : KeepsOver P
  over = record {
    over = λ h run next _ _ _ _ _ p. kept.worker h _ refl refl p;
    heard = λ h run _ _ p. kept.worker h _ refl refl p;
    end_told = λ h run n rs _ _ p. kept.said h _ _ p;
    fault_told = λ h run f _ _ p. kept.said h _ _ p;
    back = λ h run _ _ p. kept.said_to_node h _ _ p;
  }

  pub keeps : KeepsHere AnyTold AnyPassed (Unit {0}) (Unit {0}) P
  keeps = record {
    alike = λ h o f _ p. kept.worker h _ refl refl p;
    asker = λ h o w p. kept.worker h _ refl refl p;
    answered = λ h o x _ _ p. kept.worker h _ refl refl p;
    resolved = λ h o f p. kept.resolved _ o f (kept.worker h _ refl refl p);
    freed = kept.released;
    locations_lost = λ h m p. kept.worker h _ refl refl p;
    worker_dead = λ h v p. kept.worker h _ refl refl p;
    node_dead = λ h m p. kept.worker h _ refl refl p;
    looked = kept.looked;
    copied = kept.copied;
    asked_anew = λ h o old task _ _ p. kept.said_to_node _ _ _ (kept.worker h _ refl refl p);
    asked_on = λ h o task t m n _ _ _ p. kept.said_to_node _ _ _ (kept.worker h _ refl refl p);
    asked_again = λ h k task t n _ _ p. kept.said_to_node h _ _ p;
    pushed_again = λ h k task w n _ _ _ p. kept.said h _ _ p;
    rested = λ h o task _ _ p. kept.worker h _ refl refl p;
    fetching = λ h run y f g _ _ p. kept.worker h _ refl refl p;
    got = λ h run c y f _ _ p. kept.asks _ (kept.got _ run.attempt y c (kept.worker h _ refl refl p));
    faulted = λ h run f y g _ _ p. S.leaves_if_free-kept P over (gives_slot_back (logs (with_phase h run (HasFaulted f)) (Faulted run.attempt y f)))
        (kept.frees _ (kept.faulted _ run.attempt y f (kept.worker h _ refl refl p)));
    acknowledged = λ h run test _ p. S.leaves_if_free-kept P over (with_run h (record run { holds = filter test run.holds })) (kept.worker h _ refl refl p);
    waited = λ h run y f _ _ p. kept.frees h p;
    heard = over.heard;
    back = λ h run e o p. S.is_heard-kept P over h run e o p;
    told_again = λ h run e o _ p. S.tells_stop-kept P over h run run.phase e o p;
    where_asked = λ h y _ _ p. kept.said h _ _ p;
    missing_told = λ h y number n _ p. kept.said h _ _ p;
    place_told = λ h w y number ns c _ p. kept.said h _ _ p;
    gone_told = λ h w y f p. kept.said h _ _ p;
    held_told = λ h w e o p. kept.said h _ _ p;
    unheld_told = λ h w e o why p. kept.said h _ _ p;
    hold_again = λ h run k _ _ _ p. kept.said h _ _ p;
    copy_asked = λ h n y number p. kept.said_to_node h _ _ p;
    copy_dropped = λ h n e p. kept.said_to_node h _ _ p;
  }

  pub births : KeepsBirths P
  births = record {
    put = λ h x _ p. kept.worker h _ refl refl p;
    primary = kept.primary;
    task = λ h a spec others ids p. kept.worker h _ refl refl p;
    ended = kept.ended;
    passed = λ h o ids p. kept.worker h _ refl refl p;
    awaited = λ h run k _ p. kept.worker h _ refl refl p;
    hold_sent = λ h e o p. kept.said h _ _ p;
  }

  pub replies : KeepsAnswers AnyTold AnyOver AnyGiven P
  replies = record {
    acked = λ h w a _ p. kept.said h _ _ p;
    back_of = λ h n a _ _ p. kept.said_to_node h _ _ p;
    begun = λ h o task w n t m _ _ _ _ p. kept.said _ _ _ (kept.begun _ (attempt o task.number) w (kept.worker h _ refl refl p));
  }

  pub accepted : KeepsAccepted AnyTold P
  accepted h a task n rs w e _ s p =
      kept.accepted _ a (S.settles-kept P (λ g o number m r q. kept.worker g _ refl refl q) (results_of task.spec) (with_task_of h a.object (rests task)) a.object
      a.number n rs (kept.worker h _ refl refl p))

  pub heard : KeepsHeard AnyHeard P
  heard = record {
    push = λ h w a spec _ p. S.either P _ _ _ (kept.worker h _ refl refl p) p;
    finished = λ h w a n rs s p. S.finished_reached-kept P keeps replies accepted h w a n rs s p;
    finished_ack = λ h w a s p. S.finished_ack_reached-kept P keeps replies h a s p;
    failed = λ h w a f s p. S.failed_reached-kept P keeps replies h w a f s p;
    given = λ h n a t w s p. S.given_reached-kept P keeps replies h n a t w (λ _. s) p;
    elsewhere = λ h n a t m s p. S.elsewhere_reached-kept P keeps h a t m (λ _ _ _ _ _ _. s) p;
  }

  -- ---- each step

  resolves_used-kept : (h : WorkerContext) (o : Id) → P h → P (resolves_used h o)
  resolves_used-kept h o p = by_object (object_at h o)
    where
      by_object : (x : Option Object) → P (resolves_used_by h o x)
      by_object None = p
      by_object (Some x) = S.either P (is_wanted x) _ _ (kept.resolved _ o (fault RetriesUsed o) (kept.worker h _ refl refl p)) p

  pub breaks-kept : (h : WorkerContext) (o : Id) (task : OwnTask) → P h → P (breaks h o task)
  breaks-kept h o task p = S.either P (may_try_again task) _ _ (kept.said_to_node _ _ _ (kept.worker h _ refl refl p))
      (S.each_result-kept P keeps answers_faulted (S.answers_faulted-kept P keeps) (each_result resolves_used (with_task_of h o (rests task)) o task) o task
      (S.each_result-kept P keeps resolves_used resolves_used-kept (with_task_of h o (rests task)) o task (kept.worker h _ refl refl p)))

  pub tells_locations-kept : (h : WorkerContext) (ws : List ℕ) (o : Id) (x : Object) → P h → P (tells_locations h ws o x)
  tells_locations-kept h [] o x p = p
  tells_locations-kept h (w ∷ ws) o x p = tells_locations-kept (says h w (At o (settled_number x) x.locations x.kept)) ws o x (kept.said h _ _ p)

  answers_settled_by-kept : (h : WorkerContext) (o : Id) (x : Option Object) → P h → P (answers_settled_by h o x)
  answers_settled_by-kept h o None p = p
  answers_settled_by-kept h o (Some x) p = S.needs_own_if_waiting-kept P keeps _ o (tells_locations-kept _ x.askers o x (kept.worker h _ refl refl p))

  pub answers_settled-kept : (h : WorkerContext) (o : Id) → P h → P (answers_settled h o)
  answers_settled-kept h o p = answers_settled_by-kept h o (object_at h o) p

  pub asks_where-kept : (h : WorkerContext) (y : Id) → P h → P (asks_where h y)
  asks_where-kept h y p = S.either P _ _ _ (S.needs_own-kept P keeps h y p) (S.either P _ _ _ (S.faults-kept P keeps h _ p) (kept.said h _ _ p))

  claim_by-kept : (h : WorkerContext) (j : ℕ) (r : Option Execution) → P h → P (claim_by h j r)
  claim_by-kept h j None p = p
  claim_by-kept h j (Some run) p = kept.worker h _ refl refl p

  pub claim_step-kept : (h : WorkerContext) (j : ℕ) → P h → P (claim_step h j)
  claim_step-kept h j p = claim_by-kept h j h.worker.run p

  pub ends-kept : (h : WorkerContext) (run : Execution) (cs : List Outcome) → P h → P (ends h run cs)
  ends-kept h run cs p =
      kept.frees _ (S.leaves_if_free-kept P over _ (S.keeps_contents-kept P keeps births (with_phase h run (HasEnded cs)) run.attempt.object run.attempt.number cs
      (kept.worker h _ refl refl p)))

  pub stops_by-kept : (h : WorkerContext) (stop : Stopped) (r : Option Execution) → P h → P (stops_by h stop r)
  stops_by-kept h stop None p = p
  stops_by-kept h (AtGet y) (Some run) p = S.needs-kept P keeps h run y (kept.worker h _ refl refl p)
  stops_by-kept h (AtEnd cs) (Some run) p = ends-kept h run cs p
