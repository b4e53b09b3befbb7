-- The smallest steps of a worker, each with what is known where it is made. A property that they keep is kept by every step.
use Rattle.std.specs.Prelude.{[], Bool, false, is_none, is_some, length, List, Option, Some, true, ℕ, ◌&&◌, ◌+◌, ◌∷◌, ◌≡◌, ◌⊎◌}
use Rattle.meaning.specs.Values.{Birth, Id, Outcome, Val, Value}
use Rattle.step_laws.specs.of_event_log.Breaks.{Among}
use Rattle.step_laws.specs.of_event_log.Entries.{Attempt, Fault, Faulted, Got, Released}
use Rattle.step_laws.specs.of_event_log.Words.{attempt}
use Rattle.step_laws.specs.of_protocol.Messages.{Ask, At, Back, Elsewhere, EndedResult, Failed, Fetch, Finished, FinishedAck, Give, Gone, Hold, HoldAck, Message, Missing}
use Rattle.step_laws.specs.of_protocol.Messages.{Endpoint, Push, Reason, TheNode, TheWorker, Unhold, WasReleased, Where}
use Rattle.step_laws.specs.of_protocol.Stores.{looked_up, with_ended, with_primary, with_secondary}
use Rattle.step_laws.specs.of_protocol.Sets.{is_empty}
use Rattle.step_laws.specs.of_protocol.Tables.{AskedAt, Fetching, has_stopped, HasFaulted, Holding, Object, owner_of, OwnTask, Execution, RunsOn}
use Rattle.step_laws.specs.of_protocol.Tables.{task_of, Waits, WasPut, with_asker, without_askers}
use Rattle.step_laws.specs.of_protocol.Steps.{changes, WorkerContext, is_own, logs, object_at, own_id, own_object, says, says_to_node, store_here, with_phase, with_run, with_store}
use Rattle.step_laws.specs.of_protocol.Steps.{with_task_of}
use Rattle.step_laws.specs.of_protocol.Runs.{asks_for_slot, finished_ack_reached, gives_slot_back, is_heard, leaves_if_free, push_reached, tells_stop, with_answer}
use Rattle.step_laws.specs.of_protocol.Asking.{asks_at, elsewhere_reached, given_reached, pushes, requests, resolves, rests, with_begun}
use Rattle.step_laws.specs.of_protocol.Holders.{passes_on, with_holding}
use Rattle.step_laws.specs.of_protocol.Commits.{task_objects, with_objects}
use Rattle.step_laws.specs.of_protocol.Ends.{accepts, failed_reached, finished_reached}
use Rattle.step_laws.specs.of_protocol.Notices.{loses_locations, with_dead_node, with_dead_worker}
use Rattle.std.specs.List.{filter}
use Rattle.smallest_steps.specs.Steps.{IsNextOf, IsRunning, LeavesAlike, Needs}

-- where nothing needs to be known
abbrev pub AnyTold : ℕ → Attempt → Type 0
AnyTold w a = Unit {0}

abbrev pub AnyOver : Attempt → Type 0
AnyOver a = Unit {0}

abbrev pub AnyPassed : Attempt → ℕ → ℕ → Type 0
AnyPassed a t n = Unit {0}

abbrev pub AnyGiven : ℕ → ℕ → Attempt → ℕ → Type 0
AnyGiven n t a w = Unit {0}

abbrev pub AnyHeard : WorkerContext → Endpoint → Message → Type 0
AnyHeard h from m = Unit {0}

-- any object's locations may change
abbrev pub AnyLocation : Id → Type 0
AnyLocation o = Unit {0}

-- the steps by which an object is looked for, made again or answered; MayPlace o: where known copies of o may come and go
pub record KeepsNeeds (MayLocation : Id → Type 0) (P : WorkerContext → Type 0) : Type 0 where
  pub placed : (h : WorkerContext) (o : Id) (f : Object → Object) → MayLocation o → LeavesAlike f → P h → P (changes h o f)
  pub answered : (h : WorkerContext) (o : Id) (x : Object) → object_at h o ≡ Some x →
      (is_some x.settled ≡ true) ⊎ (is_some x.fault ≡ true) → P h → P (changes h o without_askers)
  pub resolved : (h : WorkerContext) (o : Id) (f : Fault) → P h → P (resolves h o f)
  pub looked : (h : WorkerContext) (o : Id) (number : ℕ) → P h → P (with_store h (looked_up (store_here h) o number))
  pub asked_anew : (h : WorkerContext) (o : Id) (old task : OwnTask) → task_of (object_at h o) ≡ Some old → IsNextOf old task → P h → P (requests h o task)
  pub fetching : (h : WorkerContext) (run : Execution) (y : Id) (f g : Option Fetching) → h.worker.run ≡ Some run → run.phase ≡ Waits y f → P h →
      P (with_phase h run (Waits y g))
  pub got : (h : WorkerContext) (run : Execution) (c : Outcome) (y : Id) (f : Option Fetching) → h.worker.run ≡ Some run → run.phase ≡ Waits y f → P h →
      P (asks_for_slot (logs (with_run h (with_answer run c)) (Got run.attempt y c)))
  pub faulted : (h : WorkerContext) (run : Execution) (f : Fault) (y : Id) (g : Option Fetching) → h.worker.run ≡ Some run → run.phase ≡ Waits y g → P h →
      P (leaves_if_free (gives_slot_back (logs (with_phase h run (HasFaulted f)) (Faulted run.attempt y f))))
  pub place_told : (h : WorkerContext) (w : ℕ) (y : Id) (number : ℕ) (ns : List ℕ) (c : Option Outcome) → (is_empty ns && is_none c) ≡ false → P h →
      P (says h w (At y number ns c))
  pub gone_told : (h : WorkerContext) (w : ℕ) (y : Id) (f : Fault) → P h → P (says h w (Gone y f))
  pub copy_asked : (h : WorkerContext) (n : ℕ) (y : Id) (number : ℕ) → P h → P (says_to_node h n (Fetch y number))

-- IsToldBy w a: worker w told that attempt a is over there. IsPassedBy a t n: node n passes ask t of attempt a on, or is dead. Where Holds and
-- Pushes may go out again.
pub record KeepsHere (IsToldBy : ℕ → Attempt → Type 0) (IsPassedBy : Attempt → ℕ → ℕ → Type 0) (MayHold MayPush : Type 0) (P : WorkerContext → Type 0) : Type 0 where
  -- an own object is changed; locations of copies are lost; a death is known; the node's store is looked at, or has one more copy
  pub alike : (h : WorkerContext) (o : Id) (f : Object → Object) → LeavesAlike f → P h → P (changes h o f)
  pub asker : (h : WorkerContext) (o : Id) (w : ℕ) → P h → P (changes h o (with_asker w))
  pub answered : (h : WorkerContext) (o : Id) (x : Object) → object_at h o ≡ Some x →
      (is_some x.settled ≡ true) ⊎ (is_some x.fault ≡ true) → P h → P (changes h o without_askers)
  pub resolved : (h : WorkerContext) (o : Id) (f : Fault) → P h → P (resolves h o f)
  pub freed : (h : WorkerContext) (o : Id) → P h → P (logs h (Released o))
  pub locations_lost : (h : WorkerContext) (m : ℕ) → P h → P (loses_locations h m)
  pub worker_dead : (h : WorkerContext) (v : ℕ) → P h → P (with_dead_worker h v)
  pub node_dead : (h : WorkerContext) (m : ℕ) → P h → P (with_dead_node h m)
  pub looked : (h : WorkerContext) (o : Id) (number : ℕ) → P h → P (with_store h (looked_up (store_here h) o number))
  pub copied : (h : WorkerContext) (o : Id) (number : ℕ) (c : Outcome) → P h → P (with_store h (with_secondary (store_here h) o number c))
  -- an own attempt is asked for, the first or the next; its ask is sent on, or goes out again; so does its Push; it comes to rest, that was running,
  -- or of which its worker told that it is over
  pub asked_anew : (h : WorkerContext) (o : Id) (old task : OwnTask) → task_of (object_at h o) ≡ Some old → IsNextOf old task → P h → P (requests h o task)
  pub asked_on : (h : WorkerContext) (o : Id) (task : OwnTask) (t m n : ℕ) → task_of (object_at h o) ≡ Some task → task.progress ≡ AskedAt t m →
      IsPassedBy (attempt o task.number) t m → P h → P (asks_at h o task (t + 1) n)
  pub asked_again : (h : WorkerContext) (k : ℕ) (task : OwnTask) (t n : ℕ) → task_of (own_object h k) ≡ Some task → task.progress ≡ AskedAt t n →
      P h → P (says_to_node h n (Ask (attempt (own_id h k) task.number) t))
  pub pushed_again : (h : WorkerContext) (k : ℕ) (task : OwnTask) (w n : ℕ) → task_of (own_object h k) ≡ Some task → task.progress ≡ RunsOn w n → MayPush →
      P h → P (says h w (Push (attempt (own_id h k) task.number) task.spec))
  pub rested : (h : WorkerContext) (o : Id) (task : OwnTask) → task_of (object_at h o) ≡ Some task →
      IsRunning task ⊎ ((w : ℕ) × IsToldBy w (attempt o task.number)) → P h → P (with_task_of h o (rests task))
  -- of the worker's attempt a Fetch is under way, or isn't; it is answered, and asks for its slot; it has a fault, gives its slot back, and may be
  -- over by that; Holds wait no more, and it may be over by that; it waits, and gives its slot back
  pub fetching : (h : WorkerContext) (run : Execution) (y : Id) (f g : Option Fetching) → h.worker.run ≡ Some run → run.phase ≡ Waits y f → P h →
      P (with_phase h run (Waits y g))
  pub got : (h : WorkerContext) (run : Execution) (c : Outcome) (y : Id) (f : Option Fetching) → h.worker.run ≡ Some run → run.phase ≡ Waits y f → P h →
      P (asks_for_slot (logs (with_run h (with_answer run c)) (Got run.attempt y c)))
  pub faulted : (h : WorkerContext) (run : Execution) (f : Fault) (y : Id) (g : Option Fetching) → h.worker.run ≡ Some run → run.phase ≡ Waits y g → P h →
      P (leaves_if_free (gives_slot_back (logs (with_phase h run (HasFaulted f)) (Faulted run.attempt y f))))
  pub acknowledged : (h : WorkerContext) (run : Execution) (test : Holding → Bool) → h.worker.run ≡ Some run → P h →
      P (leaves_if_free (with_run h (record run { holds = filter test run.holds })))
  pub waited : (h : WorkerContext) (run : Execution) (y : Id) (f : Option Fetching) → h.worker.run ≡ Some run → run.phase ≡ Waits y f → P h → P (gives_slot_back h)
  -- it is over: that was heard, or is told again
  pub heard : (h : WorkerContext) (run : Execution) → h.worker.run ≡ Some run → run.is_over ≡ true → P h → P (with_run h (record run { is_acknowledged = true }))
  pub back : (h : WorkerContext) (run : Execution) → h.worker.run ≡ Some run → run.is_over ≡ true → P h → P (is_heard h run)
  pub told_again : (h : WorkerContext) (run : Execution) → h.worker.run ≡ Some run → run.is_over ≡ true → run.is_acknowledged ≡ false → P h →
      P (tells_stop h run run.phase)
  -- what is said of objects, to workers and to nodes
  pub where_asked : (h : WorkerContext) (y : Id) → is_own h y ≡ false → Needs h y → P h → P (says h y.owner (Where y))
  pub missing_told : (h : WorkerContext) (y : Id) (number n : ℕ) → is_own h y ≡ false → P h → P (says h y.owner (Missing y number n))
  pub place_told : (h : WorkerContext) (w : ℕ) (y : Id) (number : ℕ) (ns : List ℕ) (c : Option Outcome) → (is_empty ns && is_none c) ≡ false → P h →
      P (says h w (At y number ns c))
  pub gone_told : (h : WorkerContext) (w : ℕ) (y : Id) (f : Fault) → P h → P (says h w (Gone y f))
  pub held_told : (h : WorkerContext) (w : ℕ) (e o : Id) → P h → P (says h w (HoldAck e o))
  pub unheld_told : (h : WorkerContext) (w : ℕ) (e o : Id) (why : Reason) → P h → P (says h w (Unhold e o why))
  pub hold_again : (h : WorkerContext) (run : Execution) (k : Holding) → h.worker.run ≡ Some run → Among k run.holds → MayHold → P h →
      P (says h k.object.owner (Hold k.holder k.object))
  pub copy_asked : (h : WorkerContext) (n : ℕ) (y : Id) (number : ℕ) → P h → P (says_to_node h n (Fetch y number))
  pub copy_dropped : (h : WorkerContext) (n : ℕ) (e : Id) → P h → P (says_to_node h n (Unhold e e WasReleased))

-- the worker's attempt comes to be over, and its owner is told, or has heard
pub record KeepsOver (P : WorkerContext → Type 0) : Type 0 where
  pub over : (h : WorkerContext) (run next : Execution) → h.worker.run ≡ Some run → has_stopped run.phase ≡ true → next.attempt ≡ run.attempt → next.phase ≡ run.phase →
      next.is_over ≡ true → P h → P (with_run h next)
  pub heard : (h : WorkerContext) (run : Execution) → h.worker.run ≡ Some run → run.is_over ≡ true → P h → P (with_run h (record run { is_acknowledged = true }))
  pub end_told : (h : WorkerContext) (run : Execution) (n : ℕ) (rs : List EndedResult) → h.worker.run ≡ Some run → run.is_over ≡ true → P h →
      P (says h (owner_of run) (Finished run.attempt n rs))
  pub fault_told : (h : WorkerContext) (run : Execution) (f : Fault) → h.worker.run ≡ Some run → run.is_over ≡ true → P h → P (says h (owner_of run) (Failed run.attempt f))
  pub back : (h : WorkerContext) (run : Execution) → h.worker.run ≡ Some run → run.is_over ≡ true → P h → P (says_to_node h h.worker.node (Back run.attempt))

-- objects are borne, what is put or those of a task, and what an attempt ended with is kept; Holds go out, and the attempt waits for them
pub record KeepsBirths (P : WorkerContext → Type 0) : Type 0 where
  pub put : (h : WorkerContext) (x : Object) → x.source ≡ WasPut → P h → P (with_objects h (x ∷ []))
  pub primary : (h : WorkerContext) (o : Id) (v : Value) → P h → P (with_store h (with_primary (store_here h) o 0 (Val v)))
  pub task : (h : WorkerContext) (a : Attempt) (spec : Birth) (others : ℕ) (ids : List Id) → P h →
      P (with_objects h (task_objects a (length h.worker.objects + 1) spec others ids))
  pub ended : (h : WorkerContext) (o : Id) (number : ℕ) (c : Outcome) → P h → P (with_store h (with_ended (store_here h) o number c))
  pub passed : (h : WorkerContext) (o : Id) (ids : List Id) → P h → P (passes_on h o ids)
  pub awaited : (h : WorkerContext) (run : Execution) (k : Holding) → h.worker.run ≡ Some run → P h → P (with_run h (record run { holds = with_holding run.holds k }))
  pub hold_sent : (h : WorkerContext) (e o : Id) → P h → P (says h o.owner (Hold e o))

-- IsOverOf a: the worker was told that its owner heard of attempt a. IsGivenBy n t a w: node n told the worker that it gave w for ask t of
-- attempt a. To an end FinishedAck is said, to that Back; an own attempt begins on the worker that was given.
pub record KeepsAnswers (IsToldBy : ℕ → Attempt → Type 0) (IsOverOf : Attempt → Type 0) (IsGivenBy : ℕ → ℕ → Attempt → ℕ → Type 0)
    (P : WorkerContext → Type 0) : Type 0 where
  pub acked : (h : WorkerContext) (w : ℕ) (a : Attempt) → IsToldBy w a → P h → P (says h w (FinishedAck a))
  pub back_of : (h : WorkerContext) (n : ℕ) (a : Attempt) → n ≡ h.worker.node → IsOverOf a → P h → P (says_to_node h n (Back a))
  pub begun : (h : WorkerContext) (o : Id) (task : OwnTask) (w n t m : ℕ) → o.owner ≡ h.me → task_of (object_at h o) ≡ Some task → task.progress ≡ AskedAt t m →
      IsGivenBy n t (attempt o task.number) w → P h → P (pushes h o (with_begun task w n) w)

-- the end of an own attempt is accepted, of which its worker told
abbrev pub KeepsAccepted : (ℕ → Attempt → Type 0) → (WorkerContext → Type 0) → Type 0
KeepsAccepted IsToldBy P =
    (h : WorkerContext) (a : Attempt) (task : OwnTask) (n : ℕ) (rs : List EndedResult) (w : ℕ) → task_of (object_at h a.object) ≡ Some task →
    IsToldBy w a → IsToldBy w (attempt a.object task.number) → P h → P (accepts h a task n rs)

-- what is known of a message, where it begins an attempt, tells how one stopped, or answers an ask
pub record KeepsHeard (IsHeard : WorkerContext → Endpoint → Message → Type 0) (P : WorkerContext → Type 0) : Type 0 where
  pub push : (h : WorkerContext) (w : ℕ) (a : Attempt) (spec : Birth) → IsHeard h (TheWorker w) (Push a spec) → P h → P (push_reached h a spec)
  pub finished : (h : WorkerContext) (w : ℕ) (a : Attempt) (n : ℕ) (rs : List EndedResult) → IsHeard h (TheWorker w) (Finished a n rs) → P h →
      P (finished_reached h w a n rs)
  pub finished_ack : (h : WorkerContext) (w : ℕ) (a : Attempt) → IsHeard h (TheWorker w) (FinishedAck a) → P h → P (finished_ack_reached h a)
  pub failed : (h : WorkerContext) (w : ℕ) (a : Attempt) (f : Fault) → IsHeard h (TheWorker w) (Failed a f) → P h → P (failed_reached h w a f)
  pub given : (h : WorkerContext) (n : ℕ) (a : Attempt) (t w : ℕ) → IsHeard h (TheNode n) (Give a t w) → P h → P (given_reached h n a t w)
  pub elsewhere : (h : WorkerContext) (n : ℕ) (a : Attempt) (t m : ℕ) → IsHeard h (TheNode n) (Elsewhere a t m) → P h → P (elsewhere_reached h a t m)
