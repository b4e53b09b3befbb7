-- Whatever the smallest steps of a worker keep, each of its steps keeps. The smallest steps tell what comes of its attempt and of its slot, and
-- which attempts of its own tasks begin, on which worker. How an attempt begins here, is given out and is committed stands apart.
use Rattle.std.proofs.Common.{refl, ap, sym, inr, ◌⊎◌}
use Rattle.std.specs.Prelude.{◌≡◌, ℕ, ◌+◌, Bool, true, false, filter, length, List, Option, Some, None}
use Rattle.meaning.specs.Values.{Id, Outcome, Birth, results_of}
use Rattle.event_log.specs.Entries.{Attempt, Entry, Got, Fault, Faulted}
use Rattle.event_log.specs.Words.{attempt}
use Rattle.protocol_laws.specs.of_protocol.Messages.{EndedResult}
use Rattle.protocol_laws.specs.of_protocol.Messages.{Message, Endpoint, TheWorker, TheNode, Ask, Give, Elsewhere, Back, Push, Finished, FinishedAck, Failed}
use Rattle.protocol_laws.specs.of_protocol.Stores.{Store}
use Rattle.protocol_laws.specs.of_protocol.Tables.{AskedAt, Fetching, HasFaulted, OwnTask, Execution, RunsOn, Waits, Worker, has_stopped, owner_of}
use Rattle.protocol_laws.specs.of_protocol.Tables.{task_of, with_asker, with_content, with_fault, without_askers}
use Rattle.protocol_laws.specs.of_protocol.Steps.{WorkerContext, with_task_of, with_phase, with_run, logs_all, logs, says, says_to_node, with_worker, with_store, own_id, own_object}
use Rattle.protocol_laws.specs.of_protocol.Steps.{object_at}
use Rattle.protocol_laws.specs.of_protocol.Runs.{with_answer, gives_slot_back, asks_for_slot, leaves_if_free, push_reached}
use Rattle.protocol_laws.specs.of_protocol.Asking.{asks_at, pushes, requests, rests, with_begun}
use Rattle.protocol_laws.specs.of_protocol.Holders.{holds_ids, passes_on}
use Rattle.protocol_laws.specs.of_protocol.Commits.{asks_where, bears_all, keeps_contents, needs, task_objects, with_objects}
use Rattle.protocol_laws.specs.of_protocol.Notices.{notice_step, notice_node_step, with_dead_node, with_dead_worker}
use Rattle.protocol_laws.specs.of_protocol.Ticks.{tick_step}
use Rattle.protocol_laws.specs.of_protocol.Releases.{release_step}
use Rattle.protocol_laws.specs.of_protocol.Deliveries.{reached}
use Rattle.protocol_laws.specs.of_smallest_steps.Steps.{IsNextOf, IsRunning}
use Rattle.protocol_laws.proofs.of_smallest_steps.Smallest.{KeepsHere, KeepsAccepted, KeepsBirths, KeepsHeard, KeepsOver, KeepsAnswers}
use Rattle.protocol_laws.proofs.of_smallest_steps.Moves as S
use Rattle.protocol_laws.specs.of_protocol_owed.Told.{pace_in}
use Rattle.protocol_laws.proofs.of_protocol_owed.RunMoves.{Alike}
use Rattle.lease_discipline.proofs.Tame.{LeavesTasks, locations_left, put_left, same_left, untouched_left}

-- a message that says nothing of leases, and nothing of an attempt that is over
abbrev pub is_plain : Message → Bool
is_plain (Ask a t) = false
is_plain (Give a t w) = false
is_plain (Push a spec) = false
is_plain (Finished a n rs) = false
is_plain (Failed a f) = false
is_plain (FinishedAck a) = false
is_plain (Back a) = false
is_plain _ = true

-- ---- the smallest steps

-- IsToldBy w a: worker w told that attempt a is over there. IsOverOf a: the worker was told that its owner heard of attempt a. IsGivenBy n t a w:
-- node n told the worker that it gave w for ask t of attempt a.
pub record IsKept (IsToldBy : ℕ → Attempt → Type 0) (IsOverOf : Attempt → Type 0) (IsGivenBy : ℕ → ℕ → Attempt → ℕ → Type 0)
    (IsPassedBy : Attempt → ℕ → ℕ → Type 0) (P : WorkerContext → Type 0) : Type 0 where
  pub writes : (h : WorkerContext) (es : List Entry) → P h → P (logs_all h es)
  pub says_plain : (h : WorkerContext) (w : ℕ) (m : Message) → is_plain m ≡ true → P h → P (says h w m)
  pub says_plain_to_node : (h : WorkerContext) (n : ℕ) (m : Message) → is_plain m ≡ true → P h → P (says_to_node h n m)
  pub objects : (h : WorkerContext) (x : Worker) → LeavesTasks h.worker x → P h → P (with_worker h x)
  pub store : (h : WorkerContext) (s : Store) → P h → P (with_store h s)
  -- an own attempt begins on the worker that was given, and is pushed to it again
  pub begins : (h : WorkerContext) (o : Id) (task : OwnTask) (w n t m : ℕ) → o.owner ≡ h.me → task_of (object_at h o) ≡ Some task → task.progress ≡ AskedAt t m →
      IsGivenBy n t (attempt o task.number) w → P h → P (pushes h o (with_begun task w n) w)
  -- a task is borne; its attempt comes to rest, that was running, or of which the worker told that it is over
  pub bears_new : (h : WorkerContext) (a : Attempt) (spec : Birth) (others : ℕ) (ids : List Id) → P h →
      P (with_objects h (task_objects a (length h.worker.objects + 1) spec others ids))
  pub comes_to_rest : (h : WorkerContext) (o : Id) (task : OwnTask) → task_of (object_at h o) ≡ Some task →
      IsRunning task ⊎ ((w : ℕ) × IsToldBy w (attempt o task.number)) →
      P h → P (with_task_of h o (rests task))
  pub pushes_again : (h : WorkerContext) (k : ℕ) (task : OwnTask) (w n : ℕ) → task_of (own_object h k) ≡ Some task → task.progress ≡ RunsOn w n →
      P h → P (says h w (Push (attempt (own_id h k) task.number) task.spec))
  -- an own attempt is asked for, the first or the next; its ask is sent on, or goes out again
  pub asks_anew : (h : WorkerContext) (o : Id) (old task : OwnTask) → task_of (object_at h o) ≡ Some old → IsNextOf old task → P h → P (requests h o task)
  pub asks_on : (h : WorkerContext) (o : Id) (task : OwnTask) (t m n : ℕ) → task_of (object_at h o) ≡ Some task → task.progress ≡ AskedAt t m →
      IsPassedBy (attempt o task.number) t m → P h → P (asks_at h o task (t + 1) n)
  pub asks_again : (h : WorkerContext) (k : ℕ) (task : OwnTask) (t n : ℕ) → task_of (own_object h k) ≡ Some task → task.progress ≡ AskedAt t n →
      P h → P (says_to_node h n (Ask (attempt (own_id h k) task.number) t))
  -- the attempt is as far as it was; it is over; it is answered, and asks for its slot; it has a fault, and gives its slot back; it waits, and does
  pub run : (h : WorkerContext) (run next : Execution) → h.worker.run ≡ Some run → Alike run next → P h → P (with_run h next)
  pub leaves : (h : WorkerContext) (run next : Execution) → h.worker.run ≡ Some run → has_stopped run.phase ≡ true → next.attempt ≡ run.attempt → next.phase ≡ run.phase →
      next.is_over ≡ true → P h → P (with_run h next)
  pub gets : (h : WorkerContext) (run : Execution) (c : Outcome) (y : Id) (f : Option Fetching) → h.worker.run ≡ Some run → run.phase ≡ Waits y f →
      P h → P (asks_for_slot (logs (with_run h (with_answer run c)) (Got run.attempt y c)))
  pub faults : (h : WorkerContext) (run : Execution) (f : Fault) (y : Id) (g : Option Fetching) → h.worker.run ≡ Some run → run.phase ≡ Waits y g →
      P h → P (gives_slot_back (logs (with_phase h run (HasFaulted f)) (Faulted run.attempt y f)))
  pub frees : (h : WorkerContext) (run : Execution) (y : Id) (f : Option Fetching) → h.worker.run ≡ Some run → run.phase ≡ Waits y f → P h → P (gives_slot_back h)
  -- what is said of an attempt that is over
  pub tells_end : (h : WorkerContext) (run : Execution) (n : ℕ) (rs : List EndedResult) → h.worker.run ≡ Some run → run.is_over ≡ true → P h →
      P (says h (owner_of run) (Finished run.attempt n rs))
  pub tells_fault : (h : WorkerContext) (run : Execution) (f : Fault) → h.worker.run ≡ Some run → run.is_over ≡ true → P h → P (says h (owner_of run) (Failed run.attempt f))
  pub back : (h : WorkerContext) (run : Execution) → h.worker.run ≡ Some run → run.is_over ≡ true → P h → P (says_to_node h h.worker.node (Back run.attempt))
  pub hears : (h : WorkerContext) (w : ℕ) (a : Attempt) → IsToldBy w a → P h → P (says h w (FinishedAck a))
  pub back_of : (h : WorkerContext) (n : ℕ) (a : Attempt) → n ≡ h.worker.node → IsOverOf a → P h → P (says_to_node h n (Back a))

module _ (IsToldBy : ℕ → Attempt → Type 0) (IsOverOf : Attempt → Type 0) (IsGivenBy : ℕ → ℕ → Attempt → ℕ → Type 0)
    (IsPassedBy : Attempt → ℕ → ℕ → Type 0) (P : WorkerContext → Type 0) (kept : IsKept IsToldBy IsOverOf IsGivenBy IsPassedBy P) where
  -- ---- the smallest steps are among these

  over : KeepsOver P
  over = record {
    over = kept.leaves;
    heard = λ h run e _ p. kept.run h run _ e (record { attempt = refl; over = refl; pace = refl }) p;
    end_told = kept.tells_end;
    fault_told = kept.tells_fault;
    back = kept.back;
  }

  keeps : KeepsHere IsToldBy IsPassedBy (Unit {0}) (Unit {0}) P
  keeps = record {
    alike = λ h o f same p. kept.objects h _ (untouched_left h.worker o.serial f (λ y. (same y).0)) p;
    asker = λ h o w p. kept.objects h _ (untouched_left h.worker o.serial (with_asker w) (λ y. refl)) p;
    answered = λ h o x _ _ p. kept.objects h _ (untouched_left h.worker o.serial without_askers (λ y. refl)) p;
    resolved = λ h o f p. kept.writes _ _ (kept.objects h _ (untouched_left h.worker o.serial (with_fault f) (λ y. refl)) p);
    freed = λ h o p. kept.writes h _ p;
    locations_lost = λ h m p. kept.objects h _ (locations_left h.worker m) p;
    worker_dead = λ h v p. kept.objects h _ (same_left h.worker (with_dead_worker h v).worker refl refl refl refl refl) p;
    node_dead = λ h m p. kept.objects h _ (same_left h.worker (with_dead_node h m).worker refl refl refl refl refl) p;
    looked = λ h o number p. kept.store h _ p;
    copied = λ h o number c p. kept.store h _ p;
    asked_anew = kept.asks_anew;
    asked_on = kept.asks_on;
    asked_again = kept.asks_again;
    pushed_again = λ h k task w n e f _ p. kept.pushes_again h k task w n e f p;
    rested = kept.comes_to_rest;
    fetching = λ h run y f g e q p. kept.run h run _ e (record { attempt = refl; over = refl; pace = sym (ap pace_in q) }) p;
    got = kept.gets;
    faulted = λ h run f y g e q p. S.leaves_if_free-kept P over (gives_slot_back (logs (with_phase h run (HasFaulted f)) (Faulted run.attempt y f)))
        (kept.faults h run f y g e q p);
    acknowledged = λ h run test e p. S.leaves_if_free-kept P over (with_run h (record run { holds = filter test run.holds }))
        (kept.run h run (record run { holds = filter test run.holds }) e (record { attempt = refl; over = refl; pace = refl }) p);
    waited = kept.frees;
    heard = over.heard;
    back = λ h run e o p. S.is_heard-kept P over h run e o p;
    told_again = λ h run e o _ p. S.tells_stop-kept P over h run run.phase e o p;
    where_asked = λ h y _ _ p. kept.says_plain h _ _ refl p;
    missing_told = λ h y number n _ p. kept.says_plain h _ _ refl p;
    place_told = λ h w y number ns c _ p. kept.says_plain h _ _ refl p;
    gone_told = λ h w y f p. kept.says_plain h _ _ refl p;
    held_told = λ h w e o p. kept.says_plain h _ _ refl p;
    unheld_told = λ h w e o why p. kept.says_plain h _ _ refl p;
    hold_again = λ h run k _ _ _ p. kept.says_plain h _ _ refl p;
    copy_asked = λ h n y number p. kept.says_plain_to_node h _ _ refl p;
    copy_dropped = λ h n e p. kept.says_plain_to_node h _ _ refl p;
  }

  births : KeepsBirths P
  births = record {
    put = λ h x e p. kept.objects h _ (put_left h.worker x e) p;
    primary = λ h o v p. kept.store h _ p;
    task = kept.bears_new;
    ended = λ h o number c p. kept.store h _ p;
    passed = λ h o ids p. kept.objects h _ (same_left h.worker (passes_on h o ids).worker refl refl refl refl refl) p;
    awaited = λ h run k e p. kept.run h run _ e (record { attempt = refl; over = refl; pace = refl }) p;
    hold_sent = λ h e o p. kept.says_plain h _ _ refl p;
  }

  replies : KeepsAnswers IsToldBy IsOverOf IsGivenBy P
  replies = record { acked = kept.hears; back_of = kept.back_of; begun = kept.begins }

  accepted : KeepsAccepted IsToldBy P
  accepted h a task n rs w e _ s p =
      kept.writes _ _ (S.settles-kept P
      (λ g o number m r q. kept.objects g _ (untouched_left g.worker o.serial (with_content number m r.ids r.kept) (λ y. refl)) q)
      (results_of task.spec) (with_task_of h a.object (rests task)) a.object a.number n rs (kept.comes_to_rest h a.object task e (inr (w, s)) p))

  -- ---- each step

  pub leaves_if_free-kept : (h : WorkerContext) → P h → P (leaves_if_free h)
  leaves_if_free-kept h p = S.leaves_if_free-kept P over h p

  pub holds_ids-kept : (h : WorkerContext) (e : Id) (os : List Id) → P h → P (holds_ids h e os)
  holds_ids-kept h e os p = S.holds_ids-kept P keeps births h e os p

  pub keeps_contents-kept : (h : WorkerContext) (o : Id) (number : ℕ) (cs : List Outcome) → P h → P (keeps_contents h o number cs)
  keeps_contents-kept h o number cs p = S.keeps_contents-kept P keeps births h o number cs p

  pub bears_all-kept : (h : WorkerContext) (a : Attempt) (bs : List Birth) → P h → P (bears_all h a bs)
  bears_all-kept h a bs p = S.bears_all-kept P keeps births h a bs p

  pub asks_where-kept : (h : WorkerContext) (y : Id) → P h → P (asks_where h y)
  asks_where-kept h y p =
      S.either P _ _ _ (S.needs_own-kept P keeps h y p) (S.either P _ _ _ (S.faults-kept P keeps h _ p) (kept.says_plain h _ _ refl p))

  -- behind the new phase
  pub needs-kept : (h : WorkerContext) (run : Execution) (y : Id) → P (with_phase h run (Waits y None)) → P (needs h run y)
  needs-kept h run y p = S.needs-kept P keeps h run y p

  pub tick_step-kept : (h : WorkerContext) → P h → P (tick_step h)
  tick_step-kept h p = S.tick_step-kept P keeps h tt tt p

  pub notice_step-kept : (h : WorkerContext) (v : ℕ) → P h → P (notice_step h v)
  notice_step-kept h v p = S.notice_step-kept P keeps h v p

  pub notice_node_step-kept : (h : WorkerContext) (m : ℕ) → ((a : Attempt) (t : ℕ) → IsPassedBy a t m) → P h → P (notice_node_step h m)
  notice_node_step-kept h m dead p = S.notice_node_step-kept P keeps h m dead p

  pub release_step-kept : (h : WorkerContext) → P h → P (release_step h)
  release_step-kept h p = S.release_step-kept P keeps h p

  -- what is known of a message from a worker
  abbrev pub IsHeard : WorkerContext → ℕ → Message → Type 0
  IsHeard h w (Push a spec) = P (push_reached h a spec)
  IsHeard h w (Finished a n rs) = IsToldBy w a
  IsHeard h w (Failed a f) = IsToldBy w a
  IsHeard h w (FinishedAck a) = IsOverOf a
  IsHeard h w m = Unit {0}

  -- what is known of a message from a node
  abbrev pub IsHeardOf : WorkerContext → ℕ → Message → Type 0
  IsHeardOf h n (Give a t w) = a.object.owner ≡ h.me → IsGivenBy n t a w
  IsHeardOf h n (Elsewhere a t m) =
      (own : OwnTask) (i : ℕ) → a.object.owner ≡ h.me → task_of (object_at h a.object) ≡ Some own → own.progress ≡ AskedAt t i → own.number ≡ a.number →
      IsPassedBy a t i
  IsHeardOf h n m = Unit {0}

  abbrev pub IsHeardFrom : WorkerContext → Endpoint → Message → Type 0
  IsHeardFrom h (TheWorker w) m = IsHeard h w m
  IsHeardFrom h (TheNode n) m = IsHeardOf h n m

  heard : KeepsHeard IsHeardFrom P
  heard = record {
    push = λ h w a spec s _. s;
    finished = λ h w a n rs s p. S.finished_reached-kept P keeps replies accepted h w a n rs s p;
    finished_ack = λ h w a s p. S.finished_ack_reached-kept P keeps replies h a s p;
    failed = λ h w a f s p. S.failed_reached-kept P keeps replies h w a f s p;
    given = λ h n a t w s p. S.given_reached-kept P keeps replies h n a t w s p;
    elsewhere = λ h n a t m s p. S.elsewhere_reached-kept P keeps h a t m s p;
  }

  pub reached-kept : (h : WorkerContext) (from : Endpoint) (m : Message) → IsHeardFrom h from m → P h → P (reached h from m)
  reached-kept h from m s p = S.reached-kept P keeps heard h from m s p
