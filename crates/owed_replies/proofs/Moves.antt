-- Whatever the smallest steps of a worker keep, each of its steps keeps. The smallest steps tell to whom is said what, what comes of whoever waits
-- for an own object, and of the Holds of the worker's attempt. How an attempt begins here, is given out and is committed, and how an end is
-- accepted, stands apart.
use Rattle.std.proofs.Common.{refl}
use Rattle.std.specs.Prelude.{◌≡◌, ℕ, ◌+◌, ◌&&◌, Bool, true, false, filter, List, [], ◌∷◌, Option, Some, None, is_none, is_some}
use Rattle.meaning.specs.Values.{Id, Outcome}
use Rattle.event_log.specs.Breaks.{Among}
use Rattle.event_log.specs.Entries.{Attempt, Entry, Got, Fault, Faulted, Accepted, Ended}
use Rattle.protocol.specs.Messages.{EndedResult}
use Rattle.protocol.specs.Messages.{Message, Endpoint, TheWorker, TheNode, Push, Finished, Where, At, Missing, Hold}
use Rattle.protocol.specs.Stores.{Store}
use Rattle.protocol.specs.Sets.{is_empty}
use Rattle.protocol.specs.Tables.{AskedAt, Fetching, HasEnded, HasFaulted, Holding, Object, Out, Phase, Ready, Execution, Waits, is_nowhere, without_location}
use Rattle.protocol.specs.Steps.{WorkerContext, is_own, logs_all, logs, object_at, says, says_to_node, with_phase, with_run, with_store, with_worker}
use Rattle.protocol.specs.Runs.{asks_for_slot, gives_slot_back, leaves_if_free, push_reached, tells_stop, with_answer}
use Rattle.protocol.specs.Asking.{rests, with_begun}
use Rattle.protocol.specs.Recovery.{recovers}
use Rattle.protocol.specs.Locations.{answers_settled, needs_own}
use Rattle.protocol.specs.Holders.{hold_ack_reached, holding}
use Rattle.protocol.specs.Commits.{needs, rests_if_waiting}
use Rattle.protocol.specs.Ends.{finished_reached}
use Rattle.protocol.specs.Notices.{notice_node_step, notice_step}
use Rattle.protocol.specs.Ticks.{asks_again, sends_stop, sends_tasks, tick_step}
use Rattle.protocol.specs.Releases.{release_step}
use Rattle.protocol.specs.Deliveries.{reached, reached_from_worker}
use Rattle.smallest_steps.specs.Steps.{Needs}
use Rattle.smallest_steps.proofs.Smallest.{AnyOver, AnyPassed, AnyTold, KeepsAccepted, KeepsHere, KeepsHeard, KeepsAnswers}
use Rattle.smallest_steps.proofs.Moves as S
use Rattle.owed_replies.proofs.Objects.{Grows, answered_grows, answered_there, asker_grows, fault_grows, mapped_grows, put_grows, same_grows, succeeds_alike}

-- an entry that accepts no attempt, and ends none
abbrev pub is_mute : Entry → Bool
is_mute (Accepted a) = false
is_mute (Ended a c) = false
is_mute _ = true

abbrev pub is_quiet : List Entry → Bool
is_quiet [] = true
is_quiet (x ∷ es) = is_mute x && is_quiet es

-- ---- the smallest steps

-- the worker's attempt waits for the HoldAck
pub record Awaits (h : WorkerContext) (k : Holding) : Type 0 where
  pub run : Execution
  pub at : h.worker.run ≡ Some run
  pub listed : Among k run.holds

-- it is over, and that wasn't heard
pub record IsUnheard (h : WorkerContext) (a : Attempt) : Type 0 where
  pub run : Execution
  pub at : h.worker.run ≡ Some run
  pub same : run.attempt ≡ a
  pub over : run.is_over ≡ true
  pub unheard : run.is_acknowledged ≡ false

-- what is said to whom, where Holds and Pushes may be said
abbrev pub IsSaid : Type 0 → Type 0 → WorkerContext → ℕ → Message → Type 0
IsSaid AnyHold AnyPush h w (Where y) = (w ≡ y.owner) × (is_own h y ≡ false) × Needs h y
IsSaid AnyHold AnyPush h w (Missing y number n) = (w ≡ y.owner) × (is_own h y ≡ false)
IsSaid AnyHold AnyPush h w (Hold e o) = (w ≡ o.owner) × Awaits h (holding e o) × AnyHold
IsSaid AnyHold AnyPush h w (Push a spec) = (a.object.owner ≡ h.me) × AnyPush
IsSaid AnyHold AnyPush h w (Finished a n rs) = (w ≡ a.object.owner) × IsUnheard h a
IsSaid AnyHold AnyPush h w (At y number ns kept) = (is_empty ns && is_none kept) ≡ false
IsSaid AnyHold AnyPush h w m = Unit {0}

pub record IsKeptWhere (AnyHold AnyPush : Type 0) (P : WorkerContext → Type 0) : Type 0 where
  pub writes : (h : WorkerContext) (es : List Entry) → is_quiet es ≡ true → P h → P (logs_all h es)
  pub says : (h : WorkerContext) (w : ℕ) (m : Message) → IsSaid AnyHold AnyPush h w m → P h → P (says h w m)
  pub says_to_node : (h : WorkerContext) (n : ℕ) (m : Message) → P h → P (says_to_node h n m)
  pub objects : (h : WorkerContext) (ys : List Object) → Grows h.worker.objects ys → P h → P (with_worker h (record h.worker { objects = ys }))
  pub passes : (h : WorkerContext) (ks : List Holding) → P h → P (with_worker h (record h.worker { passed_on = ks }))
  pub deaths : (h : WorkerContext) (vs ns : List ℕ) → P h → P (with_worker h (record h.worker { dead_workers = vs; dead_nodes = ns }))
  pub store : (h : WorkerContext) (s : Store) → P h → P (with_store h s)
  pub frees : (h : WorkerContext) → P h → P (gives_slot_back h)
  -- a Fetch is under way, or isn't; the stop was heard
  pub fetches : (h : WorkerContext) (run : Execution) (y : Id) (f g : Option Fetching) → h.worker.run ≡ Some run → run.phase ≡ Waits y f → P h →
      P (with_phase h run (Waits y g))
  pub heard : (h : WorkerContext) (run : Execution) → h.worker.run ≡ Some run → P h → P (with_run h (record run { is_acknowledged = true }))
  -- the attempt is answered, and asks for its slot; it has a fault, gives its slot back, and may be over by that; a Hold waits no more
  pub gets : (h : WorkerContext) (run : Execution) (c : Outcome) (y : Id) (f : Option Fetching) → h.worker.run ≡ Some run → run.phase ≡ Waits y f →
      P h → P (asks_for_slot (logs (with_run h (with_answer run c)) (Got run.attempt y c)))
  pub faults : (h : WorkerContext) (run : Execution) (f : Fault) (y : Id) (g : Option Fetching) → h.worker.run ≡ Some run → run.phase ≡ Waits y g →
      P h → P (leaves_if_free (gives_slot_back (logs (with_phase h run (HasFaulted f)) (Faulted run.attempt y f))))
  pub acknowledged : (h : WorkerContext) (run : Execution) (test : Holding → Bool) → h.worker.run ≡ Some run → P h →
      P (leaves_if_free (with_run h (record run { holds = filter test run.holds })))

-- whatever is said
abbrev pub IsKept : (WorkerContext → Type 0) → Type 0
IsKept P = IsKeptWhere (Unit {0}) (Unit {0}) P

-- an own attempt begins where Pushes may be said
abbrev GivenWhere : Type 0 → ℕ → ℕ → Attempt → ℕ → Type 0
GivenWhere AnyPush n t a w = AnyPush

module _ {AnyHold AnyPush : Type 0} (P : WorkerContext → Type 0) (kept : IsKeptWhere AnyHold AnyPush P) where
  -- ---- the smallest steps are among these

  tells_stop-kept : (h : WorkerContext) (run : Execution) (phase : Phase) → IsUnheard h run.attempt → P h → P (tells_stop h run phase)
  tells_stop-kept h run (HasEnded c) u p = kept.says h _ _ (refl, u) p
  tells_stop-kept h run (HasFaulted f) u p = kept.says h _ _ tt p
  tells_stop-kept h run Ready u p = p
  tells_stop-kept h run (Out j) u p = p
  tells_stop-kept h run (Waits y f) u p = p

  keeps_told : (T : ℕ → Attempt → Type 0) → KeepsHere T AnyPassed AnyHold AnyPush P
  keeps_told T = record {
    alike = λ h o f same p. kept.objects h _ (same_grows h.worker.objects o.serial f (λ y. succeeds_alike y (f y) (same y).1 (same y).2 (same y).3)) p;
    asker = λ h o w p. kept.objects h _ (asker_grows h.worker.objects o.serial w) p;
    answered = λ h o x at a p. kept.objects h _ (answered_grows h o (λ y e. answered_there h o x y a at e)) p;
    resolved = λ h o f p. kept.writes _ _ refl (kept.objects h _ (fault_grows h o f) p);
    freed = λ h o p. kept.writes h _ refl p;
    locations_lost = λ h m p. kept.objects h _ (mapped_grows h.worker.objects (without_location m) (λ y. succeeds_alike y (without_location m y) refl refl refl)) p;
    worker_dead = λ h v p. kept.deaths h _ _ p;
    node_dead = λ h m p. kept.deaths h _ _ p;
    looked = λ h o number p. kept.store h _ p;
    copied = λ h o number c p. kept.store h _ p;
    asked_anew = λ h o old task _ _ p. kept.says_to_node _ _ _ (kept.objects h _ (put_grows h o (record task { progress = AskedAt 0 h.worker.node })) p);
    asked_on = λ h o task t m n _ _ _ p. kept.says_to_node _ _ _ (kept.objects h _ (put_grows h o (record task { progress = AskedAt (t + 1) n })) p);
    asked_again = λ h k task t n _ _ p. kept.says_to_node h _ _ p;
    pushed_again = λ h k task w n _ _ may p. kept.says h _ _ (refl, may) p;
    rested = λ h o task _ _ p. kept.objects h _ (put_grows h o (rests task)) p;
    fetching = kept.fetches;
    got = kept.gets;
    faulted = kept.faults;
    acknowledged = kept.acknowledged;
    waited = λ h run y f _ _ p. kept.frees h p;
    heard = λ h run e _ p. kept.heard h run e p;
    back = λ h run e _ p. kept.says_to_node _ _ _ (kept.heard h run e p);
    told_again = λ h run e o u p. tells_stop-kept h run run.phase (record { run = run; at = e; same = refl; over = o; unheard = u }) p;
    where_asked = λ h y foreign waits p. kept.says h _ _ (refl, foreign, waits) p;
    missing_told = λ h y number n foreign p. kept.says h _ _ (refl, foreign) p;
    place_told = λ h w y number ns c some p. kept.says h _ _ some p;
    gone_told = λ h w y f p. kept.says h _ _ tt p;
    held_told = λ h w e o p. kept.says h _ _ tt p;
    unheld_told = λ h w e o why p. kept.says h _ _ tt p;
    hold_again = λ h run k e i may p. kept.says h _ _ (refl, record { run = run; at = e; listed = i }, may) p;
    copy_asked = λ h n y number p. kept.says_to_node h _ _ p;
    copy_dropped = λ h n e p. kept.says_to_node h _ _ p;
  }

  keeps : KeepsHere AnyTold AnyPassed AnyHold AnyPush P
  keeps = keeps_told AnyTold

  replies_told : (T : ℕ → Attempt → Type 0) → KeepsAnswers T AnyOver (GivenWhere AnyPush) P
  replies_told T = record {
    acked = λ h w a _ p. kept.says h _ _ tt p;
    back_of = λ h n a _ _ p. kept.says_to_node h _ _ p;
    begun = λ h o task w n t m own _ _ may p. kept.says _ _ _ (own, may) (kept.writes _ _ refl (kept.objects h _ (put_grows h o (with_begun task w n)) p));
  }

  replies : KeepsAnswers AnyTold AnyOver (GivenWhere AnyPush) P
  replies = replies_told AnyTold

  -- ---- each step

  -- where the acceptance is kept, what follows it is
  pub finished_reached-kept : (T : ℕ → Attempt → Type 0) → KeepsAccepted T P → (h : WorkerContext) (w : ℕ) (a : Attempt) (n : ℕ) (rs : List EndedResult) → T w a → P h →
      P (finished_reached h w a n rs)
  finished_reached-kept T accepted h w a n rs t p = S.finished_reached-kept P (keeps_told T) (replies_told T) accepted h w a n rs t p

  pub asks_again-kept : (h : WorkerContext) (run : Execution) (phase : Phase) → h.worker.run ≡ Some run → run.phase ≡ phase → P h → P (asks_again h phase)
  asks_again-kept h run phase e q p = S.asks_again-kept P keeps h run phase e q p

  pub sends_stop-kept : (h : WorkerContext) (run : Execution) → h.worker.run ≡ Some run → P h → P (sends_stop h run)
  sends_stop-kept h run e p = S.sends_stop-kept P keeps h run e p

  pub sends_tasks-kept : (h : WorkerContext) → AnyPush → P h → P (sends_tasks h)
  sends_tasks-kept h may p = S.sends_tasks-kept P keeps h may p

  pub tick_step-kept : (h : WorkerContext) → AnyHold → AnyPush → P h → P (tick_step h)
  tick_step-kept h held pushed p = S.tick_step-kept P keeps h held pushed p

  pub notice_step-kept : (h : WorkerContext) (v : ℕ) → P h → P (notice_step h v)
  notice_step-kept h v p = S.notice_step-kept P keeps h v p

  pub notice_node_step-kept : (h : WorkerContext) (m : ℕ) → P h → P (notice_node_step h m)
  notice_node_step-kept h m p = S.notice_node_step-kept P keeps h m (λ _ _. tt) p

  pub release_step-kept : (h : WorkerContext) → P h → P (release_step h)
  release_step-kept h p = S.release_step-kept P keeps h p

  pub recovers-kept : (h : WorkerContext) (o : Id) → P h → P (recovers h o)
  recovers-kept h o p = S.recovers-kept P keeps h o p

  pub needs_own-kept : (h : WorkerContext) (o : Id) → P h → P (needs_own h o)
  needs_own-kept h o p = S.needs_own-kept P keeps h o p

  -- of an object that has its content
  pub answers_settled-kept : (h : WorkerContext) (o : Id) (x : Object) → object_at h o ≡ Some x → is_nowhere x ≡ false → is_some x.settled ≡ true → P h →
      P (answers_settled h o)
  answers_settled-kept h o x at some settled p = S.answers_settled-kept P keeps h o x at some settled p

  pub rests_if_waiting-kept : (h : WorkerContext) (y : Id) → P h → P (rests_if_waiting h y)
  rests_if_waiting-kept h y p = S.rests_if_waiting-kept P keeps h y p

  -- behind the new phase
  pub needs-kept : (h : WorkerContext) (run : Execution) (y : Id) → P (with_phase h run (Waits y None)) → P (needs h run y)
  needs-kept h run y p = S.needs-kept P keeps h run y p

  pub hold_ack_reached-kept : (h : WorkerContext) (e o : Id) → P h → P (hold_ack_reached h e o)
  hold_ack_reached-kept h e o p = S.hold_ack_reached-kept P keeps h e o p

  -- a Push, and an end that is told, stand apart
  abbrev pub IsHeard : WorkerContext → ℕ → Message → Type 0
  IsHeard h w (Push a spec) = P (push_reached h a spec)
  IsHeard h w (Finished a n rs) = P (finished_reached h w a n rs)
  IsHeard h w m = Unit {0}

  abbrev pub IsHeardFrom : WorkerContext → Endpoint → Message → Type 0
  IsHeardFrom h (TheWorker w) m = IsHeard h w m
  IsHeardFrom h (TheNode n) m = Unit {0}

  abbrev Hears : WorkerContext → Endpoint → Message → Type 0
  Hears h (TheWorker w) m = IsHeard h w m
  Hears h (TheNode n) m = AnyPush

  heard : KeepsHeard Hears P
  heard = record {
    push = λ h w a spec s _. s;
    finished = λ h w a n rs s _. s;
    finished_ack = λ h w a _ p. S.finished_ack_reached-kept P keeps replies h a tt p;
    failed = λ h w a f _ p. S.failed_reached-kept P keeps replies h w a f tt p;
    given = λ h n a t w may p. S.given_reached-kept P keeps replies h n a t w (λ _. may) p;
    elsewhere = λ h n a t m _ p. S.elsewhere_reached-kept P keeps h a t m (λ _ _ _ _ _ _. tt) p;
  }

  pub reached_from_worker-kept : (h : WorkerContext) (w : ℕ) (m : Message) → IsHeard h w m → P h → P (reached_from_worker h w m)
  reached_from_worker-kept h w m s p = S.reached_from_worker-kept P keeps heard h w m s p

  pub reached-kept : (h : WorkerContext) (from : Endpoint) (m : Message) → IsHeardFrom h from m → AnyPush → P h → P (reached h from m)
  reached-kept h (TheWorker w) m s may p = S.reached_from_worker-kept P keeps heard h w m s p
  reached-kept h (TheNode n) m s may p = S.reached_from_node-kept P keeps heard h n m may p
