-- An attempt has a fault: its task comes to rest, and its objects that have no fault yet are resolved to that one.
use Rattle.std.proofs.Common.{◌≡◌, ℕ, Bool, true, false, List, [], ◌∷◌, ◌++◌, length, Option, Some, None, inl, refl, sym, ap, ◌∙◌, subst}
use Rattle.std.specs.Prelude.{◌==◌, is_none, if◌then◌else◌}
use Rattle.std.proofs.lemmas.Bool.{and_parts, eqb-true}
use Rattle.meaning.proofs.BirthLaws.{at_test}
use Rattle.meaning.specs.Values.{Id, results_of}
use Rattle.meaning.specs.Births.{same_id}
use Rattle.kind_laws.specs.of_event_log.Entries.{Attempt, Entry, Fault, Resolved, main_object}
use Rattle.kind_laws.specs.of_event_log.Words.{attempt, faulted_in, resolves_of, run_in}
use Rattle.kind_laws.specs.of_event_log.Breaks.{Among}
use Rattle.kind_laws.specs.of_event_log.Rules.{IsOwn, LastFaulted, MayResolve, Setting}
use Rattle.kind_laws.proofs.of_event_log.Extending.{parts-more}
use Rattle.step_laws.specs.of_protocol.Sets.{object_id}
use Rattle.step_laws.specs.of_protocol.Tables.{Object, OwnTask, RunsOn, is_pending_task, task_of}
use Rattle.step_laws.specs.of_protocol.Ends.{failed_by, failed_reached, fails, hears_of_end, if_present, resolves_open_by}
use Rattle.step_laws.specs.of_protocol.Asking.{answers_faulted, rests}
use Rattle.step_laws.specs.of_protocol.Messages.{FinishedAck}
use Rattle.step_laws.specs.of_protocol.Steps.{WorkerContext, each_result, object_at, with_task_of}
use Rattle.protocol_legal.specs.Past.{Asking, Past}
use Rattle.protocol_legal.specs.Lost.{IsKnownFault}
use Rattle.protocol_legal.specs.Says.{HasFault}
use Rattle.protocol_legal.specs.Knows.{IsBegun, IsResultOf, KnowsProgress, KnowsTask}
use Rattle.protocol_legal.specs.During.{Frame, SoundHere, so_far}
use Rattle.protocol_legal.proofs.Allowing.{last_begun}
use Rattle.protocol_legal.proofs.Growing.{known_more, word_kept}
use Rattle.protocol_legal.proofs.Steps.{here_says, now}
use Rattle.protocol_legal.proofs.Logging.{sound_sane}
use Rattle.protocol_legal.proofs.Beginning.{each_answered, own_id_of, task_is_own}
use Rattle.protocol_legal.proofs.Asking.{OwnTaskAt, known_task, own_task_at}
use Rattle.protocol_legal.proofs.Accepting.{results, runs_if_begun}
use Rattle.protocol_legal.proofs.Resolving.{resolves_rows}
use Rattle.protocol_legal.proofs.RestResolved.{rest_resolved, way_then}

-- it has no fault yet
abbrev pub is_open : Object → Bool
is_open z = is_none z.fault

open_is_healthy : (z : Object) → is_open z ≡ true → z.fault ≡ None
open_is_healthy z e = go z.fault e
  where
    go : (r : Option Fault) → is_none r ≡ true → r ≡ None
    go None i = refl
    go (Some g) i = absurd (cc)

module _ (g : Fault) where
  abbrev same_fault : ℕ → ℕ → Fault
  same_fault w j = g

  -- the last attempt of the object's task has the fault, which has its cause for good
  abbrev HasFaulted : List Entry → ℕ → ℕ → Type 0
  HasFaulted log w j = LastFaulted log (object_id w j) g × IsKnownFault log g

  faulted_still : (log : List Entry) (w j i : ℕ) → HasFaulted log w i → HasFaulted (log ++ Resolved (object_id w j) g ∷ []) w i
  faulted_still log w j i e =
      let es = Resolved (object_id w j) g ∷ [] in
      let a = e.0 in (
        record {
          part = a.part;
          born = parts-more log es (object_id w i) a.part a.born;
          number = a.number;
          last = ap length (word_kept (run_in a.part.born.object) log es refl) ∙ a.last;
          got = a.got;
          faulted = subst (Among (record { object = a.got; fault = g })) (sym (word_kept (faulted_in (attempt a.part.born.object a.number)) log es refl)) a.faulted;
        },
        known_more log es g refl (λ u _. record { accepts = λ _. refl; runs = refl }) e.1,
      )

  may_fail_by : (s : Setting) (log : List Entry) (w j : ℕ) → same_id (object_id w j) main_object ≡ false → IsOwn s log w → resolves_of (object_id w j) log ≡ [] → HasFaulted log w j → MayResolve s log (object_id w j) g
  may_fail_by s log w j apart own none e = record { own = own; not_main = apart; once = none; reason = inl e.0; cause = e.1.cause }

  module _ (f : Frame) (asked : List Asking) (h : WorkerContext) (s : SoundHere f asked h) (k : ℕ) (task : OwnTask) (t : OwnTaskAt h k task) (pending : is_pending_task task ≡ true) where
    abbrev o : Id
    o = object_id h.me k

    abbrev p : Past
    p = now f asked h s

    abbrev kt : KnowsTask p o h.worker.objects task
    kt = known_task f asked h s k task t

    module _ (w n : ℕ) (begun : IsBegun p o task w n) (has_fault : HasFault p.log (attempt o task.number) g) where
      faulted_for : (j : ℕ) (z : Object) → IsResultOf p h.worker.objects (object_id h.me j) z k task → HasFaulted p.log h.me j
      faulted_for j z km = (
        record {
          part = record { born = record { object = o; birth = task.spec }; place = km.0 };
          born = km.3;
          number = task.number;
          last = last_begun p o task w n kt.begun begun;
          got = has_fault.got;
          faulted = has_fault.faulted;
        },
        has_fault.known,
      )

      pub fails_sound : SoundHere f asked (fails h (attempt o task.number) task g)
      fails_sound =
          subst (SoundHere f asked) (sym (resolves_rows is_open same_fault (λ h' z r. resolves_open_by h' z g r) (λ h' j. refl) (λ h' j z. refl) (with_task_of h o (rests task)) k (results f asked h s k task t pending)))
          (rest_resolved is_open same_fault f asked h s k task t pending w n begun open_is_healthy HasFaulted faulted_still may_fail_by faulted_for
          (λ j z km e. (way_then is_open same_fault f asked h s k task t pending).faults g has_fault.known)
          (λ at new none b made bare. let c : is_open new ≡ true = ap is_none none in absurd (cc)))

    -- whoever waits for one of the objects is answered
    pub failed_sound_at : (has_fault : HasFault p.log (attempt o task.number) g) (v : ℕ) → SoundHere f asked (each_result answers_faulted (hears_of_end (fails h (attempt o task.number) task g) v (attempt o task.number)) o task)
    failed_sound_at has_fault v =
        let begun = (sound_sane f asked h.there s.there).faulted (attempt o task.number) has_fault.faulted.0 (record { object = has_fault.got; fault = g }) has_fault.faulted.1 in
        let r = runs_if_begun f asked h s k task t pending begun.0 begun.1 in
        let kp : KnowsProgress p o task (RunsOn r.worker r.node) = subst (KnowsProgress p o task) r.progress kt.progress in
        each_answered f asked (hears_of_end (fails h (attempt o task.number) task g) v (attempt o task.number))
        (here_says f asked (fails h (attempt o task.number) task g) (fails_sound r.worker r.node kp.0 has_fault) v (FinishedAck (attempt o task.number)) tt) k (results_of task.spec)

-- ---- the message

module _ (f : Frame) (asked : List Asking) (h : WorkerContext) (s : SoundHere f asked h) (w : ℕ) (a : Attempt) where
  pub heard : SoundHere f asked (hears_of_end h w a)
  heard = here_says f asked h s w (FinishedAck a) tt

  -- the message speaks of an own task
  pub same_run : (task : OwnTask) → a.object ≡ object_id h.me a.object.serial → task.number ≡ a.number → attempt (object_id h.me a.object.serial) task.number ≡ a
  same_run task e n = ap (λ z. attempt z task.number) (sym e) ∙ ap (attempt a.object) n

  failed_by_sound : (g : Fault) (r : Option OwnTask) → task_of (object_at h a.object) ≡ r → HasFault (so_far f h.there.out.entries) a g → SoundHere f asked (failed_by h w a g r)
  failed_by_sound g None e has_fault = heard
  failed_by_sound g (Some task) e has_fault =
      at_test (λ b. if_present a task ≡ b → SoundHere f asked (if b then each_result answers_faulted (hears_of_end (fails h a task g) w a) a.object task else hears_of_end h w a)) (if_present a task)
      (λ b i. let parts = and_parts (is_pending_task task) (task.number == a.number) i in
      let own = task_is_own h a.object task e in
      let id = own_id_of h a.object own.0 in
      let number : task.number ≡ a.number = eqb-true task.number a.number parts.1 in
      let run = same_run task id number in
      subst (λ (z : Attempt). SoundHere f asked (each_result answers_faulted (hears_of_end (fails h z task g) w z) z.object task)) run
      (failed_sound_at g f asked h s a.object.serial task (own_task_at h a.object.serial task own.1) parts.0 (subst (λ z. HasFault (so_far f h.there.out.entries) z g) (sym run) has_fault) w))
      (λ b i. heard) refl

  pub failed_sound : (g : Fault) → HasFault (so_far f h.there.out.entries) a g → SoundHere f asked (failed_reached h w a g)
  failed_sound g has_fault = failed_by_sound g (task_of (object_at h a.object)) refl has_fault
