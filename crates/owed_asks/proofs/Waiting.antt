-- As long as an attempt that began to wait for an object waits, it waits for that one.
use Rattle.std.proofs.Common.{◌≡◌, Some, None, Option, refl, ap, sym, ◌∙◌}
use Rattle.std.specs.Prelude.{true, filter}
use Rattle.meaning.proofs.BirthLaws.{same_id-refl}
use Rattle.meaning.specs.Births.{same_id}
use Rattle.meaning.specs.Values.{Id}
use Rattle.event_log.specs.Entries.{Faulted}
use Rattle.protocol.specs.Tables.{HasEnded, HasFaulted, Out, Phase, Ready, Execution, Waits, is_same_id, is_waiting_for, knows_dead, needed_by, object_needed}
use Rattle.protocol.specs.Steps.{WorkerContext, is_own, logs, with_phase, with_run}
use Rattle.protocol.specs.Runs.{gives_slot_back}
use Rattle.protocol.specs.Commits.{asks_where}
use Rattle.protocol.specs.Releases.{release_step}
use Rattle.protocol_owed.specs.Courses.{Rests}
use Rattle.protocol_owed.specs.Told.{pace_by, pace_in}
use Rattle.smallest_steps.proofs.Smallest.{AnyPassed, AnyTold, KeepsHere, KeepsOver}
use Rattle.smallest_steps.proofs.Moves as S

module _ (y : Id) where
  abbrev pub NeedsOnly : Option Execution → Type 0
  NeedsOnly r = (z : Id) → needed_by r ≡ Some z → z ≡ y

  abbrev pub WaitsOnly : WorkerContext → Type 0
  WaitsOnly h = NeedsOnly h.worker.run

  none_needed : (z : Id) → ◌≡◌ {A = Option Id} None (Some z) → z ≡ y
  none_needed z e = absurd (cc)

  over : KeepsOver WaitsOnly
  over = record {
    over = λ h run next e _ _ same _ w z i. w z (ap needed_by e ∙ ap object_needed (sym same) ∙ i);
    heard = λ h run e _ w z i. w z (ap needed_by e ∙ i);
    end_told = λ h run n rs _ _ w. w;
    fault_told = λ h run f _ _ w. w;
    back = λ h run _ _ w. w;
  }

  keeps : KeepsHere AnyTold AnyPassed (Unit {0}) (Unit {0}) WaitsOnly
  keeps = record {
    alike = λ h o f _ w. w;
    asker = λ h o v w. w;
    answered = λ h o x _ _ w. w;
    resolved = λ h o f w. w;
    freed = λ h o w. w;
    locations_lost = λ h m w. w;
    worker_dead = λ h v w. w;
    node_dead = λ h m w. w;
    looked = λ h o number w. w;
    copied = λ h o number c w. w;
    asked_anew = λ h o old task _ _ w. w;
    asked_on = λ h o task t m n _ _ _ w. w;
    asked_again = λ h k task t n _ _ w. w;
    pushed_again = λ h k task v n _ _ _ w. w;
    rested = λ h o task _ _ w. w;
    fetching = λ h run v f g e q w z i. w z (ap needed_by e ∙ ap object_needed q ∙ i);
    got = λ h run c v f _ _ w. none_needed;
    faulted = λ h run f v g _ _ w.
        S.leaves_if_free-kept WaitsOnly over (gives_slot_back (logs (with_phase h run (HasFaulted f)) (Faulted run.attempt v f))) none_needed;
    acknowledged = λ h run test e w.
        S.leaves_if_free-kept WaitsOnly over (with_run h (record run { holds = filter test run.holds })) (λ z i. w z (ap needed_by e ∙ i));
    waited = λ h run v f _ _ w. w;
    heard = over.heard;
    back = λ h run e o w. S.is_heard-kept WaitsOnly over h run e o w;
    told_again = λ h run e o _ w. S.tells_stop-kept WaitsOnly over h run run.phase e o w;
    where_asked = λ h v _ _ w. w;
    missing_told = λ h v number n _ w. w;
    place_told = λ h u v number ns c _ w. w;
    gone_told = λ h u v f w. w;
    held_told = λ h u e o w. w;
    unheld_told = λ h u e o why w. w;
    hold_again = λ h run k _ _ _ w. w;
    copy_asked = λ h n v number w. w;
    copy_dropped = λ h n e w. w;
  }

  -- it looks for the object
  pub asks_where-waits : (h : WorkerContext) → WaitsOnly h → WaitsOnly (asks_where h y)
  asks_where-waits h w =
      S.either WaitsOnly (is_own h y) _ _ (S.needs_own-kept WaitsOnly keeps h y w)
      (S.either WaitsOnly (knows_dead h.worker y.owner) _ _ (S.faults-kept WaitsOnly keeps h _ w) w)

  -- an attempt that rests waits for it
  pub rests_waits : (h : WorkerContext) → WaitsOnly h → pace_by h.worker.run ≡ Rests → is_waiting_for h.worker y ≡ true
  rests_waits h w e = by_run h.worker.run w e
    where
      by_phase : (run : Execution) (p : Phase) → run.phase ≡ p → NeedsOnly (Some run) → pace_in p ≡ Rests →
          is_same_id (object_needed run.phase) y ≡ true
      by_phase run (Waits z f) q n g =
          ap (λ p. is_same_id (object_needed p) y) q ∙ ap (λ i. same_id i y) (n z (ap object_needed q)) ∙ same_id-refl y
      by_phase run Ready q n g = absurd (cc)
      by_phase run (Out j) q n g = absurd (cc)
      by_phase run (HasEnded c) q n g = absurd (cc)
      by_phase run (HasFaulted f) q n g = absurd (cc)

      by_run : (r : Option Execution) → NeedsOnly r → pace_by r ≡ Rests → is_same_id (needed_by r) y ≡ true
      by_run None n g = absurd (cc)
      by_run (Some run) n g = by_phase run run.phase refl n g

  -- to the end of the event
  pub release_step-waits : (h : WorkerContext) → WaitsOnly h → WaitsOnly (release_step h)
  release_step-waits h w = S.release_step-kept WaitsOnly keeps h w
