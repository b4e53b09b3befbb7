-- What is seen of a run's log stays a beginning of it, and what is the run's own by the one is so by the other.
use Rattle.std.proofs.Common.{◌≡◌, ℕ, List, [], ◌++◌, Option, Some, None, inl, inr, refl, sym, ap, ◌∙◌, subst, append-nil}
use mathlib.Core.List.{IsPrefix}
use Rattle.event_log.specs.Entries.{Entry, Event}
use Rattle.kept_frames.specs.Known.{AllAgree, KeepsWith, KnownData}
use Rattle.log_entries.specs.declared.refusal.Refusal.{Refusal}
use Rattle.run_paths.specs.of_protocol_board.Cores.{Answers, IsOfLog, Reply, RunState}
use Rattle.run_paths.specs.of_protocol_board.Own.{FramesAreOwn}
use Rattle.run_paths.proofs.of_protocol_board.Own.{all_agree, frames_stay_own, job_stays_own, kept_with, longer}
use Rattle.segment.specs.Jobs.{Done, JobParts}
use Rattle.seats.specs.Turns.{Choice, Does, Plans, Waits, Ends, IsDone, Takes, Told, TurnState, Turned, TurnedBy, choice, past_line}

-- ---- the log goes on

pub goes_on : (seen : List Entry) (before after : RunState) {e : Event} {seat : ℕ} {done : Option Done} {told : Reply} → Answers before e seat done after told →
    seen ≡ before.log → IsPrefix seen after.log
goes_on seen before after {e} {seat} {done} {told} h same =
    let l = longer before after e seat done told h in
    (l.0, ap (λ log. log ++ l.0) same ∙ sym l.1)

pub turn_goes_on : (seen : List Entry) (t u : TurnState) (seat : ℕ) (told : Told) → Turned t seat u told → seen ≡ t.run.log → IsPrefix seen u.run.log
turn_goes_on seen t u seat told h same = turned t.given_up h
  where
    stays : u.run.log ≡ t.run.log → IsPrefix seen u.run.log
    stays e = ([], append-nil seen ∙ same ∙ sym e)

    takes : (b : TurnState) (e : Event) → b.run ≡ t.run → Takes b e seat u told → IsPrefix seen u.run.log
    takes b e is h = goes_on seen b.run u.run h.answers (same ∙ sym (ap (λ (r : RunState). r.log) is))

    done : (c : Choice) → IsDone t c seat u told → IsPrefix seen u.run.log
    done (Does e) h = takes t e refl h
    done (Plans e) h = takes (record t { taken = past_line t.plan t.taken }) e refl h
    done Waits h = stays (ap (λ (x : TurnState). x.run.log) h.0)
    done Ends h = stays (ap (λ (x : TurnState). x.run.log) h.0)

    turned : (g : Option Refusal) → TurnedBy g t seat u told → IsPrefix seen u.run.log
    turned (Some refusal) h = stays (ap (λ (x : TurnState). x.run.log) h.0)
    turned None (inl h) = done (choice t) h
    turned None (inr h) = stays (ap (λ (x : TurnState). x.run.log) h.0)

-- ---- jobs and frames that are the run's own by a beginning of its log

pub job_is_own : (seen log : List Entry) (j : JobParts) → IsPrefix seen log → IsOfLog seen j → IsOfLog log j
job_is_own seen log j on own = subst (λ l. IsOfLog l j) on.1 (job_stays_own seen on.0 j own)

pub frames_are_own : (seen log : List Entry) (kept : List (Option KnownData)) → IsPrefix seen log → FramesAreOwn seen kept → FramesAreOwn log kept
frames_are_own seen log kept on own = subst (λ l. FramesAreOwn l kept) on.1 (frames_stay_own seen on.0 kept own)

-- the job goes on from what is known of its attempt
pub job_agrees : (one other log : List Entry) (kept : List (Option KnownData)) (j : JobParts) → IsPrefix one log → IsPrefix other log → FramesAreOwn one kept →
    IsOfLog other j → AllAgree kept j
job_agrees one other log kept j p q frames own = all_agree log kept j (frames_are_own one log kept p frames) (job_is_own other log j q own)

-- and what is kept once it was run is the run's own
pub still_own : (one other log : List Entry) (before after : List (Option KnownData)) (j : JobParts) → IsPrefix one log → IsPrefix other log →
    FramesAreOwn one before → IsOfLog other j → KeepsWith j before after → FramesAreOwn log after
still_own one other log before after j p q frames own kept =
    kept_with log j before after (frames_are_own one log before p frames) (job_is_own other log j q own) kept
