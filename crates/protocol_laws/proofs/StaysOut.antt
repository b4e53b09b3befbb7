-- An attempt that was given out stays so until its job is committed: no other step of its worker changes how far it is.
use Rattle.std.proofs.Common.{◌≡◌, ℕ, Bool, true, false, Option, Some, refl, sym, ap, ◌∙◌, subst}
use Rattle.std.specs.Prelude.{◌&&◌, if◌then◌else◌, not}
use Rattle.std.specs.List.{list_any}
use Rattle.std.proofs.lemmas.Option.{same_Some}
use Rattle.std.proofs.lemmas.Bool.{false≢true}
use Rattle.meaning.specs.Values.{Birth, Id}
use Rattle.event_log.specs.Entries.{Attempt}
use Rattle.event_log.specs.Words.{same_attempt}
use Rattle.holding_steps.specs.of_protocol.Messages.{Message, Endpoint, TheNode, TheWorker, Ask, Give, Elsewhere, Wait, Back, Push, Finished, FinishedAck, Failed, Where, At, Gone, Fetch, CopyOf, Missing, Hold, HoldAck, Unhold}
use Rattle.holding_steps.specs.of_protocol.Tables.{Phase, Ready, Out, Waits, HasEnded, HasFaulted, Fetching, Execution, Worker, has_stopped}
use Rattle.holding_steps.specs.of_protocol.Steps.{WorkerContext}
use Rattle.holding_steps.specs.of_protocol.Runs.{begins_run, is_free, push_reached}
use Rattle.holding_steps.specs.of_protocol.Deliveries.{reached}
use Rattle.holding_steps.specs.of_protocol.Notices.{notice_node_step, notice_step}
use Rattle.holding_steps.specs.of_protocol.Releases.{release_step}
use Rattle.holding_steps.specs.of_protocol.Ticks.{tick_step}
use Rattle.protocol_owed.specs.Courses.{IsOut}
use Rattle.protocol_owed.proofs.RunMoves.{IsHeard, IsHeardFrom, IsKept, notice_node_step-kept, notice_step-kept, reached-kept, release_step-kept, tick_step-kept}
use Rattle.protocol_owed.specs.Told.{pace_in}
use Rattle.protocol_laws.specs.Sound.{IsOutAs}

out_of_pace : (j : ℕ) (p : Phase) → pace_in p ≡ IsOut j → p ≡ Out j
out_of_pace j Ready h = absurd (cc)
out_of_pace j (Out i) h = cc
out_of_pace j (Waits y f) h = absurd (cc)
out_of_pace j (HasEnded c) h = absurd (cc)
out_of_pace j (HasFaulted f) h = absurd (cc)

waits_apart : (j : ℕ) (y : Id) (f : Option Fetching) → Out j ≡ Waits y f → ⊥
waits_apart j y f e = cc

module _ (j : ℕ) where
  abbrev Stays : WorkerContext → Type 0
  Stays h = IsOutAs j h.worker

  -- of the worker's attempt, that it is out
  phase_of : (x : Worker) (run : Execution) → x.run ≡ Some run → IsOutAs j x → run.phase ≡ Out j
  phase_of x run e p = ap (λ (r : Execution). r.phase) (same_Some run p.0 (sym e ∙ p.1)) ∙ p.2

  kept : IsKept (λ w a. Unit {0}) (λ a. Unit {0}) Stays
  kept = record {
    logs_plain = λ h es e p. p;
    says_plain = λ h w m e p. p;
    says_plain_to_node = λ h n m e p. p;
    objects = λ h x n l r b p. (p.0, r ∙ p.1, p.2);
    store = λ h s p. p;
    frees = λ h p. p;
    asks = λ h p. p;
    run = λ h run next e a p. (next, refl, out_of_pace j next.phase (a.pace ∙ ap pace_in (phase_of h.worker run e p)));
    leaves = λ h run next e stopped a q o p. absurd (false≢true (sym (ap has_stopped (phase_of h.worker run e p)) ∙ stopped));
    gets = λ h run c y f e q p. absurd (waits_apart j y f (sym (phase_of h.worker run e p) ∙ q));
    faults = λ h run f y g e q p. absurd (waits_apart j y g (sym (phase_of h.worker run e p) ∙ q));
    tells_end = λ h run n rs e o p. p;
    tells_fault = λ h run f e o p. p;
    back = λ h run e o p. p;
    hears = λ h w a t p. p;
    back_of = λ h n a t p. p;
  }

  abbrev Told : ℕ → Attempt → Type 0
  Told w a = Unit {0}

  abbrev Heard : Attempt → Type 0
  Heard a = Unit {0}

  pub out_at_tick : (h : WorkerContext) → IsOutAs j h.worker → IsOutAs j (tick_step h).worker
  out_at_tick h p = tick_step-kept Told Heard Stays kept h p

  pub out_at_notice : (h : WorkerContext) (v : ℕ) → IsOutAs j h.worker → IsOutAs j (notice_step h v).worker
  out_at_notice h v p = notice_step-kept Told Heard Stays kept h v p

  pub out_at_node_notice : (h : WorkerContext) (n : ℕ) → IsOutAs j h.worker → IsOutAs j (notice_node_step h n).worker
  out_at_node_notice h n p = notice_node_step-kept Told Heard Stays kept h n p

  pub out_at_release : (h : WorkerContext) → IsOutAs j h.worker → IsOutAs j (release_step h).worker
  out_at_release h p = release_step-kept Told Heard Stays kept h p

  -- a Push begins nothing on a worker whose attempt isn't over
  pushed : (h : WorkerContext) (a : Attempt) (spec : Birth) → ((run : Execution) → h.worker.run ≡ Some run → run.is_over ≡ true → has_stopped run.phase ≡ true) → IsOutAs j h.worker → IsOutAs j (push_reached h a spec).worker
  pushed h a spec over p = subst (λ b. IsOutAs j (if b && not (list_any (λ c. same_attempt c a) h.worker.began) then begins_run h a spec else h).worker) (sym busy) p
    where
      going : (b : Bool) → p.0.is_over ≡ b → p.0.is_over ≡ false
      going true e = absurd (false≢true (sym (ap has_stopped p.2) ∙ over p.0 p.1 e))
      going false e = e

      busy : is_free h.worker.run ≡ false
      busy = ap is_free p.1 ∙ going p.0.is_over refl

  heard : (h : WorkerContext) (w : ℕ) (m : Message) → ((run : Execution) → h.worker.run ≡ Some run → run.is_over ≡ true → has_stopped run.phase ≡ true) → IsOutAs j h.worker → IsHeard Told Heard Stays kept h w m
  heard h w (Push a spec) over p = pushed h a spec over p
  heard h w (Finished a n rs) over p = tt
  heard h w (Failed a f) over p = tt
  heard h w (FinishedAck a) over p = tt
  heard h w (Ask a t) over p = tt
  heard h w (Give a t v) over p = tt
  heard h w (Elsewhere a t n) over p = tt
  heard h w (Wait a t) over p = tt
  heard h w (Back a) over p = tt
  heard h w (Where o) over p = tt
  heard h w (At o n ns content) over p = tt
  heard h w (Gone o f) over p = tt
  heard h w (Fetch o n) over p = tt
  heard h w (CopyOf o n c) over p = tt
  heard h w (Missing o n m) over p = tt
  heard h w (Hold e o) over p = tt
  heard h w (HoldAck e o) over p = tt
  heard h w (Unhold e o why) over p = tt

  heard_from : (h : WorkerContext) (from : Endpoint) (m : Message) → ((run : Execution) → h.worker.run ≡ Some run → run.is_over ≡ true → has_stopped run.phase ≡ true) → IsOutAs j h.worker → IsHeardFrom Told Heard Stays kept h from m
  heard_from h (TheWorker w) m over p = heard h w m over p
  heard_from h (TheNode n) m over p = tt

  pub out_at_message : (h : WorkerContext) (from : Endpoint) (m : Message) → ((run : Execution) → h.worker.run ≡ Some run → run.is_over ≡ true → has_stopped run.phase ≡ true) → IsOutAs j h.worker → IsOutAs j (reached h from m).worker
  out_at_message h from m over p = reached-kept Told Heard Stays kept h from m (heard_from h from m over p) p
