-- A worker whose attempt is out as a job: none of its steps but a commit changes what the job is of.
use Rattle.std.proofs.Common.{◌≡◌, ℕ, Bool, true, false, Option, Some, refl, sym, ap, ◌∙◌, subst}
use Rattle.std.specs.Prelude.{◌&&◌, if◌then◌else◌, not}
use Rattle.std.specs.List.{filter, list_any}
use Rattle.std.proofs.lemmas.Option.{same_Some}
use Rattle.std.proofs.lemmas.Bool.{false≢true}
use Rattle.meaning.specs.Values.{Birth, Id, results_of}
use Rattle.event_log.specs.Entries.{Attempt}
use Rattle.event_log.specs.Words.{same_attempt}
use Rattle.protocol.specs.Answers.{job_of}
use Rattle.protocol.specs.Asking.{rests}
use Rattle.protocol.specs.Commits.{claim_by, claim_step}
use Rattle.protocol.specs.Deliveries.{reached}
use Rattle.protocol.specs.Jobs.{Job}
use Rattle.protocol.specs.Messages.{Message, Endpoint, TheNode, TheWorker, Ask, Give, Elsewhere, Wait, Back, Push, Finished, FinishedAck, Failed}
use Rattle.protocol.specs.Messages.{Where, At, Gone, Fetch, CopyOf, Missing, Hold, HoldAck, Unhold}
use Rattle.protocol.specs.Notices.{notice_node_step, notice_step}
use Rattle.protocol.specs.Releases.{release_step}
use Rattle.protocol.specs.Runs.{begins_run, is_free, leaves, leaves_if_free, push_reached}
use Rattle.protocol.specs.Sets.{is_empty}
use Rattle.protocol.specs.Steps.{WorkerContext, with_run, with_task_of}
use Rattle.protocol.specs.Tables.{Fetching, Out, Execution, Waits, Worker, has_stopped}
use Rattle.protocol.specs.Ticks.{tick_step}
use Rattle.smallest_steps.proofs.Over.{settles-kept}
use Rattle.smallest_steps.proofs.Smallest.{AnyTold, KeepsAccepted}
use Rattle.protocol_core.proofs.of_owed_replies.Moves.{finished_reached-kept, IsHeard, IsHeardFrom, IsKept, notice_node_step-kept, notice_step-kept, reached-kept, release_step-kept, tick_step-kept}

waits_apart : (j : ℕ) (y : Id) (f : Option Fetching) → Out j ≡ Waits y f → ⊥
waits_apart j y f e = cc

-- the worker's attempt is out as that job
pub record StandsOut (j : ℕ) (job : Job) (x : Worker) : Type 0 where
  pub run : Execution
  pub there : x.run ≡ Some run
  pub out : run.phase ≡ Out j
  pub same : job ≡ job_of j run

pub claim_out : (h : WorkerContext) (j : ℕ) (run : Execution) → h.worker.run ≡ Some run → StandsOut j (job_of j run) (claim_step h j).worker
claim_out h j run is =
    subst (λ r. StandsOut j (job_of j run) (claim_by h j r).worker) (sym is)
    (record { run = record run { phase = Out j }; there = refl; out = refl; same = refl })

-- an attempt that is over has stopped
abbrev pub StopsFirst : Worker → Type 0
StopsFirst x = (run : Execution) → x.run ≡ Some run → run.is_over ≡ true → has_stopped run.phase ≡ true

module _ (j : ℕ) (job : Job) where
  abbrev Stays : WorkerContext → Type 0
  Stays h = StandsOut j job h.worker

  phase_of : (x : Worker) (run : Execution) → x.run ≡ Some run → StandsOut j job x → run.phase ≡ Out j
  phase_of x run e p = ap (λ (r : Execution). r.phase) (same_Some run p.run (sym e ∙ p.there)) ∙ p.out

  next_out : (h : WorkerContext) (run next : Execution) → h.worker.run ≡ Some run → next.phase ≡ run.phase → job_of j next ≡ job_of j run → Stays h → Stays (with_run h next)
  next_out h run next e phase same p = record {
    run = next;
    there = refl;
    out = phase ∙ phase_of h.worker run e p;
    same = p.same ∙ ap (λ (r : Execution). job_of j r) (same_Some p.run run (sym p.there ∙ e)) ∙ sym same;
  }

  -- it goes on, so it isn't left
  stays_free : (h : WorkerContext) (run : Execution) → run.phase ≡ Out j → Stays (with_run h run) → Stays (leaves_if_free (with_run h run))
  stays_free h run out p =
      let g : WorkerContext = with_run h run in
      subst (λ b. Stays (if b && not run.is_over && is_empty run.holds then leaves g (record run { is_over = true }) else g)) (sym (ap has_stopped out)) p

  kept : IsKept Stays
  kept = record {
    writes = λ h es q p. p;
    says = λ h w m i p. p;
    says_to_node = λ h n m p. p;
    objects = λ h ys g p. record { run = p.run; there = p.there; out = p.out; same = p.same };
    passes = λ h ks p. record { run = p.run; there = p.there; out = p.out; same = p.same };
    deaths = λ h vs ns p. record { run = p.run; there = p.there; out = p.out; same = p.same };
    store = λ h s p. p;
    frees = λ h p. p;
    fetches = λ h run y f g e q p. absurd (waits_apart j y f (sym (phase_of h.worker run e p) ∙ q));
    heard = λ h run e p. next_out h run _ e refl refl p;
    gets = λ h run c y f e q p. absurd (waits_apart j y f (sym (phase_of h.worker run e p) ∙ q));
    faults = λ h run f y g e q p. absurd (waits_apart j y g (sym (phase_of h.worker run e p) ∙ q));
    acknowledged = λ h run test e p.
        let next : Execution = record run { holds = filter test run.holds } in
        stays_free h next (phase_of h.worker run e p) (next_out h run next e refl refl p);
  }

  pub out_at_tick : (h : WorkerContext) → Stays h → Stays (tick_step h)
  out_at_tick h p = tick_step-kept Stays kept h tt tt p

  pub out_at_notice : (h : WorkerContext) (v : ℕ) → Stays h → Stays (notice_step h v)
  out_at_notice h v p = notice_step-kept Stays kept h v p

  pub out_at_node_notice : (h : WorkerContext) (n : ℕ) → Stays h → Stays (notice_node_step h n)
  out_at_node_notice h n p = notice_node_step-kept Stays kept h n p

  pub out_at_release : (h : WorkerContext) → Stays h → Stays (release_step h)
  out_at_release h p = release_step-kept Stays kept h p

  -- a Push begins nothing on a worker whose attempt isn't over
  pushed : (h : WorkerContext) (a : Attempt) (spec : Birth) → StopsFirst h.worker → Stays h → Stays (push_reached h a spec)
  pushed h a spec over p =
      subst (λ b. Stays (if b && not (list_any (λ c. same_attempt c a) h.worker.began) then begins_run h a spec else h)) (sym busy) p
    where
      going : (b : Bool) → p.run.is_over ≡ b → p.run.is_over ≡ false
      going true e = absurd (false≢true (sym (ap has_stopped p.out) ∙ over p.run p.there e))
      going false e = e

      busy : is_free h.worker.run ≡ false
      busy = ap is_free p.there ∙ going p.run.is_over refl

  -- an accepted end changes objects only
  accepted : KeepsAccepted AnyTold Stays
  accepted h a task n rs w e _ _ p =
      settles-kept Stays (λ g o number m r q. record { run = q.run; there = q.there; out = q.out; same = q.same })
      (results_of task.spec) (with_task_of h a.object (rests task)) a.object a.number n rs
      (record { run = p.run; there = p.there; out = p.out; same = p.same })

  heard : (h : WorkerContext) (w : ℕ) (m : Message) → StopsFirst h.worker → Stays h → IsHeard Stays kept h w m
  heard h w (Push a spec) over p = pushed h a spec over p
  heard h w (Finished a n rs) over p = finished_reached-kept Stays kept AnyTold accepted h w a n rs tt p
  heard h w (Failed a f) over p = tt
  heard h w (FinishedAck a) over p = tt
  heard h w (Ask a t) over p = tt
  heard h w (Give a t v) over p = tt
  heard h w (Elsewhere a t n) over p = tt
  heard h w (Wait a t) over p = tt
  heard h w (Back a) over p = tt
  heard h w (Where o) over p = tt
  heard h w (At o n ns content) over p = tt
  heard h w (Gone o f) over p = tt
  heard h w (Fetch o n) over p = tt
  heard h w (CopyOf o n c) over p = tt
  heard h w (Missing o n m) over p = tt
  heard h w (Hold e o) over p = tt
  heard h w (HoldAck e o) over p = tt
  heard h w (Unhold e o why) over p = tt

  heard_from : (h : WorkerContext) (from : Endpoint) (m : Message) → StopsFirst h.worker → Stays h → IsHeardFrom Stays kept h from m
  heard_from h (TheWorker w) m over p = heard h w m over p
  heard_from h (TheNode n) m over p = tt

  pub out_at_message : (h : WorkerContext) (from : Endpoint) (m : Message) → StopsFirst h.worker → Stays h → Stays (reached h from m)
  out_at_message h from m over p = reached-kept Stays kept h from m (heard_from h from m over p) tt p
