-- How a stopped attempt is left.
use Rattle.std.proofs.Common.{◌≡◌, Bool, true, false, Some, if◌then◌else◌, refl, sym, ap, ◌∙◌}
use Rattle.protocol_data.specs.of_event_log.Entries.{main_attempt}
use Rattle.protocol_data.specs.of_event_log.Words.{same_attempt}
use Rattle.protocol.specs.Tables.{Execution, HasEnded, HasFaulted, Out, Phase, Ready, Waits, knows_dead, owner_of}
use Rattle.protocol.specs.Steps.{WorkerContext, with_run}
use Rattle.protocol.specs.Runs.{is_heard, leaves, tells, tells_stop}

-- what is told of the attempt leaves it as it was
pub run_stays : (h : WorkerContext) (run : Execution) (p : Phase) → (tells_stop h run p).worker.run ≡ h.worker.run
run_stays h run Ready = refl
run_stays h run (Out n) = refl
run_stays h run (Waits y fetching) = refl
run_stays h run (HasEnded cs) = refl
run_stays h run (HasFaulted f) = refl

-- the attempt that stands there is put there
own_run : (h : WorkerContext) (run : Execution) → h.worker.run ≡ Some run → with_run h run ≡ h
own_run h run e = ap (λ o. record h { worker = record h.worker { run = o } }) (sym e)

-- an attempt that isn't main's is left by what its owner is told, whom a dead one counts as having heard
pub leaves_told : (h : WorkerContext) (run : Execution) (dead : Bool) → h.worker.run ≡ Some run → same_attempt run.attempt main_attempt ≡ false → knows_dead h.worker (owner_of run) ≡ dead
    → (if dead then is_heard (tells_stop h run run.phase) run else tells_stop h run run.phase) ≡ leaves h run
leaves_told h run dead e f g =
    ap (λ k. if dead then is_heard (tells_stop k run run.phase) run else tells_stop k run run.phase) (sym (own_run h run e))
    ∙ ap (λ b. if b then is_heard (tells h run) run else tells h run) (sym g)
    ∙ ap (λ b. if b then with_run h (record run { is_acknowledged = true }) else if knows_dead h.worker (owner_of run) then is_heard (tells h run) run else tells h run) (sym f)

pub same_some : {X : Type 0} (x y : X) → Some x ≡ Some y → x ≡ y
same_some x y e = cc
