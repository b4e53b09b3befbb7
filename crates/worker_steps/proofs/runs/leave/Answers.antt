use Rattle.std.proofs.Common.{◌≡◌, OnOk, true, false, sym, ap, ◌∙◌, subst}
use Rattle.std.specs.Option.{option_map}
use Rattle.protocol_data.specs.of_event_log.Entries.{main_attempt}
use Rattle.protocol_data.specs.of_event_log.Words.{same_attempt}
use Rattle.protocol.specs.Tables.{knows_dead}
use Rattle.protocol.specs.Runs.{is_heard}
use Rattle.worker_steps.proofs.Leaving.{leaves_told, run_stays, same_some}
use Rattle.worker_steps.proofs.runs.leave.Goals as goal

-- its owner is told, whom a dead one counts as having heard
pub returns-then-is_dead-clause-done : goal.returns-then-is_dead-clause-done
returns-then-is_dead-clause-done c run e =
    let h = c.args.here.now in
    let a = c.in-Some.attempt in
    let same : a ≡ run.attempt = same_some a run.attempt (sym c.in-Some.is ∙ c.attempt_of.ensures ∙ ap (option_map (λ r. r.attempt)) e) in
    let other : same_attempt run.attempt main_attempt ≡ false = ap (λ x. same_attempt x main_attempt) (sym same) ∙ ap (λ m. same_attempt a m) (sym c.main_attempt.ensures) ∙ sym c.if-is.ensures in
    let dead = ap (λ x. knows_dead h.worker x.object.owner) (sym same) ∙ sym c.if-is_dead.ensures in
    let told = c.in_ok-tell_stop.ensures.done run e in
    let stays = ap (λ g. g.worker.run) told ∙ run_stays h run run.phase ∙ e in
    subst (λ g. OnOk c.note_heard.result (c.note_heard.new.here ≡ g)) (ap (λ g. is_heard g run) told ∙ leaves_told h run true e other dead)
    (c.note_heard.ensures.done run stays)

pub returns-clause-done : goal.returns-clause-done
returns-clause-done c run e =
    let h = c.args.here.now in
    let a = c.in-Some.attempt in
    let same : a ≡ run.attempt = same_some a run.attempt (sym c.in-Some.is ∙ c.attempt_of.ensures ∙ ap (option_map (λ r. r.attempt)) e) in
    let other : same_attempt run.attempt main_attempt ≡ false = ap (λ x. same_attempt x main_attempt) (sym same) ∙ ap (λ m. same_attempt a m) (sym c.main_attempt.ensures) ∙ sym c.if-is.ensures in
    let dead = ap (λ x. knows_dead h.worker x.object.owner) (sym same) ∙ sym c.if-is_dead.ensures in
    c.in_ok-tell_stop.ensures.done run e ∙ leaves_told h run false e other dead
