use Rattle.std.proofs.Common.{◌≡◌, OnOk, ap, subst, ◌∙◌}
use Rattle.protocol.specs.Ticks.{sends_run}
use Rattle.worker_acts.proofs.Sendings.{tasks_keep}
use Rattle.worker_acts.proofs.ticks.tick_step.Goals as goal

pub returns-clause-done : goal.returns-clause-done
returns-clause-done c =
    let h = c.args.here.now in
    let sent = c.in_ok-send_tasks.ensures.done in
    let run = ap (λ g. g.worker.run) sent ∙ ap (λ w. w.run) (tasks_keep h) in
    subst (λ g. OnOk c.send_run.result (c.send_run.new.here ≡ sends_run g h.worker.run)) sent
    (subst (λ r. OnOk c.send_run.result (c.send_run.new.here ≡ sends_run c.send_tasks.new.here r)) run c.send_run.ensures.done)
