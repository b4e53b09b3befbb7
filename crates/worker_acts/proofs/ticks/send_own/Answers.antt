use Rattle.std.proofs.Common.{◌≡◌, OnOk, ap, subst, ◌∙◌}
use Rattle.protocol.specs.Ticks.{sends_holds, sends_stop}
use Rattle.worker_acts.proofs.Sendings.{again_keeps, holds_keep}
use Rattle.worker_acts.proofs.ticks.send_own.Goals as goal

pub returns-clause-done : goal.returns-clause-done
returns-clause-done c = λ run e.
    let h = c.args.here.now in
    let asked = c.in_ok-ask_again.ensures.done run e in
    let after_asks = ap (λ g. g.worker.run) asked ∙ ap (λ w. w.run) (again_keeps h run.phase) ∙ e in
    let held = c.in_ok-send_own_holds.ensures.done run after_asks in
    let after_holds = ap (λ g. g.worker.run) held ∙ ap (λ w. w.run) (holds_keep c.ask_again.new.here run.holds) ∙ after_asks in
    subst (λ g. OnOk c.send_stop.result (c.send_stop.new.here ≡ sends_stop (sends_holds g run.holds) run)) asked
    (subst (λ g. OnOk c.send_stop.result (c.send_stop.new.here ≡ sends_stop g run)) held (c.send_stop.ensures.done run after_holds))
