use Rattle.std.proofs.Common.{◌≡◌, OnOk, ap, subst, sym, ◌∙◌}
use Rattle.protocol.specs.Ticks.{sends_run}
use Rattle.worker_acts.proofs.ticks.send_run.Goals as goal

pub returns-in-Some-clause-done : goal.returns-in-Some-clause-done
returns-in-Some-clause-done c =
    let there = ap (λ w. w.run) (sym c.deref.ensures) ∙ c.in-Some.is in
    subst (λ r. OnOk c.send_own.result (c.send_own.new.here ≡ sends_run c.args.here.now r)) (sym there) (c.send_own.ensures.done c.in-Some.field-0 there)
