use Rattle.std.proofs.Common.{◌≡◌, OnOk, ap, if◌then◌else◌, subst, sym, true, ◌∙◌}
use Rattle.protocol.specs.Notices.{is_unheard}
use Rattle.protocol.specs.Runs.{tells_stop}
use Rattle.worker_acts.proofs.ticks.send_stop.Goals as goal

pub returns-then-is_unheard-clause-done : goal.returns-then-is_unheard-clause-done
returns-then-is_unheard-clause-done c = λ run e.
    let h = c.args.here.now in
    let known = c.in-Some.is in
    let same : run ≡ c.in-Some.run' = cc in
    let unheard : is_unheard run ≡ true = ap is_unheard same ∙ sym c.is_unheard.ensures ∙ c.if-is_unheard.true in
    subst (λ b. OnOk c.tell_stop.result (c.tell_stop.new.here ≡ (if b then tells_stop h run run.phase else h))) (sym unheard) (c.tell_stop.ensures.done run e)
