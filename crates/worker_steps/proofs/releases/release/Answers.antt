use Rattle.std.proofs.Common.{◌≡◌, ◌-◌, OnOk, subst}
use Rattle.worker_steps.proofs.Goings.{together}
use Rattle.worker_steps.proofs.releases.release.Goals as goal

pub returns-clause-done : goal.returns-clause-done
returns-clause-done c =
    let h = c.args.here.now in
    let marked = c.mark_released.new.here in
    let n = c.args.end - c.args.from in
    subst (λ g. OnOk c.let_all_go.result (c.let_all_go.new.here ≡ g))
    (together h marked c.log_released.new.here c.args.from n c.mark_released.ensures c.in_ok-log_released.ensures.done) c.let_all_go.ensures.done
