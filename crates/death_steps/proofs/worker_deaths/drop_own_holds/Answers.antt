use Rattle.std.proofs.Common.{◌≡◌, OnOk, subst}
use Rattle.protocol.specs.Runs.{leaves_if_free}
use Rattle.death_steps.proofs.worker_deaths.drop_own_holds.Goals as goal

pub returns-clause-done : goal.returns-clause-done
returns-clause-done c = λ run e.
    subst (λ g. OnOk c.leave_if_free.result (c.leave_if_free.new.here ≡ leaves_if_free g)) (c.in_ok-keep_holds_of_others.ensures.done run e) c.leave_if_free.ensures.done
