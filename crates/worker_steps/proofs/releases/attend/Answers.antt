use Rattle.std.proofs.Common.{length, subst}
use Rattle.protocol_data.specs.Unneeded.{AllStay}
use Rattle.worker_steps.proofs.Looking.{none_goes}
use Rattle.worker_steps.proofs.releases.attend.Goals as goal

pub returns-clause-none : goal.returns-clause-none
returns-clause-none c it =
    let objects = c.attend.new.self in
    none_goes (record c.args.worker.now { objects = objects }) 0 (length objects)
    (subst (λ a. AllStay objects 0 (length objects) a) c.going_on-attempt.ensures (c.attend.ensures.rest it))
