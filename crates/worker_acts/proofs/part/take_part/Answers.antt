use Rattle.std.proofs.Common.{inr, subst}
use Rattle.worker_steps.specs.Looking.{SomeGoes}
use Rattle.worker_steps.proofs.Goings.{on_err}
use Rattle.worker_acts.proofs.part.take_part.Goals as goal

pub returns-clause-asked : goal.returns-clause-asked
returns-clause-asked c = on_err c.release_all.result (λ some. inr (subst (λ h. SomeGoes h.worker) c.in_ok-step.ensures.done some)) c.release_all.ensures.asked
