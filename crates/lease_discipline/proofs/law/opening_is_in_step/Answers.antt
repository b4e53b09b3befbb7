use Rattle.lease_discipline.proofs.Told.{opening_is_in_step}
use Rattle.lease_discipline.proofs.law.opening_is_in_step.Goals as goal

pub returns : goal.returns
returns c = opening_is_in_step
