use Rattle.lease_discipline.proofs.Told.{events_stay_in_step}
use Rattle.lease_discipline.proofs.law.events_stay_in_step.Goals as goal

pub returns : goal.returns
returns c = events_stay_in_step
