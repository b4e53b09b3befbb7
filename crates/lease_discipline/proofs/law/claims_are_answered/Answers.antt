use Rattle.lease_discipline.proofs.Told.{claims_are_answered}
use Rattle.lease_discipline.proofs.law.claims_are_answered.Goals as goal

pub returns : goal.returns
returns c = claims_are_answered
