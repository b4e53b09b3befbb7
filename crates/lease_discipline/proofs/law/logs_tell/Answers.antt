use Rattle.lease_discipline.proofs.Told.{logs_tell}
use Rattle.lease_discipline.proofs.law.logs_tell.Goals as goal

pub returns : goal.returns
returns c = logs_tell
