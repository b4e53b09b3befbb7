use Rattle.lease_discipline.proofs.Laws.{events_keep_leases}
use Rattle.lease_discipline.proofs.law.events_keep_leases.Goals as goal

pub returns : goal.returns
returns c = events_keep_leases
