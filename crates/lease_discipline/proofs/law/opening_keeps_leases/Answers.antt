use Rattle.lease_discipline.proofs.Laws.{opening_keeps_leases}
use Rattle.lease_discipline.proofs.law.opening_keeps_leases.Goals as goal

pub returns : goal.returns
returns c = opening_keeps_leases
