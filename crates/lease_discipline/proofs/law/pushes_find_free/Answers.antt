use Rattle.lease_discipline.proofs.Laws.{pushes_find_free}
use Rattle.lease_discipline.proofs.law.pushes_find_free.Goals as goal

pub returns : goal.returns
returns c = pushes_find_free
