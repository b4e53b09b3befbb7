use Rattle.lease_discipline.proofs.Begins.{pushes_begin}
use Rattle.lease_discipline.proofs.law.pushes_begin.Goals as goal

pub returns : goal.returns
returns c = pushes_begin
