use Rattle.step_laws.proofs.Delivered.{one_first}
use Rattle.step_laws.proofs.law.there_is_one_first.Goals as goal

pub returns : goal.returns
returns c = one_first
