use Rattle.lease_discipline.proofs.AskLaw.{law_of_last_asks}
use Rattle.lease_discipline.proofs.law.law_of_last_asks.Goals as goal

pub returns : goal.returns
returns c = law_of_last_asks
