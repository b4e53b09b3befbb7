use Rattle.protocol_laws.proofs.Given.{runs_are_good}
use Rattle.protocol_laws.proofs.law.runs_are_good.Goals as goal

pub returns : goal.returns
returns c = runs_are_good
