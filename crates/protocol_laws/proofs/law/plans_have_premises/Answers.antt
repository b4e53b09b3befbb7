use Rattle.protocol_laws.proofs.Plans.{plans_have_premises}
use Rattle.protocol_laws.proofs.law.plans_have_premises.Goals as goal

pub returns : goal.returns
returns c = plans_have_premises
