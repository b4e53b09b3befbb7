use Rattle.script_laws.proofs.Given.{law_of_ids}
use Rattle.script_laws.proofs.law.law_of_ids.Goals as goal

pub returns : goal.returns
returns c = law_of_ids
