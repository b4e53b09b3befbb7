use Rattle.script_laws.proofs.KeptKinds.{law_of_kinds}
use Rattle.script_laws.proofs.law.law_of_kinds.Goals as goal

pub returns : goal.returns
returns c = law_of_kinds
