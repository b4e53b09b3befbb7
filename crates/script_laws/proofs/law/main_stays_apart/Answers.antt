use Rattle.script_laws.proofs.Mains.{main_stays_apart}
use Rattle.script_laws.proofs.law.main_stays_apart.Goals as goal

pub returns : goal.returns
returns c = main_stays_apart
