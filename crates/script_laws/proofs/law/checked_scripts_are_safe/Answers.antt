use Rattle.script_laws.proofs.Safety.{are_safe}
use Rattle.script_laws.proofs.law.checked_scripts_are_safe.Goals as goal

pub returns : goal.returns
returns c = are_safe
