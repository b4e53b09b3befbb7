use Rattle.script_check.proofs.Safe.{well_typed}
use Rattle.script_check.proofs.laws.checked_scripts_are_well_typed.Goals as goal

pub returns : goal.returns
returns c = well_typed
