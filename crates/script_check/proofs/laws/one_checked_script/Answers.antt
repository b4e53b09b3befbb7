use Rattle.script_check.proofs.Programs.{one_checked}
use Rattle.script_check.proofs.laws.one_checked_script.Goals as goal

pub returns : goal.returns
returns c = one_checked
