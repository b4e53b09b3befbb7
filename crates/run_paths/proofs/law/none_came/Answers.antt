use Rattle.run_paths.proofs.Opening.{none_came}
use Rattle.run_paths.proofs.law.none_came.Goals as goal

pub returns : goal.returns
returns c = none_came
