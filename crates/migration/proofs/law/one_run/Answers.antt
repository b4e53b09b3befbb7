use Rattle.migration.proofs.Alike.{one_run}
use Rattle.migration.proofs.law.one_run.Goals as goal

pub returns : goal.returns
returns c = one_run
