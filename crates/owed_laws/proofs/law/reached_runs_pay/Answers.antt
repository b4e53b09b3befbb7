use Rattle.owed_laws.proofs.Paid.{reached_goes_on, reached_pays}
use Rattle.owed_laws.proofs.law.reached_runs_pay.Goals as goal

pub returns-clause-goes_on : goal.returns-clause-goes_on
returns-clause-goes_on c = reached_goes_on

pub returns-clause-paid : goal.returns-clause-paid
returns-clause-paid c = reached_pays
