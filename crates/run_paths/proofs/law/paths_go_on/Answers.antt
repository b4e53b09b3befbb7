use Rattle.run_paths.proofs.Paths.{none_lead, one_more_leads}
use Rattle.run_paths.proofs.law.paths_go_on.Goals as goal

pub returns-clause-none : goal.returns-clause-none
returns-clause-none c = none_lead

pub returns-clause-one_more : goal.returns-clause-one_more
returns-clause-one_more c = one_more_leads
