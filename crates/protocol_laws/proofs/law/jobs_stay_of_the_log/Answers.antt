use Rattle.protocol_laws.proofs.Given.{jobs_stay_of_the_log}
use Rattle.protocol_laws.proofs.law.jobs_stay_of_the_log.Goals as goal

pub returns : goal.returns
returns c = jobs_stay_of_the_log
