use Rattle.protocol_laws.proofs.Given.{claims_give_jobs_of_the_log}
use Rattle.protocol_laws.proofs.law.claims_give_jobs_of_the_log.Goals as goal

pub returns : goal.returns
returns c = claims_give_jobs_of_the_log
