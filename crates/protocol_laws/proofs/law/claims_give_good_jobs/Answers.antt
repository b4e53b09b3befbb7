use Rattle.protocol_laws.proofs.Given.{claims_give_good_jobs}
use Rattle.protocol_laws.proofs.law.claims_give_good_jobs.Goals as goal

pub returns : goal.returns
returns c = claims_give_good_jobs
