use Rattle.job_laws.proofs.Standing.{claims_give_jobs_out, one_is_out}
use Rattle.job_laws.proofs.law.claims_give_jobs_out.Goals as goal

pub returns-clause-one : goal.returns-clause-one
returns-clause-one c = one_is_out

pub returns-clause-given : goal.returns-clause-given
returns-clause-given c = claims_give_jobs_out
