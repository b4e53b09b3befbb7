use Rattle.job_laws.proofs.Standing.{jobs_stand}
use Rattle.job_laws.proofs.law.jobs_stand.Goals as goal

pub returns : goal.returns
returns c = jobs_stand
