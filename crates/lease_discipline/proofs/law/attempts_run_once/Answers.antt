use Rattle.lease_discipline.proofs.Told.{attempts_run_once}
use Rattle.lease_discipline.proofs.law.attempts_run_once.Goals as goal

pub returns : goal.returns
returns c = attempts_run_once
