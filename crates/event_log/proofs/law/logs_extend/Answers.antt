use Rattle.event_log.proofs.Extending.{logs_extend}
use Rattle.event_log.proofs.law.logs_extend.Goals as goal

pub returns : goal.returns
returns c = logs_extend
