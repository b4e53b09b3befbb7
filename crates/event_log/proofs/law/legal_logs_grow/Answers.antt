use Rattle.event_log.proofs.Growing.{legal_logs_grow}
use Rattle.event_log.proofs.law.legal_logs_grow.Goals as goal

pub returns : goal.returns
returns c = legal_logs_grow
