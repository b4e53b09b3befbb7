use Rattle.event_log.proofs.SaneLaws.{legal_logs_are_sane}
use Rattle.event_log.proofs.law.legal_logs_are_sane.Goals as goal

pub returns : goal.returns
returns c = legal_logs_are_sane
