use Rattle.kind_laws.proofs.Laws.{legal_logs_keep}
use Rattle.kind_laws.proofs.law.legal_logs_keep_kinds.Goals as goal

pub returns : goal.returns
returns c = legal_logs_keep
