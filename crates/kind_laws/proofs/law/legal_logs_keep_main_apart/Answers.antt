use Rattle.kind_laws.proofs.Mains.{legal_logs_keep_main_apart}
use Rattle.kind_laws.proofs.law.legal_logs_keep_main_apart.Goals as goal

pub returns : goal.returns
returns c = legal_logs_keep_main_apart
