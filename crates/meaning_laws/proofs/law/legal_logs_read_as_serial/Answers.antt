use Rattle.meaning_laws.proofs.LogLaw.{legal_logs_read}
use Rattle.meaning_laws.proofs.law.legal_logs_read_as_serial.Goals as goal

pub returns : goal.returns
returns c = legal_logs_read
