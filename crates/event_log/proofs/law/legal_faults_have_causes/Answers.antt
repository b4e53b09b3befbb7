use Rattle.event_log.proofs.Causes.{legal_faults_have_causes}
use Rattle.event_log.proofs.law.legal_faults_have_causes.Goals as goal

pub returns : goal.returns
returns c = legal_faults_have_causes
