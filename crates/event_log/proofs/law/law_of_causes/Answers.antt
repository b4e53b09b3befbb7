use Rattle.event_log.proofs.CauseLaws.{law_of_causes}
use Rattle.event_log.proofs.law.law_of_causes.Goals as goal

pub returns : goal.returns
returns c = law_of_causes
