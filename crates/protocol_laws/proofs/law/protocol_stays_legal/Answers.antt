use Rattle.protocol_laws.proofs.Laws.{protocol_stays_legal}
use Rattle.protocol_laws.proofs.law.protocol_stays_legal.Goals as goal

pub returns : goal.returns
returns c = protocol_stays_legal
