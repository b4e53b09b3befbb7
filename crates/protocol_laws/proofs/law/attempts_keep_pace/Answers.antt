use Rattle.protocol_laws.proofs.Pace.{attempts_keep_pace}
use Rattle.protocol_laws.proofs.law.attempts_keep_pace.Goals as goal

pub returns : goal.returns
returns c = attempts_keep_pace
