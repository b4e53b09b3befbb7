use Rattle.protocol_laws.proofs.Shown.{refusals_are_shown}
use Rattle.protocol_laws.proofs.law.refusals_are_shown.Goals as goal

pub returns : goal.returns
returns c = refusals_are_shown
