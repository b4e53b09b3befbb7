use Rattle.protocol_laws.proofs.Shown.{refusals_are_as_shown}
use Rattle.protocol_laws.proofs.law.refusals_are_as_shown.Goals as goal

pub returns : goal.returns
returns c = refusals_are_as_shown
