use Rattle.event_log.proofs.Growing.{entries_have_their_needs}
use Rattle.event_log.proofs.law.entries_have_their_needs.Goals as goal

pub returns : goal.returns
returns c = entries_have_their_needs
