use Rattle.owed_asks.proofs.Laws.{elsewheres_are_asked}
use Rattle.owed_asks.proofs.law.elsewheres_are_asked.Goals as goal

pub returns : goal.returns
returns c = elsewheres_are_asked
