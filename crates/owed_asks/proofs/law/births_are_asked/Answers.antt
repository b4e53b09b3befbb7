use Rattle.owed_asks.proofs.Laws.{births_are_asked}
use Rattle.owed_asks.proofs.law.births_are_asked.Goals as goal

pub returns : goal.returns
returns c = births_are_asked
