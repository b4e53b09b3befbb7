use Rattle.owed_asks.proofs.Laws.{gives_are_begun}
use Rattle.owed_asks.proofs.law.gives_are_begun.Goals as goal

pub returns : goal.returns
returns c = gives_are_begun
