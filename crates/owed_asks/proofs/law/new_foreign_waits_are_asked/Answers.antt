use Rattle.owed_asks.proofs.Needs.{new_foreign_waits_are_asked}
use Rattle.owed_asks.proofs.law.new_foreign_waits_are_asked.Goals as goal

pub returns : goal.returns
returns c = new_foreign_waits_are_asked
