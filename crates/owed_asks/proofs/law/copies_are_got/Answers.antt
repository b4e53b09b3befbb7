use Rattle.owed_asks.proofs.Needs.{copies_are_got}
use Rattle.owed_asks.proofs.law.copies_are_got.Goals as goal

pub returns : goal.returns
returns c = copies_are_got
