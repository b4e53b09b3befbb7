use Rattle.owed_asks.proofs.RightSlots.{slots_are_all_right}
use Rattle.owed_asks.proofs.law.slots_are_all_right.Goals as goal

pub returns : goal.returns
returns c = slots_are_all_right
