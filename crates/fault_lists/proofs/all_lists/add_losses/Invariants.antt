use Rattle.fault_lists.specs.Firsts.{Adds}
use Rattle.fault_lists.specs.Lists.{losses}
use Rattle.fault_lists.proofs.all_lists.add_losses.Given as goal

abbrev pub invariant-loop-number : goal.invariant-loop-number
invariant-loop-number l = Adds l.fn.lists (losses l.place l.object l.number) l.lists
