use Rattle.fault_lists.specs.Firsts.{Adds}
use Rattle.fault_lists.specs.Lists.{evictions}
use Rattle.fault_lists.proofs.all_lists.add_evictions.Given as goal

abbrev pub invariant-loop-number : goal.invariant-loop-number
invariant-loop-number l = Adds l.fn.lists (evictions l.place l.object l.number) l.lists
