use Rattle.fault_lists.specs.Firsts.{Adds}
use Rattle.fault_lists.specs.Lists.{node_deaths}
use Rattle.fault_lists.proofs.all_lists.add_node_deaths.Given as goal

abbrev pub invariant-loop-number : goal.invariant-loop-number
invariant-loop-number l = Adds l.fn.lists (node_deaths l.place l.number) l.lists
