use Rattle.std.proofs.Common.{take}
use Rattle.std.specs.List.{flat_map}
use Rattle.fault_lists.specs.Firsts.{Adds}
use Rattle.fault_lists.specs.Lists.{evictions}
use Rattle.fault_lists.proofs.all_lists.add_all_evictions.Given as goal

abbrev pub invariant-loop-object : goal.invariant-loop-object
invariant-loop-object l = Adds l.fn.lists (flat_map (λ o. evictions l.place o l.nodes) (take l.object-index l.objects)) l.lists
