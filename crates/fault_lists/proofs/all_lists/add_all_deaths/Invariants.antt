use Rattle.std.proofs.Common.{take}
use Rattle.std.specs.List.{flat_map}
use Rattle.fault_lists.specs.Firsts.{Adds}
use Rattle.fault_lists.specs.Lists.{deaths}
use Rattle.fault_lists.proofs.all_lists.add_all_deaths.Given as goal

abbrev pub invariant-loop-worker : goal.invariant-loop-worker
invariant-loop-worker l = Adds l.fn.lists (flat_map (deaths l.choice l.place) (take l.worker-index l.workers)) l.lists
