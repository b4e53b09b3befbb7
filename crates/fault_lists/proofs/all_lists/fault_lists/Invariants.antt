use Rattle.std.proofs.Common.{◌≡◌, ◌++◌, ◌≤◌, List, drop}
use Rattle.faulted_history.specs.declared.fault_list.FaultList.{FaultList}
use Rattle.fault_lists.specs.Firsts.{Keeps}
use Rattle.fault_lists.specs.Lists.{fault_lists, lists_from}
use Rattle.fault_lists.proofs.all_lists.fault_lists.Given as goal

-- some lists so far, which with those of the rest of the log are all; of these the first are kept, and they are counted; and no more events came than entries
abbrev pub invariant-loop-k : goal.invariant-loop-k
invariant-loop-k l = record {
  all : List FaultList;
  found : all ++ lists_from l.choice l.place l.seen (drop l.k l.log) ≡ fault_lists l.choice l.nodes l.log;
  kept : Keeps l.lists all;
  most : l.lists.most ≡ l.most;
  few : l.place ≤ l.k;
}
