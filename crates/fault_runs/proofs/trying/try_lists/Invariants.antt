use Rattle.std.proofs.Common.{◌≡◌, map, take}
use Rattle.std.specs.List.{AllByRecursion}
use Rattle.fault_runs.specs.Replays.{IsTried, list_in}
use Rattle.fault_runs.proofs.trying.try_lists.Given as goal

-- the lists so far are those that were to be tried, each with what came of its replay
abbrev pub invariant-loop-list : goal.invariant-loop-list
invariant-loop-list g l = record {
  lists_are : map list_in l.all ≡ take l.list-index l.lists;
  each : AllByRecursion (IsTried g.S.ScriptName.script l.cluster l.events) l.all;
}
