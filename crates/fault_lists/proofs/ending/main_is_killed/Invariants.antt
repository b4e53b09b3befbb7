use Rattle.std.proofs.Common.{◌≡◌, drop}
use Rattle.fault_lists.specs.Ends.{main_is_killed}
use Rattle.fault_lists.proofs.ending.main_is_killed.Given as goal

abbrev pub invariant-loop-place : goal.invariant-loop-place
invariant-loop-place l = main_is_killed l.log ≡ main_is_killed (drop l.place l.log)
