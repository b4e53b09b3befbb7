use Rattle.std.proofs.Common.{◌≡◌, ◌++◌, drop}
use Rattle.commit_steps.proofs.commits.add_births.Given as goal

abbrev pub invariant-loop-birth : goal.invariant-loop-birth
invariant-loop-birth l = l.births ++ drop l.birth-index l.birth-items ≡ l.initial.births ++ l.birth-items
