use Rattle.std.proofs.Common.{◌≡◌, ◌++◌, drop}
use Rattle.commit_steps.proofs.commits.add_prints.Given as goal

abbrev pub invariant-loop-value : goal.invariant-loop-value
invariant-loop-value l = l.prints ++ drop l.value-index l.value-items ≡ l.initial.prints ++ l.value-items
