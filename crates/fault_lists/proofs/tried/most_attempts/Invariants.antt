use Rattle.std.proofs.Common.{◌≡◌, drop}
use Rattle.fault_lists.specs.Tables.{most_from}
use Rattle.fault_lists.proofs.tried.most_attempts.Given as goal

-- the greatest so far goes into the greatest of the rest
abbrev pub invariant-loop-one : goal.invariant-loop-one
invariant-loop-one l = most_from 0 l.tried ≡ most_from l.most (drop l.one-index l.tried)
