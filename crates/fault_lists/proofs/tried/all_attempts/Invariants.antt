use Rattle.std.proofs.Common.{◌≡◌, ◌+◌, ◌*◌, ◌^◌, ◌≤◌, drop}
use Rattle.fault_lists.specs.Tables.{all_attempts}
use Rattle.fault_lists.proofs.tried.all_attempts.Given as goal

-- the sum so far with that of the rest; and it stays within its type
abbrev pub invariant-loop-one : goal.invariant-loop-one
invariant-loop-one l = record {
  found : l.sum + all_attempts (drop l.one-index l.tried) ≡ all_attempts l.tried;
  few : l.sum ≤ l.one-index * 2 ^ 64;
}
