use Rattle.std.proofs.Common.{◌≡◌, ◌*◌, ◌^◌, ◌≤◌, drop}
use Rattle.books.specs.Summing.{plus, sums_in, sums_of}
use Rattle.books.proofs.lines.sums_of.Given as goal

-- what was counted so far with what the rest of the log counts is all; and the numbers stay within their types
abbrev pub invariant-loop-place : goal.invariant-loop-place
invariant-loop-place l = record {
  found : plus (sums_in l.sums) (sums_of l.seat (drop l.place l.log)) ≡ sums_of l.seat l.log;
  count : l.sums.count ≤ l.place;
  sum : l.sums.sum ≤ l.place * 2 ^ 64;
}
