use Rattle.std.proofs.Common.{◌-◌, ◌≢◌, ◌≤◌, length, take, All}
use Rattle.raysim_explain.proofs.place.line_at.Given as goal

-- no byte so far is a line feed
abbrev pub invariant-loop-end : goal.invariant-loop-end
invariant-loop-end l = (l.end ≤ length l.rest) × All (λ b. b ≢ 10) (take l.end l.rest)

abbrev pub decreases-loop-end : goal.decreases-loop-end
decreases-loop-end l = length l.rest - l.end
