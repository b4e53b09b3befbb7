use Rattle.std.proofs.Common.{◌≡◌, ◌≤◌, ◌++◌, drop, length}
use Rattle.std.specs.Prelude.{reverse}
use Rattle.event_reading.proofs.ahead.put_back.Given as goal

-- what is behind the place in the front was put back, before what was there
abbrev pub invariant-loop-at : goal.invariant-loop-at
invariant-loop-at l = (l.at ≤ length l.front) × (reverse l.ahead.items ≡ drop l.at l.front ++ reverse l.initial.ahead.items)

abbrev pub decreases-loop-at : goal.decreases-loop-at
decreases-loop-at l = l.at
