use Rattle.std.proofs.Common.{◌≡◌}
use Rattle.event_reading.specs.Known.{IfKnown, left_of}
use Rattle.event_reading.proofs.Reading.{IsPlanRead}
use Rattle.event_reading.proofs.plan.plan_left.Given as goal

-- no read failed, and the lines before the rest are read
abbrev pub invariant-loop-number : goal.invariant-loop-number
invariant-loop-number g l =
    (g.R.Source.failures l.reader ≡ g.R.Source.failures l.initial.reader) ×
    IfKnown (left_of l.initial.ahead.items (g.R.Source.left l.initial.reader)) (left_of l.ahead.items (g.R.Source.left l.reader)) (IsPlanRead l.lines l.number)
