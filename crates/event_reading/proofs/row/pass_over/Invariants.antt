use Rattle.std.proofs.Common.{◌≡◌}
use Rattle.event_reading.specs.Known.{IfKnown, left_of}
use Rattle.event_reading.proofs.Going.{IsPassedOver}
use Rattle.event_reading.proofs.row.pass_over.Given as goal

-- no read failed, and what was read belongs to a line that is passed over
abbrev pub invariant-loop-count : goal.invariant-loop-count
invariant-loop-count g l =
    (g.R.Source.failures l.reader ≡ g.R.Source.failures l.initial.reader) ×
    IfKnown (left_of l.initial.ahead.items (g.R.Source.left l.initial.reader)) (left_of l.ahead.items (g.R.Source.left l.reader)) IsPassedOver
