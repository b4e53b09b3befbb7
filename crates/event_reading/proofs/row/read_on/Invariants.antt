use Rattle.std.proofs.Common.{◌≡◌, ◌+◌, ◌-◌, vec_len}
use Rattle.event_reading.specs.Known.{IfKnown, left_of}
use Rattle.event_reading.proofs.Going.{IsReadOn}
use Rattle.event_reading.proofs.row.read_on.Given as goal

-- no read failed, and what was read since is in the line
abbrev pub invariant-loop-reader : goal.invariant-loop-reader
invariant-loop-reader g l =
    (g.R.Source.failures l.reader ≡ g.R.Source.failures l.initial.reader) ×
    IfKnown (left_of l.initial.ahead.items (g.R.Source.left l.initial.reader)) (left_of l.ahead.items (g.R.Source.left l.reader))
    (IsReadOn l.initial.line.items l.line.items)

abbrev pub decreases-loop-reader : goal.decreases-loop-reader
decreases-loop-reader g l = l.most + 1 - vec_len l.line
