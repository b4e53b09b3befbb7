use Rattle.std.proofs.Common.{◌≡◌, ◌≤◌, ◌-◌, ◌++◌, vec_len}
use Rattle.event_reading.specs.Known.{IfKnown, left_of}
use Rattle.event_reading.proofs.ahead.begin.Given as goal

-- no read failed, and what was there at first is the front with what is still there
abbrev pub invariant-loop-reader : goal.invariant-loop-reader
invariant-loop-reader g l =
    (g.R.Source.failures l.reader ≡ g.R.Source.failures l.initial.reader) ×
    (vec_len l.front ≤ 9) ×
    IfKnown (left_of l.initial.ahead.items (g.R.Source.left l.initial.reader)) (left_of l.ahead.items (g.R.Source.left l.reader)) (λ b r. b ≡ l.front.items ++ r)

abbrev pub decreases-loop-reader : goal.decreases-loop-reader
decreases-loop-reader g l = 9 - vec_len l.front
