use Rattle.std.proofs.Common.{◌≡◌}
use Rattle.event_files.specs.Recorded.{IsRecorded, recorded_text}
use Rattle.event_reading.specs.Files.{each_is_event}
use Rattle.event_reading.specs.Known.{IfKnown, left_of}
use Rattle.event_reading.proofs.Reading.{IsReading}
use Rattle.event_reading.proofs.history.events_left.Given as goal

-- no read failed, and the lines before the rest are read, from line 2 on
abbrev pub invariant-loop-number : goal.invariant-loop-number
invariant-loop-number g l =
    (g.R.Source.failures l.reader ≡ g.R.Source.failures l.initial.reader) ×
    IfKnown (left_of l.initial.ahead.items (g.R.Source.left l.initial.reader)) (left_of l.ahead.items (g.R.Source.left l.reader))
    (IsReading each_is_event IsRecorded recorded_text 2 l.kept l.number)
