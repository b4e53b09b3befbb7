use Rattle.std.proofs.Common.{◌≡◌}
use Rattle.event_files.specs.Lines.{IsLine, line_text}
use Rattle.event_reading.specs.Files.{is_event_line}
use Rattle.event_reading.specs.Known.{IfKnown, left_of}
use Rattle.event_reading.proofs.Reading.{HasRoom, IsReading}
use Rattle.event_reading.proofs.lines.lines_left.Given as goal

-- no read failed, the lines before the rest are read, from line 1 on, and the room is what their settle lines leave
abbrev pub invariant-loop-number : goal.invariant-loop-number
invariant-loop-number g l =
    (g.R.Source.failures l.reader ≡ g.R.Source.failures l.initial.reader) ×
    IfKnown (left_of l.initial.ahead.items (g.R.Source.left l.initial.reader)) (left_of l.ahead.items (g.R.Source.left l.reader))
    (IsReading is_event_line IsLine line_text 1 l.kept l.number) ×
    IfKnown (left_of l.initial.ahead.items (g.R.Source.left l.initial.reader)) (left_of l.ahead.items (g.R.Source.left l.reader)) (HasRoom l.room)
