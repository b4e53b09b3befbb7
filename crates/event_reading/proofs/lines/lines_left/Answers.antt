use Rattle.std.proofs.Common.{subst, sym, arith, rules, refl, ◌≡◌, ◌+◌, ◌∙◌}
use Rattle.event_files.specs.Lines.{IsLine, line_text}
use Rattle.event_files.specs.Reading.{line_in}
use Rattle.event_files.proofs.Readers.{reads_lines}
use Rattle.event_reading.specs.Files.{is_event_line}
use Rattle.event_reading.specs.Known.{IfKnown, left_of}
use Rattle.event_reading.specs.Rows.{IsNextLine, settled_by}
use Rattle.event_reading.proofs.Reading.{lines_stop, reading_begins, reading_is_bad, reading_ends, reading_passes, reading_says, room_begins, room_passes, room_says}
use Rattle.event_reading.proofs.lines.lines_left.Goals as goal

-- at the end, what is kept is what the lines say
pub returns-in-End-clause-read : goal.returns-in-End-clause-read
returns-in-End-clause-read g c =
    let next = subst (λ w. IfKnown (left_of c.loop-number.ahead.items (g.R.Source.left c.loop-number.reader))
    (left_of c.next_line.new.ahead.items (g.R.Source.left c.next_line.new.reader)) (IsNextLine IsLine line_text line_in w)) c.in-End.is c.in_ok-next_line.ensures.next in
    reading_ends is_event_line IsLine line_text line_in 1 c.loop-number.number c.loop-number.kept _ _ _ c.loop-number.invariant.1 next

-- a line that is none of the format is refused by its number
pub returns-in-Bad-clause-refused : goal.returns-in-Bad-clause-refused
returns-in-Bad-clause-refused g c =
    let next = subst (λ w. IfKnown (left_of c.loop-number.ahead.items (g.R.Source.left c.loop-number.reader))
    (left_of c.next_line.new.ahead.items (g.R.Source.left c.next_line.new.reader)) (IsNextLine IsLine line_text line_in w)) c.in-Bad.is c.in_ok-next_line.ensures.next in
    reading_is_bad is_event_line IsLine line_text line_in c.loop-number.number c.loop-number.kept _ _ _ c.loop-number.invariant.1 next

-- a line that is passed over adds nothing and takes no room
pub loop-number-preserved-in-Passed : goal.loop-number-preserved-in-Passed
loop-number-preserved-in-Passed g c =
    let next = subst (λ w. IfKnown (left_of c.loop-number.ahead.items (g.R.Source.left c.loop-number.reader))
    (left_of c.next_line.new.ahead.items (g.R.Source.left c.next_line.new.reader)) (IsNextLine IsLine line_text line_in w)) c.in-Passed.is c.in_ok-next_line.ensures.next in
    let room = subst (λ w. c.loop-number.room ≡ c.next_line.new.room + settled_by w) c.in-Passed.is c.in_ok-next_line.ensures.taken in (
      c.in_ok-next_line.ensures.unfailed ∙ c.loop-number.invariant.0,
      reading_passes is_event_line IsLine line_text line_in 1 c.loop-number.number c.loop-number.kept _ _ _ c.loop-number.invariant.1 next,
      room_passes c.loop-number.room c.next_line.new.room _ _ _ (omega (arith, room)) c.loop-number.invariant.2 next,
    )

-- a line that says something is kept, and takes room where it settles
pub loop-number-preserved : goal.loop-number-preserved
loop-number-preserved g c =
    let next = subst (λ w. IfKnown (left_of c.loop-number.ahead.items (g.R.Source.left c.loop-number.reader))
    (left_of c.next_line.new.ahead.items (g.R.Source.left c.next_line.new.reader)) (IsNextLine IsLine line_text line_in w)) c.in-Said.is c.in_ok-next_line.ensures.next in
    let room = subst (λ w. c.loop-number.room ≡ c.next_line.new.room + settled_by w) c.in-Said.is c.in_ok-next_line.ensures.taken in (
      c.in_ok-next_line.ensures.unfailed ∙ c.loop-number.invariant.0,
      reading_says is_event_line IsLine line_text line_in reads_lines 1 c.loop-number.number c.loop-number.kept c.keep.new.self c.in-Said.line _ _ _ c.loop-number.invariant.1 next (λ all numbers. c.in_ok-keep-in-Said.ensures.done is_event_line all numbers (sym c.is_event-counts.ensures)),
      room_says c.loop-number.room c.next_line.new.room c.in-Said.line _ _ _ room c.loop-number.invariant.2 next,
    )

pub loop-number-init : goal.loop-number-init
loop-number-init g c =
    (refl, reading_begins is_event_line IsLine line_text 1 c.new-kept.result _ (c.new-kept.ensures is_event_line), room_begins (left_of c.args.ahead.now.items (g.R.Source.left c.args.reader.now)))

-- a failed read, want of memory, and settle lines that are too long are refused as such
pub returns-in_err-next_line-clause-refused : goal.returns-in_err-next_line-clause-refused
returns-in_err-next_line-clause-refused g c =
    let why = lines_stop c.loop-number.room _ _ _ _ _ _ c.loop-number.invariant.0 c.loop-number.invariant.2 c.in_err-next_line.ensures.refused in
    search (rules, why)
