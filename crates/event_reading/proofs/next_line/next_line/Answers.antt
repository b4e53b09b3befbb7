use Rattle.std.proofs.Common.{rules, subst}
use Rattle.event_files.specs.Lines.{IsLine, line_text}
use Rattle.event_files.specs.Reading.{line_in}
use Rattle.event_files.proofs.Readers.{reads_lines}
use Rattle.event_reading.specs.Known.{IfKnown, left_of}
use Rattle.event_reading.specs.Rows.{IsNextRow}
use Rattle.event_reading.proofs.Saying.{said_next, said_over, unended_bad}
use Rattle.event_reading.proofs.next_line.next_line.Goals as goal

pub returns-in_ok-next-in-Whole-clause-next : goal.returns-in_ok-next-in-Whole-clause-next
returns-in_ok-next-in-Whole-clause-next g c =
    let row = subst (λ w. IfKnown (left_of c.args.ahead.now.items (g.R.Source.left c.args.reader.now))
    (left_of c.next_row.new.ahead.items (g.R.Source.left c.next_row.new.reader)) (IsNextRow 70 w)) c.in-Whole.is c.in_ok-next_row.ensures.row in
    said_next IsLine line_text line_in reads_lines _ _ c.in-Whole.line.items c.as_slice.result.now c.in_ok-next-in-Whole.next c.as_slice.ensures.value row
    c.in_ok-next-in-Whole.ensures.said

pub returns-in-Unended-clause-next : goal.returns-in-Unended-clause-next
returns-in-Unended-clause-next g c =
    let row = subst (λ w. IfKnown (left_of c.args.ahead.now.items (g.R.Source.left c.args.reader.now))
    (left_of c.next_row.new.ahead.items (g.R.Source.left c.next_row.new.reader)) (IsNextRow 70 w)) c.in-Unended.is c.in_ok-next_row.ensures.row in
    unended_bad IsLine line_text _ _ row

pub returns-in_err-next-in-Whole-clause-refused : goal.returns-in_err-next-in-Whole-clause-refused
returns-in_err-next-in-Whole-clause-refused g c =
    let row = subst (λ w. IfKnown (left_of c.args.ahead.now.items (g.R.Source.left c.args.reader.now))
    (left_of c.next_row.new.ahead.items (g.R.Source.left c.next_row.new.reader)) (IsNextRow 70 w)) c.in-Whole.is c.in_ok-next_row.ensures.row in
    let why = said_over c.args.room.now _ _ c.in-Whole.line.items c.as_slice.result.now
    (g.R.Source.failures c.args.reader.now, g.R.Source.failures c.next_row.new.reader) _ c.in_ok-next_row.ensures.unfailed
    c.as_slice.ensures.value row c.in_err-next-in-Whole.ensures.refused in
    search (rules, why)
