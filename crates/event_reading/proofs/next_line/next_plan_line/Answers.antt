use Rattle.std.proofs.Common.{subst}
use Rattle.event_files.specs.Plans.{IsPlanLine, plan_line_in, plan_line_text}
use Rattle.event_files.proofs.Readers.{reads_plans}
use Rattle.event_reading.specs.Known.{IfKnown, left_of}
use Rattle.event_reading.specs.Rows.{IsNextRow}
use Rattle.event_reading.proofs.Saying.{plan_short, long_bad, said_next, unended_bad}
use Rattle.event_reading.proofs.next_line.next_plan_line.Goals as goal

pub returns-in-Whole-clause-next : goal.returns-in-Whole-clause-next
returns-in-Whole-clause-next g c =
    let row = subst (λ w. IfKnown (left_of c.args.ahead.now.items (g.R.Source.left c.args.reader.now))
    (left_of c.next_row.new.ahead.items (g.R.Source.left c.next_row.new.reader)) (IsNextRow 70 w)) c.in-Whole.is c.in_ok-next_row.ensures.row in
    said_next IsPlanLine plan_line_text plan_line_in reads_plans _ _ c.in-Whole.line.items c.as_slice.result.now c.said_plan_line.result c.as_slice.ensures.value row c.said_plan_line.ensures

pub returns-in-Unended-clause-next : goal.returns-in-Unended-clause-next
returns-in-Unended-clause-next g c =
    let row = subst (λ w. IfKnown (left_of c.args.ahead.now.items (g.R.Source.left c.args.reader.now))
    (left_of c.next_row.new.ahead.items (g.R.Source.left c.next_row.new.reader)) (IsNextRow 70 w)) c.in-Unended.is c.in_ok-next_row.ensures.row in
    unended_bad IsPlanLine plan_line_text _ _ row

pub returns-in-Long-clause-next : goal.returns-in-Long-clause-next
returns-in-Long-clause-next g c =
    let row = subst (λ w. IfKnown (left_of c.args.ahead.now.items (g.R.Source.left c.args.reader.now))
    (left_of c.next_row.new.ahead.items (g.R.Source.left c.next_row.new.reader)) (IsNextRow 70 w)) c.in-Long.is c.in_ok-next_row.ensures.row in
    long_bad IsPlanLine plan_line_text _ _ _ plan_short row
