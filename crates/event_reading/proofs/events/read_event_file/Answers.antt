use Rattle.std.proofs.Common.{rules, true, false}
use Rattle.event_reading.proofs.Reading.{at_first, behind_refused, history_kept, lines_kept, lines_refused}
use Rattle.event_reading.proofs.events.read_event_file.Goals as goal

pub returns-in_err-kept-clause-refused : goal.returns-in_err-kept-clause-refused
returns-in_err-kept-clause-refused g c =
    let taken = at_first _ _ c.new-ahead.result.items c.in_ok-is_header_taken.field-0 true c.new-ahead.ensures.items c.if-branch.true c.in_ok-is_header_taken.ensures.taken in
    let why = behind_refused _ _ _ _ taken c.in_err-kept.ensures.refused in
    search (rules, why)

pub returns-then-branch-clause-read : goal.returns-then-branch-clause-read
returns-then-branch-clause-read g c =
    let taken = at_first _ _ c.new-ahead.result.items c.in_ok-is_header_taken.field-0 true c.new-ahead.ensures.items c.if-branch.true c.in_ok-is_header_taken.ensures.taken in
    history_kept _ _ c.in_ok-kept.kept taken c.in_ok-kept.ensures.read

pub returns-in_err-kept-2-clause-refused : goal.returns-in_err-kept-2-clause-refused
returns-in_err-kept-2-clause-refused g c =
    let taken = at_first _ _ c.new-ahead.result.items c.in_ok-is_header_taken.field-0 false c.new-ahead.ensures.items c.if-branch.false c.in_ok-is_header_taken.ensures.taken in
    let why = lines_refused _ _ _ _ taken c.in_err-kept-2.ensures.refused in
    search (rules, why)

pub returns-clause-read : goal.returns-clause-read
returns-clause-read g c =
    let taken = at_first _ _ c.new-ahead.result.items c.in_ok-is_header_taken.field-0 false c.new-ahead.ensures.items c.if-branch.false c.in_ok-is_header_taken.ensures.taken in
    lines_kept _ _ c.in_ok-kept-2.kept taken c.in_ok-kept-2.ensures.read
