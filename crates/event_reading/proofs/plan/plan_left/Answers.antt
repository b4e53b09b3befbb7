use Rattle.std.proofs.Common.{subst, refl, rules, ◌∙◌}
use Rattle.event_files.specs.Plans.{IsPlanLine, plan_line_in, plan_line_text}
use Rattle.event_reading.specs.Known.{IfKnown, left_of}
use Rattle.event_reading.specs.Rows.{IsNextLine}
use Rattle.event_reading.proofs.Reading.{plan_ends, plan_is_bad, plan_is_long, plan_passes, plan_says}
use Rattle.event_reading.proofs.plan.plan_left.Goals as goal

-- at the end, the lines so far are the plan's
pub returns-in-End-clause-read : goal.returns-in-End-clause-read
returns-in-End-clause-read g c =
    let next = subst (λ w. IfKnown (left_of c.loop-number.ahead.items (g.R.Source.left c.loop-number.reader))
    (left_of c.next_plan_line.new.ahead.items (g.R.Source.left c.next_plan_line.new.reader)) (IsNextLine IsPlanLine plan_line_text plan_line_in w))
    c.in-End.is c.in_ok-next_plan_line.ensures.next in
    plan_ends c.loop-number.number c.loop-number.lines _ _ _ c.loop-number.invariant.1 next

-- a line that is passed over adds nothing
pub loop-number-preserved-in-Passed : goal.loop-number-preserved-in-Passed
loop-number-preserved-in-Passed g c =
    let next = subst (λ w. IfKnown (left_of c.loop-number.ahead.items (g.R.Source.left c.loop-number.reader))
    (left_of c.next_plan_line.new.ahead.items (g.R.Source.left c.next_plan_line.new.reader)) (IsNextLine IsPlanLine plan_line_text plan_line_in w))
    c.in-Passed.is c.in_ok-next_plan_line.ensures.next in
    (c.in_ok-next_plan_line.ensures.unfailed ∙ c.loop-number.invariant.0, plan_passes c.loop-number.number c.loop-number.lines _ _ _ c.loop-number.invariant.1 next)

-- a line that is none of a plan is refused by its number
pub returns-in-Bad-clause-refused : goal.returns-in-Bad-clause-refused
returns-in-Bad-clause-refused g c =
    let next = subst (λ w. IfKnown (left_of c.loop-number.ahead.items (g.R.Source.left c.loop-number.reader))
    (left_of c.next_plan_line.new.ahead.items (g.R.Source.left c.next_plan_line.new.reader)) (IsNextLine IsPlanLine plan_line_text plan_line_in w))
    c.in-Bad.is c.in_ok-next_plan_line.ensures.next in
    plan_is_bad c.loop-number.number c.loop-number.lines _ _ _ c.loop-number.invariant.1 next

-- a line that says something is kept
pub loop-number-preserved : goal.loop-number-preserved
loop-number-preserved g c =
    let next = subst (λ w. IfKnown (left_of c.loop-number.ahead.items (g.R.Source.left c.loop-number.reader))
    (left_of c.next_plan_line.new.ahead.items (g.R.Source.left c.next_plan_line.new.reader)) (IsNextLine IsPlanLine plan_line_text plan_line_in w))
    c.in-Said.is c.in_ok-next_plan_line.ensures.next in
    (c.in_ok-next_plan_line.ensures.unfailed ∙ c.loop-number.invariant.0, plan_says c.loop-number.number c.loop-number.lines c.push.new.self c.in-Said.line _ _ _ (search rules) c.loop-number.invariant.1 next)

-- one line more than a plan may have is refused
pub returns-then-len-ge-MOST_PLANNED-clause-refused : goal.returns-then-len-ge-MOST_PLANNED-clause-refused
returns-then-len-ge-MOST_PLANNED-clause-refused g c =
    let next = subst (λ w. IfKnown (left_of c.loop-number.ahead.items (g.R.Source.left c.loop-number.reader))
    (left_of c.next_plan_line.new.ahead.items (g.R.Source.left c.next_plan_line.new.reader)) (IsNextLine IsPlanLine plan_line_text plan_line_in w))
    c.in-Said.is c.in_ok-next_plan_line.ensures.next in
    (refl, plan_is_long c.loop-number.number c.loop-number.lines c.in-Said.line _ _ _ (search rules) c.loop-number.invariant.1 next)
