use Rattle.std.proofs.Common.{◌≡◌, ◌≢◌, ◌+◌, length, true, false, None, sym, ◌∙◌, subst, arith}
use Rattle.std.proofs.lemmas.Bool.Decides.{nat_tests}
use Rattle.event_files.specs.Plans.{IsPlanLine, plan_line_text, plan_line_in}
use Rattle.event_files.specs.Files.{is_passed}
use Rattle.event_files.proofs.Rows.{IsReadTo, cut, shorter, goes_past, goes_with, bad_line, bad_end}
use Rattle.event_files.proofs.Readers.{reads_plans}
use Rattle.event_files.proofs.plan.parse_plan.Goals as goal

-- the first line that is neither passed over nor a plan's is refused by its number
pub returns-in_default-read_plan_line-clause-refused : goal.returns-in_default-read_plan_line-clause-refused
returns-in_default-read_plan_line-clause-refused c =
    let p = cut 10 c.loop-line.rest.now c.in-Some.line.now c.in-Some.after.now c.in-Some.ensures in
    let k : is_passed c.in-Some.line.now ≡ false = cc in
    let e : plan_line_in c.in-Some.line.now ≡ None = cc in
    bad_line IsPlanLine plan_line_text plan_line_in reads_plans c.args.text.now c.loop-line.rest.now c.in-Some.line.now c.in-Some.after.now c.loop-line.lines c.loop-line.number
    c.loop-line.invariant p k e

pub loop-line-smaller-in_ok-push : goal.loop-line-smaller-in_ok-push
loop-line-smaller-in_ok-push c = shorter 10 c.loop-line.rest.now c.in-Some.line.now c.in-Some.after.now c.in-Some.ensures

-- a line that says something is kept
pub loop-line-preserved-in_ok-push : goal.loop-line-preserved-in_ok-push
loop-line-preserved-in_ok-push c =
    let p = cut 10 c.loop-line.rest.now c.in-Some.line.now c.in-Some.after.now c.in-Some.ensures in
    let e = sym c.read_plan_line.ensures ∙ c.in-Some-read_plan_line.is in
    subst (λ z. IsReadTo IsPlanLine plan_line_text c.args.text.now c.in-Some.after.now z (c.loop-line.number + 1)) (sym c.in_ok-push.ensures.ok)
    (goes_with IsPlanLine plan_line_text plan_line_in reads_plans c.args.text.now c.loop-line.rest.now c.in-Some.line.now c.in-Some.after.now c.loop-line.lines
    c.loop-line.number _ c.loop-line.invariant p e)

pub loop-line-smaller : goal.loop-line-smaller
loop-line-smaller c = shorter 10 c.loop-line.rest.now c.in-Some.line.now c.in-Some.after.now c.in-Some.ensures

-- a line that is passed over adds nothing
pub loop-line-preserved : goal.loop-line-preserved
loop-line-preserved c =
    let p = cut 10 c.loop-line.rest.now c.in-Some.line.now c.in-Some.after.now c.in-Some.ensures in
    let k : is_passed c.in-Some.line.now ≡ true = cc in
    goes_past IsPlanLine plan_line_text c.args.text.now c.loop-line.rest.now c.in-Some.line.now c.in-Some.after.now c.loop-line.lines c.loop-line.number
    c.loop-line.invariant p k

-- bytes behind the last line feed are a bad line
pub returns-then-not-is_empty-clause-refused : goal.returns-then-not-is_empty-clause-refused
returns-then-not-is_empty-clause-refused c =
    let z = c.if-not-is_empty.ensures in
    let e : length c.loop-line.rest.now ≢ 0 = λ x. grind (arith, nat_tests) in
    bad_end IsPlanLine plan_line_text c.args.text.now c.loop-line.rest.now c.loop-line.lines c.loop-line.number c.loop-line.invariant c.in_default.ensures e
