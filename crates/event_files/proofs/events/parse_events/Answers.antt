use Rattle.std.proofs.Common.{◌≡◌, ◌≢◌, ◌+◌, length, true, false, None, Some, sym, ◌∙◌, subst, arith}
use Rattle.std.proofs.lemmas.Bool.Decides.{nat_tests}
use Rattle.event_files.specs.Lines.{IsLine, line_text}
use Rattle.event_files.specs.Reading.{line_in}
use Rattle.event_files.specs.Files.{is_passed}
use Rattle.event_files.proofs.Rows.{IsReadTo, cut, shorter, goes_past, goes_with, bad_line, bad_end}
use Rattle.event_files.proofs.Readers.{reads_lines}
use Rattle.event_files.proofs.events.parse_events.Goals as goal

-- the first line that is neither passed over nor an event file's is refused by its number
pub returns-in_default-2-clause-refused : goal.returns-in_default-2-clause-refused
returns-in_default-2-clause-refused c =
    let p = cut 10 c.loop-line.rest.now c.in-Some.line.now c.in-Some.after.now c.in-Some.ensures in
    let k : is_passed c.in-Some.line.now ≡ false = cc in
    let e : line_in c.in-Some.line.now ≡ None = sym c.in_ok-said.ensures ∙ c.in_default-2.is in
    bad_line IsLine line_text line_in reads_lines c.args.text.now c.loop-line.rest.now c.in-Some.line.now c.in-Some.after.now c.loop-line.lines c.loop-line.number
    c.loop-line.invariant p k e

pub loop-line-smaller-in_ok-push : goal.loop-line-smaller-in_ok-push
loop-line-smaller-in_ok-push c = shorter 10 c.loop-line.rest.now c.in-Some.line.now c.in-Some.after.now c.in-Some.ensures

-- a line that says something is kept
pub loop-line-preserved-in_ok-push : goal.loop-line-preserved-in_ok-push
loop-line-preserved-in_ok-push c =
    let p = cut 10 c.loop-line.rest.now c.in-Some.line.now c.in-Some.after.now c.in-Some.ensures in
    let e : line_in c.in-Some.line.now ≡ Some c.in-Some-2.said = sym c.in_ok-said.ensures ∙ c.in-Some-2.is in
    subst (λ z. IsReadTo IsLine line_text c.args.text.now c.in-Some.after.now z (c.loop-line.number + 1)) (sym c.in_ok-push.ensures.ok)
    (goes_with IsLine line_text line_in reads_lines c.args.text.now c.loop-line.rest.now c.in-Some.line.now c.in-Some.after.now c.loop-line.lines
    c.loop-line.number c.in-Some-2.said c.loop-line.invariant p e)

pub loop-line-smaller : goal.loop-line-smaller
loop-line-smaller c = shorter 10 c.loop-line.rest.now c.in-Some.line.now c.in-Some.after.now c.in-Some.ensures

-- a line that is passed over adds nothing
pub loop-line-preserved : goal.loop-line-preserved
loop-line-preserved c =
    let p = cut 10 c.loop-line.rest.now c.in-Some.line.now c.in-Some.after.now c.in-Some.ensures in
    let k : is_passed c.in-Some.line.now ≡ true = cc in
    goes_past IsLine line_text c.args.text.now c.loop-line.rest.now c.in-Some.line.now c.in-Some.after.now c.loop-line.lines c.loop-line.number
    c.loop-line.invariant p k

-- bytes behind the last line feed are a bad line
pub returns-then-not-is_empty-clause-refused : goal.returns-then-not-is_empty-clause-refused
returns-then-not-is_empty-clause-refused c =
    let z = c.if-not-is_empty.ensures in
    let e : length c.loop-line.rest.now ≢ 0 = λ x. grind (arith, nat_tests) in
    bad_end IsLine line_text c.args.text.now c.loop-line.rest.now c.loop-line.lines c.loop-line.number c.loop-line.invariant c.in_default.ensures e
