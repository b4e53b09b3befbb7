use Rattle.std.proofs.Common.{◌≡◌, ◌≢◌, ◌+◌, length, true, false, None, sym, ◌∙◌, refl, subst, arith}
use Rattle.std.proofs.lemmas.Bool.Decides.{nat_tests}
use Rattle.event_files.specs.Recorded.{IsRecorded, recorded_text, recorded_in}
use Rattle.event_files.specs.Files.{is_passed}
use Rattle.event_files.proofs.Rows.{IsReadTo, cut, shorter, goes_past, goes_with, bad_line, bad_end}
use Rattle.event_files.proofs.Histories.{reads_recorded}
use Rattle.event_files.proofs.recorded.parse_recorded.Goals as goal

-- the first line that is neither passed over nor a history's is refused by its number
pub returns-in_default-read_recorded-clause-refused : goal.returns-in_default-read_recorded-clause-refused
returns-in_default-read_recorded-clause-refused c =
    let p = cut 10 c.loop-line.rest.now c.in-Some.line.now c.in-Some.after.now c.in-Some.ensures in
    let k : is_passed c.in-Some.line.now ≡ false = cc in
    let e : recorded_in c.in-Some.line.now ≡ None = cc in (
      c.loop-line.number + 1,
      refl,
      bad_line IsRecorded recorded_text recorded_in reads_recorded c.args.text.now c.loop-line.rest.now c.in-Some.line.now
          c.in-Some.after.now c.loop-line.events c.loop-line.number c.loop-line.invariant p k e,
    )

pub loop-line-smaller-in_ok-push : goal.loop-line-smaller-in_ok-push
loop-line-smaller-in_ok-push c = shorter 10 c.loop-line.rest.now c.in-Some.line.now c.in-Some.after.now c.in-Some.ensures

-- a line that says something is kept
pub loop-line-preserved-in_ok-push : goal.loop-line-preserved-in_ok-push
loop-line-preserved-in_ok-push c =
    let p = cut 10 c.loop-line.rest.now c.in-Some.line.now c.in-Some.after.now c.in-Some.ensures in
    let e = sym c.read_recorded.ensures ∙ c.in-Some-read_recorded.is in
    subst (λ z. IsReadTo IsRecorded recorded_text c.args.text.now c.in-Some.after.now z (c.loop-line.number + 1)) (sym c.in_ok-push.ensures.ok)
    (goes_with IsRecorded recorded_text recorded_in reads_recorded c.args.text.now c.loop-line.rest.now c.in-Some.line.now c.in-Some.after.now
    c.loop-line.events c.loop-line.number _ c.loop-line.invariant p e)

pub loop-line-smaller : goal.loop-line-smaller
loop-line-smaller c = shorter 10 c.loop-line.rest.now c.in-Some.line.now c.in-Some.after.now c.in-Some.ensures

-- a line that is passed over adds nothing
pub loop-line-preserved : goal.loop-line-preserved
loop-line-preserved c =
    let p = cut 10 c.loop-line.rest.now c.in-Some.line.now c.in-Some.after.now c.in-Some.ensures in
    let k : is_passed c.in-Some.line.now ≡ true = cc in
    goes_past IsRecorded recorded_text c.args.text.now c.loop-line.rest.now c.in-Some.line.now c.in-Some.after.now c.loop-line.events c.loop-line.number
    c.loop-line.invariant p k

-- bytes behind the last line feed are a bad line
pub returns-then-not-is_empty-clause-refused : goal.returns-then-not-is_empty-clause-refused
returns-then-not-is_empty-clause-refused c =
    let z = c.if-not-is_empty.ensures in
    let e : length c.loop-line.rest.now ≢ 0 = λ x. grind (arith, nat_tests) in (
      c.loop-line.number + 1,
      refl,
      bad_end IsRecorded recorded_text c.args.text.now c.loop-line.rest.now c.loop-line.events c.loop-line.number
          c.loop-line.invariant c.in_default.ensures e,
    )
