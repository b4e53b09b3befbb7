use Rattle.std.proofs.Common.{◌≡◌, ◌∙◌, true, false, sym, ap}
use Rattle.event_files.specs.Files.{is_passed}
use Rattle.event_files.proofs.Rows.{shorter}
use Rattle.run_heads.specs.Heads.{said_in}
use Rattle.run_heads.proofs.Lines.{goes_past, is_found, lines_parted, lines_unparted, stops_at}
use Rattle.run_heads.proofs.reading.said_in.Goals as goal

pub returns-then-not-is_passed : goal.returns-then-not-is_passed
returns-then-not-is_passed c =
    let e = lines_parted c.loop-line.rest.now c.in-Some.line.now c.in-Some.after.now c.in-Some.ensures in
    let k : is_passed c.in-Some.line.now ≡ false = cc in
    sym (stops_at c.args.word.now c.loop-line.rest.now c.in-Some.line.now c.in-Some.after.now e k) ∙ c.loop-line.invariant

pub returns-in-Some-behind : goal.returns-in-Some-behind
returns-in-Some-behind c =
    let e = lines_parted c.loop-line.rest.now c.in-Some.line.now c.in-Some.after.now c.in-Some.ensures in
    let k : is_passed c.in-Some.line.now ≡ true = cc in
    sym (is_found c.args.word.now c.loop-line.rest.now c.in-Some.line.now c.in-Some.after.now c.in-Some-behind.said.now e k c.in-Some-behind.ensures)
    ∙ c.loop-line.invariant

pub loop-line-smaller : goal.loop-line-smaller
loop-line-smaller c = shorter 10 c.loop-line.rest.now c.in-Some.line.now c.in-Some.after.now c.in-Some.ensures

pub loop-line-preserved : goal.loop-line-preserved
loop-line-preserved c =
    let e = lines_parted c.loop-line.rest.now c.in-Some.line.now c.in-Some.after.now c.in-Some.ensures in
    let k : is_passed c.in-Some.line.now ≡ true = cc in
    sym (goes_past c.args.word.now c.loop-line.rest.now c.in-Some.line.now c.in-Some.after.now e k c.in_default-behind.ensures) ∙ c.loop-line.invariant

pub returns : goal.returns
returns c = sym (ap (said_in c.args.word.now) (lines_unparted c.loop-line.rest.now c.in_default.ensures)) ∙ c.loop-line.invariant
