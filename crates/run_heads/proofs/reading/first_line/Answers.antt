use Rattle.std.proofs.Common.{arith}
use Rattle.event_files.proofs.Marks.{none_up_to, parted_here, parted_nowhere}
use Rattle.run_heads.proofs.reading.first_line.Goals as goal

pub returns-then-text-place-eq10 : goal.returns-then-text-place-eq10
returns-then-text-place-eq10 c = parted_here 10 c.args.text.now c.loop-place.place (omega arith) c.if-text-place-eq10.true c.loop-place.invariant

pub loop-place-preserved : goal.loop-place-preserved
loop-place-preserved c = none_up_to 10 c.args.text.now c.loop-place.place (omega arith) c.if-text-place-eq10.false c.loop-place.invariant

pub returns : goal.returns
returns c = parted_nowhere 10 c.args.text.now c.loop-place.place (omega arith) c.loop-place.invariant
