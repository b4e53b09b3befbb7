use Rattle.std.proofs.Common.{arith}
use Rattle.event_files.proofs.Marks.{none_up_to, parted_here, parted_nowhere}
use Rattle.event_files.proofs.parts.parted.Goals as goal

pub returns-then-text-place : goal.returns-then-text-place
returns-then-text-place c = parted_here c.args.mark c.args.text.now c.loop-place.place (omega arith) c.if-text-place.true c.loop-place.invariant

pub loop-place-preserved : goal.loop-place-preserved
loop-place-preserved c = none_up_to c.args.mark c.args.text.now c.loop-place.place (omega arith) c.if-text-place.false c.loop-place.invariant

pub returns : goal.returns
returns c = parted_nowhere c.args.mark c.args.text.now c.loop-place.place (omega arith) c.loop-place.invariant
