use Rattle.std.proofs.Common.{arith, inr}
use Rattle.event_files.proofs.Marks.{no_behind, no_behind_short, behind_all}
use Rattle.event_files.proofs.parts.behind.Goals as goal

pub returns-then-text-front : goal.returns-then-text-front
returns-then-text-front c = no_behind_short c.args.front.now c.args.text.now c.if-text-front.true

pub returns-then-text-place : goal.returns-then-text-place
returns-then-text-place c = no_behind c.args.front.now c.args.text.now c.loop-place.place (omega arith) (inr c.if-text-place.true)

pub returns : goal.returns
returns c = behind_all c.args.front.now c.args.text.now c.loop-place.place (omega arith) (omega arith) c.loop-place.invariant
