use Rattle.ids.proofs.Numbers.{no_dot_up_to, parted_found, no_dot_at_all}
use Rattle.ids.proofs.number.split_at_dot.Goals as goal

pub returns-then-text-dot-eq46-clause-found : goal.returns-then-text-dot-eq46-clause-found
returns-then-text-dot-eq46-clause-found c = parted_found c.args.text.now c.loop-dot.dot c.loop-dot-test.true c.if-text-dot-eq46.true c.loop-dot.invariant

pub loop-dot-preserved : goal.loop-dot-preserved
loop-dot-preserved t = no_dot_up_to t.args.text.now t.loop-dot.dot t.loop-dot-test.true t.if-text-dot-eq46.false t.loop-dot.invariant

pub returns-clause-none : goal.returns-clause-none
returns-clause-none c = no_dot_at_all c.args.text.now c.loop-dot.dot c.loop-dot-test.false c.loop-dot.invariant
