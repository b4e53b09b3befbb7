use Rattle.std.proofs.Common.{refl, arith}
use Rattle.meaning.specs.Values.{Aborted, Broken}
use Rattle.frames.proofs.Endings.{references_next, references_end}
use Rattle.frames.proofs.ending.to_broken.Goals as goal

pub loop-preserved : goal.loop-preserved
loop-preserved c =
    references_next c.loop.references.items c.push.new.self.items c.in_ok-reference_to.field-0 (Aborted Broken) (Aborted Broken) c.args.count c.loop.counter _
    c.loop-test.true c.in_ok-push.ensures.items c.in_ok-reference_to.ensures refl c.loop.invariant

pub returns : goal.returns
returns c = references_end c.loop.references.items (Aborted Broken) c.args.count c.loop.counter _ (omega (arith, c.loop-test.false)) c.loop.invariant
