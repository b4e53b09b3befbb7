use Rattle.std.proofs.Common.{refl, arith}
use Rattle.meaning.specs.Values.{Aborted}
use Rattle.values.specs.Values.{trap_of}
use Rattle.evaluation.proofs.Results.{contents_next, contents_end}
use Rattle.evaluation.proofs.piece.of_trap.Goals as goal

pub loop-preserved : goal.loop-preserved
loop-preserved c =
    contents_next c.loop.contents c.push.new.self _ (Aborted (trap_of c.args.trap)) (Aborted (trap_of c.args.trap)) c.args.count c.loop.counter _
    c.loop-test.true c.in_ok-push.ensures.ok c.in_ok-content.ensures refl c.loop.invariant

pub returns : goal.returns
returns c =
    contents_end c.loop.contents (Aborted (trap_of c.args.trap)) c.args.count c.loop.counter _ (omega (arith, c.loop-test.false)) c.loop.invariant
