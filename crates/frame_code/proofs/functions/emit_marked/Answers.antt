use Rattle.std.proofs.Common.{length, arith}
use Rattle.frame_code.specs.Views.{codes}
use Rattle.frame_code.proofs.Marks.{marked_step}
use Rattle.frame_code.proofs.functions.emit_marked.Goals as goal

pub loop-argument-preserved : goal.loop-argument-preserved
loop-argument-preserved c = record {
  mark = omega (arith, c.loop-argument.invariant.mark, c.in_ok-mark.ensures.value);
  code = marked_step c.args.parameters.now c.loop-argument.argument (length c.args.parameters.now) c.loop-argument.mark
      (codes c.loop-argument.code.items) (codes c.put.new.code.items) (codes c.put-in-loop-argument.new.code.items) _
      (omega (arith, c.loop-argument-test.true, c.in_ok-count.ensures.value)) c.loop-argument.invariant.mark c.in_ok-put.ensures c.in_ok-put-2.ensures
      c.loop-argument.invariant.code;
}
