use Rattle.std.proofs.Common.{arith}
use Rattle.script_syntax.specs.Views.{program_of}
use Rattle.script_check.proofs.Whole.{functions_step, functions_end}
use Rattle.script_check.proofs.functions.check_functions.Goals as goal

pub loop-function-preserved : goal.loop-function-preserved
loop-function-preserved c =
    rw c.in_ok-push.ensures.items (functions_step (program_of c.args.functions.now) c.loop-function.checked.items c.in_ok-function.function c.args.functions.now c.loop-function.function-index c.function-item.result _ c.loop-function-test.true c.function-item.is c.loop-function.invariant c.in_ok-function.ensures.value)

pub returns-clause-value : goal.returns-clause-value
returns-clause-value c =
    functions_end (program_of c.args.functions.now) c.loop-function.checked.items c.args.functions.now c.loop-function.function-index _ (omega (arith, c.loop-function-test.false)) c.loop-function.invariant
