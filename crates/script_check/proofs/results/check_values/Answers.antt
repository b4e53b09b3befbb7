use Rattle.std.proofs.Common.{◌≡◌, Some, arith}
use Rattle.script_syntax.specs.Views.{program_of, tree_of}
use Rattle.script_check.specs.Trees.{kind_of, expr_of}
use Rattle.script_check.specs.Scopes.{context_of}
use Rattle.script_check.specs.Typings.{typing_of}
use Rattle.script_check.specs.Inference.{infer, infer_as, of_kind}
use Rattle.script_check.proofs.Arms.{both}
use Rattle.script_check.proofs.Values.{values_step, values_end}
use Rattle.script_check.proofs.results.check_values.Goals as goal

pub loop-i-preserved : goal.loop-i-preserved
loop-i-preserved c =
    let e : infer_as (program_of c.args.functions.now) (context_of c.args.scope.now) (kind_of c.index-kinds-i.result) (tree_of c.index-values-i.result) ≡ Some (expr_of c.in_ok-expr.expr) = both (infer (program_of c.args.functions.now) (context_of c.args.scope.now) (tree_of c.index-values-i.result)) (typing_of c.in_ok-typing.typing) (of_kind (kind_of c.index-kinds-i.result)) (Some (expr_of c.in_ok-expr.expr)) c.in_ok-typing.ensures.value c.in_ok-expr.ensures.value in
    rw c.in_ok-push.ensures.items (values_step (program_of c.args.functions.now) (context_of c.args.scope.now) c.loop-i.checked.items c.in_ok-expr.expr c.args.values.now c.args.kinds.now c.loop-i.i c.index-values-i.result c.index-kinds-i.result _ c.loop-i-test.true c.index-values-i.is (omega (arith, c.requires, c.loop-i-test.true)) c.index-kinds-i.is c.loop-i.invariant e)

pub returns-clause-value : goal.returns-clause-value
returns-clause-value c =
    values_end (program_of c.args.functions.now) (context_of c.args.scope.now) c.loop-i.checked.items c.args.values.now c.args.kinds.now c.loop-i.i _ c.requires (omega (arith, c.loop-i-test.false)) c.loop-i.invariant
