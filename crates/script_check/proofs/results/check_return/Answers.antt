use Rattle.std.proofs.Common.{◌≡◌, [], ◌∷◌, ◌++◌, Some, map, sym, ap, ◌∙◌}
use Rattle.script_syntax.specs.Views.{program_of, tree_of, trees_of, type_of}
use Rattle.script_check.specs.Trees.{kind_of, expr_of, exprs_of}
use Rattle.script_check.specs.Scopes.{context_of}
use Rattle.script_check.specs.Typings.{typing_of, onto}
use Rattle.script_check.specs.Inference.{infer, infer_as, infer_results}
use Rattle.script_check.proofs.Arms.{both}
use Rattle.script_check.proofs.Values.{counted, miscounted, return_miscounted, return_gives}
use Rattle.script_check.proofs.results.check_return.Goals as goal

pub returns-then-others-len-clause-refused : goal.returns-then-others-len-clause-refused
returns-then-others-len-clause-refused c told =
    return_miscounted (program_of c.args.functions.now) (context_of c.args.scope.now) (type_of c.args.function.now.result) (map type_of c.args.function.now.others.items) (tree_of c.args.expr.now) (trees_of c.args.others.now)
    (miscounted c.args.others.now c.args.function.now.others.items (λ e. c.if-others-len.true (e ∙ sym (c.len.ensures ∙ c.args.function.now.others.ok.0))))

pub returns-clause-value : goal.returns-clause-value
returns-clause-value c =
    let program = program_of c.args.functions.now in
    let context = context_of c.args.scope.now in
    let value : infer_as program context (kind_of c.args.function.now.result) (tree_of c.args.expr.now) ≡ Some (expr_of c.in_ok-value.value) = both (infer program context (tree_of c.args.expr.now)) (typing_of c.in_ok-typing.typing) _ _ c.in_ok-typing.ensures.value c.in_ok-value.ensures.value in
    let pushed : c.push.new.self.items ≡ c.in_ok-value.value ∷ [] = c.in_ok-push.ensures.items ∙ ap (λ xs. xs ++ c.in_ok-value.value ∷ []) c.new-values.ensures.items in
    let rest : onto (c.in_ok-value.value ∷ []) (infer_results program context (trees_of c.args.others.now) (map type_of c.args.function.now.others.items)) ≡ Some (exprs_of c.in_ok-values.values.items) = ap (λ ys. onto ys (infer_results program context (trees_of c.args.others.now) (map type_of c.args.function.now.others.items))) (sym pushed) ∙ ap (λ ts. onto c.push.new.self.items (infer_results program context (trees_of c.args.others.now) (map type_of ts))) (sym c.deref.ensures.value) ∙ c.in_ok-values.ensures.value in
    return_gives program context (type_of c.args.function.now.result) (map type_of c.args.function.now.others.items) (tree_of c.args.expr.now) (trees_of c.args.others.now) c.in_ok-value.value (exprs_of c.in_ok-values.values.items)
    (counted c.args.others.now c.args.function.now.others.items (c.if-others-len.false ∙ c.len.ensures ∙ c.args.function.now.others.ok.0)) value rest
