use Rattle.std.proofs.Common.{rules, ◌≡◌, ◌++◌, None, Some, length, map, string_bytes, [], ◌∷◌, drop, sym, ap, ◌∙◌, subst, arith}
use Rattle.std.specs.Prelude.{IfOk, IfErr, IsTrue}
use Rattle.meaning.specs.Syntax.{ListKind, RefKind}
use Rattle.meaning.specs.Syntax as syntax
use Rattle.script_syntax.specs.Trees.{ListOf, Call, Remote}
use Rattle.script_syntax.specs.Views.{program_of, tree_of, trees_of, parameter_of as parsed_parameter, function_of as parsed_function, retries_of as written_retries}
use Rattle.script_check.specs.Refusals.{is_refusal}
use Rattle.script_check.specs.Trees.{kind_of, kind_named, expr_of, exprs_of}
use Rattle.script_check.specs.Scopes.{context_of}
use Rattle.script_check.specs.Typings.{typing_of, marked_of, onto}
use Rattle.script_check.specs.Inference.{◌>>=◌, infer, infer_as, infer_each, infer_arguments, infer_marked, of_kind, mark_for}
use Rattle.script_check.proofs.Rows.{list_is, call_is, remote_is, list_expr, call_expr, remote_expr}
use Rattle.script_check.proofs.Arms.{within, list_size, call_size, remote_size, count_trees, rest_is, each_fails, each_steps, each_ends, list_fails_first, list_fails_rest, list_gives, arguments_fail, arguments_step, arguments_end, marked_fail, marked_step, marked_end, call_fails, call_gives, remote_fails, remote_gives, both}
use Rattle.script_check.proofs.expressions.+expressions.Goals as goal

pub check_arguments-check_expr-requires : goal.check_arguments-check_expr-requires
check_arguments-check_expr-requires t c =
    let f = within c.args.arguments.now c.loop-i.i c.index-arguments-i.result c.loop-i-test.true c.index-arguments-i.is in
    search (rules, f)

pub check_marked-check_expr-requires : goal.check_marked-check_expr-requires
check_marked-check_expr-requires t c =
    let f = within c.args.arguments.now c.loop-i.i c.index-arguments-i.result c.loop-i-test.true c.index-arguments-i.is in
    search (rules, f)

pub check_arguments-returns-in_err-typing-clause-refused : goal.check_arguments-returns-in_err-typing-clause-refused
check_arguments-returns-in_err-typing-clause-refused t c =
    let f : IsTrue (is_refusal c.in_err-typing.field-0.0) → infer_arguments (program_of c.args.functions.now) (context_of c.args.scope.now) (trees_of c.args.arguments.now) (map parsed_parameter c.args.parameters.now) ≡ None = λ told. arguments_fail (program_of c.args.functions.now) (context_of c.args.scope.now) c.loop-i.checked.items c.args.arguments.now c.args.parameters.now c.loop-i.i c.index-arguments-i.result _ c.loop-i-test.true c.index-arguments-i.is c.loop-i.invariant (c.in_err-typing.ensures.refused told) in
    search (rules, f)

-- one argument more, of the type of its parameter
pub check_arguments-loop-i-preserved : goal.check_arguments-loop-i-preserved
check_arguments-loop-i-preserved t c =
    let e : infer_as (program_of c.args.functions.now) (context_of c.args.scope.now) (kind_named (parsed_parameter c.index-parameters-i.result).kind) (tree_of c.index-arguments-i.result) ≡ Some (expr_of c.in_ok-expr.expr) = both (infer (program_of c.args.functions.now) (context_of c.args.scope.now) (tree_of c.index-arguments-i.result)) (typing_of c.in_ok-typing.typing) (of_kind (kind_of c.index-parameters-i.result.kind)) (Some (expr_of c.in_ok-expr.expr)) c.in_ok-typing.ensures.value (ap (λ p. of_kind (kind_of p.kind) (typing_of c.in_ok-typing.typing)) c.index-parameters-i.is ∙ c.in_ok-expr.ensures.value) in
    rw c.in_ok-push.ensures.items (arguments_step (program_of c.args.functions.now) (context_of c.args.scope.now) c.loop-i.checked.items c.in_ok-expr.expr c.args.arguments.now c.args.parameters.now c.loop-i.i c.index-arguments-i.result c.index-parameters-i.result _ c.loop-i-test.true c.index-arguments-i.is (omega (arith, c.requires, c.loop-i-test.true)) c.index-parameters-i.is c.loop-i.invariant e)

pub check_arguments-returns-clause-value : goal.check_arguments-returns-clause-value
check_arguments-returns-clause-value t c =
    arguments_end (program_of c.args.functions.now) (context_of c.args.scope.now) c.loop-i.checked.items c.args.arguments.now c.args.parameters.now c.loop-i.i _ c.requires (omega (arith, c.loop-i-test.false)) c.loop-i.invariant

pub check_call-returns-in_err-function-clause-refused : goal.check_call-returns-in_err-function-clause-refused
check_call-returns-in_err-function-clause-refused t c =
    let f : IsTrue (is_refusal c.in_err-function.field-0.0) → infer (program_of c.args.functions.now) (context_of c.args.scope.now) (Call (string_bytes c.args.name.now.text) (trees_of c.args.arguments.now)) ≡ None = λ told. call_fails (program_of c.args.functions.now) (context_of c.args.scope.now) (string_bytes c.args.name.now.text) (trees_of c.args.arguments.now) (length c.args.arguments.now) (count_trees c.args.arguments.now) c.in_err-function.ensures.refused in
    search (rules, f)

pub check_call-returns-clause-value : goal.check_call-returns-clause-value
check_call-returns-clause-value t c =
    let g = string_bytes c.args.name.now.text in
    let x : string_bytes c.in_ok-clone.field-0 ≡ g = search rules in
    let args : infer_arguments (program_of c.args.functions.now) (context_of c.args.scope.now) (trees_of c.args.arguments.now) (map parsed_parameter c.in_ok-function.function.now.parameters.items) ≡ Some (exprs_of c.in_ok-checked.checked.items) = ap (λ ps. infer_arguments (program_of c.args.functions.now) (context_of c.args.scope.now) (trees_of c.args.arguments.now) (map parsed_parameter ps)) (sym c.deref.ensures.value) ∙ c.in_ok-checked.ensures.value in
    call_gives (program_of c.args.functions.now) (context_of c.args.scope.now) g (trees_of c.args.arguments.now) (length c.args.arguments.now) (parsed_function c.in_ok-function.function.now) (exprs_of c.in_ok-checked.checked.items) (count_trees c.args.arguments.now) c.in_ok-function.ensures.value args
    ∙ ap (λ h. Some (record { expr = syntax.Call h (exprs_of c.in_ok-checked.checked.items); kind = kind_of c.in_ok-function.function.now.result })) (sym x)
    ∙ ap (λ k. Some (record { expr = syntax.Call (string_bytes c.in_ok-clone.field-0) (exprs_of c.in_ok-checked.checked.items); kind = k })) (sym c.in_ok-kind.ensures)
    ∙ ap (λ e. Some (record { expr = e; kind = kind_of c.in_ok-kind.kind })) (sym (call_expr c.in_ok-clone.field-0 c.in_ok-checked.checked))

pub check_each-check_expr-requires : goal.check_each-check_expr-requires
check_each-check_expr-requires t c =
    let f = within c.args.items.now c.loop-item.item-index c.item-item.result c.loop-item-test.true c.item-item.is in
    search (rules, f)

pub check_each-returns-in_err-typing-clause-refused : goal.check_each-returns-in_err-typing-clause-refused
check_each-returns-in_err-typing-clause-refused t c =
    let f : IsTrue (is_refusal c.in_err-typing.field-0.0) → infer_each (program_of c.args.functions.now) (context_of c.args.scope.now) (kind_of c.args.kind.now) (trees_of c.args.items.now) ≡ None = λ told. each_fails (program_of c.args.functions.now) (context_of c.args.scope.now) (kind_of c.args.kind.now) c.args.checked.items c.loop-item.checked.items c.args.items.now c.loop-item.item-index c.item-item.result c.loop-item-test.true c.item-item.is c.loop-item.invariant (ap (λ o. o >>= of_kind (kind_of c.args.kind.now)) (c.in_err-typing.ensures.refused told)) in
    search (rules, f)

pub check_each-loop-item-preserved : goal.check_each-loop-item-preserved
check_each-loop-item-preserved t c =
    let e : infer_as (program_of c.args.functions.now) (context_of c.args.scope.now) (kind_of c.args.kind.now) (tree_of c.item-item.result) ≡ Some (expr_of c.in_ok-expr.expr) = both (infer (program_of c.args.functions.now) (context_of c.args.scope.now) (tree_of c.item-item.result)) _ _ _ c.in_ok-typing.ensures.value c.in_ok-expr.ensures.value in
    rw c.in_ok-push.ensures.items (each_steps (program_of c.args.functions.now) (context_of c.args.scope.now) (kind_of c.args.kind.now) c.loop-item.checked.items c.in_ok-expr.expr c.args.items.now c.loop-item.item-index c.item-item.result _ c.loop-item-test.true c.item-item.is c.loop-item.invariant e)

pub check_each-returns-clause-value : goal.check_each-returns-clause-value
check_each-returns-clause-value t c =
    each_ends (program_of c.args.functions.now) (context_of c.args.scope.now) (kind_of c.args.kind.now) c.loop-item.checked.items c.args.items.now c.loop-item.item-index _ (omega (arith, c.loop-item-test.false)) c.loop-item.invariant

pub check_expr-check_list-requires : goal.check_expr-check_list-requires
check_expr-check_list-requires t c =
    let f = list_size (tree_of c.args.expr.now) _ (list_is c.args.expr.now c.in-List.items c.deref-in-List.result.now c.in-List.is c.deref-in-List.ensures.value) in
    search (rules, f)

pub check_expr-returns-in-List-clause-value : goal.check_expr-returns-in-List-clause-value
check_expr-returns-in-List-clause-value t c =
    let e = list_is c.args.expr.now c.in-List.items c.deref-in-List.result.now c.in-List.is c.deref-in-List.ensures.value in
    subst (λ x. IfOk c.check_list.result (λ y. infer (program_of c.args.functions.now) (context_of c.args.scope.now) x ≡ Some (typing_of y))) (sym e) c.check_list.ensures.value

pub check_expr-returns-in-List-clause-refused : goal.check_expr-returns-in-List-clause-refused
check_expr-returns-in-List-clause-refused t c =
    let e = list_is c.args.expr.now c.in-List.items c.deref-in-List.result.now c.in-List.is c.deref-in-List.ensures.value in
    subst (λ x. IfErr c.check_list.result (λ y. IsTrue (is_refusal y) → infer (program_of c.args.functions.now) (context_of c.args.scope.now) x ≡ None)) (sym e) c.check_list.ensures.refused

pub check_expr-check_call-requires : goal.check_expr-check_call-requires
check_expr-check_call-requires t c =
    let f = call_size (tree_of c.args.expr.now) _ _ (call_is c.args.expr.now c.in-Call.name c.in-Call.arguments c.deref-in-Call.result.now c.in-Call.is c.deref-in-Call.ensures.value) in
    search (rules, f)

pub check_expr-returns-in-Call-clause-value : goal.check_expr-returns-in-Call-clause-value
check_expr-returns-in-Call-clause-value t c =
    let e = call_is c.args.expr.now c.in-Call.name c.in-Call.arguments c.deref-in-Call.result.now c.in-Call.is c.deref-in-Call.ensures.value in
    subst (λ x. IfOk c.check_call.result (λ y. infer (program_of c.args.functions.now) (context_of c.args.scope.now) x ≡ Some (typing_of y))) (sym e) c.check_call.ensures.value

pub check_expr-returns-in-Call-clause-refused : goal.check_expr-returns-in-Call-clause-refused
check_expr-returns-in-Call-clause-refused t c =
    let e = call_is c.args.expr.now c.in-Call.name c.in-Call.arguments c.deref-in-Call.result.now c.in-Call.is c.deref-in-Call.ensures.value in
    subst (λ x. IfErr c.check_call.result (λ y. IsTrue (is_refusal y) → infer (program_of c.args.functions.now) (context_of c.args.scope.now) x ≡ None)) (sym e) c.check_call.ensures.refused

pub check_expr-check_remote-requires : goal.check_expr-check_remote-requires
check_expr-check_remote-requires t c =
    let f = remote_size (tree_of c.args.expr.now) _ _ _ (remote_is c.args.expr.now c.in-Remote.written c.in-Remote.name c.in-Remote.arguments c.deref-in-Remote.result.now c.in-Remote.is c.deref-in-Remote.ensures.value) in
    search (rules, f)

pub check_expr-returns-in-Remote-clause-value : goal.check_expr-returns-in-Remote-clause-value
check_expr-returns-in-Remote-clause-value t c =
    let e = remote_is c.args.expr.now c.in-Remote.written c.in-Remote.name c.in-Remote.arguments c.deref-in-Remote.result.now c.in-Remote.is c.deref-in-Remote.ensures.value in
    subst (λ x. IfOk c.check_remote.result (λ y. infer (program_of c.args.functions.now) (context_of c.args.scope.now) x ≡ Some (typing_of y))) (sym e) c.check_remote.ensures.value

pub check_expr-returns-in-Remote-clause-refused : goal.check_expr-returns-in-Remote-clause-refused
check_expr-returns-in-Remote-clause-refused t c =
    let e = remote_is c.args.expr.now c.in-Remote.written c.in-Remote.name c.in-Remote.arguments c.deref-in-Remote.result.now c.in-Remote.is c.deref-in-Remote.ensures.value in
    subst (λ x. IfErr c.check_remote.result (λ y. IsTrue (is_refusal y) → infer (program_of c.args.functions.now) (context_of c.args.scope.now) x ≡ None)) (sym e) c.check_remote.ensures.refused

pub check_list-returns-in_err-expr-clause-refused : goal.check_list-returns-in_err-expr-clause-refused
check_list-returns-in_err-expr-clause-refused t c =
    let f : IsTrue (is_refusal c.in_err-expr.field-0.0) → infer (program_of c.args.functions.now) (context_of c.args.scope.now) (ListOf (trees_of c.args.items.now)) ≡ None = λ told. list_fails_first (program_of c.args.functions.now) (context_of c.args.scope.now) c.args.items.now c.first-item.result (omega (arith, c.in-len1-up.len_at_least)) c.first-item.is (c.in_err-expr.ensures.refused told) in
    search (rules, f)

pub check_list-returns-in_err-checked-clause-refused : goal.check_list-returns-in_err-checked-clause-refused
check_list-returns-in_err-checked-clause-refused t c =
    let some = c.in_ok-expr.ensures.value in
    let f : IsTrue (is_refusal c.in_err-checked.field-0.0) → infer (program_of c.args.functions.now) (context_of c.args.scope.now) (ListOf (trees_of c.args.items.now)) ≡ None = λ told. list_fails_rest (program_of c.args.functions.now) (context_of c.args.scope.now) c.args.items.now c.first-item.result (record { expr = expr_of c.in_ok-expr.field-0.expr; kind = kind_of c.in_ok-expr.field-0.kind }) (omega (arith, c.in-len1-up.len_at_least)) c.first-item.is some (ap (λ ys. infer_each (program_of c.args.functions.now) (context_of c.args.scope.now) (kind_of c.in_ok-expr.field-0.kind) (trees_of ys)) (sym (rest_is c.args.items.now)) ∙ c.in_err-checked.ensures.refused told) in
    search (rules, f)

pub check_list-returns-clause-value : goal.check_list-returns-clause-value
check_list-returns-clause-value t c =
    let some = c.in_ok-expr.ensures.value in
    let pushed : c.push.new.self.items ≡ c.in_ok-expr.field-0.expr ∷ [] = c.in_ok-push.ensures.items ∙ ap (λ xs. xs ++ c.in_ok-expr.field-0.expr ∷ []) c.new-checked.ensures.items in
    let xs = exprs_of c.in_ok-checked.checked.items in
    let rest : onto (c.in_ok-expr.field-0.expr ∷ []) (infer_each (program_of c.args.functions.now) (context_of c.args.scope.now) (kind_of c.in_ok-expr.field-0.kind) (trees_of (drop 1 c.args.items.now))) ≡ Some xs = ap (λ ys. onto ys (infer_each (program_of c.args.functions.now) (context_of c.args.scope.now) (kind_of c.in_ok-expr.field-0.kind) (trees_of (drop 1 c.args.items.now)))) (sym pushed) ∙ ap (λ ys. onto c.push.new.self.items (infer_each (program_of c.args.functions.now) (context_of c.args.scope.now) (kind_of c.in_ok-expr.field-0.kind) (trees_of ys))) (sym (rest_is c.args.items.now)) ∙ c.in_ok-checked.ensures.value in
    list_gives (program_of c.args.functions.now) (context_of c.args.scope.now) c.args.items.now c.first-item.result c.in_ok-expr.field-0.expr (kind_of c.in_ok-expr.field-0.kind) xs (omega (arith, c.in-len1-up.len_at_least)) c.first-item.is some rest
    ∙ ap (λ k. Some (record { expr = syntax.ListOf xs; kind = ListKind (kind_of k) })) (sym c.in_ok-new.ensures.ok)
    ∙ ap (λ e. Some (record { expr = e; kind = ListKind (kind_of c.in_ok-new.field-0.value) })) (sym (list_expr c.in_ok-checked.checked))

pub check_marked-returns-in_err-typing-clause-refused : goal.check_marked-returns-in_err-typing-clause-refused
check_marked-returns-in_err-typing-clause-refused t c =
    let f : IsTrue (is_refusal c.in_err-typing.field-0.0) → infer_marked (program_of c.args.functions.now) (context_of c.args.scope.now) (trees_of c.args.arguments.now) (map parsed_parameter c.args.parameters.now) ≡ None = λ told. marked_fail (program_of c.args.functions.now) (context_of c.args.scope.now) c.loop-i.marks.items c.loop-i.exprs.items c.args.arguments.now c.args.parameters.now c.loop-i.i c.index-arguments-i.result _ c.loop-i-test.true c.index-arguments-i.is c.loop-i.invariant (c.in_err-typing.ensures.refused told) in
    search (rules, f)

pub check_marked-loop-i-preserved : goal.check_marked-loop-i-preserved
check_marked-loop-i-preserved t c =
    rw (c.in_ok-push.ensures.items, c.in_ok-push-2.ensures.items) (marked_step (program_of c.args.functions.now) (context_of c.args.scope.now) c.loop-i.marks.items c.loop-i.exprs.items c.in-Some.mark c.in_ok-typing.typing.expr c.args.arguments.now c.args.parameters.now c.loop-i.i c.index-arguments-i.result c.index-parameters-i.result (kind_of c.in_ok-typing.typing.kind) _ c.loop-i-test.true c.index-arguments-i.is (omega (arith, c.requires, c.loop-i-test.true)) c.index-parameters-i.is c.loop-i.invariant c.in_ok-typing.ensures.value (ap (λ p. mark_for (kind_of c.in_ok-typing.typing.kind) (kind_of p.kind)) c.index-parameters-i.is ∙ sym c.mark_for.ensures ∙ c.in-Some.is))

pub check_marked-returns-clause-value : goal.check_marked-returns-clause-value
check_marked-returns-clause-value t c =
    marked_end (program_of c.args.functions.now) (context_of c.args.scope.now) c.loop-i.marks.items c.loop-i.exprs.items c.args.arguments.now c.args.parameters.now c.loop-i.i _ c.requires (omega (arith, c.loop-i-test.false)) c.loop-i.invariant

pub check_remote-returns-in_err-function-clause-refused : goal.check_remote-returns-in_err-function-clause-refused
check_remote-returns-in_err-function-clause-refused t c =
    let f : IsTrue (is_refusal c.in_err-function.field-0.0) → infer (program_of c.args.functions.now) (context_of c.args.scope.now) (Remote (written_retries c.args.written) (string_bytes c.args.name.now.text) (trees_of c.args.arguments.now)) ≡ None = λ told. remote_fails (program_of c.args.functions.now) (context_of c.args.scope.now) (written_retries c.args.written) _ (string_bytes c.args.name.now.text) (trees_of c.args.arguments.now) (length c.args.arguments.now) c.in_ok-retries.ensures.value (count_trees c.args.arguments.now) c.in_err-function.ensures.refused in
    search (rules, f)

pub check_remote-returns-clause-value : goal.check_remote-returns-clause-value
check_remote-returns-clause-value t c =
    let g = string_bytes c.args.name.now.text in
    let x : string_bytes c.in_ok-name.name ≡ g = search rules in
    let m = c.in_ok-marked.marked in
    let args : infer_marked (program_of c.args.functions.now) (context_of c.args.scope.now) (trees_of c.args.arguments.now) (map parsed_parameter c.in_ok-function.function.now.parameters.items) ≡ Some (marked_of m) = ap (λ ps. infer_marked (program_of c.args.functions.now) (context_of c.args.scope.now) (trees_of c.args.arguments.now) (map parsed_parameter ps)) (sym c.deref.ensures.value) ∙ c.in_ok-marked.ensures.value in
    remote_gives (program_of c.args.functions.now) (context_of c.args.scope.now) (written_retries c.args.written) c.in_ok-retries.retries g (trees_of c.args.arguments.now) (length c.args.arguments.now) (parsed_function c.in_ok-function.function.now) (marked_of m) c.in_ok-retries.ensures.value (count_trees c.args.arguments.now) c.in_ok-function.ensures.value args
    ∙ ap (λ h. Some (record { expr = syntax.Remote c.in_ok-retries.retries h m.marks.items (exprs_of m.exprs.items); kind = RefKind (kind_of c.in_ok-function.function.now.result) })) (sym x)
    ∙ ap (λ k. Some (record { expr = syntax.Remote c.in_ok-retries.retries (string_bytes c.in_ok-name.name) m.marks.items (exprs_of m.exprs.items); kind = RefKind k })) (sym c.in_ok-copy_type.ensures)
    ∙ ap (λ k. Some (record { expr = syntax.Remote c.in_ok-retries.retries (string_bytes c.in_ok-name.name) m.marks.items (exprs_of m.exprs.items); kind = RefKind (kind_of k) })) (sym c.in_ok-new.ensures.ok)
    ∙ ap (λ e. Some (record { expr = e; kind = RefKind (kind_of c.in_ok-new.field-0.value) })) (sym (remote_expr c.in_ok-retries.retries c.in_ok-name.name m.marks m.exprs))
