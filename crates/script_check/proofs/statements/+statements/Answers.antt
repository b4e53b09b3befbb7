use Rattle.std.proofs.Common.{rules, ◌≡◌, ◌++◌, None, Some, string_bytes, refl, sym, ap, ◌∙◌, subst, arith, append_assoc}
use Rattle.std.specs.Prelude.{IfOk, IfErr, IsTrue}
use Rattle.meaning.specs.Syntax.{Number}
use Rattle.meaning.specs.Syntax as syntax
use Rattle.script_syntax.specs.Trees as parsed
use Rattle.script_syntax.specs.Views.{program_of, tree_of, trees_of, statement_of as parsed_statement, statements_of as parsed_statements, function_of as parsed_function}
use Rattle.script_check.specs.Sizes.{block_size}
use Rattle.script_check.specs.Refusals.{is_refusal}
use Rattle.script_check.specs.Trees.{expr_of, statement_of, block_of}
use Rattle.script_check.specs.Scopes.{context_of}
use Rattle.script_check.specs.Branches.{other_of}
use Rattle.script_check.specs.Rules.{variable}
use Rattle.script_check.specs.Inference.{infer_as, fresh, step_of, block_from}
use Rattle.script_check.proofs.Rows.{if_is, for_is, if_checked, for_checked}
use Rattle.script_check.proofs.Blocks.{within, first_size, second_size, body_size, cut, steps_extend, if_fails_condition, if_fails_first, if_fails_second, if_gives, for_fails_from, for_fails_to, for_fails_body, for_gives, statements_step, statements_end}
use Rattle.script_check.proofs.statements.+statements.Goals as goal

pub check_block-returns-clause-same : goal.check_block-returns-clause-same
check_block-returns-clause-same t c =
    let e = steps_extend (program_of c.args.functions.now) (parsed_function c.args.function.now) (parsed_statements c.args.statements.now) (context_of c.args.scope.now.items) (record { block = block_of c.in_ok-block.block; after = context_of c.check_statements.new.scope.items }) c.in_ok-block.ensures.value in
    cut c.args.scope.now.items c.check_statements.new.scope.items c.truncate.new.self.items c.len-outer.result e.0 (c.len-outer.ensures ∙ c.args.scope.now.ok.0) c.truncate.ensures.items e.1

pub check_statement-returns-in_err-condition-in-If-clause-refused : goal.check_statement-returns-in_err-condition-in-If-clause-refused
check_statement-returns-in_err-condition-in-If-clause-refused t c =
    let f : IsTrue (is_refusal c.in_err-condition-in-If.field-0.0) → step_of (program_of c.args.functions.now) (parsed_function c.args.function.now) (parsed_statement c.args.statement.now) (context_of c.args.scope.now.items) ≡ None = λ told. ap (λ x. step_of (program_of c.args.functions.now) (parsed_function c.args.function.now) x (context_of c.args.scope.now.items)) (if_is c.args.statement.now c.in-If.condition c.in-If.first c.in-If.second c.in-If.is) ∙ if_fails_condition (program_of c.args.functions.now) (parsed_function c.args.function.now) (tree_of c.in-If.condition) (parsed_statements c.in-If.first.statements.items) (other_of c.in-If.second) (context_of c.args.scope.now.items) (ap (λ xs. infer_as (program_of c.args.functions.now) (context_of xs) Number (tree_of c.in-If.condition)) (sym c.deref-in-If.ensures.value) ∙ c.in_err-condition-in-If.ensures.refused told) in
    search (rules, f)

pub check_statement-check_block-requires : goal.check_statement-check_block-requires
check_statement-check_block-requires t c =
    let f = first_size (parsed_statement c.args.statement.now) (tree_of c.in-If.condition) (parsed_statements c.in-If.first.statements.items) (other_of c.in-If.second) (if_is c.args.statement.now c.in-If.condition c.in-If.first c.in-If.second c.in-If.is) in
    let g = ap (λ ss. block_size (parsed_statements ss)) c.deref-in-If-2.ensures.value in
    search (rules, f, g)

pub check_statement-returns-in_err-first-in-If-clause-refused : goal.check_statement-returns-in_err-first-in-If-clause-refused
check_statement-returns-in_err-first-in-If-clause-refused t c =
    let f : IsTrue (is_refusal c.in_err-first-in-If.field-0.0) → step_of (program_of c.args.functions.now) (parsed_function c.args.function.now) (parsed_statement c.args.statement.now) (context_of c.args.scope.now.items) ≡ None = λ told. ap (λ x. step_of (program_of c.args.functions.now) (parsed_function c.args.function.now) x (context_of c.args.scope.now.items)) (if_is c.args.statement.now c.in-If.condition c.in-If.first c.in-If.second c.in-If.is) ∙ if_fails_first (program_of c.args.functions.now) (parsed_function c.args.function.now) (tree_of c.in-If.condition) (parsed_statements c.in-If.first.statements.items) (other_of c.in-If.second) (context_of c.args.scope.now.items) (expr_of c.in_ok-condition-in-If.condition) (ap (λ xs. infer_as (program_of c.args.functions.now) (context_of xs) Number (tree_of c.in-If.condition)) (sym c.deref-in-If.ensures.value) ∙ c.in_ok-condition-in-If.ensures.value) (ap (λ ss. block_from (program_of c.args.functions.now) (parsed_function c.args.function.now) (parsed_statements ss) (context_of c.args.scope.now.items)) (sym c.deref-in-If-2.ensures.value) ∙ c.in_err-first-in-If.ensures.refused told) in
    search (rules, f)

pub check_statement-check_else-requires : goal.check_statement-check_else-requires
check_statement-check_else-requires t c =
    let f = second_size (parsed_statement c.args.statement.now) (tree_of c.in-If.condition) (parsed_statements c.in-If.first.statements.items) (other_of c.in-If.second) (if_is c.args.statement.now c.in-If.condition c.in-If.first c.in-If.second c.in-If.is) in
    search (rules, f)

pub check_statement-returns-in_err-second-in-If-clause-refused : goal.check_statement-returns-in_err-second-in-If-clause-refused
check_statement-returns-in_err-second-in-If-clause-refused t c =
    let f : IsTrue (is_refusal c.in_err-second-in-If.field-0.0) → step_of (program_of c.args.functions.now) (parsed_function c.args.function.now) (parsed_statement c.args.statement.now) (context_of c.args.scope.now.items) ≡ None = λ told. ap (λ x. step_of (program_of c.args.functions.now) (parsed_function c.args.function.now) x (context_of c.args.scope.now.items)) (if_is c.args.statement.now c.in-If.condition c.in-If.first c.in-If.second c.in-If.is) ∙ if_fails_second (program_of c.args.functions.now) (parsed_function c.args.function.now) (tree_of c.in-If.condition) (parsed_statements c.in-If.first.statements.items) (other_of c.in-If.second) (context_of c.args.scope.now.items) (context_of c.check_block.new.scope.items) (expr_of c.in_ok-condition-in-If.condition) (block_of c.in_ok-first-in-If.first) (ap (λ xs. infer_as (program_of c.args.functions.now) (context_of xs) Number (tree_of c.in-If.condition)) (sym c.deref-in-If.ensures.value) ∙ c.in_ok-condition-in-If.ensures.value) (ap (λ ss. block_from (program_of c.args.functions.now) (parsed_function c.args.function.now) (parsed_statements ss) (context_of c.args.scope.now.items)) (sym c.deref-in-If-2.ensures.value) ∙ c.in_ok-first-in-If.ensures.value) c.in_ok-first-in-If.ensures.same (c.in_err-second-in-If.ensures.refused told) in
    search (rules, f)

pub check_statement-returns-in_ok-second-in-If-clause-value : goal.check_statement-returns-in_ok-second-in-If-clause-value
check_statement-returns-in_ok-second-in-If-clause-value t c =
    ap (λ x. step_of (program_of c.args.functions.now) (parsed_function c.args.function.now) x (context_of c.args.scope.now.items)) (if_is c.args.statement.now c.in-If.condition c.in-If.first c.in-If.second c.in-If.is)
    ∙ if_gives (program_of c.args.functions.now) (parsed_function c.args.function.now) (tree_of c.in-If.condition) (parsed_statements c.in-If.first.statements.items) (other_of c.in-If.second) (context_of c.args.scope.now.items) (context_of c.check_block.new.scope.items) (context_of c.check_else.new.scope.items) (expr_of c.in_ok-condition-in-If.condition) (block_of c.in_ok-first-in-If.first) (block_of c.in_ok-second-in-If.second) (ap (λ xs. infer_as (program_of c.args.functions.now) (context_of xs) Number (tree_of c.in-If.condition)) (sym c.deref-in-If.ensures.value) ∙ c.in_ok-condition-in-If.ensures.value) (ap (λ ss. block_from (program_of c.args.functions.now) (parsed_function c.args.function.now) (parsed_statements ss) (context_of c.args.scope.now.items)) (sym c.deref-in-If-2.ensures.value) ∙ c.in_ok-first-in-If.ensures.value) c.in_ok-first-in-If.ensures.same c.in_ok-second-in-If.ensures.value c.in_ok-second-in-If.ensures.same
    ∙ ap (λ s. Some (record { stmt = s; after = context_of c.check_else.new.scope.items })) (sym (if_checked c.in_ok-condition-in-If.condition c.in_ok-first-in-If.first c.in_ok-second-in-If.second))

pub check_statement-returns-in_err-from-in-For-clause-refused : goal.check_statement-returns-in_err-from-in-For-clause-refused
check_statement-returns-in_err-from-in-For-clause-refused t c =
    let f : IsTrue (is_refusal c.in_err-from-in-For.field-0.0) → step_of (program_of c.args.functions.now) (parsed_function c.args.function.now) (parsed_statement c.args.statement.now) (context_of c.args.scope.now.items) ≡ None = λ told. ap (λ x. step_of (program_of c.args.functions.now) (parsed_function c.args.function.now) x (context_of c.args.scope.now.items)) (for_is c.args.statement.now c.in-For.name c.in-For.from c.in-For.to c.in-For.body c.in-For.body.statements.items c.in-For.is refl) ∙ for_fails_from (program_of c.args.functions.now) (parsed_function c.args.function.now) (string_bytes c.in-For.name.text) (tree_of c.in-For.from) (tree_of c.in-For.to) (parsed_statements c.in-For.body.statements.items) (context_of c.args.scope.now.items) (ap (λ xs. fresh (context_of xs) (string_bytes c.in-For.name.text)) (sym c.deref-in-For.ensures.value) ∙ c.in_ok-check_fresh-in-For.ensures.value) (ap (λ xs. infer_as (program_of c.args.functions.now) (context_of xs) Number (tree_of c.in-For.from)) (sym c.deref-in-For-2.ensures.value) ∙ c.in_err-from-in-For.ensures.refused told) in
    search (rules, f)

pub check_statement-returns-in_err-to-in-For-clause-refused : goal.check_statement-returns-in_err-to-in-For-clause-refused
check_statement-returns-in_err-to-in-For-clause-refused t c =
    let f : IsTrue (is_refusal c.in_err-to-in-For.field-0.0) → step_of (program_of c.args.functions.now) (parsed_function c.args.function.now) (parsed_statement c.args.statement.now) (context_of c.args.scope.now.items) ≡ None = λ told. ap (λ x. step_of (program_of c.args.functions.now) (parsed_function c.args.function.now) x (context_of c.args.scope.now.items)) (for_is c.args.statement.now c.in-For.name c.in-For.from c.in-For.to c.in-For.body c.in-For.body.statements.items c.in-For.is refl) ∙ for_fails_to (program_of c.args.functions.now) (parsed_function c.args.function.now) (string_bytes c.in-For.name.text) (tree_of c.in-For.from) (tree_of c.in-For.to) (parsed_statements c.in-For.body.statements.items) (context_of c.args.scope.now.items) (expr_of c.in_ok-from-in-For.from) (ap (λ xs. fresh (context_of xs) (string_bytes c.in-For.name.text)) (sym c.deref-in-For.ensures.value) ∙ c.in_ok-check_fresh-in-For.ensures.value) (ap (λ xs. infer_as (program_of c.args.functions.now) (context_of xs) Number (tree_of c.in-For.from)) (sym c.deref-in-For-2.ensures.value) ∙ c.in_ok-from-in-For.ensures.value) (ap (λ xs. infer_as (program_of c.args.functions.now) (context_of xs) Number (tree_of c.in-For.to)) (sym c.deref-in-For-3.ensures.value) ∙ c.in_err-to-in-For.ensures.refused told) in
    search (rules, f)

pub check_statement-check_turn-requires : goal.check_statement-check_turn-requires
check_statement-check_turn-requires t c =
    let f = body_size (parsed_statement c.args.statement.now) (string_bytes c.in-For.name.text) (tree_of c.in-For.from) (tree_of c.in-For.to) (parsed_statements c.in-For.body.statements.items) (for_is c.args.statement.now c.in-For.name c.in-For.from c.in-For.to c.in-For.body c.in-For.body.statements.items c.in-For.is refl) in
    let g = ap (λ ss. block_size (parsed_statements ss)) c.deref-in-For-4.ensures.value in
    search (rules, f, g)

pub check_statement-returns-in_err-body-in-For-clause-refused : goal.check_statement-returns-in_err-body-in-For-clause-refused
check_statement-returns-in_err-body-in-For-clause-refused t c =
    let f : IsTrue (is_refusal c.in_err-body-in-For.field-0.0) → step_of (program_of c.args.functions.now) (parsed_function c.args.function.now) (parsed_statement c.args.statement.now) (context_of c.args.scope.now.items) ≡ None = λ told. ap (λ x. step_of (program_of c.args.functions.now) (parsed_function c.args.function.now) x (context_of c.args.scope.now.items)) (for_is c.args.statement.now c.in-For.name c.in-For.from c.in-For.to c.in-For.body c.in-For.body.statements.items c.in-For.is refl) ∙ for_fails_body (program_of c.args.functions.now) (parsed_function c.args.function.now) (string_bytes c.in-For.name.text) (tree_of c.in-For.from) (tree_of c.in-For.to) (parsed_statements c.in-For.body.statements.items) (context_of c.args.scope.now.items) (expr_of c.in_ok-from-in-For.from) (expr_of c.in_ok-to-in-For.to) (ap (λ xs. fresh (context_of xs) (string_bytes c.in-For.name.text)) (sym c.deref-in-For.ensures.value) ∙ c.in_ok-check_fresh-in-For.ensures.value) (ap (λ xs. infer_as (program_of c.args.functions.now) (context_of xs) Number (tree_of c.in-For.from)) (sym c.deref-in-For-2.ensures.value) ∙ c.in_ok-from-in-For.ensures.value) (ap (λ xs. infer_as (program_of c.args.functions.now) (context_of xs) Number (tree_of c.in-For.to)) (sym c.deref-in-For-3.ensures.value) ∙ c.in_ok-to-in-For.ensures.value) (ap (λ ss. block_from (program_of c.args.functions.now) (parsed_function c.args.function.now) (parsed_statements ss) ((context_of c.args.scope.now.items) ++ variable (string_bytes c.in-For.name.text) Number)) (sym c.deref-in-For-4.ensures.value) ∙ c.in_err-body-in-For.ensures.refused told) in
    search (rules, f)

pub check_statement-returns-in_ok-clone-in-For-clause-value : goal.check_statement-returns-in_ok-clone-in-For-clause-value
check_statement-returns-in_ok-clone-in-For-clause-value t c =
    let x : string_bytes c.in_ok-clone-in-For.field-0 ≡ (string_bytes c.in-For.name.text) = search rules in
    ap (λ x. step_of (program_of c.args.functions.now) (parsed_function c.args.function.now) x (context_of c.args.scope.now.items)) (for_is c.args.statement.now c.in-For.name c.in-For.from c.in-For.to c.in-For.body c.in-For.body.statements.items c.in-For.is refl)
    ∙ for_gives (program_of c.args.functions.now) (parsed_function c.args.function.now) (string_bytes c.in-For.name.text) (tree_of c.in-For.from) (tree_of c.in-For.to) (parsed_statements c.in-For.body.statements.items) (context_of c.args.scope.now.items) (context_of c.check_turn.new.scope.items) (expr_of c.in_ok-from-in-For.from) (expr_of c.in_ok-to-in-For.to) (block_of c.in_ok-body-in-For.body) (ap (λ xs. fresh (context_of xs) (string_bytes c.in-For.name.text)) (sym c.deref-in-For.ensures.value) ∙ c.in_ok-check_fresh-in-For.ensures.value) (ap (λ xs. infer_as (program_of c.args.functions.now) (context_of xs) Number (tree_of c.in-For.from)) (sym c.deref-in-For-2.ensures.value) ∙ c.in_ok-from-in-For.ensures.value) (ap (λ xs. infer_as (program_of c.args.functions.now) (context_of xs) Number (tree_of c.in-For.to)) (sym c.deref-in-For-3.ensures.value) ∙ c.in_ok-to-in-For.ensures.value) (ap (λ ss. block_from (program_of c.args.functions.now) (parsed_function c.args.function.now) (parsed_statements ss) ((context_of c.args.scope.now.items) ++ variable (string_bytes c.in-For.name.text) Number)) (sym c.deref-in-For-4.ensures.value) ∙ c.in_ok-body-in-For.ensures.value) c.in_ok-body-in-For.ensures.same
    ∙ ap (λ h. Some (record { stmt = syntax.For h (expr_of c.in_ok-from-in-For.from) (expr_of c.in_ok-to-in-For.to) (block_of c.in_ok-body-in-For.body); after = context_of c.check_turn.new.scope.items })) (sym x)
    ∙ ap (λ s. Some (record { stmt = s; after = context_of c.check_turn.new.scope.items })) (sym (for_checked c.in_ok-clone-in-For.field-0 c.in_ok-from-in-For.from c.in_ok-to-in-For.to c.in_ok-body-in-For.body))

pub check_statement-returns-in-Print-clause-value : goal.check_statement-returns-in-Print-clause-value
check_statement-returns-in-Print-clause-value t c =
    subst (λ x. IfOk c.check_print.result (λ s. step_of (program_of c.args.functions.now) (parsed_function c.args.function.now) x (context_of c.args.scope.now.items) ≡ Some (record { stmt = statement_of s; after = (context_of c.args.scope.now.items) }))) (sym (ap parsed_statement c.in-Print.is))
    (subst (λ xs. IfOk c.check_print.result (λ s. step_of (program_of c.args.functions.now) (parsed_function c.args.function.now) (parsed.Print (tree_of c.in-Print.expr)) (context_of xs) ≡ Some (record { stmt = statement_of s; after = (context_of xs) }))) c.deref-in-Print.ensures.value c.check_print.ensures.value)

pub check_statement-returns-in-Print-clause-refused : goal.check_statement-returns-in-Print-clause-refused
check_statement-returns-in-Print-clause-refused t c =
    subst (λ x. IfErr c.check_print.result (λ e. IsTrue (is_refusal e) → step_of (program_of c.args.functions.now) (parsed_function c.args.function.now) x (context_of c.args.scope.now.items) ≡ None)) (sym (ap parsed_statement c.in-Print.is))
    (subst (λ xs. IfErr c.check_print.result (λ e. IsTrue (is_refusal e) → step_of (program_of c.args.functions.now) (parsed_function c.args.function.now) (parsed.Print (tree_of c.in-Print.expr)) (context_of xs) ≡ None)) c.deref-in-Print.ensures.value c.check_print.ensures.refused)

pub check_statement-returns-in-Return-clause-value : goal.check_statement-returns-in-Return-clause-value
check_statement-returns-in-Return-clause-value t c =
    subst (λ x. IfOk c.check_return.result (λ s. step_of (program_of c.args.functions.now) (parsed_function c.args.function.now) x (context_of c.args.scope.now.items) ≡ Some (record { stmt = statement_of s; after = (context_of c.args.scope.now.items) }))) (sym (ap parsed_statement c.in-Return.is))
    (subst (λ es. IfOk c.check_return.result (λ s. step_of (program_of c.args.functions.now) (parsed_function c.args.function.now) (parsed.Return (tree_of c.in-Return.expr) (trees_of es)) (context_of c.args.scope.now.items) ≡ Some (record { stmt = statement_of s; after = (context_of c.args.scope.now.items) }))) c.deref-in-Return-2.ensures.value
    (subst (λ xs. IfOk c.check_return.result (λ s. step_of (program_of c.args.functions.now) (parsed_function c.args.function.now) (parsed.Return (tree_of c.in-Return.expr) (trees_of c.deref-in-Return-2.result.now)) (context_of xs) ≡ Some (record { stmt = statement_of s; after = (context_of xs) }))) c.deref-in-Return.ensures.value c.check_return.ensures.value))

pub check_statement-returns-in-Return-clause-refused : goal.check_statement-returns-in-Return-clause-refused
check_statement-returns-in-Return-clause-refused t c =
    subst (λ x. IfErr c.check_return.result (λ e. IsTrue (is_refusal e) → step_of (program_of c.args.functions.now) (parsed_function c.args.function.now) x (context_of c.args.scope.now.items) ≡ None)) (sym (ap parsed_statement c.in-Return.is))
    (subst (λ es. IfErr c.check_return.result (λ e. IsTrue (is_refusal e) → step_of (program_of c.args.functions.now) (parsed_function c.args.function.now) (parsed.Return (tree_of c.in-Return.expr) (trees_of es)) (context_of c.args.scope.now.items) ≡ None)) c.deref-in-Return-2.ensures.value
    (subst (λ xs. IfErr c.check_return.result (λ e. IsTrue (is_refusal e) → step_of (program_of c.args.functions.now) (parsed_function c.args.function.now) (parsed.Return (tree_of c.in-Return.expr) (trees_of c.deref-in-Return-2.result.now)) (context_of xs) ≡ None)) c.deref-in-Return.ensures.value c.check_return.ensures.refused))

pub check_statements-check_statement-requires : goal.check_statements-check_statement-requires
check_statements-check_statement-requires t c =
    let f = within c.args.statements.now c.loop-statement.statement-index c.statement-item.result c.loop-statement-test.true c.statement-item.is in
    search (rules, f)

-- one statement more, in the scope behind those before
pub check_statements-loop-statement-preserved : goal.check_statements-loop-statement-preserved
check_statements-loop-statement-preserved t c =
    rw c.in_ok-push.ensures.items (statements_step (program_of c.args.functions.now) (parsed_function c.args.function.now) c.loop-statement.checked.items c.in_ok-statement.statement c.args.statements.now c.loop-statement.statement-index c.statement-item.result (context_of c.loop-statement.scope.items) (context_of c.check_statement.new.scope.items) _ c.loop-statement-test.true c.statement-item.is c.loop-statement.invariant c.in_ok-statement.ensures.value)

pub check_statements-returns-clause-value : goal.check_statements-returns-clause-value
check_statements-returns-clause-value t c =
    statements_end (program_of c.args.functions.now) (parsed_function c.args.function.now) c.loop-statement.checked.items c.args.statements.now c.loop-statement.statement-index (context_of c.loop-statement.scope.items) _ (omega (arith, c.loop-statement-test.false)) c.loop-statement.invariant

-- behind a block the scope is cut to what it was
pub check_turn-returns-clause-same : goal.check_turn-returns-clause-same
check_turn-returns-clause-same t c =
    let x = variable (string_bytes c.args.name.now.text) Number in
    let e = steps_extend (program_of c.args.functions.now) (parsed_function c.args.function.now) (parsed_statements c.args.statements.now) (context_of c.declare.new.scope.items) (record { block = block_of c.in_ok-block.block; after = context_of c.check_statements.new.scope.items }) c.in_ok-block.ensures.value in
    cut c.args.scope.now.items c.check_statements.new.scope.items c.truncate.new.self.items c.len-outer.result (x ++ e.0) (c.len-outer.ensures ∙ c.args.scope.now.ok.0) c.truncate.ensures.items (e.1 ∙ ap (λ z. z ++ e.0) c.in_ok-declare.ensures.value ∙ append_assoc (context_of c.args.scope.now.items) x e.0)
