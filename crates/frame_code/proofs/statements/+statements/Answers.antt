use Rattle.std.proofs.Common.{rules, ◌<◌, ◌+◌, ◌-◌, ◌++◌, refl, ap, ◌∙◌, arith}
use Rattle.std.specs.Prelude.{slice_set}
use Rattle.script_check.specs.Trees.{expr_of, statement_of, statements_of, script_of}
use Rattle.frame_laws.specs.Instructions as pure
use Rattle.frame_laws.specs.Compile.{block_code, expr_code, whole_operand, operand_of}
use Rattle.frame_code.specs.Sizes.{stmt_size, block_size}
use Rattle.frame_code.specs.Views.{given_of, codes, names_of}
use Rattle.frame_code.proofs.Sizes.{stmt_within}
use Rattle.frame_code.proofs.Rows.{on_ok}
use Rattle.frame_code.proofs.Patches.{patch_choice, patch_loop, count_codes}
use Rattle.frame_code.proofs.Blocks.{if_size, for_size, choice_code, loop_is, results_code, references_code, names_cut, loop_cut, count_names}
use Rattle.frame_code.proofs.statements.+statements.Goals as goal

pub emit_block-emit_statement-requires : goal.emit_block-emit_statement-requires
emit_block-emit_statement-requires t c =
    let f = stmt_within c.args.statements.now c.loop-statement.statement-index c.statement-item.result c.loop-statement-test.true in
    let e = ap (λ x. stmt_size (statement_of x)) c.statement-item.is in
    let g : stmt_size (statement_of c.statement-item.result) < block_size (statements_of c.args.statements.now) = omega arith in
    search (rules, g)

pub emit_block-returns-clause-names : goal.emit_block-returns-clause-names
emit_block-returns-clause-names t c =
    names_cut c.args.names.now.items c.loop-statement.names.items c.truncate.new.self.items c.len-outer.result
    (c.len-outer.ensures ∙ c.args.names.now.ok.0) c.truncate.ensures.items c.loop-statement.invariant.names

pub emit_loop-returns-clause-names : goal.emit_loop-returns-clause-names
emit_loop-returns-clause-names t c =
    loop_cut c.args.names.now.items c.emit_block.new.names.items c.truncate.new.self.items c.len-outer.result c.args.name.now
    (c.len-outer.ensures ∙ c.args.names.now.ok.0) c.truncate.ensures.items (c.in_ok-emit_block.ensures.names ∙ c.in_ok-push_loop_names.ensures)

pub emit_choice-returns-clause-code : goal.emit_choice-returns-clause-code
emit_choice-returns-clause-code t c =
    let script = script_of c.args.script.now in
    let names = names_of c.args.names.now.items in
    let first = block_code script names (statements_of c.args.first.now) in
    let second = block_code script names (statements_of c.args.second.now) in
    let skip = c.len-skip.result in
    let last = pure.Skip (c.len-end.result - skip - 1) in
    c.patch-2.ensures ∙ ap (λ l. slice_set l skip last) c.patch.ensures
    ∙ patch_choice (given_of c.args.condition) (codes c.args.code.now.items) first second (codes c.put.new.code.items) (codes c.emit_block.new.code.items)
    (codes c.put-2.new.code.items) (codes c.emit_block-2.new.code.items) pure.Wrong pure.Wrong c.len-test.result skip c.len-end.result
    (c.len-test.ensures ∙ c.args.code.now.ok.0 ∙ count_codes c.args.code.now.items) c.in_ok-put.ensures c.in_ok-emit_block.ensures.code
    (c.len-skip.ensures ∙ c.emit_block.new.code.ok.0 ∙ count_codes c.emit_block.new.code.items) c.in_ok-put-2.ensures
    (c.in_ok-emit_block-2.ensures.code
    ∙ ap (λ ns. codes c.put-2.new.code.items ++ block_code script ns (statements_of c.args.second.now)) c.in_ok-emit_block.ensures.names)
    (c.len-end.ensures ∙ c.emit_block-2.new.code.ok.0 ∙ count_codes c.emit_block-2.new.code.items)

pub emit_loop-returns-clause-code : goal.emit_loop-returns-clause-code
emit_loop-returns-clause-code t c =
    let script = script_of c.args.script.now in
    let turn = c.len.result - c.len-begin.result - 1 in
    let same = ap (λ ns. codes c.put.new.code.items ++ block_code script ns (statements_of c.args.body.now)) c.in_ok-push_loop_names.ensures in
    c.patch.ensures
    ∙ patch_loop c.args.bounds (codes c.args.code.now.items) _ (codes c.put.new.code.items) (codes c.emit_block.new.code.items) (codes c.put-2.new.code.items)
    pure.Wrong c.len-begin.result c.len.result turn (turn + 1) (c.len-begin.ensures ∙ c.args.code.now.ok.0 ∙ count_codes c.args.code.now.items)
    c.in_ok-put.ensures (c.in_ok-emit_block.ensures.code ∙ same)
    (c.len.ensures ∙ c.emit_block.new.code.ok.0 ∙ count_codes c.emit_block.new.code.items) refl c.in_ok-put-2.ensures refl

pub emit_statement-emit_choice-requires : goal.emit_statement-emit_choice-requires
emit_statement-emit_choice-requires t c =
    let first = c.deref-in-If-2 in
    let second = c.deref-in-If-3 in
    let f =
    if_size c.args.statement.now c.in-If.condition c.in-If.first c.in-If.second first.result.now second.result.now c.in-If.is first.ensures.value
    second.ensures.value in
    let g : block_size (statements_of first.result.now) + block_size (statements_of second.result.now) + 1 < stmt_size (statement_of c.args.statement.now) =
    omega arith in
    search (rules, g)

pub emit_statement-emit_loop-requires : goal.emit_statement-emit_loop-requires
emit_statement-emit_loop-requires t c =
    let body = c.deref-in-For-3 in
    let f = for_size c.args.statement.now c.in-For.name c.in-For.from c.in-For.to c.in-For.body body.result.now c.in-For.is body.ensures.value in
    let g : block_size (statements_of body.result.now) + 1 < stmt_size (statement_of c.args.statement.now) = omega arith in
    search (rules, g)

pub emit_statement-returns-in_ok-condition-in-If-clause-code : goal.emit_statement-returns-in_ok-condition-in-If-clause-code
emit_statement-returns-in_ok-condition-in-If-clause-code t c =
    let script = script_of c.args.script.now in
    let names = c.args.names.now.items in
    let free = c.in_ok-free.free in
    let e = expr_of c.in-If.condition in
    let given = c.in_ok-condition-in-If.ensures.operand ∙ ap (λ ns. operand_of (names_of ns) e free) c.deref-in-If.ensures.value in
    let before =
    c.in_ok-condition-in-If.ensures.code ∙ ap (λ ns. codes c.args.code.now.items ++ whole_operand script (names_of ns) e free) c.deref-in-If.ensures.value
    in
    on_ok _ _ c.emit_choice.result
    (λ p. choice_code script (names_of names) c.args.statement.now c.in-If.condition c.in-If.first c.in-If.second c.deref-in-If-2.result.now
    c.deref-in-If-3.result.now
    (codes c.args.code.now.items) (codes c.emit_operand-in-If.new.code.items) (codes c.emit_choice.new.code.items) free
    (given_of c.in_ok-condition-in-If.condition)
    c.in-If.is c.deref-in-If-2.ensures.value c.deref-in-If-3.ensures.value (c.in_ok-free.ensures.value ∙ c.len.ensures ∙ c.args.names.now.ok.0 ∙ count_names names)
    given before p)
    c.emit_choice.ensures.code

pub emit_statement-returns-in_ok-emit_expr-in-For-2-clause-code : goal.emit_statement-returns-in_ok-emit_expr-in-For-2-clause-code
emit_statement-returns-in_ok-emit_expr-in-For-2-clause-code t c =
    let script = script_of c.args.script.now in
    let names = c.args.names.now.items in
    let free = c.in_ok-free.free in
    let second = c.in_ok-second-in-For.second in
    let from = expr_of c.in-For.from in
    let to = expr_of c.in-For.to in
    let one =
    c.in_ok-emit_expr-in-For.ensures ∙ ap (λ ns. codes c.args.code.now.items ++ expr_code script (names_of ns) from free free)
    c.deref-in-For.ensures.value in
    let two =
    c.in_ok-emit_expr-in-For-2.ensures ∙ ap (λ ns. codes c.emit_expr-in-For.new.code.items ++ expr_code script (names_of ns) to second second)
    c.deref-in-For-2.ensures.value in
    on_ok _ _ c.emit_loop.result
    (λ p. loop_is script (names_of names) c.args.statement.now c.in-For.name c.in-For.from c.in-For.to c.in-For.body c.deref-in-For-3.result.now
    (codes c.args.code.now.items) (codes c.emit_expr-in-For.new.code.items) (codes c.emit_expr-in-For-2.new.code.items) (codes c.emit_loop.new.code.items)
    free second
    c.as_str-in-For.result.now c.in-For.is c.deref-in-For-3.ensures.value c.as_str-in-For.ensures.value
    (c.in_ok-free.ensures.value ∙ c.len.ensures ∙ c.args.names.now.ok.0 ∙ count_names names) c.in_ok-second-in-For.ensures.value one two p)
    c.emit_loop.ensures.code

pub emit_statement-returns-in_ok-push-in-LetCall-clause-code : goal.emit_statement-returns-in_ok-push-in-LetCall-clause-code
emit_statement-returns-in_ok-push-in-LetCall-clause-code t c =
    let names = c.args.names.now.items in
    on_ok _ _ c.push_names.result
    (λ _. results_code (script_of c.args.script.now) (names_of names) c.args.statement.now c.in-LetCall.name c.in-LetCall.others c.in-LetCall.function
    c.in-LetCall.arguments (names_of c.deref-in-LetCall.result.now) c.deref-in-LetCall-2.result.now (codes c.args.code.now.items)
    (codes c.emit_results.new.code.items) c.in_ok-free.free c.len-in-LetCall.result c.as_str-in-LetCall.result.now c.in-LetCall.is
    (ap names_of c.deref-in-LetCall.ensures.value) c.deref-in-LetCall-2.ensures.value c.as_str-in-LetCall.ensures.value
    (c.in_ok-free.ensures.value ∙ c.len.ensures ∙ c.args.names.now.ok.0 ∙ count_names names) (c.len-in-LetCall.ensures ∙ c.in-LetCall.others.ok.0)
    c.in_ok-emit_results-in-LetCall.ensures)
    c.push_names.ensures

pub emit_statement-returns-in_ok-push-in-LetRemote-clause-code : goal.emit_statement-returns-in_ok-push-in-LetRemote-clause-code
emit_statement-returns-in_ok-push-in-LetRemote-clause-code t c =
    let names = c.args.names.now.items in
    on_ok _ _ c.push_names-in-LetRemote.result
    (λ _. references_code (script_of c.args.script.now) (names_of names) c.args.statement.now c.in-LetRemote.name c.in-LetRemote.others c.in-LetRemote.retries
    c.in-LetRemote.function c.in-LetRemote.marks c.in-LetRemote.arguments (names_of c.deref-in-LetRemote.result.now) c.deref-in-LetRemote-2.result.now
    c.deref-in-LetRemote-3.result.now (codes c.args.code.now.items) (codes c.emit_references.new.code.items) c.in_ok-free.free c.len-in-LetRemote.result
    c.in-LetRemote.is (ap names_of c.deref-in-LetRemote.ensures.value) c.deref-in-LetRemote-2.ensures.value c.deref-in-LetRemote-3.ensures.value
    (c.in_ok-free.ensures.value ∙ c.len.ensures ∙ c.args.names.now.ok.0 ∙ count_names names) (c.len-in-LetRemote.ensures ∙ c.in-LetRemote.others.ok.0)
    c.in_ok-emit_references-in-LetRemote.ensures)
    c.push_names-in-LetRemote.ensures
