use Rattle.std.proofs.Common.{◌≡◌, ◌≤◌, Bool, false, List, [], ◌∷◌, length, nat_eq, arith, ◌++◌, sym, ap, ◌∙◌, string_bytes}
use Rattle.script_check.specs.Trees.{expr_of, statements_of}
use Rattle.script_check.specs.declared.tree.CheckedStatement.{CheckedStatement}
use Rattle.engine_text.specs.Statements.{lines_text, loop_head}
use Rattle.engine_text.proofs.Rows.{on_ok, block_is, else_written, choice_written, loop_written}
use Rattle.engine_text.proofs.statements.+statements.Goals as goal

some : (ss : List CheckedStatement) (b : Bool) → b ≡ nat_eq (length ss) 0 → b ≡ false → 1 ≤ length ss
some [] b is e = cc
some (s ∷ ss) b is e = omega arith

pub write_block-returns : goal.write_block-returns
write_block-returns t c =
    let base = string_bytes c.args.text.now in
    let ss = c.args.statements.now in
    on_ok _ _ c.write_lines.result
    (λ h. h ∙ ap (λ m. base ++ lines_text m (statements_of ss)) (c.as_str-2.ensures.value ∙ c.in_ok-margin.ensures)
    ∙ ap (λ w. base ++ w) (sym (block_is c.args.margin.now ss (some c.args.statements.now c.is_empty.result c.is_empty.ensures c.if-is_empty.false))))
    c.write_lines.ensures

pub write_else-returns : goal.write_else-returns
write_else-returns t c =
    on_ok _ _ c.write_block.result
    (else_written c.args.margin.now c.args.statements.now (string_bytes c.args.text.now) (string_bytes c.push_str.new.self)
    (string_bytes c.push_str-2.new.self) (string_bytes c.write_block.new.text) (some c.args.statements.now c.is_empty.result c.is_empty.ensures c.if-is_empty.false) c.in_ok-push_str.ensures.bytes
    c.in_ok-push_str-2.ensures.bytes)
    c.write_block.ensures

pub write_statement-returns-in_ok-write_block-in-If : goal.write_statement-returns-in_ok-write_block-in-If
write_statement-returns-in_ok-write_block-in-If t c =
    on_ok _ _ c.write_else.result
    (choice_written c.args.statement.now c.in-If.condition c.in-If.first c.in-If.second c.deref-in-If.result.now c.deref-in-If-2.result.now c.args.margin.now
    (string_bytes c.args.text.now) (string_bytes c.write_word-in-If.new.text) (string_bytes c.write_block.new.text) (string_bytes c.write_else.new.text)
    c.in-If.is c.deref-in-If.ensures.value c.deref-in-If-2.ensures.value c.in_ok-write_word-in-If.ensures c.in_ok-write_block-in-If.ensures)
    c.write_else.ensures

pub write_statement-returns-in_ok-write_loop_head-in-For : goal.write_statement-returns-in_ok-write_loop_head-in-For
write_statement-returns-in_ok-write_loop_head-in-For t c =
    let base = string_bytes c.args.text.now in
    on_ok _ _ c.write_block-in-For.result
    (loop_written c.args.statement.now c.in-For.name c.in-For.from c.in-For.to c.in-For.body c.deref-in-For.result.now c.args.margin.now base
    (string_bytes c.write_loop_head.new.text) (string_bytes c.write_block-in-For.new.text) c.in-For.is c.deref-in-For.ensures.value
    (c.in_ok-write_loop_head-in-For.ensures
    ∙ ap (λ x. base ++ loop_head c.args.margin.now x (expr_of c.in-For.from) (expr_of c.in-For.to)) c.as_str-in-For.ensures.value))
    c.write_block-in-For.ensures
