use Rattle.std.proofs.Common.{rules, ◌≡◌, string_bytes, sym, ap, ◌∙◌, arith}
use Rattle.meaning.specs.Syntax as syntax
use Rattle.script_check.specs.Trees.{expr_of, statement_of, statements_of, block_of}
use Rattle.script_check.proofs.Rows.{if_checked, for_checked}
use Rattle.script_check.proofs.Copies.{steps_step, steps_end}
use Rattle.script_check.proofs.copy.+block_copies.Goals as goal

pub copy_block-loop-statement-preserved : goal.copy_block-loop-statement-preserved
copy_block-loop-statement-preserved t c =
    rw c.in_ok-push.ensures.items (steps_step c.loop-statement.copies.items c.in_ok-copy_statement.field-0 c.args.statements.now c.loop-statement.statement-index c.statement-item.result _ c.loop-statement-test.true c.statement-item.is c.loop-statement.invariant c.in_ok-copy_statement.ensures)

pub copy_block-returns : goal.copy_block-returns
copy_block-returns t c = steps_end c.loop-statement.copies.items c.args.statements.now c.loop-statement.statement-index _ (omega (arith, c.loop-statement-test.false)) c.loop-statement.invariant

pub copy_statement-returns-in_ok-second-in-If : goal.copy_statement-returns-in_ok-second-in-If
copy_statement-returns-in_ok-second-in-If t c =
    let a : block_of c.in_ok-first-in-If.first ≡ block_of c.in-If.first = c.in_ok-first-in-If.ensures ∙ ap statements_of c.deref-in-If.ensures.value in
    let b : block_of c.in_ok-second-in-If.second ≡ block_of c.in-If.second = c.in_ok-second-in-If.ensures ∙ ap statements_of c.deref-in-If-2.ensures.value in
    if_checked c.in_ok-condition-in-If.condition c.in_ok-first-in-If.first c.in_ok-second-in-If.second
    ∙ ap (λ x. syntax.If x (block_of c.in_ok-first-in-If.first) (block_of c.in_ok-second-in-If.second)) c.in_ok-condition-in-If.ensures
    ∙ ap (λ x. syntax.If (expr_of c.in-If.condition) x (block_of c.in_ok-second-in-If.second)) a
    ∙ ap (λ x. syntax.If (expr_of c.in-If.condition) (block_of c.in-If.first) x) b
    ∙ sym (if_checked c.in-If.condition c.in-If.first c.in-If.second) ∙ ap statement_of (sym c.in-If.is)

pub copy_statement-returns-in_ok-clone-in-For : goal.copy_statement-returns-in_ok-clone-in-For
copy_statement-returns-in_ok-clone-in-For t c =
    let x : string_bytes c.in_ok-clone-in-For.field-0 ≡ string_bytes c.in-For.name = search rules in
    let b : block_of c.in_ok-body-in-For.body ≡ block_of c.in-For.body = c.in_ok-body-in-For.ensures ∙ ap statements_of c.deref-in-For.ensures.value in
    for_checked c.in_ok-clone-in-For.field-0 c.in_ok-from-in-For.from c.in_ok-to-in-For.to c.in_ok-body-in-For.body
    ∙ ap (λ y. syntax.For y (expr_of c.in_ok-from-in-For.from) (expr_of c.in_ok-to-in-For.to) (block_of c.in_ok-body-in-For.body)) x
    ∙ ap (λ y. syntax.For (string_bytes c.in-For.name) y (expr_of c.in_ok-to-in-For.to) (block_of c.in_ok-body-in-For.body)) c.in_ok-from-in-For.ensures
    ∙ ap (λ y. syntax.For (string_bytes c.in-For.name) (expr_of c.in-For.from) y (block_of c.in_ok-body-in-For.body)) c.in_ok-to-in-For.ensures
    ∙ ap (λ y. syntax.For (string_bytes c.in-For.name) (expr_of c.in-For.from) (expr_of c.in-For.to) y) b
    ∙ sym (for_checked c.in-For.name c.in-For.from c.in-For.to c.in-For.body) ∙ ap statement_of (sym c.in-For.is)
