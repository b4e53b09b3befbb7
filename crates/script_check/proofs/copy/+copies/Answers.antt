use Rattle.std.proofs.Common.{rules, ◌≡◌, string_bytes, sym, ap, ◌∙◌, arith}
use Rattle.meaning.specs.Syntax as syntax
use Rattle.script_check.specs.Trees.{expr_of, exprs_of}
use Rattle.script_check.proofs.Rows.{list_expr, call_expr, remote_expr}
use Rattle.script_check.proofs.Copies.{exprs_step, exprs_end}
use Rattle.script_check.proofs.copy.+copies.Goals as goal

pub copy_expr-returns-in_ok-copy_exprs-in-List : goal.copy_expr-returns-in_ok-copy_exprs-in-List
copy_expr-returns-in_ok-copy_exprs-in-List t c =
    list_expr c.in_ok-copy_exprs-in-List.field-0 ∙ ap syntax.ListOf (c.in_ok-copy_exprs-in-List.ensures ∙ ap exprs_of c.deref-in-List.ensures.value) ∙ sym (list_expr c.in-List.items) ∙ ap expr_of (sym c.in-List.is)

pub copy_expr-returns-in_ok-clone-in-Call : goal.copy_expr-returns-in_ok-clone-in-Call
copy_expr-returns-in_ok-clone-in-Call t c =
    let x : string_bytes c.in_ok-clone-in-Call.field-0 ≡ string_bytes c.in-Call.function = search rules in
    call_expr c.in_ok-clone-in-Call.field-0 c.in_ok-arguments-in-Call.arguments
    ∙ ap (syntax.Call (string_bytes c.in_ok-clone-in-Call.field-0)) (c.in_ok-arguments-in-Call.ensures ∙ ap exprs_of c.deref-in-Call.ensures.value)
    ∙ ap (λ g. syntax.Call g (exprs_of c.in-Call.arguments.items)) x
    ∙ sym (call_expr c.in-Call.function c.in-Call.arguments) ∙ ap expr_of (sym c.in-Call.is)

pub copy_expr-returns-in_ok-clone-in-Remote : goal.copy_expr-returns-in_ok-clone-in-Remote
copy_expr-returns-in_ok-clone-in-Remote t c =
    let x : string_bytes c.in_ok-clone-in-Remote.field-0 ≡ string_bytes c.in-Remote.function = search rules in
    let m : c.in_ok-marks-in-Remote.marks.items ≡ c.in-Remote.marks.items = search rules in
    remote_expr c.in-Remote.retries c.in_ok-clone-in-Remote.field-0 c.in_ok-marks-in-Remote.marks c.in_ok-arguments-in-Remote.arguments
    ∙ ap (syntax.Remote c.in-Remote.retries (string_bytes c.in_ok-clone-in-Remote.field-0) c.in_ok-marks-in-Remote.marks.items) (c.in_ok-arguments-in-Remote.ensures ∙ ap exprs_of c.deref-in-Remote.ensures.value)
    ∙ ap (λ ms. syntax.Remote c.in-Remote.retries (string_bytes c.in_ok-clone-in-Remote.field-0) ms (exprs_of c.in-Remote.arguments.items)) m
    ∙ ap (λ g. syntax.Remote c.in-Remote.retries g c.in-Remote.marks.items (exprs_of c.in-Remote.arguments.items)) x
    ∙ sym (remote_expr c.in-Remote.retries c.in-Remote.function c.in-Remote.marks c.in-Remote.arguments) ∙ ap expr_of (sym c.in-Remote.is)

pub copy_exprs-loop-expr-preserved : goal.copy_exprs-loop-expr-preserved
copy_exprs-loop-expr-preserved t c =
    rw c.in_ok-push.ensures.items (exprs_step c.loop-expr.copies.items c.in_ok-copy_expr.field-0 c.args.exprs.now c.loop-expr.expr-index c.expr-item.result _ c.loop-expr-test.true c.expr-item.is c.loop-expr.invariant c.in_ok-copy_expr.ensures)

pub copy_exprs-returns : goal.copy_exprs-returns
copy_exprs-returns t c = exprs_end c.loop-expr.copies.items c.args.exprs.now c.loop-expr.expr-index _ (omega (arith, c.loop-expr-test.false)) c.loop-expr.invariant
