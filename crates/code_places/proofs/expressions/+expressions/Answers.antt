use Rattle.std.proofs.Common.{◌++◌, ap, ◌∙◌, sym}
use Rattle.code_places.proofs.Rows.{on_ok, list_is, call_is, remote_is}
use Rattle.code_places.proofs.expressions.+expressions.Goals as goal

pub add_parts-returns-in-List : goal.add_parts-returns-in-List
add_parts-returns-in-List t c =
    on_ok _ _ c.add_exprs.result
    (λ p. p ∙ ap (λ l. c.args.places.now.items ++ l)
    (sym (list_is c.args.expr.now.kind c.in-List.items c.deref-in-List.result.now c.in-List.is c.deref-in-List.ensures.value)))
    c.add_exprs.ensures

pub add_parts-returns-in-Call : goal.add_parts-returns-in-Call
add_parts-returns-in-Call t c =
    on_ok _ _ c.add_exprs-in-Call.result
    (λ p. p ∙ ap (λ l. c.args.places.now.items ++ l)
    (sym (call_is c.args.expr.now.kind c.in-Call.field-0 c.in-Call.arguments c.deref-in-Call.result.now c.in-Call.is c.deref-in-Call.ensures.value)))
    c.add_exprs-in-Call.ensures

pub add_parts-returns-in-Remote : goal.add_parts-returns-in-Remote
add_parts-returns-in-Remote t c =
    on_ok _ _ c.add_exprs-in-Remote.result
    (λ p. p ∙ ap (λ l. c.args.places.now.items ++ l)
    (sym (remote_is c.args.expr.now.kind c.in-Remote.field-0 c.in-Remote.field-1 c.in-Remote.arguments c.deref-in-Remote.result.now c.in-Remote.is
    c.deref-in-Remote.ensures.value)))
    c.add_exprs-in-Remote.ensures
