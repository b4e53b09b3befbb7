use Rattle.code_places.proofs.Rows.{on_ok, if_alone, if_else, for_each}
use Rattle.code_places.proofs.statements.+statements.Goals as goal

pub add_statement-returns-in_default : goal.add_statement-returns-in_default
add_statement-returns-in_default t c =
    if_alone c.args.statement.now c.in-If.condition c.in-If.first c.in-If.second c.deref-in-If.result.now c.args.places.now.items
    c.add_operand.new.places.items c.add_enclosed.new.places.items c.in-If.is c.in_default.is c.deref-in-If.ensures.value
    c.in_ok-add_operand-in-If.ensures c.in_ok-add_enclosed-in-If.ensures

pub add_statement-returns-in-Some : goal.add_statement-returns-in-Some
add_statement-returns-in-Some t c =
    on_ok _ _ c.add_statements.result
    (λ p. if_else c.args.statement.now c.in-If.condition c.in-If.first c.in-Some.second c.in-If.second c.deref-in-If.result.now c.deref-in-If-2.result.now
    c.args.places.now.items c.add_operand.new.places.items c.add_enclosed.new.places.items c.add_statements.new.places.items c.in-If.is c.in-Some.is
    c.deref-in-If.ensures.value c.deref-in-If-2.ensures.value c.in_ok-add_operand-in-If.ensures c.in_ok-add_enclosed-in-If.ensures p)
    c.add_statements.ensures

pub add_statement-returns-in_ok-add_expr-in-For-2 : goal.add_statement-returns-in_ok-add_expr-in-For-2
add_statement-returns-in_ok-add_expr-in-For-2 t c =
    on_ok _ _ c.add_enclosed-in-For.result
    (λ p. for_each c.args.statement.now c.in-For.field-0 c.in-For.from c.in-For.to c.in-For.body c.deref-in-For.result.now c.over.result
    c.args.places.now.items c.add_expr-in-For.new.places.items c.add_expr-in-For-2.new.places.items c.add_enclosed-in-For.new.places.items
    c.in-For.is c.deref-in-For.ensures.value c.over.ensures c.in_ok-add_expr-in-For.ensures c.in_ok-add_expr-in-For-2.ensures p)
    c.add_enclosed-in-For.ensures
