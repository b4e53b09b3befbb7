use Rattle.std.proofs.Common.{rules, ◌≡◌, true, false, sym, ap, ◌∙◌}
use Rattle.script_syntax.specs.Views.{tree_of, statement_of as parsed_statement, statements_of as parsed_statements}
use Rattle.script_check.specs.Sizes.{block_size}
use Rattle.script_check.specs.Branches.{other_of}
use Rattle.script_check.specs.Inference.{block_returns}
use Rattle.script_check.proofs.Rows.{if_is}
use Rattle.script_check.proofs.Blocks.{within, first_size, second_size, returns_not, returns_by_else}
use Rattle.script_check.proofs.statements.+returns.Goals as goal

pub block_returns-returns-requires : goal.block_returns-returns-requires
block_returns-returns-requires t c =
    let f = within c.args.statements.now c.loop-statement.statement-index c.statement-item.result c.loop-statement-test.true c.statement-item.is in
    search (rules, f)

pub returns-block_returns-requires : goal.returns-block_returns-requires
returns-block_returns-requires t c =
    let f = first_size (parsed_statement c.args.statement.now) (tree_of c.in-If.field-0) (parsed_statements c.in-If.first.statements.items) (other_of c.in-If.second) (if_is c.args.statement.now c.in-If.field-0 c.in-If.first c.in-If.second c.in-If.is) in
    let g = ap (λ ss. block_size (parsed_statements ss)) c.deref.ensures.value in
    search (rules, f, g)

pub returns-returns-then-not-block_returns : goal.returns-returns-then-not-block_returns
returns-returns-then-not-block_returns t c =
    let z : c.block_returns.result ≡ false = search rules in
    sym (returns_not (parsed_statement c.args.statement.now) (tree_of c.in-If.field-0) (parsed_statements c.in-If.first.statements.items) (other_of c.in-If.second) (if_is c.args.statement.now c.in-If.field-0 c.in-If.first c.in-If.second c.in-If.is) (ap (λ ss. block_returns (parsed_statements ss)) (sym c.deref.ensures.value) ∙ sym c.block_returns.ensures ∙ z))

pub returns-else_returns-requires : goal.returns-else_returns-requires
returns-else_returns-requires t c =
    let f = second_size (parsed_statement c.args.statement.now) (tree_of c.in-If.field-0) (parsed_statements c.in-If.first.statements.items) (other_of c.in-If.second) (if_is c.args.statement.now c.in-If.field-0 c.in-If.first c.in-If.second c.in-If.is) in
    search (rules, f)

pub returns-returns-else-not-block_returns : goal.returns-returns-else-not-block_returns
returns-returns-else-not-block_returns t c =
    let z : c.block_returns.result ≡ true = search rules in
    c.else_returns.ensures ∙ sym (returns_by_else (parsed_statement c.args.statement.now) (tree_of c.in-If.field-0) (parsed_statements c.in-If.first.statements.items) (other_of c.in-If.second) (if_is c.args.statement.now c.in-If.field-0 c.in-If.first c.in-If.second c.in-If.is) (ap (λ ss. block_returns (parsed_statements ss)) (sym c.deref.ensures.value) ∙ sym c.block_returns.ensures ∙ z))
