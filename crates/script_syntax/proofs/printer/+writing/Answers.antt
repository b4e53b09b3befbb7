use Rattle.std.proofs.Common.{◌∷◌, ◌++◌, List, map, ap, ◌∙◌}
use Rattle.std.specs.String.{string_bytes}
use Rattle.script_tokens.specs.declared.token.Mark.TheVariants as marks
use Rattle.script_tokens.specs.Tokens.{Token, mark, name}
use Rattle.script_tokens.specs.Views.{token_of}
use Rattle.script_syntax.specs.Expressions.{expression_before}
use Rattle.script_syntax.specs.Grammar.{block_before}
use Rattle.script_syntax.specs.Views.{tree_of, statements_of}
use Rattle.script_syntax.specs.Printing.{expression_of, written_statements}
use Rattle.script_syntax.proofs.Written.{if_written, if_else_written, for_written}
use Rattle.script_syntax.proofs.printer.+writing.Goals as goal

pub add_statement-returns-in_default : goal.add_statement-returns-in_default
add_statement-returns-in_default t c rest =
    let taken = block_before (written_statements (statements_of c.in-If.taken.statements.items)) rest in
    c.in_ok-add_block-in-If.ensures rest
    ∙ c.in_ok-add_expression-in-If.ensures taken
    ∙ c.in_ok-add_mark-in-If.ensures (expression_before (expression_of (tree_of c.in-If.condition)) taken)
    ∙ ap (λ (x : List Token). map token_of c.args.tokens.now.items ++ x) (if_written c.args.statement.now c.in-If.condition c.in-If.taken c.in-If.other rest c.in-If.is c.in_default.is)

pub add_statement-returns-in_ok-add_block-in-If-2 : goal.add_statement-returns-in_ok-add_block-in-If-2
add_statement-returns-in_ok-add_block-in-If-2 t c rest =
    let other = block_before (written_statements (statements_of c.in-Some.other.statements.items)) rest in
    let taken = block_before (written_statements (statements_of c.in-If.taken.statements.items)) (mark marks.Else ∷ other) in
    c.in_ok-add_block-in-If-2.ensures rest
    ∙ c.in_ok-add_mark-in-If-2.ensures other
    ∙ c.in_ok-add_block-in-If.ensures (mark marks.Else ∷ other)
    ∙ c.in_ok-add_expression-in-If.ensures taken
    ∙ c.in_ok-add_mark-in-If.ensures (expression_before (expression_of (tree_of c.in-If.condition)) taken)
    ∙ ap (λ (x : List Token). map token_of c.args.tokens.now.items ++ x) (if_else_written c.args.statement.now c.in-If.condition c.in-If.taken c.in-Some.other c.in-If.other rest c.in-If.is c.in-Some.is)

pub add_statement-returns-in_ok-add_block-in-For : goal.add_statement-returns-in_ok-add_block-in-For
add_statement-returns-in_ok-add_block-in-For t c rest =
    let body = block_before (written_statements (statements_of c.in-For.body.statements.items)) rest in
    let last = expression_before (expression_of (tree_of c.in-For.last)) body in
    let first = expression_before (expression_of (tree_of c.in-For.first)) (mark marks.Range ∷ last) in
    c.in_ok-add_block-in-For.ensures rest
    ∙ c.in_ok-add_expression-in-For-2.ensures body
    ∙ c.in_ok-add_mark-in-For-3.ensures last
    ∙ c.in_ok-add_expression-in-For.ensures (mark marks.Range ∷ last)
    ∙ c.in_ok-add_mark-in-For-2.ensures first
    ∙ c.in_ok-add_name-in-For.ensures (mark marks.In ∷ first)
    ∙ c.in_ok-add_mark-in-For.ensures (name (string_bytes c.in-For.name.text) ∷ mark marks.In ∷ first)
    ∙ ap (λ (x : List Token). map token_of c.args.tokens.now.items ++ x) (for_written c.args.statement.now c.in-For.name c.in-For.first c.in-For.last c.in-For.body rest c.in-For.is)
