use Rattle.std.proofs.Common.{◌∷◌, ◌++◌, List, map, sym, ap, ◌∙◌}
use Rattle.script_tokens.specs.declared.token.Mark.TheVariants as marks
use Rattle.script_tokens.specs.Tokens.{Token, mark}
use Rattle.script_tokens.specs.Views.{token_of}
use Rattle.script_syntax.specs.Views.{tree_of, trees_of, retries_of}
use Rattle.script_syntax.specs.Expressions.{expression_before, arguments_before, retries_before}
use Rattle.script_syntax.specs.Printing.{written, written_arguments, as_expression}
use Rattle.script_syntax.specs.Writing.{wanted_before, call_before, has_items}
use Rattle.script_syntax.proofs.Written.{binary_written, index_written, list_written, no_list_written, call_written, remote_written}
use Rattle.script_syntax.proofs.writer.+writing.Goals as goal

pub add_bare-returns-in_ok-add_as-in-Binary-2 : goal.add_bare-returns-in_ok-add_as-in-Binary-2
add_bare-returns-in_ok-add_as-in-Binary-2 t c rest =
    let right = wanted_before c.right_word.result (written (tree_of c.deref-in-Binary-2.result.now)) rest in
    c.in_ok-add_as-in-Binary-2.ensures rest
    ∙ c.in_ok-add_mark-in-Binary.ensures right
    ∙ c.in_ok-add_as-in-Binary.ensures (mark c.mark_of_operator.result ∷ right)
    ∙ ap (λ (x : List Token). map token_of c.args.tokens.now.items ++ x) (binary_written c.args.expression.now.kind c.in-Binary.operator c.in-Binary.left c.in-Binary.right c.deref-in-Binary.result.now c.deref-in-Binary-2.result.now c.left_word.result c.right_word.result c.mark_of_operator.result rest c.in-Binary.is c.deref-in-Binary.ensures c.deref-in-Binary-2.ensures c.left_word.ensures c.mark_of_operator.ensures c.right_word.ensures)

pub add_bare-returns-in_ok-add_mark-in-Index-2 : goal.add_bare-returns-in_ok-add_mark-in-Index-2
add_bare-returns-in_ok-add_mark-in-Index-2 t c rest =
    let closed = mark marks.CloseBracket ∷ rest in
    let place = expression_before (as_expression (written (tree_of c.deref-in-Index-2.result.now))) closed in
    c.in_ok-add_mark-in-Index-2.ensures rest
    ∙ c.in_ok-add_as-in-Index-2.ensures closed
    ∙ c.in_ok-add_mark-in-Index.ensures place
    ∙ c.in_ok-add_as-in-Index.ensures (mark marks.OpenBracket ∷ place)
    ∙ ap (λ (x : List Token). map token_of c.args.tokens.now.items ++ x) (index_written c.args.expression.now.kind c.in-Index.list c.in-Index.place c.deref-in-Index.result.now c.deref-in-Index-2.result.now rest c.in-Index.is c.deref-in-Index.ensures c.deref-in-Index-2.ensures)

pub add_bare-returns-in_ok-add_call-in-Call : goal.add_bare-returns-in_ok-add_call-in-Call
add_bare-returns-in_ok-add_call-in-Call t c rest =
    c.in_ok-add_call-in-Call.ensures rest
    ∙ ap (λ (x : List Token). map token_of c.args.tokens.now.items ++ x) (call_written c.args.expression.now.kind c.in-Call.name c.in-Call.arguments c.deref-in-Call.result.now rest c.in-Call.is c.deref-in-Call.ensures.value)

pub add_bare-returns-in_ok-add_call-in-Remote : goal.add_bare-returns-in_ok-add_call-in-Remote
add_bare-returns-in_ok-add_call-in-Remote t c rest =
    let called = call_before c.in-Remote.name c.deref-in-Remote.result.now rest in
    c.in_ok-add_call-in-Remote.ensures rest
    ∙ c.in_ok-add_retries-in-Remote.ensures called
    ∙ c.in_ok-add_mark-in-Remote.ensures (retries_before (retries_of c.in-Remote.retries) called)
    ∙ ap (λ (x : List Token). map token_of c.args.tokens.now.items ++ x) (remote_written c.args.expression.now.kind c.in-Remote.retries c.in-Remote.name c.in-Remote.arguments c.deref-in-Remote.result.now rest c.in-Remote.is c.deref-in-Remote.ensures.value)

pub add_bare-returns-then-has_items : goal.add_bare-returns-then-has_items
add_bare-returns-then-has_items t c rest =
    let closed = mark marks.CloseBracket ∷ rest in
    let items = arguments_before (written_arguments (trees_of c.deref-then-has_items.result.now)) closed in
    let full = ap (λ xs. has_items (trees_of xs)) (c.deref-then-has_items.ensures.value ∙ sym c.deref-in-List.ensures.value) ∙ sym c.has_items.ensures ∙ c.if-has_items.true in
    c.in_ok-add_mark-in-List-2.ensures rest
    ∙ c.in_ok-add_items-in-List.ensures closed
    ∙ c.in_ok-add_mark-in-List.ensures items
    ∙ ap (λ (x : List Token). map token_of c.args.tokens.now.items ++ x) (list_written c.args.expression.now.kind c.in-List.items c.deref-then-has_items.result.now rest c.in-List.is c.deref-then-has_items.ensures.value full)

pub add_bare-returns-in_ok-add_mark-in-List-4 : goal.add_bare-returns-in_ok-add_mark-in-List-4
add_bare-returns-in_ok-add_mark-in-List-4 t c rest =
    let empty = sym c.has_items.ensures ∙ c.if-has_items.false in
    c.in_ok-add_mark-in-List-4.ensures rest
    ∙ c.in_ok-add_mark-in-List-3.ensures (mark marks.Int ∷ rest)
    ∙ ap (λ (x : List Token). map token_of c.args.tokens.now.items ++ x) (no_list_written c.args.expression.now.kind c.in-List.items c.deref-in-List.result.now rest c.in-List.is c.deref-in-List.ensures.value empty)
