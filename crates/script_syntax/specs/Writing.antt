-- What the writer adds to the tokens.
use Rattle.std.specs.Prelude.{◌≡◌, ℕ, Bool, true, false, List, ◌++◌, map}
use Rattle.script_tokens.specs.declared.token.Token.{Token as CodeToken}
use Rattle.script_tokens.specs.declared.token.Mark.{Mark}
use Rattle.script_tokens.specs.declared.token.Mark.TheVariants as marks
use Rattle.script_tokens.specs.Tokens.{Token}
use Rattle.script_tokens.specs.Views.{token_of}
use Rattle.script_syntax.specs.declared.tree.BinaryOperator.{BinaryOperator}
use Rattle.script_syntax.specs.declared.tree.BinaryOperator.TheVariants as operators
use Rattle.script_syntax.specs.declared.writer.Word.{Word}
use Rattle.script_syntax.specs.declared.writer.Word.TheVariants as words
use Rattle.script_syntax.specs.declared.tree.Name.{Name}
use Rattle.script_syntax.specs.declared.tree.Expr.{Expr}
use Rattle.script_syntax.specs.Expressions.{CallOf, expression_before, sum_before, product_before, unary_before, postfix_before, primary_before}
use Rattle.script_syntax.specs.Trees.{Exprs, no_expr, also}
use Rattle.script_syntax.specs.Views.{name_of, trees_of}
use Rattle.script_syntax.specs.Printing.{
  Written,
  loose,
  summed,
  multiplied,
  prefixed,
  indexed,
  tight,
  as_postfix,
  as_unary,
  as_product,
  as_sum,
  as_expression,
  written_arguments,
}

-- What was added is what is written before any rest.
abbrev pub Writes : List CodeToken → List CodeToken → (List Token → List Token) → Type 0
Writes old new write = (rest : List Token) → map token_of new ++ rest ≡ map token_of old ++ write rest

-- how tight a word is
abbrev pub tightness : Word → ℕ
tightness words.Expression = 0
tightness words.Sum = 1
tightness words.Product = 2
tightness words.Unary = 3
tightness words.Postfix = 4

abbrev pub word_of_operator : BinaryOperator → Word
word_of_operator operators.Add = words.Sum
word_of_operator operators.Sub = words.Sum
word_of_operator operators.Mul = words.Product
word_of_operator operators.Div = words.Product
word_of_operator operators.Rem = words.Product
word_of_operator operators.Equal = words.Expression
word_of_operator operators.NotEqual = words.Expression
word_of_operator operators.Less = words.Expression
word_of_operator operators.LessEqual = words.Expression

abbrev pub left_word : BinaryOperator → Word
left_word operators.Mul = words.Product
left_word operators.Div = words.Product
left_word operators.Rem = words.Product
left_word _ = words.Sum

abbrev pub right_word : BinaryOperator → Word
right_word operators.Add = words.Product
right_word operators.Sub = words.Product
right_word operators.Mul = words.Unary
right_word operators.Div = words.Unary
right_word operators.Rem = words.Unary
right_word _ = words.Sum

abbrev pub operator_mark : BinaryOperator → Mark
operator_mark operators.Add = marks.Plus
operator_mark operators.Sub = marks.Minus
operator_mark operators.Mul = marks.Times
operator_mark operators.Div = marks.Slash
operator_mark operators.Rem = marks.Percent
operator_mark operators.Equal = marks.Equal
operator_mark operators.NotEqual = marks.NotEqual
operator_mark operators.Less = marks.Less
operator_mark operators.LessEqual = marks.LessEqual

-- the word that a tree is, with no parentheses round it
abbrev pub bare_word : Written → Word
bare_word (loose e) = words.Expression
bare_word (summed a) = words.Sum
bare_word (multiplied a) = words.Product
bare_word (prefixed a) = words.Unary
bare_word (indexed a) = words.Postfix
bare_word (tight a) = words.Postfix

-- its tokens, with no parentheses round it
abbrev pub bare_before : Written → List Token → List Token
bare_before (loose e) rest = expression_before e rest
bare_before (summed a) rest = sum_before a rest
bare_before (multiplied a) rest = product_before a rest
bare_before (prefixed a) rest = unary_before a rest
bare_before (indexed a) rest = postfix_before a rest
bare_before (tight a) rest = primary_before a rest

-- its tokens where that word stands
abbrev pub wanted_before : Word → Written → List Token → List Token
wanted_before words.Expression w rest = expression_before (as_expression w) rest
wanted_before words.Sum w rest = sum_before (as_sum w) rest
wanted_before words.Product w rest = product_before (as_product w) rest
wanted_before words.Unary w rest = unary_before (as_unary w) rest
wanted_before words.Postfix w rest = postfix_before (as_postfix w) rest

-- a call's tokens
abbrev pub call_before : Name → List Expr → List Token → List Token
call_before g args rest = primary_before (CallOf (name_of g) (written_arguments (trees_of args))) rest

abbrev pub has_items : Exprs → Bool
has_items no_expr = false
has_items (also e others) = true
