-- A chain of comparisons, and one with parentheses, by their tokens.
use Rattle.std.specs.Prelude.{List, [], ◌∷◌, ◌++◌, codes}
use Rattle.script_tokens.specs.declared.token.Mark.TheVariants as marks
use Rattle.script_tokens.specs.Tokens.{Token, number, name, mark}
use Rattle.script_syntax.specs.declared.tree.BinaryOperator.TheVariants as operators
use Rattle.script_syntax.specs.Trees.{Binary, Expr, IntType, Number, Program, Return, no_expr, no_stmt, stmt}

-- fn main() -> int { return ..; }
abbrev pub main_returns : List Token → List Token
main_returns expression =
    mark marks.Fn ∷ name (codes "main") ∷ mark marks.OpenParenthesis ∷ mark marks.CloseParenthesis ∷ mark marks.Arrow ∷ mark marks.Int
    ∷ mark marks.OpenBrace ∷ mark marks.Return ∷ (expression ++ mark marks.Semicolon ∷ mark marks.CloseBrace ∷ [])

-- its tree
abbrev pub main_with : Expr → Program
main_with e = record { name = codes "main"; parameters = []; result = IntType; others = []; body = stmt (Return e no_expr) no_stmt } ∷ []

-- 1 < 2 < 3
abbrev pub chained : List Token
chained = number 1 ∷ mark marks.Less ∷ number 2 ∷ mark marks.Less ∷ number 3 ∷ []

-- (1 < 2) < 3
abbrev pub grouped : List Token
grouped =
    mark marks.OpenParenthesis ∷ number 1 ∷ mark marks.Less ∷ number 2 ∷ mark marks.CloseParenthesis ∷ mark marks.Less ∷ number 3 ∷ []

abbrev pub grouped_tree : Expr
grouped_tree = Binary operators.Less (Binary operators.Less (Number 1) (Number 2)) (Number 3)
