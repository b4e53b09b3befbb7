-- What is printed, line by line, is what is printed.
use Rattle.std.proofs.Common.{◌≡◌, ℕ, List, [], ◌∷◌, ◌++◌, Option, Some, None, refl, sym, ap, ◌∙◌}
use Rattle.script_tokens.specs.Tokens.{Name, Token, name, mark}
use Rattle.script_tokens.specs.declared.token.Mark.TheVariants as marks
use Rattle.script_tokens.specs.Spelling.{tokens_of_lines}
use Rattle.script_syntax.specs.Trees.{Kind, IntType, ListType, RefType, Parameter, Program}
use Rattle.script_syntax.specs.Operators.{comparison_mark, additive_mark, multiplicative_mark, prefix_mark}
use Rattle.script_syntax.specs.Expressions.{Expression, Single, Compared, Sum, SumOf, Addends, no_addend, addend, Product, ProductOf, Factors, no_factor, factor, Unary, PrefixOf, Plain, Postfix, PostfixOf, Indexes, no_index, index, Primary, Int, Named, CallOf, RemoteOf, Listed, EmptyOf, Enclosed, LenOf, PushOf, Arguments, no_argument, ArgumentsOf, MoreArguments, last_argument, argument}
use Rattle.script_syntax.specs.Expressions.{kind_before, retries_before, expression_before, sum_before, addends_before, product_before, factors_before, unary_before, postfix_before, indexes_before, primary_before, arguments_before, more_before}
use Rattle.script_syntax.specs.Grammar.{Statement, LetOf, LetCallOf, LetRemoteOf, SetOf, IfOf, IfElseOf, ForOf, PrintOf, ReturnOf, Statements, no_statement, statement, FunctionWord, FunctionOf}
use Rattle.script_syntax.specs.Grammar.{more_names_before, more_kinds_before, results_before, statement_before, statements_before, block_before, parameter_before, more_parameters_before, parameters_before, function_before, functions_before}
use Rattle.script_syntax.specs.Printing.{written_function, written_functions, printed, printed_program}

-- ---- what is written before a rest goes on where the rest does

kind_joined : (t : Kind) (r s : List Token) → kind_before t (r ++ s) ≡ kind_before t r ++ s
kind_joined IntType r s = refl
kind_joined (ListType t) r s = ap (λ (x : List Token). mark marks.OpenBracket ∷ x) (kind_joined t (mark marks.CloseBracket ∷ r) s)
kind_joined (RefType t) r s = ap (λ (x : List Token). mark marks.Ref ∷ x) (kind_joined t r s)

retries_joined : (n : Option ℕ) (r s : List Token) → retries_before n (r ++ s) ≡ retries_before n r ++ s
retries_joined None r s = refl
retries_joined (Some n) r s = refl

mutual
  expression_joined : (a : Expression) (r s : List Token) → expression_before a (r ++ s) ≡ expression_before a r ++ s
  expression_joined (Single a) r s = sum_joined a r s
  expression_joined (Compared op a b) r s = ap (λ (x : List Token). sum_before a (mark (comparison_mark op) ∷ x)) (sum_joined b r s) ∙ sum_joined a (mark (comparison_mark op) ∷ sum_before b r) s

  sum_joined : (a : Sum) (r s : List Token) → sum_before a (r ++ s) ≡ sum_before a r ++ s
  sum_joined (SumOf a others) r s = ap (product_before a) (addends_joined others r s) ∙ product_joined a (addends_before others r) s

  addends_joined : (a : Addends) (r s : List Token) → addends_before a (r ++ s) ≡ addends_before a r ++ s
  addends_joined no_addend r s = refl
  addends_joined (addend op a others) r s = ap (λ (x : List Token). mark (additive_mark op) ∷ product_before a x) (addends_joined others r s) ∙ ap (λ (x : List Token). mark (additive_mark op) ∷ x) (product_joined a (addends_before others r) s)

  product_joined : (a : Product) (r s : List Token) → product_before a (r ++ s) ≡ product_before a r ++ s
  product_joined (ProductOf a others) r s = ap (unary_before a) (factors_joined others r s) ∙ unary_joined a (factors_before others r) s

  factors_joined : (a : Factors) (r s : List Token) → factors_before a (r ++ s) ≡ factors_before a r ++ s
  factors_joined no_factor r s = refl
  factors_joined (factor op a others) r s = ap (λ (x : List Token). mark (multiplicative_mark op) ∷ unary_before a x) (factors_joined others r s) ∙ ap (λ (x : List Token). mark (multiplicative_mark op) ∷ x) (unary_joined a (factors_before others r) s)

  unary_joined : (a : Unary) (r s : List Token) → unary_before a (r ++ s) ≡ unary_before a r ++ s
  unary_joined (PrefixOf p a) r s = ap (λ (x : List Token). mark (prefix_mark p) ∷ x) (unary_joined a r s)
  unary_joined (Plain a) r s = postfix_joined a r s

  postfix_joined : (a : Postfix) (r s : List Token) → postfix_before a (r ++ s) ≡ postfix_before a r ++ s
  postfix_joined (PostfixOf a others) r s = ap (primary_before a) (indexes_joined others r s) ∙ primary_joined a (indexes_before others r) s

  indexes_joined : (a : Indexes) (r s : List Token) → indexes_before a (r ++ s) ≡ indexes_before a r ++ s
  indexes_joined no_index r s = refl
  indexes_joined (index e others) r s =
      ap (λ (x : List Token). mark marks.OpenBracket ∷ expression_before e (mark marks.CloseBracket ∷ x)) (indexes_joined others r s)
      ∙ ap (λ (x : List Token). mark marks.OpenBracket ∷ x) (expression_joined e (mark marks.CloseBracket ∷ indexes_before others r) s)

  primary_joined : (a : Primary) (r s : List Token) → primary_before a (r ++ s) ≡ primary_before a r ++ s
  primary_joined (Int n) r s = refl
  primary_joined (Named x) r s = refl
  primary_joined (CallOf g args) r s = ap (λ (x : List Token). name g ∷ mark marks.OpenParenthesis ∷ x) (arguments_joined args (mark marks.CloseParenthesis ∷ r) s)
  primary_joined (RemoteOf n g args) r s =
      ap (λ (x : List Token). mark marks.Remote ∷ retries_before n (name g ∷ mark marks.OpenParenthesis ∷ x)) (arguments_joined args (mark marks.CloseParenthesis ∷ r) s)
      ∙ ap (λ (x : List Token). mark marks.Remote ∷ x) (retries_joined n (name g ∷ mark marks.OpenParenthesis ∷ arguments_before args (mark marks.CloseParenthesis ∷ r)) s)
  primary_joined (Listed e others) r s =
      ap (λ (x : List Token). mark marks.OpenBracket ∷ expression_before e x) (more_joined others (mark marks.CloseBracket ∷ r) s)
      ∙ ap (λ (x : List Token). mark marks.OpenBracket ∷ x) (expression_joined e (more_before others (mark marks.CloseBracket ∷ r)) s)
  primary_joined (EmptyOf t) r s = ap (λ (x : List Token). mark marks.Empty ∷ x) (kind_joined t r s)
  primary_joined (Enclosed e) r s = ap (λ (x : List Token). mark marks.OpenParenthesis ∷ x) (expression_joined e (mark marks.CloseParenthesis ∷ r) s)
  primary_joined (LenOf e) r s = ap (λ (x : List Token). mark marks.Len ∷ mark marks.OpenParenthesis ∷ x) (expression_joined e (mark marks.CloseParenthesis ∷ r) s)
  primary_joined (PushOf a b) r s =
      ap (λ (x : List Token). mark marks.Push ∷ mark marks.OpenParenthesis ∷ expression_before a (mark marks.Comma ∷ x)) (expression_joined b (mark marks.CloseParenthesis ∷ r) s)
      ∙ ap (λ (x : List Token). mark marks.Push ∷ mark marks.OpenParenthesis ∷ x) (expression_joined a (mark marks.Comma ∷ expression_before b (mark marks.CloseParenthesis ∷ r)) s)

  arguments_joined : (a : Arguments) (r s : List Token) → arguments_before a (r ++ s) ≡ arguments_before a r ++ s
  arguments_joined no_argument r s = refl
  arguments_joined (ArgumentsOf e others) r s = ap (expression_before e) (more_joined others r s) ∙ expression_joined e (more_before others r) s

  more_joined : (a : MoreArguments) (r s : List Token) → more_before a (r ++ s) ≡ more_before a r ++ s
  more_joined last_argument r s = refl
  more_joined (argument e others) r s = ap (λ (x : List Token). mark marks.Comma ∷ expression_before e x) (more_joined others r s) ∙ ap (λ (x : List Token). mark marks.Comma ∷ x) (expression_joined e (more_before others r) s)

-- an expression and the semicolon behind it
ended_joined : (e : Expression) (r s : List Token) → expression_before e (mark marks.Semicolon ∷ (r ++ s)) ≡ expression_before e (mark marks.Semicolon ∷ r) ++ s
ended_joined e r s = expression_joined e (mark marks.Semicolon ∷ r) s

names_joined : (xs : List Name) (r s : List Token) → more_names_before xs (r ++ s) ≡ more_names_before xs r ++ s
names_joined [] r s = refl
names_joined (x ∷ xs) r s = ap (λ (y : List Token). mark marks.Comma ∷ name x ∷ y) (names_joined xs r s)

-- a `let` of several names, over a call
let_joined : (x : Name) (xs : List Name) (call : Primary) (r s : List Token)
    → mark marks.Let ∷ name x ∷ more_names_before xs (mark marks.Assign ∷ primary_before call (mark marks.Semicolon ∷ (r ++ s)))
    ≡ (mark marks.Let ∷ name x ∷ more_names_before xs (mark marks.Assign ∷ primary_before call (mark marks.Semicolon ∷ r))) ++ s
let_joined x xs call r s =
    ap (λ (y : List Token). mark marks.Let ∷ name x ∷ more_names_before xs (mark marks.Assign ∷ y)) (primary_joined call (mark marks.Semicolon ∷ r) s)
    ∙ ap (λ (y : List Token). mark marks.Let ∷ name x ∷ y) (names_joined xs (mark marks.Assign ∷ primary_before call (mark marks.Semicolon ∷ r)) s)

mutual
  statement_joined : (a : Statement) (r s : List Token) → statement_before a (r ++ s) ≡ statement_before a r ++ s
  statement_joined (LetOf x e) r s = ap (λ (y : List Token). mark marks.Let ∷ name x ∷ mark marks.Assign ∷ y) (ended_joined e r s)
  statement_joined (LetCallOf x xs g args) r s = let_joined x xs (CallOf g args) r s
  statement_joined (LetRemoteOf x xs n g args) r s = let_joined x xs (RemoteOf n g args) r s
  statement_joined (SetOf x e) r s = ap (λ (y : List Token). mark marks.Set ∷ name x ∷ mark marks.Assign ∷ y) (ended_joined e r s)
  statement_joined (IfOf e a) r s =
      ap (λ (y : List Token). mark marks.If ∷ expression_before e y) (ap (λ (z : List Token). mark marks.OpenBrace ∷ z) (statements_joined a (mark marks.CloseBrace ∷ r) s))
      ∙ ap (λ (y : List Token). mark marks.If ∷ y) (expression_joined e (block_before a r) s)
  statement_joined (IfElseOf e a b) r s =
      ap (λ (y : List Token). mark marks.If ∷ expression_before e (block_before a (mark marks.Else ∷ y))) (ap (λ (z : List Token). mark marks.OpenBrace ∷ z) (statements_joined b (mark marks.CloseBrace ∷ r) s))
      ∙ ap (λ (y : List Token). mark marks.If ∷ expression_before e y) (ap (λ (z : List Token). mark marks.OpenBrace ∷ z) (statements_joined a (mark marks.CloseBrace ∷ mark marks.Else ∷ block_before b r) s))
      ∙ ap (λ (y : List Token). mark marks.If ∷ y) (expression_joined e (block_before a (mark marks.Else ∷ block_before b r)) s)
  statement_joined (ForOf x from to body) r s =
      ap (λ (y : List Token). mark marks.For ∷ name x ∷ mark marks.In ∷ expression_before from (mark marks.Range ∷ expression_before to y)) (ap (λ (z : List Token). mark marks.OpenBrace ∷ z) (statements_joined body (mark marks.CloseBrace ∷ r) s))
      ∙ ap (λ (y : List Token). mark marks.For ∷ name x ∷ mark marks.In ∷ expression_before from (mark marks.Range ∷ y)) (expression_joined to (block_before body r) s)
      ∙ ap (λ (y : List Token). mark marks.For ∷ name x ∷ mark marks.In ∷ y) (expression_joined from (mark marks.Range ∷ expression_before to (block_before body r)) s)
  statement_joined (PrintOf e) r s = ap (λ (y : List Token). mark marks.Print ∷ y) (ended_joined e r s)
  statement_joined (ReturnOf e others) r s =
      ap (λ (y : List Token). mark marks.Return ∷ expression_before e y) (more_joined others (mark marks.Semicolon ∷ r) s)
      ∙ ap (λ (y : List Token). mark marks.Return ∷ y) (expression_joined e (more_before others (mark marks.Semicolon ∷ r)) s)

  statements_joined : (a : Statements) (r s : List Token) → statements_before a (r ++ s) ≡ statements_before a r ++ s
  statements_joined no_statement r s = refl
  statements_joined (statement a others) r s = ap (statement_before a) (statements_joined others r s) ∙ statement_joined a (statements_before others r) s

block_joined : (a : Statements) (r s : List Token) → block_before a (r ++ s) ≡ block_before a r ++ s
block_joined a r s = ap (λ (y : List Token). mark marks.OpenBrace ∷ y) (statements_joined a (mark marks.CloseBrace ∷ r) s)

parameter_joined : (p : Parameter) (r s : List Token) → parameter_before p (r ++ s) ≡ parameter_before p r ++ s
parameter_joined p r s = ap (λ (y : List Token). name p.name ∷ mark marks.Colon ∷ y) (kind_joined p.kind r s)

more_parameters_joined : (ps : List Parameter) (r s : List Token) → more_parameters_before ps (r ++ s) ≡ more_parameters_before ps r ++ s
more_parameters_joined [] r s = refl
more_parameters_joined (p ∷ ps) r s =
    ap (λ (y : List Token). mark marks.Comma ∷ parameter_before p y) (more_parameters_joined ps r s) ∙ ap (λ (y : List Token). mark marks.Comma ∷ y) (parameter_joined p (more_parameters_before ps r) s)

parameters_joined : (ps : List Parameter) (r s : List Token) → parameters_before ps (r ++ s) ≡ parameters_before ps r ++ s
parameters_joined [] r s = refl
parameters_joined (p ∷ ps) r s = ap (parameter_before p) (more_parameters_joined ps r s) ∙ parameter_joined p (more_parameters_before ps r) s

kinds_joined : (ts : List Kind) (r s : List Token) → more_kinds_before ts (r ++ s) ≡ more_kinds_before ts r ++ s
kinds_joined [] r s = refl
kinds_joined (t ∷ ts) r s = ap (λ (y : List Token). mark marks.Comma ∷ kind_before t y) (kinds_joined ts r s) ∙ ap (λ (y : List Token). mark marks.Comma ∷ y) (kind_joined t (more_kinds_before ts r) s)

results_joined : (t : Kind) (ts : List Kind) (r s : List Token) → results_before t ts (r ++ s) ≡ results_before t ts r ++ s
results_joined t [] r s = kind_joined t r s
results_joined t (u ∷ us) r s =
    ap (λ (y : List Token). mark marks.OpenParenthesis ∷ kind_before t y) (kinds_joined (u ∷ us) (mark marks.CloseParenthesis ∷ r) s)
    ∙ ap (λ (y : List Token). mark marks.OpenParenthesis ∷ y) (kind_joined t (more_kinds_before (u ∷ us) (mark marks.CloseParenthesis ∷ r)) s)

function_joined : (g : FunctionWord) (r s : List Token) → function_before g (r ++ s) ≡ function_before g r ++ s
function_joined (FunctionOf x ps t ts body) r s =
    ap (λ (y : List Token). mark marks.Fn ∷ name x ∷ mark marks.OpenParenthesis ∷ parameters_before ps (mark marks.CloseParenthesis ∷ mark marks.Arrow ∷ results_before t ts y)) (block_joined body r s)
    ∙ ap (λ (y : List Token). mark marks.Fn ∷ name x ∷ mark marks.OpenParenthesis ∷ parameters_before ps (mark marks.CloseParenthesis ∷ mark marks.Arrow ∷ y)) (results_joined t ts (block_before body r) s)
    ∙ ap (λ (y : List Token). mark marks.Fn ∷ name x ∷ mark marks.OpenParenthesis ∷ y) (parameters_joined ps (mark marks.CloseParenthesis ∷ mark marks.Arrow ∷ results_before t ts (block_before body r)) s)

pub lines_are : (program : Program) → tokens_of_lines (printed_program program) ≡ printed program
lines_are [] = refl
lines_are (g ∷ gs) =
    ap (λ (y : List Token). function_before (written_function g) [] ++ y) (lines_are gs) ∙ sym (function_joined (written_function g) [] (functions_before (written_functions gs) []))
