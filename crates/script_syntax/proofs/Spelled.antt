-- What is printed for a program that some text is can be written: its names are names, its numbers are in range.
use Rattle.std.proofs.Common.{ℕ, List, [], ◌∷◌, Option, Some, None, sym, subst}
use Rattle.script_tokens.specs.declared.token.Mark.TheVariants as marks
use Rattle.script_tokens.specs.Tokens.{Name, Token, name, mark}
use Rattle.script_tokens.specs.Spelling.{IsName, AllTokens, tokens_of_lines}
use Rattle.script_syntax.specs.Operators.{comparison_mark, additive, multiplicative}
use Rattle.script_syntax.specs.Trees.{Kind, IntType, ListType, RefType, Expr, Binary, Item, Parameter, Program}
use Rattle.script_syntax.specs.Expressions.{Expression, Single, Compared, Sum, SumOf, Addends, no_addend, addend, Product, ProductOf, Factors, no_factor, factor, Unary, PrefixOf, Plain, Postfix, PostfixOf, Indexes, no_index, index, Primary, Int, Named, CallOf, RemoteOf, Listed, EmptyOf, Enclosed, LenOf, PushOf, Arguments, no_argument, ArgumentsOf, MoreArguments, last_argument, argument}
use Rattle.script_syntax.specs.Expressions.{kind_before, retries_before, expression_before, sum_before, addends_before, product_before, factors_before, unary_before, postfix_before, indexes_before, primary_before, arguments_before, more_before}
use Rattle.script_syntax.specs.Expressions.{expression_tree, sum_tree, addends_tree, product_tree, factors_tree, unary_tree, postfix_tree, indexes_tree, primary_tree, argument_trees, more_trees}
use Rattle.script_syntax.specs.Grammar.{Statement, LetOf, LetCallOf, LetRemoteOf, SetOf, IfOf, IfElseOf, ForOf, PrintOf, ReturnOf, Statements, no_statement, statement, FunctionWord, FunctionOf, Functions, no_function, function}
use Rattle.script_syntax.specs.Grammar.{more_names_before, statement_before, statements_before, block_before, parameter_before, more_parameters_before, parameters_before, more_kinds_before, results_before, function_before, functions_before}
use Rattle.script_syntax.specs.Grammar.{statement_tree, statements_tree, function_tree, functions_tree, IsProgram}
use Rattle.script_syntax.specs.Limits.{SpelledRetries, SpelledExpr, SpelledExprs, SpelledNames, SpelledStmt, SpelledBlock, SpelledParameters, SpelledFunction, SpelledProgram}
use Rattle.script_syntax.specs.Printing.{printed, printed_program}
use Rattle.script_syntax.proofs.Again.{printed_again}
use Rattle.script_syntax.proofs.Lines.{lines_are}

-- ---- from tokens to the tree

kind_passed : (t : Kind) (rest : List Token) → AllTokens (kind_before t rest) → AllTokens rest
kind_passed IntType rest h = h.1
kind_passed (ListType t) rest h = (kind_passed t (mark marks.CloseBracket ∷ rest) h.1).1
kind_passed (RefType t) rest h = kind_passed t rest h.1

retries_passed : (r : Option ℕ) (rest : List Token) → AllTokens (retries_before r rest) → SpelledRetries r × AllTokens rest
retries_passed None rest h = (tt, h)
retries_passed (Some n) rest h = (h.1.0, h.1.1.1)

mutual
  expression_passed : (a : Expression) (rest : List Token) → AllTokens (expression_before a rest) → SpelledExpr (expression_tree a) × AllTokens rest
  expression_passed (Single a) rest h = sum_passed a rest h
  expression_passed (Compared op a b) rest h =
      let l = sum_passed a (mark (comparison_mark op) ∷ sum_before b rest) h in
      let r = sum_passed b rest l.1.1 in
      ((l.0, r.0), r.1)

  sum_passed : (a : Sum) (rest : List Token) → AllTokens (sum_before a rest) → SpelledExpr (sum_tree a) × AllTokens rest
  sum_passed (SumOf a others) rest h =
      let l = product_passed a (addends_before others rest) h in
      addends_passed others (product_tree a) rest l.0 l.1

  addends_passed : (a : Addends) (left : Expr) (rest : List Token) → SpelledExpr left → AllTokens (addends_before a rest) → SpelledExpr (addends_tree a left) × AllTokens rest
  addends_passed no_addend left rest k h = (k, h)
  addends_passed (addend op a others) left rest k h =
      let l = product_passed a (addends_before others rest) h.1 in
      addends_passed others (Binary (additive op) left (product_tree a)) rest (k, l.0) l.1

  product_passed : (a : Product) (rest : List Token) → AllTokens (product_before a rest) → SpelledExpr (product_tree a) × AllTokens rest
  product_passed (ProductOf a others) rest h =
      let l = unary_passed a (factors_before others rest) h in
      factors_passed others (unary_tree a) rest l.0 l.1

  factors_passed : (a : Factors) (left : Expr) (rest : List Token) → SpelledExpr left → AllTokens (factors_before a rest) → SpelledExpr (factors_tree a left) × AllTokens rest
  factors_passed no_factor left rest k h = (k, h)
  factors_passed (factor op a others) left rest k h =
      let l = unary_passed a (factors_before others rest) h.1 in
      factors_passed others (Binary (multiplicative op) left (unary_tree a)) rest (k, l.0) l.1

  unary_passed : (a : Unary) (rest : List Token) → AllTokens (unary_before a rest) → SpelledExpr (unary_tree a) × AllTokens rest
  unary_passed (PrefixOf p a) rest h = unary_passed a rest h.1
  unary_passed (Plain a) rest h = postfix_passed a rest h

  postfix_passed : (a : Postfix) (rest : List Token) → AllTokens (postfix_before a rest) → SpelledExpr (postfix_tree a) × AllTokens rest
  postfix_passed (PostfixOf a others) rest h =
      let l = primary_passed a (indexes_before others rest) h in
      indexes_passed others (primary_tree a) rest l.0 l.1

  indexes_passed : (a : Indexes) (left : Expr) (rest : List Token) → SpelledExpr left → AllTokens (indexes_before a rest) → SpelledExpr (indexes_tree a left) × AllTokens rest
  indexes_passed no_index left rest k h = (k, h)
  indexes_passed (index e others) left rest k h =
      let l = expression_passed e (mark marks.CloseBracket ∷ indexes_before others rest) h.1 in
      indexes_passed others (Item left (expression_tree e)) rest (k, l.0) l.1.1

  primary_passed : (a : Primary) (rest : List Token) → AllTokens (primary_before a rest) → SpelledExpr (primary_tree a) × AllTokens rest
  primary_passed (Int n) rest h = h
  primary_passed (Named x) rest h = h
  primary_passed (CallOf g args) rest h =
      let l = arguments_passed args (mark marks.CloseParenthesis ∷ rest) h.1.1 in
      ((h.0, l.0), l.1.1)
  primary_passed (RemoteOf r g args) rest h =
      let n = retries_passed r (name g ∷ mark marks.OpenParenthesis ∷ arguments_before args (mark marks.CloseParenthesis ∷ rest)) h.1 in
      let l = arguments_passed args (mark marks.CloseParenthesis ∷ rest) n.1.1.1 in
      ((n.0, n.1.0, l.0), l.1.1)
  primary_passed (Listed e others) rest h =
      let l = expression_passed e (more_before others (mark marks.CloseBracket ∷ rest)) h.1 in
      let r = more_passed others (mark marks.CloseBracket ∷ rest) l.1 in
      ((l.0, r.0), r.1.1)
  primary_passed (EmptyOf t) rest h = (tt, kind_passed t rest h.1)
  primary_passed (Enclosed e) rest h =
      let l = expression_passed e (mark marks.CloseParenthesis ∷ rest) h.1 in
      (l.0, l.1.1)
  primary_passed (LenOf e) rest h =
      let l = expression_passed e (mark marks.CloseParenthesis ∷ rest) h.1.1 in
      (l.0, l.1.1)
  primary_passed (PushOf a b) rest h =
      let l = expression_passed a (mark marks.Comma ∷ expression_before b (mark marks.CloseParenthesis ∷ rest)) h.1.1 in
      let r = expression_passed b (mark marks.CloseParenthesis ∷ rest) l.1.1 in
      ((l.0, r.0), r.1.1)

  arguments_passed : (a : Arguments) (rest : List Token) → AllTokens (arguments_before a rest) → SpelledExprs (argument_trees a) × AllTokens rest
  arguments_passed no_argument rest h = (tt, h)
  arguments_passed (ArgumentsOf e others) rest h =
      let l = expression_passed e (more_before others rest) h in
      let r = more_passed others rest l.1 in
      ((l.0, r.0), r.1)

  more_passed : (a : MoreArguments) (rest : List Token) → AllTokens (more_before a rest) → SpelledExprs (more_trees a) × AllTokens rest
  more_passed last_argument rest h = (tt, h)
  more_passed (argument e others) rest h =
      let l = expression_passed e (more_before others rest) h.1 in
      let r = more_passed others rest l.1 in
      ((l.0, r.0), r.1)

names_passed : (xs : List Name) (rest : List Token) → AllTokens (more_names_before xs rest) → SpelledNames xs × AllTokens rest
names_passed [] rest h = (tt, h)
names_passed (x ∷ xs) rest h =
    let r = names_passed xs rest h.1.1 in
    ((h.1.0, r.0), r.1)

mutual
  statement_passed : (a : Statement) (rest : List Token) → AllTokens (statement_before a rest) → SpelledStmt (statement_tree a) × AllTokens rest
  statement_passed (LetOf x e) rest h =
      let l = expression_passed e (mark marks.Semicolon ∷ rest) h.1.1.1 in
      ((h.1.0, l.0), l.1.1)
  statement_passed (LetCallOf x xs g args) rest h =
      let ns = names_passed xs (mark marks.Assign ∷ primary_before (CallOf g args) (mark marks.Semicolon ∷ rest)) h.1.1 in
      let l = primary_passed (CallOf g args) (mark marks.Semicolon ∷ rest) ns.1.1 in
      ((h.1.0, ns.0, l.0.0, l.0.1), l.1.1)
  statement_passed (LetRemoteOf x xs r g args) rest h =
      let ns = names_passed xs (mark marks.Assign ∷ primary_before (RemoteOf r g args) (mark marks.Semicolon ∷ rest)) h.1.1 in
      let l = primary_passed (RemoteOf r g args) (mark marks.Semicolon ∷ rest) ns.1.1 in
      ((h.1.0, ns.0, l.0.0, l.0.1, l.0.2), l.1.1)
  statement_passed (SetOf x e) rest h =
      let l = expression_passed e (mark marks.Semicolon ∷ rest) h.1.1.1 in
      ((h.1.0, l.0), l.1.1)
  statement_passed (IfOf e a) rest h =
      let l = expression_passed e (block_before a rest) h.1 in
      let r = statements_passed a (mark marks.CloseBrace ∷ rest) l.1.1 in
      ((l.0, r.0), r.1.1)
  statement_passed (IfElseOf e a b) rest h =
      let l = expression_passed e (block_before a (mark marks.Else ∷ block_before b rest)) h.1 in
      let r = statements_passed a (mark marks.CloseBrace ∷ mark marks.Else ∷ block_before b rest) l.1.1 in
      let z = statements_passed b (mark marks.CloseBrace ∷ rest) r.1.1.1.1 in
      ((l.0, r.0, z.0), z.1.1)
  statement_passed (ForOf x from to body) rest h =
      let l = expression_passed from (mark marks.Range ∷ expression_before to (block_before body rest)) h.1.1.1 in
      let r = expression_passed to (block_before body rest) l.1.1 in
      let z = statements_passed body (mark marks.CloseBrace ∷ rest) r.1.1 in
      ((h.1.0, l.0, r.0, z.0), z.1.1)
  statement_passed (PrintOf e) rest h =
      let l = expression_passed e (mark marks.Semicolon ∷ rest) h.1 in
      (l.0, l.1.1)
  statement_passed (ReturnOf e others) rest h =
      let l = expression_passed e (more_before others (mark marks.Semicolon ∷ rest)) h.1 in
      let r = more_passed others (mark marks.Semicolon ∷ rest) l.1 in
      ((l.0, r.0), r.1.1)

  statements_passed : (a : Statements) (rest : List Token) → AllTokens (statements_before a rest) → SpelledBlock (statements_tree a) × AllTokens rest
  statements_passed no_statement rest h = (tt, h)
  statements_passed (statement a others) rest h =
      let l = statement_passed a (statements_before others rest) h in
      let r = statements_passed others rest l.1 in
      ((l.0, r.0), r.1)

block_passed : (a : Statements) (rest : List Token) → AllTokens (block_before a rest) → SpelledBlock (statements_tree a) × AllTokens rest
block_passed a rest h =
    let l = statements_passed a (mark marks.CloseBrace ∷ rest) h.1 in
    (l.0, l.1.1)

parameter_passed : (p : Parameter) (rest : List Token) → AllTokens (parameter_before p rest) → IsName p.name × AllTokens rest
parameter_passed p rest h = (h.0, kind_passed p.kind rest h.1.1)

more_parameters_passed : (ps : List Parameter) (rest : List Token) → AllTokens (more_parameters_before ps rest) → SpelledParameters ps × AllTokens rest
more_parameters_passed [] rest h = (tt, h)
more_parameters_passed (p ∷ ps) rest h =
    let l = parameter_passed p (more_parameters_before ps rest) h.1 in
    let r = more_parameters_passed ps rest l.1 in
    ((l.0, r.0), r.1)

parameters_passed : (ps : List Parameter) (rest : List Token) → AllTokens (parameters_before ps rest) → SpelledParameters ps × AllTokens rest
parameters_passed [] rest h = (tt, h)
parameters_passed (p ∷ ps) rest h =
    let l = parameter_passed p (more_parameters_before ps rest) h in
    let r = more_parameters_passed ps rest l.1 in
    ((l.0, r.0), r.1)

kinds_passed : (ts : List Kind) (rest : List Token) → AllTokens (more_kinds_before ts rest) → AllTokens rest
kinds_passed [] rest h = h
kinds_passed (t ∷ ts) rest h = kinds_passed ts rest (kind_passed t (more_kinds_before ts rest) h.1)

results_passed : (t : Kind) (ts : List Kind) (rest : List Token) → AllTokens (results_before t ts rest) → AllTokens rest
results_passed t [] rest h = kind_passed t rest h
results_passed t (u ∷ us) rest h = (kinds_passed (u ∷ us) (mark marks.CloseParenthesis ∷ rest) (kind_passed t (more_kinds_before (u ∷ us) (mark marks.CloseParenthesis ∷ rest)) h.1)).1

function_passed : (g : FunctionWord) (rest : List Token) → AllTokens (function_before g rest) → SpelledFunction (function_tree g) × AllTokens rest
function_passed (FunctionOf x ps t ts body) rest h =
    let l = parameters_passed ps (mark marks.CloseParenthesis ∷ mark marks.Arrow ∷ results_before t ts (block_before body rest)) h.1.1.1 in
    let r = block_passed body rest (results_passed t ts (block_before body rest) l.1.1.1) in
    ((h.1.0, l.0, r.0), r.1)

functions_passed : (d : Functions) → AllTokens (functions_before d []) → SpelledProgram (functions_tree d)
functions_passed no_function h = tt
functions_passed (function g others) h =
    let l = function_passed g (functions_before others []) h in
    (l.0, functions_passed others l.1)

-- ---- from the tree to the tokens of any derivation

kind_spelled : (t : Kind) (rest : List Token) → AllTokens rest → AllTokens (kind_before t rest)
kind_spelled IntType rest h = (tt, h)
kind_spelled (ListType t) rest h = (tt, kind_spelled t (mark marks.CloseBracket ∷ rest) (tt, h))
kind_spelled (RefType t) rest h = (tt, kind_spelled t rest h)

retries_spelled : (r : Option ℕ) (rest : List Token) → SpelledRetries r → AllTokens rest → AllTokens (retries_before r rest)
retries_spelled None rest k h = h
retries_spelled (Some n) rest k h = (tt, (k, (tt, h)))

mutual
  expression_spelled : (a : Expression) (rest : List Token) → SpelledExpr (expression_tree a) → AllTokens rest → AllTokens (expression_before a rest)
  expression_spelled (Single a) rest k h = sum_spelled a rest k h
  expression_spelled (Compared op a b) rest k h = sum_spelled a (mark (comparison_mark op) ∷ sum_before b rest) k.0 (tt, sum_spelled b rest k.1 h)

  sum_spelled : (a : Sum) (rest : List Token) → SpelledExpr (sum_tree a) → AllTokens rest → AllTokens (sum_before a rest)
  sum_spelled (SumOf a others) rest k h =
      let l = addends_spelled others (product_tree a) rest k h in
      product_spelled a (addends_before others rest) l.0 l.1

  addends_spelled : (a : Addends) (left : Expr) (rest : List Token) → SpelledExpr (addends_tree a left) → AllTokens rest → SpelledExpr left × AllTokens (addends_before a rest)
  addends_spelled no_addend left rest k h = (k, h)
  addends_spelled (addend op a others) left rest k h =
      let l = addends_spelled others (Binary (additive op) left (product_tree a)) rest k h in
      (l.0.0, (tt, product_spelled a (addends_before others rest) l.0.1 l.1))

  product_spelled : (a : Product) (rest : List Token) → SpelledExpr (product_tree a) → AllTokens rest → AllTokens (product_before a rest)
  product_spelled (ProductOf a others) rest k h =
      let l = factors_spelled others (unary_tree a) rest k h in
      unary_spelled a (factors_before others rest) l.0 l.1

  factors_spelled : (a : Factors) (left : Expr) (rest : List Token) → SpelledExpr (factors_tree a left) → AllTokens rest → SpelledExpr left × AllTokens (factors_before a rest)
  factors_spelled no_factor left rest k h = (k, h)
  factors_spelled (factor op a others) left rest k h =
      let l = factors_spelled others (Binary (multiplicative op) left (unary_tree a)) rest k h in
      (l.0.0, (tt, unary_spelled a (factors_before others rest) l.0.1 l.1))

  unary_spelled : (a : Unary) (rest : List Token) → SpelledExpr (unary_tree a) → AllTokens rest → AllTokens (unary_before a rest)
  unary_spelled (PrefixOf p a) rest k h = (tt, unary_spelled a rest k h)
  unary_spelled (Plain a) rest k h = postfix_spelled a rest k h

  postfix_spelled : (a : Postfix) (rest : List Token) → SpelledExpr (postfix_tree a) → AllTokens rest → AllTokens (postfix_before a rest)
  postfix_spelled (PostfixOf a others) rest k h =
      let l = indexes_spelled others (primary_tree a) rest k h in
      primary_spelled a (indexes_before others rest) l.0 l.1

  indexes_spelled : (a : Indexes) (left : Expr) (rest : List Token) → SpelledExpr (indexes_tree a left) → AllTokens rest → SpelledExpr left × AllTokens (indexes_before a rest)
  indexes_spelled no_index left rest k h = (k, h)
  indexes_spelled (index e others) left rest k h =
      let l = indexes_spelled others (Item left (expression_tree e)) rest k h in
      (l.0.0, (tt, expression_spelled e (mark marks.CloseBracket ∷ indexes_before others rest) l.0.1 (tt, l.1)))

  primary_spelled : (a : Primary) (rest : List Token) → SpelledExpr (primary_tree a) → AllTokens rest → AllTokens (primary_before a rest)
  primary_spelled (Int n) rest k h = (k, h)
  primary_spelled (Named x) rest k h = (k, h)
  primary_spelled (CallOf g args) rest k h = (k.0, (tt, arguments_spelled args (mark marks.CloseParenthesis ∷ rest) k.1 (tt, h)))
  primary_spelled (RemoteOf r g args) rest k h = (
    tt,
    retries_spelled r (name g ∷ mark marks.OpenParenthesis ∷ arguments_before args (mark marks.CloseParenthesis ∷ rest)) k.0
        (k.1, (tt, arguments_spelled args (mark marks.CloseParenthesis ∷ rest) k.2 (tt, h))),
  )
  primary_spelled (Listed e others) rest k h =
      (tt, expression_spelled e (more_before others (mark marks.CloseBracket ∷ rest)) k.0 (more_spelled others (mark marks.CloseBracket ∷ rest) k.1 (tt, h)))
  primary_spelled (EmptyOf t) rest k h = (tt, kind_spelled t rest h)
  primary_spelled (Enclosed e) rest k h = (tt, expression_spelled e (mark marks.CloseParenthesis ∷ rest) k (tt, h))
  primary_spelled (LenOf e) rest k h = (tt, (tt, expression_spelled e (mark marks.CloseParenthesis ∷ rest) k (tt, h)))
  primary_spelled (PushOf a b) rest k h = (
    tt,
    (
      tt,
      expression_spelled a (mark marks.Comma ∷ expression_before b (mark marks.CloseParenthesis ∷ rest)) k.0
          (tt, expression_spelled b (mark marks.CloseParenthesis ∷ rest) k.1 (tt, h)),
    ),
  )

  arguments_spelled : (a : Arguments) (rest : List Token) → SpelledExprs (argument_trees a) → AllTokens rest → AllTokens (arguments_before a rest)
  arguments_spelled no_argument rest k h = h
  arguments_spelled (ArgumentsOf e others) rest k h = expression_spelled e (more_before others rest) k.0 (more_spelled others rest k.1 h)

  more_spelled : (a : MoreArguments) (rest : List Token) → SpelledExprs (more_trees a) → AllTokens rest → AllTokens (more_before a rest)
  more_spelled last_argument rest k h = h
  more_spelled (argument e others) rest k h = (tt, expression_spelled e (more_before others rest) k.0 (more_spelled others rest k.1 h))

-- an expression and the semicolon behind it
ended_spelled : (e : Expression) (rest : List Token) → SpelledExpr (expression_tree e) → AllTokens rest → AllTokens (expression_before e (mark marks.Semicolon ∷ rest))
ended_spelled e rest k h = expression_spelled e (mark marks.Semicolon ∷ rest) k (tt, h)

names_spelled : (xs : List Name) (rest : List Token) → SpelledNames xs → AllTokens rest → AllTokens (more_names_before xs rest)
names_spelled [] rest k h = h
names_spelled (x ∷ xs) rest k h = (tt, (k.0, names_spelled xs rest k.1 h))

mutual
  statement_spelled : (a : Statement) (rest : List Token) → SpelledStmt (statement_tree a) → AllTokens rest → AllTokens (statement_before a rest)
  statement_spelled (LetOf x e) rest k h = (tt, (k.0, (tt, ended_spelled e rest k.1 h)))
  statement_spelled (LetCallOf x xs g args) rest k h =
      (tt, (k.0, names_spelled xs (mark marks.Assign ∷ primary_before (CallOf g args) (mark marks.Semicolon ∷ rest)) k.1 (tt, primary_spelled (CallOf g args) (mark marks.Semicolon ∷ rest) (k.2, k.3) (tt, h))))
  statement_spelled (LetRemoteOf x xs r g args) rest k h =
      (tt, (k.0, names_spelled xs (mark marks.Assign ∷ primary_before (RemoteOf r g args) (mark marks.Semicolon ∷ rest)) k.1 (tt, primary_spelled (RemoteOf r g args) (mark marks.Semicolon ∷ rest) (k.2, k.3, k.4) (tt, h))))
  statement_spelled (SetOf x e) rest k h = (tt, (k.0, (tt, ended_spelled e rest k.1 h)))
  statement_spelled (IfOf e a) rest k h = (tt, expression_spelled e (block_before a rest) k.0 (tt, statements_spelled a (mark marks.CloseBrace ∷ rest) k.1 (tt, h)))
  statement_spelled (IfElseOf e a b) rest k h =
      (tt, expression_spelled e (block_before a (mark marks.Else ∷ block_before b rest)) k.0 (tt, statements_spelled a (mark marks.CloseBrace ∷ mark marks.Else ∷ block_before b rest) k.1 (tt, (tt, (tt, statements_spelled b (mark marks.CloseBrace ∷ rest) k.2 (tt, h))))))
  statement_spelled (ForOf x from to body) rest k h = (
    tt,
    (
      k.0,
      (
        tt,
        expression_spelled from (mark marks.Range ∷ expression_before to (block_before body rest)) k.1
            (tt, expression_spelled to (block_before body rest) k.2 (tt, statements_spelled body (mark marks.CloseBrace ∷ rest) k.3 (tt, h))),
      ),
    ),
  )
  statement_spelled (PrintOf e) rest k h = (tt, ended_spelled e rest k h)
  statement_spelled (ReturnOf e others) rest k h = (tt, expression_spelled e (more_before others (mark marks.Semicolon ∷ rest)) k.0 (more_spelled others (mark marks.Semicolon ∷ rest) k.1 (tt, h)))

  statements_spelled : (a : Statements) (rest : List Token) → SpelledBlock (statements_tree a) → AllTokens rest → AllTokens (statements_before a rest)
  statements_spelled no_statement rest k h = h
  statements_spelled (statement a others) rest k h = statement_spelled a (statements_before others rest) k.0 (statements_spelled others rest k.1 h)

block_spelled : (a : Statements) (rest : List Token) → SpelledBlock (statements_tree a) → AllTokens rest → AllTokens (block_before a rest)
block_spelled a rest k h = (tt, statements_spelled a (mark marks.CloseBrace ∷ rest) k (tt, h))

parameter_spelled : (p : Parameter) (rest : List Token) → IsName p.name → AllTokens rest → AllTokens (parameter_before p rest)
parameter_spelled p rest k h = (k, (tt, kind_spelled p.kind rest h))

more_parameters_spelled : (ps : List Parameter) (rest : List Token) → SpelledParameters ps → AllTokens rest → AllTokens (more_parameters_before ps rest)
more_parameters_spelled [] rest k h = h
more_parameters_spelled (p ∷ ps) rest k h = (tt, parameter_spelled p (more_parameters_before ps rest) k.0 (more_parameters_spelled ps rest k.1 h))

parameters_spelled : (ps : List Parameter) (rest : List Token) → SpelledParameters ps → AllTokens rest → AllTokens (parameters_before ps rest)
parameters_spelled [] rest k h = h
parameters_spelled (p ∷ ps) rest k h = parameter_spelled p (more_parameters_before ps rest) k.0 (more_parameters_spelled ps rest k.1 h)

kinds_spelled : (ts : List Kind) (rest : List Token) → AllTokens rest → AllTokens (more_kinds_before ts rest)
kinds_spelled [] rest h = h
kinds_spelled (t ∷ ts) rest h = (tt, kind_spelled t (more_kinds_before ts rest) (kinds_spelled ts rest h))

results_spelled : (t : Kind) (ts : List Kind) (rest : List Token) → AllTokens rest → AllTokens (results_before t ts rest)
results_spelled t [] rest h = kind_spelled t rest h
results_spelled t (u ∷ us) rest h = (tt, kind_spelled t (more_kinds_before (u ∷ us) (mark marks.CloseParenthesis ∷ rest)) (kinds_spelled (u ∷ us) (mark marks.CloseParenthesis ∷ rest) (tt, h)))

function_spelled : (g : FunctionWord) (rest : List Token) → SpelledFunction (function_tree g) → AllTokens rest → AllTokens (function_before g rest)
function_spelled (FunctionOf x ps t ts body) rest k h = (
  tt,
  (
    k.0,
    (
      tt,
      parameters_spelled ps (mark marks.CloseParenthesis ∷ mark marks.Arrow ∷ results_before t ts (block_before body rest)) k.1
          (tt, (tt, results_spelled t ts (block_before body rest) (block_spelled body rest k.2 h))),
    ),
  ),
)

functions_spelled : (d : Functions) → SpelledProgram (functions_tree d) → AllTokens (functions_before d [])
functions_spelled no_function k = tt
functions_spelled (function g others) k = function_spelled g (functions_before others []) k.0 (functions_spelled others k.1)

-- ---- programs

pub program_passed : (tokens : List Token) (program : Program) → IsProgram tokens program → AllTokens tokens → SpelledProgram program
program_passed tokens program h k = subst SpelledProgram h.given (functions_passed h.derivation (subst AllTokens h.spelled k))

pub program_spelled : (tokens : List Token) (program : Program) → IsProgram tokens program → SpelledProgram program → AllTokens tokens
program_spelled tokens program h k = subst AllTokens (sym h.spelled) (functions_spelled h.derivation (subst SpelledProgram (sym h.given) k))

pub lines_spelled : (tokens : List Token) (program : Program) → IsProgram tokens program → AllTokens tokens → AllTokens (tokens_of_lines (printed_program program))
lines_spelled tokens program h k = subst AllTokens (sym (lines_are program)) (program_spelled (printed program) program (printed_again tokens program h) (program_passed tokens program h k))
