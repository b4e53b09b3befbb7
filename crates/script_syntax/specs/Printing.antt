-- How a program is written: a derivation of it, with parentheses only where a word wants a tighter one.
use Rattle.std.specs.Prelude.{List, [], ◌∷◌}
use Rattle.script_syntax.specs.declared.tree.BinaryOperator.{BinaryOperator}
use Rattle.script_syntax.specs.declared.tree.BinaryOperator.TheVariants as operators
use Rattle.script_tokens.specs.Tokens.{Token}
use Rattle.script_syntax.specs.Trees.{
  IntType,
  Expr,
  Number,
  Variable,
  Prefixed,
  Binary,
  Item,
  ListOf,
  Empty,
  Call,
  Remote,
  Len,
  Push,
  Exprs,
  no_expr,
  also,
  Stmt,
  Let,
  LetCall,
  LetRemote,
  Set,
  If,
  IfElse,
  For,
  Print,
  Return,
  Block,
  no_stmt,
  stmt,
  Function,
  Program,
}
use Rattle.script_syntax.specs.Operators.{equals, differs, is_less, is_at_most, Additive, adds, subtracts, Multiplicative, multiplies, divides, leaves}
use Rattle.script_syntax.specs.Expressions.{
  Expression,
  Single,
  Compared,
  Sum,
  SumOf,
  Addends,
  no_addend,
  addend,
  Product,
  ProductOf,
  Factors,
  no_factor,
  factor,
  Unary,
  PrefixOf,
  Plain,
  Postfix,
  PostfixOf,
  Indexes,
  no_index,
  index,
  Primary,
  Int,
  Named,
  CallOf,
  RemoteOf,
  Listed,
  EmptyOf,
  Enclosed,
  LenOf,
  PushOf,
  Arguments,
  no_argument,
  ArgumentsOf,
  MoreArguments,
  last_argument,
  argument,
}
use Rattle.script_syntax.specs.Grammar.{
  Statement,
  LetOf,
  LetCallOf,
  LetRemoteOf,
  SetOf,
  IfOf,
  IfElseOf,
  ForOf,
  PrintOf,
  ReturnOf,
  Statements,
  no_statement,
  statement,
  FunctionWord,
  FunctionOf,
  Functions,
  no_function,
  function,
  function_before,
  functions_before,
}

-- the tightest word that a tree is, with no parentheses round it
pub data Written : Type 0 where
  loose : (e : Expression) → Written
  summed : (a : Sum) → Written
  multiplied : (a : Product) → Written
  prefixed : (a : Unary) → Written
  indexed : (a : Postfix) → Written
  tight : (a : Primary) → Written

abbrev pub as_primary : Written → Primary
as_primary (loose e) = Enclosed e
as_primary (summed a) = Enclosed (Single a)
as_primary (multiplied a) = Enclosed (Single (SumOf a no_addend))
as_primary (prefixed a) = Enclosed (Single (SumOf (ProductOf a no_factor) no_addend))
as_primary (indexed a) = Enclosed (Single (SumOf (ProductOf (Plain a) no_factor) no_addend))
as_primary (tight a) = a

abbrev pub as_postfix : Written → Postfix
as_postfix (indexed a) = a
as_postfix w = PostfixOf (as_primary w) no_index

abbrev pub as_unary : Written → Unary
as_unary (prefixed a) = a
as_unary w = Plain (as_postfix w)

abbrev pub as_product : Written → Product
as_product (multiplied a) = a
as_product w = ProductOf (as_unary w) no_factor

abbrev pub as_sum : Written → Sum
as_sum (summed a) = a
as_sum w = SumOf (as_product w) no_addend

abbrev pub as_expression : Written → Expression
as_expression (loose e) = e
as_expression w = Single (as_sum w)

-- one more at the end
abbrev pub more_addends : Addends → Additive → Product → Addends
more_addends no_addend op a = addend op a no_addend
more_addends (addend o b others) op a = addend o b (more_addends others op a)

abbrev pub plus : Sum → Additive → Product → Sum
plus (SumOf first others) op a = SumOf first (more_addends others op a)

abbrev pub more_factors : Factors → Multiplicative → Unary → Factors
more_factors no_factor op a = factor op a no_factor
more_factors (factor o b others) op a = factor o b (more_factors others op a)

abbrev pub times : Product → Multiplicative → Unary → Product
times (ProductOf first others) op a = ProductOf first (more_factors others op a)

abbrev pub more_indexes : Indexes → Expression → Indexes
more_indexes no_index e = index e no_index
more_indexes (index i others) e = index i (more_indexes others e)

abbrev pub item_at : Postfix → Expression → Postfix
item_at (PostfixOf first others) e = PostfixOf first (more_indexes others e)

abbrev pub binary : BinaryOperator → Written → Written → Written
binary operators.Add a b = summed (plus (as_sum a) adds (as_product b))
binary operators.Sub a b = summed (plus (as_sum a) subtracts (as_product b))
binary operators.Mul a b = multiplied (times (as_product a) multiplies (as_unary b))
binary operators.Div a b = multiplied (times (as_product a) divides (as_unary b))
binary operators.Rem a b = multiplied (times (as_product a) leaves (as_unary b))
binary operators.Equal a b = loose (Compared equals (as_sum a) (as_sum b))
binary operators.NotEqual a b = loose (Compared differs (as_sum a) (as_sum b))
binary operators.Less a b = loose (Compared is_less (as_sum a) (as_sum b))
binary operators.LessEqual a b = loose (Compared is_at_most (as_sum a) (as_sum b))

-- a list of no items, which no text gives, is written as an empty list of ints
abbrev mutual
  pub written : Expr → Written
  written (Number n) = tight (Int n)
  written (Variable x) = tight (Named x)
  written (Prefixed p a) = prefixed (PrefixOf p (as_unary (written a)))
  written (Binary op a b) = binary op (written a) (written b)
  written (Item a i) = indexed (item_at (as_postfix (written a)) (as_expression (written i)))
  written (ListOf items) = tight (written_list items)
  written (Empty t) = tight (EmptyOf t)
  written (Call g args) = tight (CallOf g (written_arguments args))
  written (Remote r g args) = tight (RemoteOf r g (written_arguments args))
  written (Len a) = tight (LenOf (as_expression (written a)))
  written (Push a b) = tight (PushOf (as_expression (written a)) (as_expression (written b)))

  pub written_list : Exprs → Primary
  written_list no_expr = EmptyOf IntType
  written_list (also a others) = Listed (as_expression (written a)) (written_others others)

  pub written_arguments : Exprs → Arguments
  written_arguments no_expr = no_argument
  written_arguments (also a others) = ArgumentsOf (as_expression (written a)) (written_others others)

  pub written_others : Exprs → MoreArguments
  written_others no_expr = last_argument
  written_others (also a others) = argument (as_expression (written a)) (written_others others)

abbrev pub expression_of : Expr → Expression
expression_of e = as_expression (written e)

abbrev mutual
  pub written_statement : Stmt → Statement
  written_statement (Let x e) = LetOf x (expression_of e)
  written_statement (LetCall x xs g args) = LetCallOf x xs g (written_arguments args)
  written_statement (LetRemote x xs r g args) = LetRemoteOf x xs r g (written_arguments args)
  written_statement (Set x e) = SetOf x (expression_of e)
  written_statement (If e a) = IfOf (expression_of e) (written_statements a)
  written_statement (IfElse e a b) = IfElseOf (expression_of e) (written_statements a) (written_statements b)
  written_statement (For x from to body) = ForOf x (expression_of from) (expression_of to) (written_statements body)
  written_statement (Print e) = PrintOf (expression_of e)
  written_statement (Return e others) = ReturnOf (expression_of e) (written_others others)

  pub written_statements : Block → Statements
  written_statements no_stmt = no_statement
  written_statements (stmt s ss) = statement (written_statement s) (written_statements ss)

abbrev pub written_function : Function → FunctionWord
written_function g = FunctionOf g.name g.parameters g.result g.others (written_statements g.body)

abbrev pub written_functions : Program → Functions
written_functions [] = no_function
written_functions (g ∷ gs) = function (written_function g) (written_functions gs)

-- the tokens of a program
abbrev pub printed : Program → List Token
printed program = functions_before (written_functions program) []

-- one line of tokens for each function
abbrev pub printed_program : Program → List (List Token)
printed_program [] = []
printed_program (g ∷ gs) = function_before (written_function g) [] ∷ printed_program gs
