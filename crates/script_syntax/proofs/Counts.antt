-- How many tokens each word stands for.
use Rattle.std.proofs.Common.{◌≡◌, ℕ, ◌+◌, List, ◌∷◌, length, Option, Some, None, arith}
use Rattle.script_tokens.specs.Tokens.{Token, name, mark}
use Rattle.script_tokens.specs.declared.token.Mark.TheVariants as marks
use Rattle.script_syntax.specs.Trees.{Kind, IntType, ListType, RefType}
use Rattle.script_syntax.specs.Operators.{comparison_mark}
use Rattle.script_syntax.specs.Expressions.{Expression, Single, Compared, Sum, SumOf, Addends, no_addend, addend, Product, ProductOf, Factors, no_factor, factor, Unary, PrefixOf, Plain, Postfix, PostfixOf, Indexes, no_index, index, Primary, Int, Named, CallOf, RemoteOf, Listed, EmptyOf, Enclosed, LenOf, PushOf, Arguments, no_argument, ArgumentsOf, MoreArguments, last_argument, argument}
use Rattle.script_syntax.specs.Expressions.{kind_before, retries_before, expression_before, sum_before, addends_before, product_before, factors_before, unary_before, postfix_before, indexes_before, primary_before, arguments_before, more_before}

abbrev pub kind_count : Kind → ℕ
kind_count IntType = 1
kind_count (ListType t) = 2 + kind_count t
kind_count (RefType t) = 1 + kind_count t

abbrev pub retries_count : Option ℕ → ℕ
retries_count None = 0
retries_count (Some n) = 3

abbrev mutual
  pub expression_count : Expression → ℕ
  expression_count (Single a) = sum_count a
  expression_count (Compared op a b) = 1 + sum_count a + sum_count b

  pub sum_count : Sum → ℕ
  sum_count (SumOf a others) = product_count a + addends_count others

  pub addends_count : Addends → ℕ
  addends_count no_addend = 0
  addends_count (addend op a others) = 1 + product_count a + addends_count others

  pub product_count : Product → ℕ
  product_count (ProductOf a others) = unary_count a + factors_count others

  pub factors_count : Factors → ℕ
  factors_count no_factor = 0
  factors_count (factor op a others) = 1 + unary_count a + factors_count others

  pub unary_count : Unary → ℕ
  unary_count (PrefixOf p a) = 1 + unary_count a
  unary_count (Plain a) = postfix_count a

  pub postfix_count : Postfix → ℕ
  postfix_count (PostfixOf a others) = primary_count a + indexes_count others

  pub indexes_count : Indexes → ℕ
  indexes_count no_index = 0
  indexes_count (index e others) = 2 + expression_count e + indexes_count others

  pub primary_count : Primary → ℕ
  primary_count (Int n) = 1
  primary_count (Named x) = 1
  primary_count (CallOf g args) = 3 + arguments_count args
  primary_count (RemoteOf r g args) = 4 + retries_count r + arguments_count args
  primary_count (Listed e others) = 2 + expression_count e + more_count others
  primary_count (EmptyOf t) = 1 + kind_count t
  primary_count (Enclosed e) = 2 + expression_count e
  primary_count (LenOf e) = 3 + expression_count e
  primary_count (PushOf a b) = 4 + expression_count a + expression_count b

  pub arguments_count : Arguments → ℕ
  arguments_count no_argument = 0
  arguments_count (ArgumentsOf e others) = expression_count e + more_count others

  pub more_count : MoreArguments → ℕ
  more_count last_argument = 0
  more_count (argument e others) = 1 + expression_count e + more_count others

pub kind_counted : (t : Kind) (rest : List Token) → length (kind_before t rest) ≡ kind_count t + length rest
kind_counted IntType rest = omega arith
kind_counted (ListType t) rest = omega (arith, kind_counted t (mark marks.CloseBracket ∷ rest))
kind_counted (RefType t) rest = omega (arith, kind_counted t rest)

retries_counted : (r : Option ℕ) (rest : List Token) → length (retries_before r rest) ≡ retries_count r + length rest
retries_counted None rest = omega arith
retries_counted (Some n) rest = omega arith

mutual
  pub expression_counted : (a : Expression) (rest : List Token) → length (expression_before a rest) ≡ expression_count a + length rest
  expression_counted (Single a) rest = sum_counted a rest
  expression_counted (Compared op a b) rest = omega (arith, sum_counted a (mark (comparison_mark op) ∷ sum_before b rest), sum_counted b rest)

  pub sum_counted : (a : Sum) (rest : List Token) → length (sum_before a rest) ≡ sum_count a + length rest
  sum_counted (SumOf a others) rest = omega (arith, product_counted a (addends_before others rest), addends_counted others rest)

  pub addends_counted : (a : Addends) (rest : List Token) → length (addends_before a rest) ≡ addends_count a + length rest
  addends_counted no_addend rest = omega arith
  addends_counted (addend op a others) rest = omega (arith, product_counted a (addends_before others rest), addends_counted others rest)

  pub product_counted : (a : Product) (rest : List Token) → length (product_before a rest) ≡ product_count a + length rest
  product_counted (ProductOf a others) rest = omega (arith, unary_counted a (factors_before others rest), factors_counted others rest)

  pub factors_counted : (a : Factors) (rest : List Token) → length (factors_before a rest) ≡ factors_count a + length rest
  factors_counted no_factor rest = omega arith
  factors_counted (factor op a others) rest = omega (arith, unary_counted a (factors_before others rest), factors_counted others rest)

  pub unary_counted : (a : Unary) (rest : List Token) → length (unary_before a rest) ≡ unary_count a + length rest
  unary_counted (PrefixOf p a) rest = omega (arith, unary_counted a rest)
  unary_counted (Plain a) rest = postfix_counted a rest

  pub postfix_counted : (a : Postfix) (rest : List Token) → length (postfix_before a rest) ≡ postfix_count a + length rest
  postfix_counted (PostfixOf a others) rest = omega (arith, primary_counted a (indexes_before others rest), indexes_counted others rest)

  pub indexes_counted : (a : Indexes) (rest : List Token) → length (indexes_before a rest) ≡ indexes_count a + length rest
  indexes_counted no_index rest = omega arith
  indexes_counted (index e others) rest = omega (arith, expression_counted e (mark marks.CloseBracket ∷ indexes_before others rest), indexes_counted others rest)

  pub primary_counted : (a : Primary) (rest : List Token) → length (primary_before a rest) ≡ primary_count a + length rest
  primary_counted (Int n) rest = omega arith
  primary_counted (Named x) rest = omega arith
  primary_counted (CallOf g args) rest = omega (arith, arguments_counted args (mark marks.CloseParenthesis ∷ rest))
  primary_counted (RemoteOf r g args) rest = omega (arith, retries_counted r (name g ∷ mark marks.OpenParenthesis ∷ arguments_before args (mark marks.CloseParenthesis ∷ rest)), arguments_counted args (mark marks.CloseParenthesis ∷ rest))
  primary_counted (Listed e others) rest = omega (arith, expression_counted e (more_before others (mark marks.CloseBracket ∷ rest)), more_counted others (mark marks.CloseBracket ∷ rest))
  primary_counted (EmptyOf t) rest = omega (arith, kind_counted t rest)
  primary_counted (Enclosed e) rest = omega (arith, expression_counted e (mark marks.CloseParenthesis ∷ rest))
  primary_counted (LenOf e) rest = omega (arith, expression_counted e (mark marks.CloseParenthesis ∷ rest))
  primary_counted (PushOf a b) rest = omega (arith, expression_counted a (mark marks.Comma ∷ expression_before b (mark marks.CloseParenthesis ∷ rest)), expression_counted b (mark marks.CloseParenthesis ∷ rest))

  pub arguments_counted : (a : Arguments) (rest : List Token) → length (arguments_before a rest) ≡ arguments_count a + length rest
  arguments_counted no_argument rest = omega arith
  arguments_counted (ArgumentsOf e others) rest = omega (arith, expression_counted e (more_before others rest), more_counted others rest)

  pub more_counted : (a : MoreArguments) (rest : List Token) → length (more_before a rest) ≡ more_count a + length rest
  more_counted last_argument rest = omega arith
  more_counted (argument e others) rest = omega (arith, expression_counted e (more_before others rest), more_counted others rest)
