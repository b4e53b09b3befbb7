-- What is written for a tree has no more tokens than any text of that tree.
use Rattle.std.proofs.Common.{◌≡◌, ◌≤◌, ◌+◌, refl, arith}
use Rattle.script_syntax.specs.Trees.{Expr, Binary, Item}
use Rattle.script_syntax.specs.Operators.{Comparison, equals, differs, is_less, is_at_most, Additive, adds, subtracts, Multiplicative, multiplies, divides, leaves, comparison, additive, multiplicative}
use Rattle.script_syntax.specs.Expressions.{Expression, Single, Compared, Sum, SumOf, Addends, no_addend, addend, Product, ProductOf, Factors, no_factor, factor, Unary, PrefixOf, Plain, Postfix, PostfixOf, Indexes, no_index, index, Primary, Int, Named, CallOf, RemoteOf, Listed, EmptyOf, Enclosed, LenOf, PushOf, Arguments, no_argument, ArgumentsOf, MoreArguments, last_argument, argument}
use Rattle.script_syntax.specs.Expressions.{expression_tree, sum_tree, addends_tree, product_tree, factors_tree, unary_tree, postfix_tree, indexes_tree, primary_tree, argument_trees, more_trees}
use Rattle.script_syntax.specs.Printing.{Written, loose, summed, multiplied, prefixed, indexed, tight, as_primary, as_postfix, as_unary, as_product, as_sum, as_expression, more_addends, plus, more_factors, times, more_indexes, item_at, binary, written, written_arguments, written_others, expression_of}
use Rattle.script_syntax.proofs.Counts.{expression_count, sum_count, addends_count, product_count, factors_count, unary_count, postfix_count, indexes_count, primary_count, arguments_count, more_count}

as_postfix_short : (w : Written) → postfix_count (as_postfix w) ≤ primary_count (as_primary w)
as_postfix_short (loose e) = omega arith
as_postfix_short (summed a) = omega arith
as_postfix_short (multiplied a) = omega arith
as_postfix_short (prefixed a) = omega arith
as_postfix_short (indexed a) = omega arith
as_postfix_short (tight a) = omega arith

as_unary_short : (w : Written) → unary_count (as_unary w) ≤ postfix_count (as_postfix w)
as_unary_short (loose e) = omega arith
as_unary_short (summed a) = omega arith
as_unary_short (multiplied a) = omega arith
as_unary_short (prefixed a) = omega arith
as_unary_short (indexed a) = omega arith
as_unary_short (tight a) = omega arith

as_product_short : (w : Written) → product_count (as_product w) ≤ unary_count (as_unary w)
as_product_short (loose e) = omega arith
as_product_short (summed a) = omega arith
as_product_short (multiplied a) = omega arith
as_product_short (prefixed a) = omega arith
as_product_short (indexed a) = omega arith
as_product_short (tight a) = omega arith

as_sum_short : (w : Written) → sum_count (as_sum w) ≤ product_count (as_product w)
as_sum_short (loose e) = omega arith
as_sum_short (summed a) = omega arith
as_sum_short (multiplied a) = omega arith
as_sum_short (prefixed a) = omega arith
as_sum_short (indexed a) = omega arith
as_sum_short (tight a) = omega arith

as_expression_short : (w : Written) → expression_count (as_expression w) ≤ sum_count (as_sum w)
as_expression_short (loose e) = omega arith
as_expression_short (summed a) = omega arith
as_expression_short (multiplied a) = omega arith
as_expression_short (prefixed a) = omega arith
as_expression_short (indexed a) = omega arith
as_expression_short (tight a) = omega arith

as_primary_short : (w : Written) → primary_count (as_primary w) ≤ 2 + expression_count (as_expression w)
as_primary_short (loose e) = omega arith
as_primary_short (summed a) = omega arith
as_primary_short (multiplied a) = omega arith
as_primary_short (prefixed a) = omega arith
as_primary_short (indexed a) = omega arith
as_primary_short (tight a) = omega arith

addends_end : (others : Addends) (op : Additive) (a : Product) → addends_count (more_addends others op a) ≡ addends_count others + 1 + product_count a
addends_end no_addend op a = omega arith
addends_end (addend o b others) op a = omega (arith, addends_end others op a)

plus_short : (s : Sum) (op : Additive) (a : Product) → sum_count (plus s op a) ≡ sum_count s + 1 + product_count a
plus_short (SumOf first others) op a = omega (arith, addends_end others op a)

factors_end : (others : Factors) (op : Multiplicative) (a : Unary) → factors_count (more_factors others op a) ≡ factors_count others + 1 + unary_count a
factors_end no_factor op a = omega arith
factors_end (factor o b others) op a = omega (arith, factors_end others op a)

times_short : (s : Product) (op : Multiplicative) (a : Unary) → product_count (times s op a) ≡ product_count s + 1 + unary_count a
times_short (ProductOf first others) op a = omega (arith, factors_end others op a)

indexes_end : (others : Indexes) (e : Expression) → indexes_count (more_indexes others e) ≡ indexes_count others + 2 + expression_count e
indexes_end no_index e = omega arith
indexes_end (index i others) e = omega (arith, indexes_end others e)

item_short : (s : Postfix) (e : Expression) → postfix_count (item_at s e) ≡ postfix_count s + 2 + expression_count e
item_short (PostfixOf first others) e = omega (arith, indexes_end others e)

additive_short : (op : Additive) (a b : Written) → sum_count (as_sum (binary (additive op) a b)) ≡ sum_count (as_sum a) + 1 + product_count (as_product b)
additive_short adds a b = plus_short (as_sum a) adds (as_product b)
additive_short subtracts a b = plus_short (as_sum a) subtracts (as_product b)

multiplicative_short : (op : Multiplicative) (a b : Written) → product_count (as_product (binary (multiplicative op) a b)) ≡ product_count (as_product a) + 1 + unary_count (as_unary b)
multiplicative_short multiplies a b = times_short (as_product a) multiplies (as_unary b)
multiplicative_short divides a b = times_short (as_product a) divides (as_unary b)
multiplicative_short leaves a b = times_short (as_product a) leaves (as_unary b)

comparison_short : (op : Comparison) (a b : Written) → expression_count (as_expression (binary (comparison op) a b)) ≡ 1 + sum_count (as_sum a) + sum_count (as_sum b)
comparison_short equals a b = refl
comparison_short differs a b = refl
comparison_short is_less a b = refl
comparison_short is_at_most a b = refl

mutual
  pub expression_short : (a : Expression) → expression_count (expression_of (expression_tree a)) ≤ expression_count a
  expression_short (Single a) = omega (arith, as_expression_short (written (sum_tree a)), sum_short a)
  expression_short (Compared op a b) = omega (arith, comparison_short op (written (sum_tree a)) (written (sum_tree b)), sum_short a, sum_short b)

  sum_short : (a : Sum) → sum_count (as_sum (written (sum_tree a))) ≤ sum_count a
  sum_short (SumOf a others) = omega (arith, addends_short others (product_tree a), as_sum_short (written (product_tree a)), product_short a)

  addends_short : (others : Addends) (left : Expr) → sum_count (as_sum (written (addends_tree others left))) ≤ sum_count (as_sum (written left)) + addends_count others
  addends_short no_addend left = omega arith
  addends_short (addend op a others) left =
      omega (arith, addends_short others (Binary (additive op) left (product_tree a)), additive_short op (written left) (written (product_tree a)), product_short a)

  product_short : (a : Product) → product_count (as_product (written (product_tree a))) ≤ product_count a
  product_short (ProductOf a others) = omega (arith, factors_short others (unary_tree a), as_product_short (written (unary_tree a)), unary_short a)

  factors_short : (others : Factors) (left : Expr) → product_count (as_product (written (factors_tree others left))) ≤ product_count (as_product (written left)) + factors_count others
  factors_short no_factor left = omega arith
  factors_short (factor op a others) left =
      omega (arith, factors_short others (Binary (multiplicative op) left (unary_tree a)), multiplicative_short op (written left) (written (unary_tree a)), unary_short a)

  unary_short : (a : Unary) → unary_count (as_unary (written (unary_tree a))) ≤ unary_count a
  unary_short (PrefixOf p a) = omega (arith, unary_short a)
  unary_short (Plain a) = omega (arith, as_unary_short (written (postfix_tree a)), postfix_short a)

  postfix_short : (a : Postfix) → postfix_count (as_postfix (written (postfix_tree a))) ≤ postfix_count a
  postfix_short (PostfixOf a others) = omega (arith, indexes_short others (primary_tree a), as_postfix_short (written (primary_tree a)), primary_short a)

  indexes_short : (others : Indexes) (left : Expr) → postfix_count (as_postfix (written (indexes_tree others left))) ≤ postfix_count (as_postfix (written left)) + indexes_count others
  indexes_short no_index left = omega arith
  indexes_short (index e others) left =
      omega (arith, indexes_short others (Item left (expression_tree e)), item_short (as_postfix (written left)) (expression_of (expression_tree e)), expression_short e)

  pub primary_short : (a : Primary) → primary_count (as_primary (written (primary_tree a))) ≤ primary_count a
  primary_short (Int k) = omega arith
  primary_short (Named x) = omega arith
  primary_short (CallOf g args) = omega (arith, arguments_short args)
  primary_short (RemoteOf r g args) = omega (arith, arguments_short args)
  primary_short (Listed e others) = omega (arith, expression_short e, others_short others)
  primary_short (EmptyOf t) = omega arith
  primary_short (Enclosed e) = omega (arith, as_primary_short (written (expression_tree e)), expression_short e)
  primary_short (LenOf e) = omega (arith, expression_short e)
  primary_short (PushOf a b) = omega (arith, expression_short a, expression_short b)

  arguments_short : (a : Arguments) → arguments_count (written_arguments (argument_trees a)) ≤ arguments_count a
  arguments_short no_argument = omega arith
  arguments_short (ArgumentsOf a others) = omega (arith, expression_short a, others_short others)

  others_short : (a : MoreArguments) → more_count (written_others (more_trees a)) ≤ more_count a
  others_short last_argument = omega arith
  others_short (argument a others) = omega (arith, expression_short a, others_short others)
