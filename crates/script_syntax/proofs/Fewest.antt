-- What is written for a tree opens no more at one place than any text of that tree.
use Rattle.std.proofs.Common.{ℕ, zero, suc, Option, Some, None}
use Rattle.script_syntax.specs.Trees.{Kind, IntType, ListType, RefType, Expr, Binary, Item}
use Rattle.script_syntax.specs.Operators.{Comparison, equals, differs, is_less, is_at_most, Additive, adds, subtracts, Multiplicative, multiplies, divides, leaves, comparison, additive, multiplicative}
use Rattle.script_syntax.specs.Expressions.{Expression, Single, Compared, Sum, SumOf, Addends, no_addend, addend, Product, ProductOf, Factors, no_factor, factor, Unary, PrefixOf, Plain, Postfix, PostfixOf, Indexes, no_index, index, Primary, Int, Named, CallOf, RemoteOf, Listed, EmptyOf, Enclosed, LenOf, PushOf, Arguments, no_argument, ArgumentsOf, MoreArguments, last_argument, argument}
use Rattle.script_syntax.specs.Expressions.{expression_tree, sum_tree, addends_tree, product_tree, factors_tree, unary_tree, postfix_tree, indexes_tree, primary_tree, argument_trees, more_trees}
use Rattle.script_syntax.specs.Expressions.{KindWithin, RetriesWithin, ExpressionWithin, SumWithin, AddendsWithin, ProductWithin, FactorsWithin, UnaryWithin, PostfixWithin, IndexesWithin, PrimaryWithin, ArgumentsWithin, MoreWithin}
use Rattle.script_syntax.specs.Printing.{Written, loose, summed, multiplied, prefixed, indexed, tight, as_primary, as_postfix, as_unary, as_product, as_sum, as_expression, more_addends, plus, more_factors, times, more_indexes, item_at, binary, written, written_arguments, written_others, expression_of}

-- ---- one more level does no harm

pub kind_more : (t : Kind) (n : ℕ) → KindWithin t n → KindWithin t (suc n)
kind_more IntType n h = tt
kind_more (ListType t) zero h = absurd h
kind_more (ListType t) (suc n) h = kind_more t n h
kind_more (RefType t) zero h = absurd h
kind_more (RefType t) (suc n) h = kind_more t n h

retries_more : (r : Option ℕ) (n : ℕ) → RetriesWithin r n → RetriesWithin r (suc n)
retries_more None n h = tt
retries_more (Some k) zero h = absurd h
retries_more (Some k) (suc n) h = tt

mutual
  expression_more : (a : Expression) (n : ℕ) → ExpressionWithin a n → ExpressionWithin a (suc n)
  expression_more (Single a) n h = sum_more a n h
  expression_more (Compared op a b) n h = (sum_more a n h.0, sum_more b n h.1)

  sum_more : (a : Sum) (n : ℕ) → SumWithin a n → SumWithin a (suc n)
  sum_more (SumOf a others) n h = (product_more a n h.0, addends_more others n h.1)

  addends_more : (a : Addends) (n : ℕ) → AddendsWithin a n → AddendsWithin a (suc n)
  addends_more no_addend n h = tt
  addends_more (addend op a others) n h = (product_more a n h.0, addends_more others n h.1)

  product_more : (a : Product) (n : ℕ) → ProductWithin a n → ProductWithin a (suc n)
  product_more (ProductOf a others) n h = (unary_more a n h.0, factors_more others n h.1)

  factors_more : (a : Factors) (n : ℕ) → FactorsWithin a n → FactorsWithin a (suc n)
  factors_more no_factor n h = tt
  factors_more (factor op a others) n h = (unary_more a n h.0, factors_more others n h.1)

  unary_more : (a : Unary) (n : ℕ) → UnaryWithin a n → UnaryWithin a (suc n)
  unary_more (PrefixOf p a) zero h = absurd h
  unary_more (PrefixOf p a) (suc n) h = unary_more a n h
  unary_more (Plain a) n h = postfix_more a n h

  postfix_more : (a : Postfix) (n : ℕ) → PostfixWithin a n → PostfixWithin a (suc n)
  postfix_more (PostfixOf a others) n h = (primary_more a n h.0, indexes_more others n h.1)

  indexes_more : (a : Indexes) (n : ℕ) → IndexesWithin a n → IndexesWithin a (suc n)
  indexes_more no_index n h = tt
  indexes_more (index e others) zero h = absurd h.0
  indexes_more (index e others) (suc n) h = (expression_more e n h.0, indexes_more others (suc n) h.1)

  primary_more : (a : Primary) (n : ℕ) → PrimaryWithin a n → PrimaryWithin a (suc n)
  primary_more (Int k) n h = tt
  primary_more (Named x) n h = tt
  primary_more (CallOf g args) zero h = absurd h
  primary_more (CallOf g args) (suc n) h = arguments_more args n h
  primary_more (RemoteOf r g args) zero h = absurd h.1
  primary_more (RemoteOf r g args) (suc n) h = (retries_more r (suc n) h.0, arguments_more args n h.1)
  primary_more (Listed e others) zero h = absurd h.0
  primary_more (Listed e others) (suc n) h = (expression_more e n h.0, others_more others n h.1)
  primary_more (EmptyOf t) n h = kind_more t n h
  primary_more (Enclosed e) zero h = absurd h
  primary_more (Enclosed e) (suc n) h = expression_more e n h
  primary_more (LenOf e) zero h = absurd h
  primary_more (LenOf e) (suc n) h = expression_more e n h
  primary_more (PushOf a b) zero h = absurd h.0
  primary_more (PushOf a b) (suc n) h = (expression_more a n h.0, expression_more b n h.1)

  arguments_more : (a : Arguments) (n : ℕ) → ArgumentsWithin a n → ArgumentsWithin a (suc n)
  arguments_more no_argument n h = tt
  arguments_more (ArgumentsOf a others) n h = (expression_more a n h.0, others_more others n h.1)

  others_more : (a : MoreArguments) (n : ℕ) → MoreWithin a n → MoreWithin a (suc n)
  others_more last_argument n h = tt
  others_more (argument a others) n h = (expression_more a n h.0, others_more others n h.1)

-- ---- a looser word wants no more, and a tighter one at most one more

as_postfix_fits : (w : Written) (n : ℕ) → PrimaryWithin (as_primary w) n → PostfixWithin (as_postfix w) n
as_postfix_fits (indexed a) zero h = absurd h
as_postfix_fits (indexed a) (suc n) h = postfix_more a n h.0.0
as_postfix_fits (loose e) n h = (h, tt)
as_postfix_fits (summed a) n h = (h, tt)
as_postfix_fits (multiplied a) n h = (h, tt)
as_postfix_fits (prefixed a) n h = (h, tt)
as_postfix_fits (tight a) n h = (h, tt)

as_unary_fits : (w : Written) (n : ℕ) → PostfixWithin (as_postfix w) n → UnaryWithin (as_unary w) n
as_unary_fits (prefixed a) zero h = absurd h.0
as_unary_fits (prefixed a) (suc n) h = unary_more a n h.0.0.0
as_unary_fits (loose e) n h = h
as_unary_fits (summed a) n h = h
as_unary_fits (multiplied a) n h = h
as_unary_fits (indexed a) n h = h
as_unary_fits (tight a) n h = h

as_product_fits : (w : Written) (n : ℕ) → UnaryWithin (as_unary w) n → ProductWithin (as_product w) n
as_product_fits (multiplied a) zero h = absurd h.0
as_product_fits (multiplied a) (suc n) h = product_more a n h.0.0
as_product_fits (loose e) n h = (h, tt)
as_product_fits (summed a) n h = (h, tt)
as_product_fits (prefixed a) n h = (h, tt)
as_product_fits (indexed a) n h = (h, tt)
as_product_fits (tight a) n h = (h, tt)

as_sum_fits : (w : Written) (n : ℕ) → ProductWithin (as_product w) n → SumWithin (as_sum w) n
as_sum_fits (summed a) zero h = absurd h.0.0
as_sum_fits (summed a) (suc n) h = sum_more a n h.0.0
as_sum_fits (loose e) n h = (h, tt)
as_sum_fits (multiplied a) n h = (h, tt)
as_sum_fits (prefixed a) n h = (h, tt)
as_sum_fits (indexed a) n h = (h, tt)
as_sum_fits (tight a) n h = (h, tt)

as_expression_fits : (w : Written) (n : ℕ) → SumWithin (as_sum w) n → ExpressionWithin (as_expression w) n
as_expression_fits (loose e) zero h = absurd h.0.0.0
as_expression_fits (loose e) (suc n) h = expression_more e n h.0.0.0
as_expression_fits (summed a) n h = h
as_expression_fits (multiplied a) n h = h
as_expression_fits (prefixed a) n h = h
as_expression_fits (indexed a) n h = h
as_expression_fits (tight a) n h = h

as_primary_fits : (w : Written) (n : ℕ) → ExpressionWithin (as_expression w) n → PrimaryWithin (as_primary w) (suc n)
as_primary_fits (loose e) n h = h
as_primary_fits (summed a) n h = h
as_primary_fits (multiplied a) n h = h
as_primary_fits (prefixed a) n h = h
as_primary_fits (indexed a) n h = h
as_primary_fits (tight a) n h = primary_more a n h.0.0.0

addends_fit_end : (others : Addends) (op : Additive) (a : Product) (n : ℕ) → AddendsWithin others n → ProductWithin a n → AddendsWithin (more_addends others op a) n
addends_fit_end no_addend op a n h k = (k, tt)
addends_fit_end (addend o b others) op a n h k = (h.0, addends_fit_end others op a n h.1 k)

plus_fits : (s : Sum) (op : Additive) (a : Product) (n : ℕ) → SumWithin s n → ProductWithin a n → SumWithin (plus s op a) n
plus_fits (SumOf first others) op a n h k = (h.0, addends_fit_end others op a n h.1 k)

factors_fit_end : (others : Factors) (op : Multiplicative) (a : Unary) (n : ℕ) → FactorsWithin others n → UnaryWithin a n → FactorsWithin (more_factors others op a) n
factors_fit_end no_factor op a n h k = (k, tt)
factors_fit_end (factor o b others) op a n h k = (h.0, factors_fit_end others op a n h.1 k)

times_fits : (s : Product) (op : Multiplicative) (a : Unary) (n : ℕ) → ProductWithin s n → UnaryWithin a n → ProductWithin (times s op a) n
times_fits (ProductOf first others) op a n h k = (h.0, factors_fit_end others op a n h.1 k)

indexes_fit_end : (others : Indexes) (e : Expression) (n : ℕ) → IndexesWithin others (suc n) → ExpressionWithin e n → IndexesWithin (more_indexes others e) (suc n)
indexes_fit_end no_index e n h k = (k, tt)
indexes_fit_end (index i others) e n h k = (h.0, indexes_fit_end others e n h.1 k)

item_fits : (s : Postfix) (e : Expression) (n : ℕ) → PostfixWithin s (suc n) → ExpressionWithin e n → PostfixWithin (item_at s e) (suc n)
item_fits (PostfixOf first others) e n h k = (h.0, indexes_fit_end others e n h.1 k)

additive_fits : (op : Additive) (a b : Written) (n : ℕ) → SumWithin (as_sum a) n → ProductWithin (as_product b) n → SumWithin (as_sum (binary (additive op) a b)) n
additive_fits adds a b n h k = plus_fits (as_sum a) adds (as_product b) n h k
additive_fits subtracts a b n h k = plus_fits (as_sum a) subtracts (as_product b) n h k

multiplicative_fits : (op : Multiplicative) (a b : Written) (n : ℕ) → ProductWithin (as_product a) n → UnaryWithin (as_unary b) n → ProductWithin (as_product (binary (multiplicative op) a b)) n
multiplicative_fits multiplies a b n h k = times_fits (as_product a) multiplies (as_unary b) n h k
multiplicative_fits divides a b n h k = times_fits (as_product a) divides (as_unary b) n h k
multiplicative_fits leaves a b n h k = times_fits (as_product a) leaves (as_unary b) n h k

comparison_fits : (op : Comparison) (a b : Written) (n : ℕ) → SumWithin (as_sum a) n → SumWithin (as_sum b) n → ExpressionWithin (as_expression (binary (comparison op) a b)) n
comparison_fits equals a b n h k = (h, k)
comparison_fits differs a b n h k = (h, k)
comparison_fits is_less a b n h k = (h, k)
comparison_fits is_at_most a b n h k = (h, k)

mutual
  pub expression_fits : (a : Expression) (n : ℕ) → ExpressionWithin a n → ExpressionWithin (expression_of (expression_tree a)) n
  expression_fits (Single a) n h = as_expression_fits (written (sum_tree a)) n (sum_fits a n h)
  expression_fits (Compared op a b) n h = comparison_fits op (written (sum_tree a)) (written (sum_tree b)) n (sum_fits a n h.0) (sum_fits b n h.1)

  sum_fits : (a : Sum) (n : ℕ) → SumWithin a n → SumWithin (as_sum (written (sum_tree a))) n
  sum_fits (SumOf a others) n h = addends_fit others (product_tree a) n (as_sum_fits (written (product_tree a)) n (product_fits a n h.0)) h.1

  addends_fit : (others : Addends) (left : Expr) (n : ℕ) → SumWithin (as_sum (written left)) n → AddendsWithin others n → SumWithin (as_sum (written (addends_tree others left))) n
  addends_fit no_addend left n k h = k
  addends_fit (addend op a others) left n k h =
      addends_fit others (Binary (additive op) left (product_tree a)) n (additive_fits op (written left) (written (product_tree a)) n k (product_fits a n h.0)) h.1

  product_fits : (a : Product) (n : ℕ) → ProductWithin a n → ProductWithin (as_product (written (product_tree a))) n
  product_fits (ProductOf a others) n h = factors_fit others (unary_tree a) n (as_product_fits (written (unary_tree a)) n (unary_fits a n h.0)) h.1

  factors_fit : (others : Factors) (left : Expr) (n : ℕ) → ProductWithin (as_product (written left)) n → FactorsWithin others n → ProductWithin (as_product (written (factors_tree others left))) n
  factors_fit no_factor left n k h = k
  factors_fit (factor op a others) left n k h =
      factors_fit others (Binary (multiplicative op) left (unary_tree a)) n (multiplicative_fits op (written left) (written (unary_tree a)) n k (unary_fits a n h.0)) h.1

  unary_fits : (a : Unary) (n : ℕ) → UnaryWithin a n → UnaryWithin (as_unary (written (unary_tree a))) n
  unary_fits (PrefixOf p a) zero h = absurd h
  unary_fits (PrefixOf p a) (suc n) h = unary_fits a n h
  unary_fits (Plain a) n h = as_unary_fits (written (postfix_tree a)) n (postfix_fits a n h)

  postfix_fits : (a : Postfix) (n : ℕ) → PostfixWithin a n → PostfixWithin (as_postfix (written (postfix_tree a))) n
  postfix_fits (PostfixOf a others) n h = indexes_fit others (primary_tree a) n (as_postfix_fits (written (primary_tree a)) n (primary_fits a n h.0)) h.1

  indexes_fit : (others : Indexes) (left : Expr) (n : ℕ) → PostfixWithin (as_postfix (written left)) n → IndexesWithin others n → PostfixWithin (as_postfix (written (indexes_tree others left))) n
  indexes_fit no_index left n k h = k
  indexes_fit (index e others) left zero k h = absurd h.0
  indexes_fit (index e others) left (suc n) k h =
      indexes_fit others (Item left (expression_tree e)) (suc n) (item_fits (as_postfix (written left)) (expression_of (expression_tree e)) n k (expression_fits e n h.0)) h.1

  pub primary_fits : (a : Primary) (n : ℕ) → PrimaryWithin a n → PrimaryWithin (as_primary (written (primary_tree a))) n
  primary_fits (Int k) n h = tt
  primary_fits (Named x) n h = tt
  primary_fits (CallOf g args) zero h = absurd h
  primary_fits (CallOf g args) (suc n) h = arguments_fit args n h
  primary_fits (RemoteOf r g args) zero h = absurd h.1
  primary_fits (RemoteOf r g args) (suc n) h = (h.0, arguments_fit args n h.1)
  primary_fits (Listed e others) zero h = absurd h.0
  primary_fits (Listed e others) (suc n) h = (expression_fits e n h.0, others_fit others n h.1)
  primary_fits (EmptyOf t) n h = h
  primary_fits (Enclosed e) zero h = absurd h
  primary_fits (Enclosed e) (suc n) h = as_primary_fits (written (expression_tree e)) n (expression_fits e n h)
  primary_fits (LenOf e) zero h = absurd h
  primary_fits (LenOf e) (suc n) h = expression_fits e n h
  primary_fits (PushOf a b) zero h = absurd h.0
  primary_fits (PushOf a b) (suc n) h = (expression_fits a n h.0, expression_fits b n h.1)

  arguments_fit : (a : Arguments) (n : ℕ) → ArgumentsWithin a n → ArgumentsWithin (written_arguments (argument_trees a)) n
  arguments_fit no_argument n h = tt
  arguments_fit (ArgumentsOf a others) n h = (expression_fits a n h.0, others_fit others n h.1)

  others_fit : (a : MoreArguments) (n : ℕ) → MoreWithin a n → MoreWithin (written_others (more_trees a)) n
  others_fit last_argument n h = tt
  others_fit (argument a others) n h = (expression_fits a n h.0, others_fit others n h.1)
