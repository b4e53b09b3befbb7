-- What is written for a derived tree is derived as that tree.
use Rattle.std.proofs.Common.{◌≡◌, refl, ap, ◌∙◌}
use Rattle.script_syntax.specs.declared.tree.BinaryOperator.{BinaryOperator}
use Rattle.script_syntax.specs.declared.tree.BinaryOperator.TheVariants as operators
use Rattle.script_syntax.specs.Trees.{Expr, Prefixed, Binary, Item, ListOf, Call, Remote, Len, Push, Exprs, also}
use Rattle.script_syntax.specs.Operators.{Additive, adds, subtracts, Multiplicative, multiplies, divides, leaves, comparison, additive, multiplicative}
use Rattle.script_syntax.specs.Expressions.{Expression, Single, Compared, Sum, SumOf, Addends, no_addend, addend, Product, ProductOf, Factors, no_factor, factor, Unary, PrefixOf, Plain, Postfix, PostfixOf, Indexes, no_index, index, Primary, Int, Named, CallOf, RemoteOf, Listed, EmptyOf, Enclosed, LenOf, PushOf, Arguments, no_argument, ArgumentsOf, MoreArguments, last_argument, argument}
use Rattle.script_syntax.specs.Expressions.{expression_tree, sum_tree, addends_tree, product_tree, factors_tree, unary_tree, postfix_tree, indexes_tree, primary_tree, argument_trees, more_trees}
use Rattle.script_syntax.specs.Printing.{Written, loose, summed, multiplied, prefixed, indexed, tight, as_primary, as_postfix, as_unary, as_product, as_sum, as_expression, more_addends, plus, more_factors, times, more_indexes, item_at, binary, written, written_arguments, written_others, expression_of}

-- whatever word is wanted, the tree is the same
abbrev pub tree_written : Written → Expr
tree_written w = primary_tree (as_primary w)

pub postfix_same : (w : Written) → postfix_tree (as_postfix w) ≡ tree_written w
postfix_same (loose e) = refl
postfix_same (summed a) = refl
postfix_same (multiplied a) = refl
postfix_same (prefixed a) = refl
postfix_same (indexed a) = refl
postfix_same (tight a) = refl

pub unary_same : (w : Written) → unary_tree (as_unary w) ≡ tree_written w
unary_same (loose e) = refl
unary_same (summed a) = refl
unary_same (multiplied a) = refl
unary_same (prefixed a) = refl
unary_same (indexed a) = refl
unary_same (tight a) = refl

pub product_same : (w : Written) → product_tree (as_product w) ≡ tree_written w
product_same (loose e) = refl
product_same (summed a) = refl
product_same (multiplied a) = refl
product_same (prefixed a) = refl
product_same (indexed a) = refl
product_same (tight a) = refl

pub sum_same : (w : Written) → sum_tree (as_sum w) ≡ tree_written w
sum_same (loose e) = refl
sum_same (summed a) = refl
sum_same (multiplied a) = refl
sum_same (prefixed a) = refl
sum_same (indexed a) = refl
sum_same (tight a) = refl

pub expression_same : (w : Written) → expression_tree (as_expression w) ≡ tree_written w
expression_same (loose e) = refl
expression_same (summed a) = refl
expression_same (multiplied a) = refl
expression_same (prefixed a) = refl
expression_same (indexed a) = refl
expression_same (tight a) = refl

addends_end : (others : Addends) (op : Additive) (a : Product) (left : Expr) → addends_tree (more_addends others op a) left ≡ Binary (additive op) (addends_tree others left) (product_tree a)
addends_end no_addend op a left = refl
addends_end (addend o b others) op a left = addends_end others op a (Binary (additive o) left (product_tree b))

plus_tree : (s : Sum) (op : Additive) (a : Product) → sum_tree (plus s op a) ≡ Binary (additive op) (sum_tree s) (product_tree a)
plus_tree (SumOf first others) op a = addends_end others op a (product_tree first)

factors_end : (others : Factors) (op : Multiplicative) (a : Unary) (left : Expr) → factors_tree (more_factors others op a) left ≡ Binary (multiplicative op) (factors_tree others left) (unary_tree a)
factors_end no_factor op a left = refl
factors_end (factor o b others) op a left = factors_end others op a (Binary (multiplicative o) left (unary_tree b))

times_tree : (s : Product) (op : Multiplicative) (a : Unary) → product_tree (times s op a) ≡ Binary (multiplicative op) (product_tree s) (unary_tree a)
times_tree (ProductOf first others) op a = factors_end others op a (unary_tree first)

indexes_end : (others : Indexes) (e : Expression) (left : Expr) → indexes_tree (more_indexes others e) left ≡ Item (indexes_tree others left) (expression_tree e)
indexes_end no_index e left = refl
indexes_end (index i others) e left = indexes_end others e (Item left (expression_tree i))

item_tree : (s : Postfix) (e : Expression) → postfix_tree (item_at s e) ≡ Item (postfix_tree s) (expression_tree e)
item_tree (PostfixOf first others) e = indexes_end others e (primary_tree first)

binary_tree : (op : BinaryOperator) (a b : Written) → tree_written (binary op a b) ≡ Binary op (tree_written a) (tree_written b)
binary_tree operators.Add a b = plus_tree (as_sum a) adds (as_product b) ∙ rw (sum_same a, product_same b) refl
binary_tree operators.Sub a b = plus_tree (as_sum a) subtracts (as_product b) ∙ rw (sum_same a, product_same b) refl
binary_tree operators.Mul a b = times_tree (as_product a) multiplies (as_unary b) ∙ rw (product_same a, unary_same b) refl
binary_tree operators.Div a b = times_tree (as_product a) divides (as_unary b) ∙ rw (product_same a, unary_same b) refl
binary_tree operators.Rem a b = times_tree (as_product a) leaves (as_unary b) ∙ rw (product_same a, unary_same b) refl
binary_tree operators.Equal a b = rw (sum_same a, sum_same b) refl
binary_tree operators.NotEqual a b = rw (sum_same a, sum_same b) refl
binary_tree operators.Less a b = rw (sum_same a, sum_same b) refl
binary_tree operators.LessEqual a b = rw (sum_same a, sum_same b) refl

-- a tree that is written as itself
abbrev pub Good : Expr → Type 0
Good t = tree_written (written t) ≡ t

pub good_expression : (t : Expr) → Good t → expression_tree (expression_of t) ≡ t
good_expression t g = expression_same (written t) ∙ g

pub good_binary : (op : BinaryOperator) (a b : Expr) → Good a → Good b → Good (Binary op a b)
good_binary op a b g h = binary_tree op (written a) (written b) ∙ ap (λ (x : Expr). Binary op x (tree_written (written b))) g ∙ ap (Binary op a) h

pub good_item : (a i : Expr) → Good a → Good i → Good (Item a i)
good_item a i g h = item_tree (as_postfix (written a)) (expression_of i) ∙ ap (λ (x : Expr). Item x (expression_tree (expression_of i))) (postfix_same (written a) ∙ g) ∙ ap (Item a) (good_expression i h)

mutual
  pub expression_good : (a : Expression) → Good (expression_tree a)
  expression_good (Single a) = sum_good a
  expression_good (Compared op a b) = good_binary (comparison op) (sum_tree a) (sum_tree b) (sum_good a) (sum_good b)

  sum_good : (a : Sum) → Good (sum_tree a)
  sum_good (SumOf a others) = addends_good others (product_tree a) (product_good a)

  addends_good : (a : Addends) (left : Expr) → Good left → Good (addends_tree a left)
  addends_good no_addend left g = g
  addends_good (addend op a others) left g = addends_good others (Binary (additive op) left (product_tree a)) (good_binary (additive op) left (product_tree a) g (product_good a))

  product_good : (a : Product) → Good (product_tree a)
  product_good (ProductOf a others) = factors_good others (unary_tree a) (unary_good a)

  factors_good : (a : Factors) (left : Expr) → Good left → Good (factors_tree a left)
  factors_good no_factor left g = g
  factors_good (factor op a others) left g = factors_good others (Binary (multiplicative op) left (unary_tree a)) (good_binary (multiplicative op) left (unary_tree a) g (unary_good a))

  unary_good : (a : Unary) → Good (unary_tree a)
  unary_good (PrefixOf p a) = ap (Prefixed p) (unary_same (written (unary_tree a)) ∙ unary_good a)
  unary_good (Plain a) = postfix_good a

  postfix_good : (a : Postfix) → Good (postfix_tree a)
  postfix_good (PostfixOf a others) = indexes_good others (primary_tree a) (primary_good a)

  indexes_good : (a : Indexes) (left : Expr) → Good left → Good (indexes_tree a left)
  indexes_good no_index left g = g
  indexes_good (index e others) left g = indexes_good others (Item left (expression_tree e)) (good_item left (expression_tree e) g (expression_good e))

  primary_good : (a : Primary) → Good (primary_tree a)
  primary_good (Int n) = refl
  primary_good (Named x) = refl
  primary_good (CallOf g args) = ap (Call g) (arguments_good args)
  primary_good (RemoteOf r g args) = ap (Remote r g) (arguments_good args)
  primary_good (Listed e others) = ap (λ (x : Expr). ListOf (also x (more_trees (written_others (more_trees others))))) (good_expression (expression_tree e) (expression_good e)) ∙ ap (λ (xs : Exprs). ListOf (also (expression_tree e) xs)) (more_good others)
  primary_good (EmptyOf t) = refl
  primary_good (Enclosed e) = expression_good e
  primary_good (LenOf e) = ap Len (good_expression (expression_tree e) (expression_good e))
  primary_good (PushOf a b) = ap (λ (x : Expr). Push x (expression_tree (expression_of (expression_tree b)))) (good_expression (expression_tree a) (expression_good a)) ∙ ap (Push (expression_tree a)) (good_expression (expression_tree b) (expression_good b))

  pub arguments_good : (a : Arguments) → argument_trees (written_arguments (argument_trees a)) ≡ argument_trees a
  arguments_good no_argument = refl
  arguments_good (ArgumentsOf e others) = ap (λ (x : Expr). also x (more_trees (written_others (more_trees others)))) (good_expression (expression_tree e) (expression_good e)) ∙ ap (also (expression_tree e)) (more_good others)

  pub more_good : (a : MoreArguments) → more_trees (written_others (more_trees a)) ≡ more_trees a
  more_good last_argument = refl
  more_good (argument e others) = ap (λ (x : Expr). also x (more_trees (written_others (more_trees others)))) (good_expression (expression_tree e) (expression_good e)) ∙ ap (also (expression_tree e)) (more_good others)
