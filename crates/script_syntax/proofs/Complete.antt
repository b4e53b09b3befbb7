-- What a derivation of an expression spells is read as its tree, if what follows can't go on with it.
use Rattle.std.proofs.Common.{◌≡◌, ◌≤◌, ℕ, zero, suc, List, ◌∷◌, length, None, refl, sym, ap, ◌∙◌, arith}
use Rattle.script_tokens.specs.declared.token.Mark.TheVariants as marks
use Rattle.script_syntax.specs.declared.tree.Prefix.TheVariants as prefixes
use Rattle.script_tokens.specs.Tokens.{Token, name, mark}
use Rattle.script_syntax.specs.Trees.{Expr, Binary, Item, Exprs, no_expr, also}
use Rattle.script_syntax.specs.Operators.{Comparison, equals, differs, is_less, is_at_most, adds, subtracts, multiplies, divides, leaves, comparison_mark, comparison, additive, multiplicative}
use Rattle.script_syntax.specs.Expressions.{Expression, Single, Compared, Sum, SumOf, Addends, no_addend, addend, Product, ProductOf, Factors, no_factor, factor, Unary, PrefixOf, Plain, Postfix, PostfixOf, Indexes, no_index, index, Primary, Int, Named, CallOf, RemoteOf, Listed, EmptyOf, Enclosed, LenOf, PushOf, Arguments, no_argument, ArgumentsOf, MoreArguments, last_argument, argument}
use Rattle.script_syntax.specs.Expressions.{kind_before, retries_before, expression_before, sum_before, addends_before, product_before, factors_before, unary_before, postfix_before, indexes_before, primary_before, arguments_before, more_before}
use Rattle.script_syntax.specs.Expressions.{expression_tree, sum_tree, addends_tree, product_tree, factors_tree, unary_tree, indexes_tree, primary_tree, argument_trees, more_trees}
use Rattle.script_syntax.specs.Expressions.{ExpressionWithin, SumWithin, AddendsWithin, ProductWithin, FactorsWithin, UnaryWithin, IndexesWithin, PrimaryWithin, ArgumentsWithin, MoreWithin}
use Rattle.script_syntax.specs.Reading.{after, before, adding, multiplying, comparing, chain, product, sum, and_expr, arguments, enclosed, primary, deeper, unary_at, kind_at, expression_at}
use Rattle.script_syntax.proofs.Counts.{addends_count, factors_count, indexes_count, more_count, addends_counted, factors_counted, indexes_counted, more_counted}
use Rattle.script_syntax.proofs.Loops.{chain_stops, chain_one, and_next, item_of}
use Rattle.script_syntax.proofs.Steps.{Read, adding_reads, multiplying_reads, comparing_reads, kind_reads, expression_single, expression_compared, sum_goes, product_goes, postfix_goes, items_go, prefix_deep, unary_plain, enclosed_deep, arguments_none, arguments_some, retries_read, pair_deep, primary_int, primary_named, primary_call, primary_remote, primary_list, primary_empty, primary_enclosed, primary_len, primary_push}

-- ---- a rest that doesn't go on

abbrev pub EndsPrimary : List Token → Type 0
EndsPrimary rest = before marks.OpenParenthesis rest ≡ None

abbrev pub EndsUnary : List Token → Type 0
EndsUnary rest = EndsPrimary rest × (before marks.OpenBracket rest ≡ None)

abbrev pub EndsProduct : List Token → Type 0
EndsProduct rest = EndsUnary rest × (multiplying rest ≡ None)

abbrev pub EndsSum : List Token → Type 0
EndsSum rest = EndsProduct rest × (adding rest ≡ None)

abbrev pub EndsExpression : List Token → Type 0
EndsExpression rest = EndsSum rest × (comparing rest ≡ None)

ends_indexes : (others : Indexes) (rest : List Token) → EndsUnary rest → EndsPrimary (indexes_before others rest)
ends_indexes no_index rest h = h.0
ends_indexes (index e others) rest h = refl

ends_factors : (others : Factors) (rest : List Token) → EndsProduct rest → EndsUnary (factors_before others rest)
ends_factors no_factor rest h = h.0
ends_factors (factor multiplies a others) rest h = (refl, refl)
ends_factors (factor divides a others) rest h = (refl, refl)
ends_factors (factor leaves a others) rest h = (refl, refl)

ends_addends : (others : Addends) (rest : List Token) → EndsSum rest → EndsProduct (addends_before others rest)
ends_addends no_addend rest h = h.0
ends_addends (addend adds a others) rest h = ((refl, refl), refl)
ends_addends (addend subtracts a others) rest h = ((refl, refl), refl)

ends_compared : (op : Comparison) (rest : List Token) → EndsSum (mark (comparison_mark op) ∷ rest)
ends_compared equals rest = (((refl, refl), refl), refl)
ends_compared differs rest = (((refl, refl), refl), refl)
ends_compared is_less rest = (((refl, refl), refl), refl)
ends_compared is_at_most rest = (((refl, refl), refl), refl)

pub ends_more : (others : MoreArguments) (rest : List Token) → EndsExpression rest → EndsExpression (more_before others rest)
ends_more last_argument rest h = h
ends_more (argument e others) rest h = ((((refl, refl), refl), refl), refl)

-- an expression begins with no closing parenthesis
mutual
  expression_begins : (a : Expression) (rest : List Token) → after marks.CloseParenthesis (expression_before a rest) ≡ None
  expression_begins (Single a) rest = sum_begins a rest
  expression_begins (Compared op a b) rest = sum_begins a (mark (comparison_mark op) ∷ sum_before b rest)

  sum_begins : (a : Sum) (rest : List Token) → after marks.CloseParenthesis (sum_before a rest) ≡ None
  sum_begins (SumOf a others) rest = product_begins a (addends_before others rest)

  product_begins : (a : Product) (rest : List Token) → after marks.CloseParenthesis (product_before a rest) ≡ None
  product_begins (ProductOf a others) rest = unary_begins a (factors_before others rest)

  unary_begins : (a : Unary) (rest : List Token) → after marks.CloseParenthesis (unary_before a rest) ≡ None
  unary_begins (PrefixOf prefixes.Negate a) rest = refl
  unary_begins (PrefixOf prefixes.Get a) rest = refl
  unary_begins (PrefixOf prefixes.Put a) rest = refl
  unary_begins (Plain a) rest = postfix_begins a rest

  postfix_begins : (a : Postfix) (rest : List Token) → after marks.CloseParenthesis (postfix_before a rest) ≡ None
  postfix_begins (PostfixOf a others) rest = primary_begins a (indexes_before others rest)

  primary_begins : (a : Primary) (rest : List Token) → after marks.CloseParenthesis (primary_before a rest) ≡ None
  primary_begins (Int n) rest = refl
  primary_begins (Named x) rest = refl
  primary_begins (CallOf g args) rest = refl
  primary_begins (RemoteOf r g args) rest = refl
  primary_begins (Listed e others) rest = refl
  primary_begins (EmptyOf t) rest = refl
  primary_begins (Enclosed e) rest = refl
  primary_begins (LenOf e) rest = refl
  primary_begins (PushOf a b) rest = refl

-- ---- lists of expressions

abbrev pub appended : Exprs → Exprs → Exprs
appended no_expr es = es
appended (also x xs) es = also x (appended xs es)

pub appended_none : (es : Exprs) → appended es no_expr ≡ es
appended_none no_expr = refl
appended_none (also x xs) = ap (also x) (appended_none xs)

pub appended_and : (left : Exprs) (a : Expr) (es : Exprs) → appended (and_expr left a) es ≡ appended left (also a es)
appended_and no_expr a es = refl
appended_and (also x xs) a es = ap (also x) (appended_and xs a es)

-- ---- each word is read

mutual
  pub expression_reads : (a : Expression) (levels : ℕ) (rest : List Token) → ExpressionWithin a levels → EndsExpression rest → expression_at levels (expression_before a rest) ≡ Read (expression_tree a) rest
  expression_reads (Single a) levels rest w h = expression_single (unary_at levels) (sum_before a rest) (sum_tree a) rest (sum_reads a levels rest w h.0) h.1
  expression_reads (Compared op a b) levels rest w h =
      let more : List Token = sum_before b rest in
      expression_compared (unary_at levels) _ (sum_tree a) (sum_tree b) (comparison op) (mark (comparison_mark op) ∷ more) more rest (sum_reads a levels (mark (comparison_mark op) ∷ more) w.0 (ends_compared op more)) (comparing_reads op more) (sum_reads b levels rest w.1 h.0)

  pub sum_reads : (a : Sum) (levels : ℕ) (rest : List Token) → SumWithin a levels → EndsSum rest → sum (unary_at levels) (sum_before a rest) ≡ Read (sum_tree a) rest
  sum_reads (SumOf a others) levels rest w h =
      let more : List Token = addends_before others rest in
      sum_goes (unary_at levels) _ (product_tree a) more _ (product_reads a levels more w.0 (ends_addends others rest h))
      (addends_read others (length more) (product_tree a) levels rest (omega (arith, addends_counted others rest)) w.1 h)

  addends_read : (a : Addends) (n : ℕ) (left : Expr) (levels : ℕ) (rest : List Token) → addends_count a ≤ n → AddendsWithin a levels → EndsSum rest
      → chain adding (product (unary_at levels)) Binary n left (addends_before a rest) ≡ Read (addends_tree a left) rest
  addends_read no_addend n left levels rest len w h = chain_stops adding (product (unary_at levels)) Binary n left rest h.1
  addends_read (addend op a others) zero left levels rest len w h = absurd (omega (arith, len))
  addends_read (addend op a others) (suc n) left levels rest len w h =
      let more : List Token = addends_before others rest in
      chain_one adding (product (unary_at levels)) Binary n left (additive op) (product_tree a) _ (product_before a more) more (adding_reads op (product_before a more)) (product_reads a levels more w.0 (ends_addends others rest h))
      ∙ addends_read others n (Binary (additive op) left (product_tree a)) levels rest (omega (arith, len)) w.1 h

  product_reads : (a : Product) (levels : ℕ) (rest : List Token) → ProductWithin a levels → EndsProduct rest → product (unary_at levels) (product_before a rest) ≡ Read (product_tree a) rest
  product_reads (ProductOf a others) levels rest w h =
      let more : List Token = factors_before others rest in
      product_goes (unary_at levels) _ (unary_tree a) more _ (unary_reads a levels more w.0 (ends_factors others rest h))
      (factors_read others (length more) (unary_tree a) levels rest (omega (arith, factors_counted others rest)) w.1 h)

  factors_read : (a : Factors) (n : ℕ) (left : Expr) (levels : ℕ) (rest : List Token) → factors_count a ≤ n → FactorsWithin a levels → EndsProduct rest
      → chain multiplying (unary_at levels) Binary n left (factors_before a rest) ≡ Read (factors_tree a left) rest
  factors_read no_factor n left levels rest len w h = chain_stops multiplying (unary_at levels) Binary n left rest h.1
  factors_read (factor op a others) zero left levels rest len w h = absurd (omega (arith, len))
  factors_read (factor op a others) (suc n) left levels rest len w h =
      let more : List Token = factors_before others rest in
      chain_one multiplying (unary_at levels) Binary n left (multiplicative op) (unary_tree a) _ (unary_before a more) more (multiplying_reads op (unary_before a more)) (unary_reads a levels more w.0 (ends_factors others rest h))
      ∙ factors_read others n (Binary (multiplicative op) left (unary_tree a)) levels rest (omega (arith, len)) w.1 h

  unary_reads : (a : Unary) (levels : ℕ) (rest : List Token) → UnaryWithin a levels → EndsUnary rest → unary_at levels (unary_before a rest) ≡ Read (unary_tree a) rest
  unary_reads (PrefixOf p a) zero rest w h = absurd w
  unary_reads (PrefixOf p a) (suc levels) rest w h = prefix_deep levels p (unary_before a rest) (unary_tree a) rest (unary_reads a levels rest w h)
  unary_reads (Plain (PostfixOf a others)) levels rest w h =
      let more : List Token = indexes_before others rest in
      unary_plain (kind_at levels) (deeper levels) a more
      ∙ postfix_goes (kind_at levels) (deeper levels) _ (primary_tree a) more _ (primary_reads a levels more w.0 (ends_indexes others rest h))
      (indexes_read others (length more) (primary_tree a) levels rest (omega (arith, indexes_counted others rest)) w.1 h)

  indexes_read : (a : Indexes) (n : ℕ) (left : Expr) (levels : ℕ) (rest : List Token) → indexes_count a ≤ n → IndexesWithin a levels → EndsUnary rest
      → chain (before marks.OpenBracket) (enclosed (deeper levels) marks.OpenBracket marks.CloseBracket) item_of n left (indexes_before a rest) ≡ Read (indexes_tree a left) rest
  indexes_read no_index n left levels rest len w h = chain_stops (before marks.OpenBracket) (enclosed (deeper levels) marks.OpenBracket marks.CloseBracket) item_of n left rest h.1
  indexes_read (index e others) zero left levels rest len w h = absurd (omega (arith, len))
  indexes_read (index e others) (suc n) left zero rest len w h = absurd w.0
  indexes_read (index e others) (suc n) left (suc levels) rest len w h =
      let more : List Token = indexes_before others rest in
      let inside : List Token = expression_before e (mark marks.CloseBracket ∷ more) in
      chain_one (before marks.OpenBracket) (enclosed (deeper (suc levels)) marks.OpenBracket marks.CloseBracket) item_of n left tt (expression_tree e) (mark marks.OpenBracket ∷ inside) (mark marks.OpenBracket ∷ inside) more refl
      (enclosed_deep levels marks.OpenBracket marks.CloseBracket (mark marks.OpenBracket ∷ inside) inside (expression_tree e) (mark marks.CloseBracket ∷ more) more refl (expression_reads e levels (mark marks.CloseBracket ∷ more) w.0 ((((refl, refl), refl), refl), refl)) refl)
      ∙ indexes_read others n (Item left (expression_tree e)) (suc levels) rest (omega (arith, len)) w.1 h

  primary_reads : (a : Primary) (levels : ℕ) (rest : List Token) → PrimaryWithin a levels → EndsPrimary rest → primary (kind_at levels) (deeper levels) (primary_before a rest) ≡ Read (primary_tree a) rest
  primary_reads (Int n) levels rest w h = primary_int (kind_at levels) (deeper levels) n rest
  primary_reads (Named x) levels rest w h = primary_named (kind_at levels) (deeper levels) x rest h
  primary_reads (CallOf g args) zero rest w h = absurd w
  primary_reads (CallOf g args) (suc levels) rest w h = primary_call (kind_at (suc levels)) (deeper (suc levels)) g _ (argument_trees args) rest (arguments_read args levels rest w)
  primary_reads (RemoteOf r g args) zero rest w h = absurd w.1
  primary_reads (RemoteOf r g args) (suc levels) rest w h =
      let more : List Token = mark marks.OpenParenthesis ∷ arguments_before args (mark marks.CloseParenthesis ∷ rest) in
      primary_remote (kind_at (suc levels)) (deeper (suc levels)) r g (retries_before r (name g ∷ more)) more (argument_trees args) rest (retries_read r (suc levels) (name g ∷ more) w.0 refl) (arguments_read args levels rest w.1)
  primary_reads (Listed e others) zero rest w h = absurd w.0
  primary_reads (Listed e others) (suc levels) rest w h =
      let more : List Token = more_before others (mark marks.CloseBracket ∷ rest) in
      primary_list (kind_at (suc levels)) levels (expression_before e more) (also (expression_tree e) (more_trees others)) rest
      (items_go (unary_at levels) _ (expression_tree e) more _ (expression_reads e levels more w.0 (ends_more others (mark marks.CloseBracket ∷ rest) ((((refl, refl), refl), refl), refl)))
      (more_read others (length more) (also (expression_tree e) no_expr) levels (mark marks.CloseBracket ∷ rest) (omega (arith, more_counted others (mark marks.CloseBracket ∷ rest))) w.1 ((((refl, refl), refl), refl), refl) refl))
  primary_reads (EmptyOf t) levels rest w h = primary_empty (kind_at levels) (deeper levels) t (kind_before t rest) rest (kind_reads t levels rest w)
  primary_reads (Enclosed e) zero rest w h = absurd w
  primary_reads (Enclosed e) (suc levels) rest w h =
      let inside : List Token = expression_before e (mark marks.CloseParenthesis ∷ rest) in
      primary_enclosed (kind_at (suc levels)) (deeper (suc levels)) (expression_tree e) inside rest
      (enclosed_deep levels marks.OpenParenthesis marks.CloseParenthesis (mark marks.OpenParenthesis ∷ inside) inside (expression_tree e) (mark marks.CloseParenthesis ∷ rest) rest refl (expression_reads e levels (mark marks.CloseParenthesis ∷ rest) w ((((refl, refl), refl), refl), refl)) refl)
  primary_reads (LenOf e) zero rest w h = absurd w
  primary_reads (LenOf e) (suc levels) rest w h =
      let inside : List Token = expression_before e (mark marks.CloseParenthesis ∷ rest) in
      primary_len (kind_at (suc levels)) (deeper (suc levels)) (expression_tree e) (mark marks.OpenParenthesis ∷ inside) rest
      (enclosed_deep levels marks.OpenParenthesis marks.CloseParenthesis (mark marks.OpenParenthesis ∷ inside) inside (expression_tree e) (mark marks.CloseParenthesis ∷ rest) rest refl (expression_reads e levels (mark marks.CloseParenthesis ∷ rest) w ((((refl, refl), refl), refl), refl)) refl)
  primary_reads (PushOf a b) zero rest w h = absurd w.0
  primary_reads (PushOf a b) (suc levels) rest w h =
      let second : List Token = expression_before b (mark marks.CloseParenthesis ∷ rest) in
      primary_push (kind_at (suc levels)) (deeper (suc levels)) (expression_tree a) (expression_tree b) (mark marks.OpenParenthesis ∷ expression_before a (mark marks.Comma ∷ second)) rest
      (pair_deep levels (expression_before a (mark marks.Comma ∷ second)) (expression_tree a) (expression_tree b) second rest (expression_reads a levels (mark marks.Comma ∷ second) w.0 ((((refl, refl), refl), refl), refl)) (expression_reads b levels (mark marks.CloseParenthesis ∷ rest) w.1 ((((refl, refl), refl), refl), refl)))

  pub arguments_read : (a : Arguments) (levels : ℕ) (rest : List Token) → ArgumentsWithin a levels → arguments (deeper (suc levels)) (mark marks.OpenParenthesis ∷ arguments_before a (mark marks.CloseParenthesis ∷ rest)) ≡ Read (argument_trees a) rest
  arguments_read no_argument levels rest w = arguments_none levels rest
  arguments_read (ArgumentsOf e others) levels rest w =
      let more : List Token = more_before others (mark marks.CloseParenthesis ∷ rest) in
      arguments_some levels (expression_before e more) (also (expression_tree e) (more_trees others)) rest (expression_begins e more)
      (items_go (unary_at levels) _ (expression_tree e) more _ (expression_reads e levels more w.0 (ends_more others (mark marks.CloseParenthesis ∷ rest) ((((refl, refl), refl), refl), refl)))
      (more_read others (length more) (also (expression_tree e) no_expr) levels (mark marks.CloseParenthesis ∷ rest) (omega (arith, more_counted others (mark marks.CloseParenthesis ∷ rest))) w.1 ((((refl, refl), refl), refl), refl) refl))

  more_read : (a : MoreArguments) (n : ℕ) (left : Exprs) (levels : ℕ) (rest : List Token) → more_count a ≤ n → MoreWithin a levels → EndsExpression rest → after marks.Comma rest ≡ None
      → chain (after marks.Comma) (expression_at levels) and_next n left (more_before a rest) ≡ Read (appended left (more_trees a)) rest
  more_read last_argument n left levels rest len w h c = chain_stops (after marks.Comma) (expression_at levels) and_next n left rest c ∙ ap (λ (es : Exprs). Read es rest) (sym (appended_none left))
  more_read (argument e others) zero left levels rest len w h c = absurd (omega (arith, len))
  more_read (argument e others) (suc n) left levels rest len w h c =
      let more : List Token = more_before others rest in
      chain_one (after marks.Comma) (expression_at levels) and_next n left tt (expression_tree e) _ (expression_before e more) more refl (expression_reads e levels more w.0 (ends_more others rest h))
      ∙ more_read others n (and_expr left (expression_tree e)) levels rest (omega (arith, len)) w.1 h c
      ∙ ap (λ (es : Exprs). Read es rest) (appended_and left (expression_tree e) (more_trees others))
