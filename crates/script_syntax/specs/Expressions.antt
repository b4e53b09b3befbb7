-- The grammar of types and expressions: a derivation has one type for each of its words, which reads as the rule does.
-- It says the tokens that it stands for (what is written before some rest), the tree that it gives, and how many
-- brackets and prefixes are open at one place.
use Rattle.std.specs.Prelude.{ℕ, zero, suc, List, ◌∷◌, Option, Some, None}
use Rattle.script_tokens.specs.declared.token.Mark.TheVariants as marks
use Rattle.script_tokens.specs.Tokens.{Name, Token, number, name, mark}
use Rattle.script_syntax.specs.declared.tree.Prefix.{Prefix}
use Rattle.script_syntax.specs.Trees.{
  Kind,
  IntType,
  ListType,
  RefType,
  Expr,
  Number,
  Variable,
  Prefixed,
  Binary,
  Item,
  ListOf,
  Empty,
  Call,
  Remote,
  Len,
  Push,
  Exprs,
  no_expr,
  also,
}
use Rattle.script_syntax.specs.Operators.{
  Comparison,
  Additive,
  Multiplicative,
  comparison_mark,
  comparison,
  additive_mark,
  additive,
  multiplicative_mark,
  multiplicative,
  prefix_mark,
}

-- one more is open
abbrev pub Deeper : ℕ → (ℕ → Type 0) → Type 0
Deeper zero P = ⊥
Deeper (suc levels) P = P levels

-- ---- type = "int" | "[" type "]" | "ref" type: a derivation is its own tree

abbrev pub kind_before : Kind → List Token → List Token
kind_before IntType rest = mark marks.Int ∷ rest
kind_before (ListType t) rest = mark marks.OpenBracket ∷ kind_before t (mark marks.CloseBracket ∷ rest)
kind_before (RefType t) rest = mark marks.Ref ∷ kind_before t rest

abbrev pub KindWithin : Kind → ℕ → Type 0
KindWithin IntType levels = Unit {0}
KindWithin (ListType t) levels = Deeper levels (KindWithin t)
KindWithin (RefType t) levels = Deeper levels (KindWithin t)

-- ---- derivations

mutual
  -- expr = sum [ ("==" | "!=" | "<" | "<=") sum ]
  pub data Expression : Type 0 where
    Single : (a : Sum) → Expression
    Compared : (op : Comparison) (a b : Sum) → Expression

  -- sum = prod { ("+" | "-") prod }
  pub data Sum : Type 0 where
    SumOf : (first : Product) (others : Addends) → Sum

  pub data Addends : Type 0 where
    no_addend : Addends
    addend : (op : Additive) (a : Product) (others : Addends) → Addends

  -- prod = unary { ("*" | "/" | "%") unary }
  pub data Product : Type 0 where
    ProductOf : (first : Unary) (others : Factors) → Product

  pub data Factors : Type 0 where
    no_factor : Factors
    factor : (op : Multiplicative) (a : Unary) (others : Factors) → Factors

  -- unary = ("-" | "get" | "put") unary | post
  pub data Unary : Type 0 where
    PrefixOf : (p : Prefix) (a : Unary) → Unary
    Plain : (a : Postfix) → Unary

  -- post = prim { "[" expr "]" }
  pub data Postfix : Type 0 where
    PostfixOf : (first : Primary) (others : Indexes) → Postfix

  pub data Indexes : Type 0 where
    no_index : Indexes
    index : (e : Expression) (others : Indexes) → Indexes

  -- prim = INT | NAME | call | "remote" [ "(" INT ")" ] call | "[" expr { "," expr } "]" | "empty" type
  --      | "(" expr ")" | "len" "(" expr ")" | "push" "(" expr "," expr ")"
  -- call = NAME "(" [ expr { "," expr } ] ")"
  pub data Primary : Type 0 where
    Int : (n : ℕ) → Primary
    Named : (x : Name) → Primary
    CallOf : (g : Name) (args : Arguments) → Primary
    RemoteOf : (retries : Option ℕ) (g : Name) (args : Arguments) → Primary
    Listed : (first : Expression) (others : MoreArguments) → Primary
    EmptyOf : (t : Kind) → Primary
    Enclosed : (e : Expression) → Primary
    LenOf : (e : Expression) → Primary
    PushOf : (a b : Expression) → Primary

  -- [ expr { "," expr } ]
  pub data Arguments : Type 0 where
    no_argument : Arguments
    ArgumentsOf : (first : Expression) (others : MoreArguments) → Arguments

  -- { "," expr }
  pub data MoreArguments : Type 0 where
    last_argument : MoreArguments
    argument : (e : Expression) (others : MoreArguments) → MoreArguments

-- ---- the tokens, written before a rest

-- [ "(" INT ")" ]
abbrev pub retries_before : Option ℕ → List Token → List Token
retries_before None rest = rest
retries_before (Some n) rest = mark marks.OpenParenthesis ∷ number n ∷ mark marks.CloseParenthesis ∷ rest

abbrev mutual
  pub expression_before : Expression → List Token → List Token
  expression_before (Single a) rest = sum_before a rest
  expression_before (Compared op a b) rest = sum_before a (mark (comparison_mark op) ∷ sum_before b rest)

  pub sum_before : Sum → List Token → List Token
  sum_before (SumOf first others) rest = product_before first (addends_before others rest)

  pub addends_before : Addends → List Token → List Token
  addends_before no_addend rest = rest
  addends_before (addend op a others) rest = mark (additive_mark op) ∷ product_before a (addends_before others rest)

  pub product_before : Product → List Token → List Token
  product_before (ProductOf first others) rest = unary_before first (factors_before others rest)

  pub factors_before : Factors → List Token → List Token
  factors_before no_factor rest = rest
  factors_before (factor op a others) rest = mark (multiplicative_mark op) ∷ unary_before a (factors_before others rest)

  pub unary_before : Unary → List Token → List Token
  unary_before (PrefixOf p a) rest = mark (prefix_mark p) ∷ unary_before a rest
  unary_before (Plain a) rest = postfix_before a rest

  pub postfix_before : Postfix → List Token → List Token
  postfix_before (PostfixOf first others) rest = primary_before first (indexes_before others rest)

  pub indexes_before : Indexes → List Token → List Token
  indexes_before no_index rest = rest
  indexes_before (index e others) rest = mark marks.OpenBracket ∷ expression_before e (mark marks.CloseBracket ∷ indexes_before others rest)

  pub primary_before : Primary → List Token → List Token
  primary_before (Int n) rest = number n ∷ rest
  primary_before (Named x) rest = name x ∷ rest
  primary_before (CallOf g args) rest = name g ∷ mark marks.OpenParenthesis ∷ arguments_before args (mark marks.CloseParenthesis ∷ rest)
  primary_before (RemoteOf r g args) rest = mark marks.Remote
      ∷ retries_before r (name g ∷ mark marks.OpenParenthesis ∷ arguments_before args (mark marks.CloseParenthesis ∷ rest))
  primary_before (Listed first others) rest = mark marks.OpenBracket ∷ expression_before first (more_before others (mark marks.CloseBracket ∷ rest))
  primary_before (EmptyOf t) rest = mark marks.Empty ∷ kind_before t rest
  primary_before (Enclosed e) rest = mark marks.OpenParenthesis ∷ expression_before e (mark marks.CloseParenthesis ∷ rest)
  primary_before (LenOf e) rest = mark marks.Len ∷ mark marks.OpenParenthesis ∷ expression_before e (mark marks.CloseParenthesis ∷ rest)
  primary_before (PushOf a b) rest = mark marks.Push ∷ mark marks.OpenParenthesis
      ∷ expression_before a (mark marks.Comma ∷ expression_before b (mark marks.CloseParenthesis ∷ rest))

  pub arguments_before : Arguments → List Token → List Token
  arguments_before no_argument rest = rest
  arguments_before (ArgumentsOf first others) rest = expression_before first (more_before others rest)

  pub more_before : MoreArguments → List Token → List Token
  more_before last_argument rest = rest
  more_before (argument e others) rest = mark marks.Comma ∷ expression_before e (more_before others rest)

-- ---- the tree: sums, products and indexes group to the left, parentheses leave no node

abbrev mutual
  pub expression_tree : Expression → Expr
  expression_tree (Single a) = sum_tree a
  expression_tree (Compared op a b) = Binary (comparison op) (sum_tree a) (sum_tree b)

  pub sum_tree : Sum → Expr
  sum_tree (SumOf first others) = addends_tree others (product_tree first)

  -- of what stands to the left
  pub addends_tree : Addends → Expr → Expr
  addends_tree no_addend left = left
  addends_tree (addend op a others) left = addends_tree others (Binary (additive op) left (product_tree a))

  pub product_tree : Product → Expr
  product_tree (ProductOf first others) = factors_tree others (unary_tree first)

  pub factors_tree : Factors → Expr → Expr
  factors_tree no_factor left = left
  factors_tree (factor op a others) left = factors_tree others (Binary (multiplicative op) left (unary_tree a))

  pub unary_tree : Unary → Expr
  unary_tree (PrefixOf p a) = Prefixed p (unary_tree a)
  unary_tree (Plain a) = postfix_tree a

  pub postfix_tree : Postfix → Expr
  postfix_tree (PostfixOf first others) = indexes_tree others (primary_tree first)

  pub indexes_tree : Indexes → Expr → Expr
  indexes_tree no_index left = left
  indexes_tree (index e others) left = indexes_tree others (Item left (expression_tree e))

  pub primary_tree : Primary → Expr
  primary_tree (Int n) = Number n
  primary_tree (Named x) = Variable x
  primary_tree (CallOf g args) = Call g (argument_trees args)
  primary_tree (RemoteOf r g args) = Remote r g (argument_trees args)
  primary_tree (Listed first others) = ListOf (also (expression_tree first) (more_trees others))
  primary_tree (EmptyOf t) = Empty t
  primary_tree (Enclosed e) = expression_tree e
  primary_tree (LenOf e) = Len (expression_tree e)
  primary_tree (PushOf a b) = Push (expression_tree a) (expression_tree b)

  pub argument_trees : Arguments → Exprs
  argument_trees no_argument = no_expr
  argument_trees (ArgumentsOf first others) = also (expression_tree first) (more_trees others)

  pub more_trees : MoreArguments → Exprs
  more_trees last_argument = no_expr
  more_trees (argument e others) = also (expression_tree e) (more_trees others)

-- ---- at most that many brackets and prefixes are open at one place

abbrev pub RetriesWithin : Option ℕ → ℕ → Type 0
RetriesWithin None levels = Unit {0}
RetriesWithin (Some n) levels = Deeper levels (λ _. Unit {0})

abbrev mutual
  pub ExpressionWithin : Expression → ℕ → Type 0
  ExpressionWithin (Single a) levels = SumWithin a levels
  ExpressionWithin (Compared op a b) levels = SumWithin a levels × SumWithin b levels

  pub SumWithin : Sum → ℕ → Type 0
  SumWithin (SumOf first others) levels = ProductWithin first levels × AddendsWithin others levels

  pub AddendsWithin : Addends → ℕ → Type 0
  AddendsWithin no_addend levels = Unit {0}
  AddendsWithin (addend op a others) levels = ProductWithin a levels × AddendsWithin others levels

  pub ProductWithin : Product → ℕ → Type 0
  ProductWithin (ProductOf first others) levels = UnaryWithin first levels × FactorsWithin others levels

  pub FactorsWithin : Factors → ℕ → Type 0
  FactorsWithin no_factor levels = Unit {0}
  FactorsWithin (factor op a others) levels = UnaryWithin a levels × FactorsWithin others levels

  pub UnaryWithin : Unary → ℕ → Type 0
  UnaryWithin (PrefixOf p a) levels = Deeper levels (UnaryWithin a)
  UnaryWithin (Plain a) levels = PostfixWithin a levels

  pub PostfixWithin : Postfix → ℕ → Type 0
  PostfixWithin (PostfixOf first others) levels = PrimaryWithin first levels × IndexesWithin others levels

  pub IndexesWithin : Indexes → ℕ → Type 0
  IndexesWithin no_index levels = Unit {0}
  IndexesWithin (index e others) levels = Deeper levels (ExpressionWithin e) × IndexesWithin others levels

  pub PrimaryWithin : Primary → ℕ → Type 0
  PrimaryWithin (CallOf g args) levels = Deeper levels (ArgumentsWithin args)
  PrimaryWithin (RemoteOf r g args) levels = RetriesWithin r levels × Deeper levels (ArgumentsWithin args)
  PrimaryWithin (Listed first others) levels = Deeper levels (ExpressionWithin first) × Deeper levels (MoreWithin others)
  PrimaryWithin (EmptyOf t) levels = KindWithin t levels
  PrimaryWithin (Enclosed e) levels = Deeper levels (ExpressionWithin e)
  PrimaryWithin (LenOf e) levels = Deeper levels (ExpressionWithin e)
  PrimaryWithin (PushOf a b) levels = Deeper levels (ExpressionWithin a) × Deeper levels (ExpressionWithin b)
  PrimaryWithin _ levels = Unit {0}

  pub ArgumentsWithin : Arguments → ℕ → Type 0
  ArgumentsWithin no_argument levels = Unit {0}
  ArgumentsWithin (ArgumentsOf first others) levels = ExpressionWithin first levels × MoreWithin others levels

  pub MoreWithin : MoreArguments → ℕ → Type 0
  MoreWithin last_argument levels = Unit {0}
  MoreWithin (argument e others) levels = ExpressionWithin e levels × MoreWithin others levels
