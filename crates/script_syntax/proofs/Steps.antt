-- How each word goes on reading, once its parts are read.
use Rattle.std.proofs.Common.{◌≡◌, ℕ, zero, suc, List, ◌∷◌, length, Option, Some, None, refl}
use Rattle.script_tokens.specs.declared.token.Mark.{Mark}
use Rattle.script_tokens.specs.declared.token.Mark.TheVariants as marks
use Rattle.script_syntax.specs.declared.tree.BinaryOperator.{BinaryOperator}
use Rattle.script_syntax.specs.declared.tree.Prefix.{Prefix}
use Rattle.script_syntax.specs.declared.tree.Prefix.TheVariants as prefixes
use Rattle.script_tokens.specs.Tokens.{Name, Token, number, name, mark}
use Rattle.script_syntax.specs.Trees.{Kind, IntType, ListType, RefType, Expr, Number, Variable, Prefixed, Binary, ListOf, Empty, Call, Remote, Len, Push, Exprs, no_expr, also}
use Rattle.script_syntax.specs.Operators.{Comparison, equals, differs, is_less, is_at_most, Additive, adds, subtracts, Multiplicative, multiplies, divides, leaves, comparison_mark, comparison, additive_mark, additive, multiplicative_mark, multiplicative, prefix_mark}
use Rattle.script_syntax.specs.Expressions.{Primary, Int, Named, CallOf, RemoteOf, Listed, EmptyOf, Enclosed, LenOf, PushOf, primary_before, retries_before, RetriesWithin, kind_before, KindWithin}
use Rattle.script_syntax.specs.Reading.{Reader, after, before, adding, multiplying, comparing, prefixing, chain, kind, deeper_kind, kind_at, product, sum, expression, items, arguments, enclosed, retries, pair, primary, postfix, unary, deeper, unary_at, expression_at}
use Rattle.script_syntax.proofs.Loops.{and_next, item_of}

abbrev pub Read : {A : Type 0} → A → List Token → Option (A × List Token)
Read a rest = Some (a, rest)

-- ---- operators

pub adding_reads : (op : Additive) (rest : List Token) → adding (mark (additive_mark op) ∷ rest) ≡ Read (additive op) rest
adding_reads adds rest = refl
adding_reads subtracts rest = refl

pub multiplying_reads : (op : Multiplicative) (rest : List Token) → multiplying (mark (multiplicative_mark op) ∷ rest) ≡ Read (multiplicative op) rest
multiplying_reads multiplies rest = refl
multiplying_reads divides rest = refl
multiplying_reads leaves rest = refl

pub comparing_reads : (op : Comparison) (rest : List Token) → comparing (mark (comparison_mark op) ∷ rest) ≡ Read (comparison op) rest
comparing_reads equals rest = refl
comparing_reads differs rest = refl
comparing_reads is_less rest = refl
comparing_reads is_at_most rest = refl

-- ---- types

pub kind_reads : (t : Kind) (levels : ℕ) (rest : List Token) → KindWithin t levels → kind_at levels (kind_before t rest) ≡ Read t rest
unfolding kind deeper_kind
kind_reads IntType levels rest w = refl
kind_reads (ListType t) zero rest w = absurd w
kind_reads (ListType t) (suc levels) rest w = rw (kind_reads t levels (mark marks.CloseBracket ∷ rest) w) refl
kind_reads (RefType t) zero rest w = absurd w
kind_reads (RefType t) (suc levels) rest w = rw (kind_reads t levels rest w) refl

-- ---- expressions

pub expression_single : (u : Reader Expr) (tokens : List Token) (a : Expr) (rest : List Token) → sum u tokens ≡ Read a rest → comparing rest ≡ None → expression u tokens ≡ Read a rest
unfolding expression
expression_single u tokens a rest first ends = rw (first, ends) refl

pub expression_compared : (u : Reader Expr) (tokens : List Token) (a b : Expr) (op : BinaryOperator) (middle more rest : List Token) → sum u tokens ≡ Read a middle → comparing middle ≡ Read op more → sum u more ≡ Read b rest
    → expression u tokens ≡ Read (Binary op a b) rest
unfolding expression
expression_compared u tokens a b op middle more rest first next second = rw (first, next, second) refl

pub sum_goes : (u : Reader Expr) (tokens : List Token) (a : Expr) (rest : List Token) (all : Option (Expr × List Token)) → product u tokens ≡ Read a rest → chain adding (product u) Binary (length rest) a rest ≡ all → sum u tokens ≡ all
unfolding sum
sum_goes u tokens a rest all first others = rw first others

pub product_goes : (u : Reader Expr) (tokens : List Token) (a : Expr) (rest : List Token) (all : Option (Expr × List Token)) → u tokens ≡ Read a rest → chain multiplying u Binary (length rest) a rest ≡ all → product u tokens ≡ all
unfolding product
product_goes u tokens a rest all first others = rw first others

pub postfix_goes : (k : Reader Kind) (d : Option (Reader Expr)) (tokens : List Token) (a : Expr) (rest : List Token) (all : Option (Expr × List Token)) → primary k d tokens ≡ Read a rest
    → chain (before marks.OpenBracket) (enclosed d marks.OpenBracket marks.CloseBracket) item_of (length rest) a rest ≡ all → postfix k d tokens ≡ all
unfolding postfix
postfix_goes k d tokens a rest all first others = rw first others

pub items_go : (u : Reader Expr) (tokens : List Token) (a : Expr) (rest : List Token) (all : Option (Exprs × List Token)) → expression u tokens ≡ Read a rest
    → chain (after marks.Comma) (expression u) and_next (length rest) (also a no_expr) rest ≡ all → items u tokens ≡ all
unfolding items
items_go u tokens a rest all first others = rw first others

pub prefix_deep : (levels : ℕ) (p : Prefix) (more : List Token) (a : Expr) (rest : List Token) → unary_at levels more ≡ Read a rest → unary_at (suc levels) (mark (prefix_mark p) ∷ more) ≡ Read (Prefixed p a) rest
unfolding unary deeper
prefix_deep levels prefixes.Negate more a rest h = rw h refl
prefix_deep levels prefixes.Get more a rest h = rw h refl
prefix_deep levels prefixes.Put more a rest h = rw h refl

prefixing_none : (a : Primary) (rest : List Token) → prefixing (primary_before a rest) ≡ None
prefixing_none (Int n) rest = refl
prefixing_none (Named x) rest = refl
prefixing_none (CallOf g args) rest = refl
prefixing_none (RemoteOf r g args) rest = refl
prefixing_none (Listed e others) rest = refl
prefixing_none (EmptyOf t) rest = refl
prefixing_none (Enclosed e) rest = refl
prefixing_none (LenOf e) rest = refl
prefixing_none (PushOf a b) rest = refl

pub unary_plain : (k : Reader Kind) (d : Option (Reader Expr)) (a : Primary) (rest : List Token) → unary k d (primary_before a rest) ≡ postfix k d (primary_before a rest)
unfolding unary
unary_plain k d a rest = rw (prefixing_none a rest) refl

pub enclosed_deep : (levels : ℕ) (first last : Mark) (tokens more : List Token) (a : Expr) (middle rest : List Token) → after first tokens ≡ Read tt more → expression_at levels more ≡ Read a middle → after last middle ≡ Read tt rest
    → enclosed (deeper (suc levels)) first last tokens ≡ Read a rest
unfolding enclosed deeper
enclosed_deep levels first last tokens more a middle rest o e c = rw (o, e, c) refl

pub arguments_none : (levels : ℕ) (rest : List Token) → arguments (deeper (suc levels)) (mark marks.OpenParenthesis ∷ mark marks.CloseParenthesis ∷ rest) ≡ Read no_expr rest
unfolding arguments deeper
arguments_none levels rest = refl

pub arguments_some : (levels : ℕ) (more : List Token) (es : Exprs) (rest : List Token) → after marks.CloseParenthesis more ≡ None → items (unary_at levels) more ≡ Read es (mark marks.CloseParenthesis ∷ rest)
    → arguments (deeper (suc levels)) (mark marks.OpenParenthesis ∷ more) ≡ Read es rest
unfolding arguments deeper
arguments_some levels more es rest begins given = rw (begins, given) refl

pub retries_read : (r : Option ℕ) (levels : ℕ) (rest : List Token) → RetriesWithin r levels → after marks.OpenParenthesis rest ≡ None → retries (deeper levels) (retries_before r rest) ≡ Read r rest
unfolding retries deeper
retries_read None levels rest w ends = rw ends refl
retries_read (Some n) zero rest w ends = absurd w
retries_read (Some n) (suc levels) rest w ends = refl

pub pair_deep : (levels : ℕ) (more : List Token) (a b : Expr) (middle rest : List Token) → expression_at levels more ≡ Read a (mark marks.Comma ∷ middle) → expression_at levels middle ≡ Read b (mark marks.CloseParenthesis ∷ rest)
    → pair (deeper (suc levels)) (mark marks.OpenParenthesis ∷ more) ≡ Read (a, b) rest
unfolding pair deeper
pair_deep levels more a b middle rest first second = rw (first, second) refl

-- ---- primaries

pub primary_int : (k : Reader Kind) (d : Option (Reader Expr)) (n : ℕ) (rest : List Token) → primary k d (number n ∷ rest) ≡ Read (Number n) rest
unfolding primary
primary_int k d n rest = refl

pub primary_named : (k : Reader Kind) (d : Option (Reader Expr)) (x : Name) (rest : List Token) → before marks.OpenParenthesis rest ≡ None → primary k d (name x ∷ rest) ≡ Read (Variable x) rest
unfolding primary
primary_named k d x rest ends = rw ends refl

pub primary_call : (k : Reader Kind) (d : Option (Reader Expr)) (g : Name) (more : List Token) (es : Exprs) (rest : List Token) → arguments d (mark marks.OpenParenthesis ∷ more) ≡ Read es rest
    → primary k d (name g ∷ mark marks.OpenParenthesis ∷ more) ≡ Read (Call g es) rest
unfolding primary
primary_call k d g more es rest h = rw h refl

pub primary_remote : (k : Reader Kind) (d : Option (Reader Expr)) (r : Option ℕ) (g : Name) (tokens more : List Token) (es : Exprs) (rest : List Token) → retries d tokens ≡ Read r (name g ∷ more) → arguments d more ≡ Read es rest
    → primary k d (mark marks.Remote ∷ tokens) ≡ Read (Remote r g es) rest
unfolding primary
primary_remote k d r g tokens more es rest first second = rw (first, second) refl

pub primary_list : (k : Reader Kind) (levels : ℕ) (more : List Token) (es : Exprs) (rest : List Token) → items (unary_at levels) more ≡ Read es (mark marks.CloseBracket ∷ rest)
    → primary k (deeper (suc levels)) (mark marks.OpenBracket ∷ more) ≡ Read (ListOf es) rest
unfolding primary deeper
primary_list k levels more es rest h = rw h refl

pub primary_empty : (k : Reader Kind) (d : Option (Reader Expr)) (t : Kind) (more rest : List Token) → k more ≡ Read t rest → primary k d (mark marks.Empty ∷ more) ≡ Read (Empty t) rest
unfolding primary
primary_empty k d t more rest h = rw h refl

pub primary_enclosed : (k : Reader Kind) (d : Option (Reader Expr)) (a : Expr) (more rest : List Token) → enclosed d marks.OpenParenthesis marks.CloseParenthesis (mark marks.OpenParenthesis ∷ more) ≡ Read a rest
    → primary k d (mark marks.OpenParenthesis ∷ more) ≡ Read a rest
unfolding primary
primary_enclosed k d a more rest h = h

pub primary_len : (k : Reader Kind) (d : Option (Reader Expr)) (a : Expr) (more rest : List Token) → enclosed d marks.OpenParenthesis marks.CloseParenthesis more ≡ Read a rest → primary k d (mark marks.Len ∷ more) ≡ Read (Len a) rest
unfolding primary
primary_len k d a more rest h = rw h refl

pub primary_push : (k : Reader Kind) (d : Option (Reader Expr)) (a b : Expr) (more rest : List Token) → pair d more ≡ Read (a, b) rest → primary k d (mark marks.Push ∷ more) ≡ Read (Push a b) rest
unfolding primary
primary_push k d a b more rest h = rw h refl
