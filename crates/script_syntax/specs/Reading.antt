-- A parser on lists of tokens, by which the code and the grammar are compared.
use Rattle.std.specs.Prelude.{
  ◌≡◌,
  ◌+◌,
  ℕ,
  zero,
  suc,
  List,
  [],
  ◌∷◌,
  ◌++◌,
  length,
  Option,
  Some,
  None,
  Result,
  Ok,
  Err,
  nat_lt,
  Bool,
  true,
  false,
  ◌==◌,
  if◌then◌else◌,
}
use Rattle.script_tokens.specs.declared.token.Mark.{Mark}
use Rattle.script_tokens.specs.declared.token.Mark.TheVariants as marks
use Rattle.script_syntax.specs.declared.refusal.Refusal.{Refusal}
use Rattle.script_syntax.specs.declared.refusal.Refusal.TheVariants as refusals
use Rattle.script_tokens.specs.Tokens.{Name, Token, number, name, mark}
use Rattle.script_syntax.specs.declared.tree.BinaryOperator.{BinaryOperator}
use Rattle.script_syntax.specs.declared.tree.BinaryOperator.TheVariants as operators
use Rattle.script_syntax.specs.declared.tree.Prefix.{Prefix}
use Rattle.script_syntax.specs.declared.tree.Prefix.TheVariants as prefixes
use Rattle.script_syntax.specs.Trees.{
  Kind,
  IntType,
  ListType,
  RefType,
  Expr,
  Number,
  Variable,
  Prefixed,
  Binary,
  Item,
  ListOf,
  Empty,
  Call,
  Remote,
  Len,
  Push,
  Exprs,
  no_expr,
  also,
  Stmt,
  Let,
  LetCall,
  LetRemote,
  Set,
  If,
  IfElse,
  For,
  Print,
  Return,
  Block,
  no_stmt,
  stmt,
  Parameter,
  Function,
  Program,
}

-- what is read from the front, and the rest
abbrev pub Reader : Type 0 → Type 0
Reader A = List Token → Option (A × List Token)

infixl 10 ◌>>=◌
abbrev pub ◌>>=◌ : {A B : Type 0} → Option A → (A → Option B) → Option B
(Some x) >>= f = f x
None >>= f = None

abbrev pub choose : {A B : Type 0} → Option A → B → (A → B) → B
choose None y f = y
choose (Some x) y f = f x

-- ---- one token

abbrev pub mark_number : Mark → ℕ
mark_number marks.Fn = 0
mark_number marks.Let = 1
mark_number marks.Set = 2
mark_number marks.If = 3
mark_number marks.Else = 4
mark_number marks.For = 5
mark_number marks.In = 6
mark_number marks.Print = 7
mark_number marks.Return = 8
mark_number marks.Int = 9
mark_number marks.Ref = 10
mark_number marks.Remote = 11
mark_number marks.Put = 12
mark_number marks.Get = 13
mark_number marks.Len = 14
mark_number marks.Push = 15
mark_number marks.Empty = 16
mark_number marks.OpenParenthesis = 17
mark_number marks.CloseParenthesis = 18
mark_number marks.OpenBrace = 19
mark_number marks.CloseBrace = 20
mark_number marks.OpenBracket = 21
mark_number marks.CloseBracket = 22
mark_number marks.Comma = 23
mark_number marks.Semicolon = 24
mark_number marks.Colon = 25
mark_number marks.Arrow = 26
mark_number marks.Range = 27
mark_number marks.Assign = 28
mark_number marks.Equal = 29
mark_number marks.NotEqual = 30
mark_number marks.Less = 31
mark_number marks.LessEqual = 32
mark_number marks.Plus = 33
mark_number marks.Minus = 34
mark_number marks.Times = 35
mark_number marks.Slash = 36
mark_number marks.Percent = 37

-- that mark is the first
abbrev pub after : Mark → Reader (Unit {0})
after m (mark k ∷ rest) = if mark_number k == mark_number m then Some (tt, rest) else None
after m _ = None

-- that mark is the first, and stays
abbrev pub before : Mark → Reader (Unit {0})
before m tokens = choose (after m tokens) None (λ _. Some (tt, tokens))

-- that mark isn't the first
abbrev pub unless : Mark → Reader (Unit {0})
unless m tokens = choose (after m tokens) (Some (tt, tokens)) (λ _. None)

abbrev pub numbered : Reader ℕ
numbered (number n ∷ rest) = Some (n, rest)
numbered _ = None

abbrev pub named : Reader Name
named (name x ∷ rest) = Some (x, rest)
named _ = None

abbrev pub adding : Reader BinaryOperator
adding (mark marks.Plus ∷ rest) = Some (operators.Add, rest)
adding (mark marks.Minus ∷ rest) = Some (operators.Sub, rest)
adding _ = None

abbrev pub multiplying : Reader BinaryOperator
multiplying (mark marks.Times ∷ rest) = Some (operators.Mul, rest)
multiplying (mark marks.Slash ∷ rest) = Some (operators.Div, rest)
multiplying (mark marks.Percent ∷ rest) = Some (operators.Rem, rest)
multiplying _ = None

abbrev pub comparing : Reader BinaryOperator
comparing (mark marks.Equal ∷ rest) = Some (operators.Equal, rest)
comparing (mark marks.NotEqual ∷ rest) = Some (operators.NotEqual, rest)
comparing (mark marks.Less ∷ rest) = Some (operators.Less, rest)
comparing (mark marks.LessEqual ∷ rest) = Some (operators.LessEqual, rest)
comparing _ = None

abbrev pub prefixing : Reader Prefix
prefixing (mark marks.Minus ∷ rest) = Some (prefixes.Negate, rest)
prefixing (mark marks.Get ∷ rest) = Some (prefixes.Get, rest)
prefixing (mark marks.Put ∷ rest) = Some (prefixes.Put, rest)
prefixing _ = None

-- ---- at most that many items, each after what opens it, joined to what stands to the left

unfoldable pub chain : {X A L : Type 0} → Reader X → Reader A → (X → L → A → L) → ℕ → L → Reader L
chain opens item join zero left tokens = choose (opens tokens) (Some (left, tokens)) (λ _. None)
chain opens item join (suc n) left tokens =
    choose (opens tokens) (Some (left, tokens)) (λ op. item op.1 >>= λ a. chain opens item join n (join op.0 left a.0) a.1)

-- ---- types: each reader is given how the same is read where one more is open, if one more may be

unfoldable pub kind : Option (Reader Kind) → Reader Kind
kind deeper (mark marks.Int ∷ rest) = Some (IntType, rest)
kind deeper (mark marks.OpenBracket ∷ rest) = deeper >>= λ read. read rest >>= λ t. after marks.CloseBracket t.1 >>= λ q. Some (ListType t.0, q.1)
kind deeper (mark marks.Ref ∷ rest) = deeper >>= λ read. read rest >>= λ t. Some (RefType t.0, t.1)
kind deeper _ = None

unfoldable pub deeper_kind : ℕ → Option (Reader Kind)
deeper_kind zero = None
deeper_kind (suc levels) = Some (kind (deeper_kind levels))

abbrev pub kind_at : ℕ → Reader Kind
kind_at levels = kind (deeper_kind levels)

-- one more at the end
abbrev pub and_item : {A : Type 0} → List A → A → List A
and_item xs x = xs ++ x ∷ []

abbrev pub no_others : {A : Type 0} → List A → Bool
no_others [] = true
no_others (x ∷ xs) = false

-- three types at most, each after a comma
unfoldable pub other_kinds : Reader Kind → Reader (List Kind)
other_kinds kind tokens = chain (after marks.Comma) kind (λ _. and_item) 3 [] tokens

-- two types to four, up to the parenthesis that closes
unfoldable pub some_results : Reader Kind → Reader (Kind × List Kind)
some_results kind tokens = kind tokens >>= λ t. other_kinds kind t.1
    >>= λ ts. if no_others ts.0 then None else after marks.CloseParenthesis ts.1 >>= λ q. Some ((t.0, ts.0), q.1)

-- one type, or several in parentheses
unfoldable pub results : Reader Kind → Option (Reader Kind) → Reader (Kind × List Kind)
results kind deeper tokens = choose (after marks.OpenParenthesis tokens) (kind tokens >>= λ t. Some (
  (t.0, []),
  t.1,
)) (λ r. deeper >>= λ inner. some_results inner r.1)

abbrev pub results_at : ℕ → Reader (Kind × List Kind)
results_at levels = results (kind_at levels) (deeper_kind levels)

-- ---- expressions, given how what is unary is read

unfoldable pub product : Reader Expr → Reader Expr
product unary tokens = unary tokens >>= λ a. chain multiplying unary Binary (length a.1) a.0 a.1

unfoldable pub sum : Reader Expr → Reader Expr
sum unary tokens = product unary tokens >>= λ a. chain adding (product unary) Binary (length a.1) a.0 a.1

unfoldable pub expression : Reader Expr → Reader Expr
expression unary tokens = sum unary tokens >>= λ a. choose (comparing a.1) (Some a) (λ op. sum unary op.1 >>= λ b. Some (Binary op.0 a.0 b.0, b.1))

-- one more at the end
abbrev pub and_expr : Exprs → Expr → Exprs
and_expr no_expr a = also a no_expr
and_expr (also e es) a = also e (and_expr es a)

-- one expression or more, with commas between
unfoldable pub items : Reader Expr → Reader Exprs
items unary tokens = expression unary tokens >>= λ a. chain (after marks.Comma) (expression unary) (λ _. and_expr) (length a.1) (also a.0 no_expr) a.1

unfoldable pub arguments : Option (Reader Expr) → Reader Exprs
arguments deeper tokens = after marks.OpenParenthesis tokens >>= λ r. deeper >>= λ unary.
    choose (after marks.CloseParenthesis r.1) (items unary r.1 >>= λ es. after marks.CloseParenthesis es.1
    >>= λ q. Some (es.0, q.1)) (λ q. Some (no_expr, q.1))

unfoldable pub enclosed : Option (Reader Expr) → Mark → Mark → Reader Expr
enclosed deeper first last tokens = after first tokens >>= λ r. deeper >>= λ unary. expression unary r.1 >>= λ e. after last e.1 >>= λ q. Some (e.0, q.1)

unfoldable pub retries : Option (Reader Expr) → Reader (Option ℕ)
retries deeper tokens = choose (after marks.OpenParenthesis tokens) (Some (
  None,
  tokens,
)) (λ r. deeper >>= λ _. numbered r.1 >>= λ n. after marks.CloseParenthesis n.1 >>= λ q. Some (Some n.0, q.1))

unfoldable pub pair : Option (Reader Expr) → Reader (Expr × Expr)
pair deeper tokens = after marks.OpenParenthesis tokens >>= λ r. deeper >>= λ unary. expression unary r.1 >>= λ a. after marks.Comma a.1
    >>= λ c. expression unary c.1 >>= λ b. after marks.CloseParenthesis b.1 >>= λ q. Some ((a.0, b.0), q.1)

unfoldable pub primary : Reader Kind → Option (Reader Expr) → Reader Expr
primary kind deeper [] = None
primary kind deeper (number n ∷ rest) = Some (Number n, rest)
primary kind deeper (name x ∷ rest) = choose (before marks.OpenParenthesis rest) (Some (
  Variable x,
  rest,
)) (λ _. arguments deeper rest >>= λ args. Some (Call x args.0, args.1))
primary kind deeper (mark marks.Remote
    ∷ rest) = retries deeper rest >>= λ r. named r.1 >>= λ g. arguments deeper g.1 >>= λ args. Some (Remote r.0 g.0 args.0, args.1)
primary kind deeper (mark marks.OpenBracket
    ∷ rest) = deeper >>= λ unary. items unary rest >>= λ es. after marks.CloseBracket es.1 >>= λ q. Some (ListOf es.0, q.1)
primary kind deeper (mark marks.Empty ∷ rest) = kind rest >>= λ t. Some (Empty t.0, t.1)
primary kind deeper (mark marks.OpenParenthesis ∷ rest) = enclosed deeper marks.OpenParenthesis marks.CloseParenthesis (mark marks.OpenParenthesis ∷ rest)
primary kind deeper (mark marks.Len ∷ rest) = enclosed deeper marks.OpenParenthesis marks.CloseParenthesis rest >>= λ e. Some (Len e.0, e.1)
primary kind deeper (mark marks.Push ∷ rest) = pair deeper rest >>= λ p. Some (Push p.0.0 p.0.1, p.1)
primary kind deeper (mark m ∷ rest) = None

unfoldable pub postfix : Reader Kind → Option (Reader Expr) → Reader Expr
postfix kind deeper tokens = primary kind deeper tokens >>= λ a.
    chain (before marks.OpenBracket) (enclosed deeper marks.OpenBracket marks.CloseBracket) (λ _. Item) (length a.1) a.0 a.1

unfoldable pub unary : Reader Kind → Option (Reader Expr) → Reader Expr
unary kind deeper tokens = choose (prefixing tokens) (postfix kind deeper tokens) (λ p. deeper >>= λ read. read p.1 >>= λ a. Some (Prefixed p.0 a.0, a.1))

unfoldable pub deeper : ℕ → Option (Reader Expr)
deeper zero = None
deeper (suc levels) = Some (unary (kind_at levels) (deeper levels))

abbrev pub unary_at : ℕ → Reader Expr
unary_at levels = unary (kind_at levels) (deeper levels)

abbrev pub expression_at : ℕ → Reader Expr
expression_at levels = expression (unary_at levels)

-- an outermost expression
unfoldable pub outermost : ℕ → Reader Expr
outermost levels tokens = expression_at levels tokens >>= λ x. if nat_lt (length x.1 + 512) (length tokens) then None else Some x

-- what a `let` of several names calls
pub data Callee : Type 0 where
  AsPart : (g : Name) (args : Exprs) → Callee
  -- as a task, with its retries where they are written
  AsTask : (retries : Option ℕ) (g : Name) (args : Exprs) → Callee

unfoldable pub called : Option (Reader Expr) → Reader Callee
called deeper tokens = choose (after marks.Remote tokens) (named tokens >>= λ g. arguments deeper g.1 >>= λ args. Some (
  AsPart g.0 args.0,
  args.1,
)) (λ t. retries deeper t.1 >>= λ r. named r.1 >>= λ g. arguments deeper g.1 >>= λ args. Some (AsTask r.0 g.0 args.0, args.1))

-- such a call, which counts as an outermost expression
unfoldable pub outermost_call : ℕ → Reader Callee
outermost_call levels tokens = called (deeper levels) tokens >>= λ x. if nat_lt (length x.1 + 512) (length tokens) then None else Some x

abbrev pub let_called : Name → List Name → Callee → Stmt
let_called x xs (AsPart g args) = LetCall x xs g args
let_called x xs (AsTask r g args) = LetRemote x xs r g args

-- ---- statements, given how outermost expressions, calls and blocks are read

unfoldable pub ended : Reader Expr → Reader Expr
ended outer tokens = outer tokens >>= λ e. after marks.Semicolon e.1 >>= λ q. Some (e.0, q.1)

unfoldable pub assigned : Reader Expr → Reader (Name × Expr)
assigned outer tokens = named tokens >>= λ x. after marks.Assign x.1 >>= λ r. ended outer r.1 >>= λ e. Some ((x.0, e.0), e.1)

-- three names at most, each after a comma
unfoldable pub other_names : Reader (List Name)
other_names tokens = chain (after marks.Comma) named (λ _. and_item) 3 [] tokens

-- what follows the names of a `let`
unfoldable pub valued : Reader Expr → Reader Callee → Name → List Name → Reader Stmt
valued outer call x xs tokens = if no_others xs then (ended outer tokens >>= λ e. Some (Let x e.0, e.1))
    else (call tokens >>= λ c. after marks.Semicolon c.1 >>= λ q. Some (let_called x xs c.0, q.1))

-- what follows `let`
unfoldable pub declared : Reader Expr → Reader Callee → Reader Stmt
declared outer call tokens = named tokens >>= λ x. other_names x.1 >>= λ xs. after marks.Assign xs.1 >>= λ r. valued outer call x.0 xs.0 r.1

-- three outermost expressions at most, each after a comma
unfoldable pub other_values : Reader Expr → Reader Exprs
other_values outer tokens = chain (after marks.Comma) outer (λ _. and_expr) 3 no_expr tokens

-- what follows `return`
unfoldable pub returned : Reader Expr → Reader Stmt
returned outer tokens = outer tokens >>= λ e. other_values outer e.1 >>= λ es. after marks.Semicolon es.1 >>= λ q. Some (Return e.0 es.0, q.1)

unfoldable pub branches : Reader Expr → Reader Block → Reader Stmt
branches outer block tokens = outer tokens >>= λ e. block e.1 >>= λ a.
    choose (after marks.Else a.1) (Some (If e.0 a.0, a.1)) (λ r. block r.1 >>= λ b. Some (IfElse e.0 a.0 b.0, b.1))

unfoldable pub repeated : Reader Expr → Reader Block → Reader Stmt
repeated outer block tokens = named tokens >>= λ x. after marks.In x.1 >>= λ i. outer i.1 >>= λ first. after marks.Range first.1 >>= λ r. outer r.1
    >>= λ last. block last.1 >>= λ body. Some (For x.0 first.0 last.0 body.0, body.1)

unfoldable pub statement : Reader Expr → Reader Callee → Reader Block → Reader Stmt
statement outer call block (mark marks.Let ∷ rest) = declared outer call rest
statement outer call block (mark marks.Set ∷ rest) = assigned outer rest >>= λ x. Some (Set x.0.0 x.0.1, x.1)
statement outer call block (mark marks.If ∷ rest) = branches outer block rest
statement outer call block (mark marks.For ∷ rest) = repeated outer block rest
statement outer call block (mark marks.Print ∷ rest) = ended outer rest >>= λ e. Some (Print e.0, e.1)
statement outer call block (mark marks.Return ∷ rest) = returned outer rest
statement outer call block _ = None

-- one more at the end
abbrev pub and_stmt : Block → Stmt → Block
and_stmt no_stmt a = stmt a no_stmt
and_stmt (stmt s ss) a = stmt s (and_stmt ss a)

-- statements up to the closing brace
unfoldable pub statements : Reader Stmt → Reader Block
statements statement tokens = chain (unless marks.CloseBrace) statement (λ _. and_stmt) (length tokens) no_stmt tokens

-- given how a statement is read in one more brace
unfoldable pub block : Option (Reader Stmt) → Reader Block
block deeper tokens = after marks.OpenBrace tokens >>= λ r. deeper >>= λ statement. statements statement r.1 >>= λ b. after marks.CloseBrace b.1
    >>= λ q. Some (b.0, q.1)

unfoldable pub deeper_statement : ℕ → Option (Reader Stmt)
deeper_statement zero = None
deeper_statement (suc levels) = Some (statement (outermost levels) (outermost_call levels) (block (deeper_statement levels)))

abbrev pub block_at : ℕ → Reader Block
block_at levels = block (deeper_statement levels)

abbrev pub statement_at : ℕ → Reader Stmt
statement_at levels = statement (outermost levels) (outermost_call levels) (block_at levels)

-- ---- functions and programs

unfoldable pub parameter : Reader Kind → Reader Parameter
parameter kind tokens = named tokens >>= λ x. after marks.Colon x.1 >>= λ r. kind r.1 >>= λ t. Some (record { name = x.0; kind = t.0 }, t.1)

-- one parameter to 16, with commas between
unfoldable pub some_parameters : Reader Kind → Reader (List Parameter)
some_parameters kind tokens = parameter kind tokens >>= λ p. chain (after marks.Comma) (parameter kind) (λ _. and_item) 15 (p.0 ∷ []) p.1

unfoldable pub parameters : Option (Reader Kind) → Reader (List Parameter)
parameters deeper tokens = after marks.OpenParenthesis tokens >>= λ r. deeper >>= λ kind.
    choose (after marks.CloseParenthesis r.1) (some_parameters kind r.1 >>= λ ps. after marks.CloseParenthesis ps.1 >>= λ q. Some (
      ps.0,
      q.1,
    )) (λ q. Some ([], q.1))

unfoldable pub function : Reader Function
function tokens = after marks.Fn tokens >>= λ f. named f.1 >>= λ x. parameters (deeper_kind 32) x.1 >>= λ ps. after marks.Arrow ps.1
    >>= λ r. results_at 32 r.1 >>= λ t. block_at 32 t.1 >>= λ b.
    Some (record { name = x.0; parameters = ps.0; result = t.0.0; others = t.0.1; body = b.0 }, b.1)

abbrev pub unless_end : Reader (Unit {0})
unless_end [] = None
unless_end (t ∷ rest) = Some (tt, t ∷ rest)

unfoldable pub program : List Token → Option Program
program tokens = chain unless_end function (λ _. and_item) 64 [] tokens >>= λ x. Some x.0

-- ---- what a function returned, seen by view, is what reading gives, unless memory ran out

abbrev pub Fails : {Y : Type 0} → Refusal → Option Y → Type 0
Fails refusals.NoMemory found = Unit {0}
Fails (refusals.Expected s) found = found ≡ None
Fails (refusals.TooLarge s) found = found ≡ None

abbrev pub Gives : {X Y : Type 0} → (X → Y) → Result X Refusal → Option Y → Type 0
Gives view (Ok x) found = found ≡ Some (view x)
Gives view (Err e) found = Fails e found

abbrev pub Shows : {X Y : Type 0} → (X → Y) → Option X → Option Y → Type 0
Shows view (Some x) found = found ≡ Some (view x)
Shows view None found = found ≡ None
