-- How large a tree is, for measures.
use Rattle.std.specs.Prelude.{ℕ, ◌+◌, Option, Some, None}
use Rattle.script_syntax.specs.Trees.{
  Expr,
  Number,
  Variable,
  Prefixed,
  Binary,
  Item,
  ListOf,
  Empty,
  Call,
  Remote,
  Len,
  Push,
  Exprs,
  no_expr,
  also,
  Stmt,
  Let,
  LetCall,
  LetRemote,
  Set,
  If,
  IfElse,
  For,
  Print,
  Return,
  Block,
  no_stmt,
  stmt,
}

abbrev mutual
  pub size_of : Expr → ℕ
  size_of (Number n) = 3
  size_of (Variable x) = 3
  size_of (Prefixed op a) = size_of a + 3
  size_of (Binary op a b) = size_of a + size_of b + 3
  size_of (Item a i) = size_of a + size_of i + 3
  size_of (ListOf es) = size_of_all es + 3
  size_of (Empty t) = 3
  size_of (Call g args) = size_of_all args + 3
  size_of (Remote r g args) = size_of_all args + 3
  size_of (Len a) = size_of a + 3
  size_of (Push a b) = size_of a + size_of b + 3

  pub size_of_all : Exprs → ℕ
  size_of_all no_expr = 0
  size_of_all (also e es) = size_of e + size_of_all es + 2

abbrev mutual
  pub stmt_size : Stmt → ℕ
  stmt_size (Let x e) = 6
  stmt_size (LetCall x others g args) = 6
  stmt_size (LetRemote x others r g args) = 8
  stmt_size (Set x e) = 6
  stmt_size (If e a) = block_size a + 6
  stmt_size (IfElse e a b) = block_size a + block_size b + 6
  stmt_size (For x from to body) = block_size body + 6
  stmt_size (Print e) = 6
  stmt_size (Return e others) = 6

  pub block_size : Block → ℕ
  block_size no_stmt = 0
  block_size (stmt s rest) = stmt_size s + block_size rest + 2

abbrev pub other_size : Option Block → ℕ
other_size None = 0
other_size (Some b) = block_size b
