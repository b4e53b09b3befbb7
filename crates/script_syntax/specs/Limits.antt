-- The limits of a program, said of its tree: what is written for such a program is read as that program.
use Rattle.std.specs.Prelude.{ℕ, ◌≤◌, List, [], ◌∷◌, length, Option, None, Some}
use Rattle.script_tokens.specs.Tokens.{Name}
use Rattle.script_tokens.specs.Spelling.{IsName}
use Rattle.script_syntax.specs.Trees.{
  Expr,
  Number,
  Variable,
  Prefixed,
  Binary,
  Item,
  ListOf,
  Empty,
  Call,
  Remote,
  Len,
  Push,
  Exprs,
  no_expr,
  also,
  Stmt,
  Let,
  LetCall,
  LetRemote,
  Set,
  If,
  IfElse,
  For,
  Print,
  Return,
  Block,
  no_stmt,
  stmt,
  Parameter,
  Function,
  Program,
}
use Rattle.script_syntax.specs.Grammar.{FunctionsWithin}
use Rattle.script_syntax.specs.Printing.{written_functions}

-- ---- its names are names, its numbers are in range, and a list that is written by its items has some

abbrev pub InRange : ℕ → Type 0
InRange n = n ≤ 9223372036854775807

abbrev pub SpelledRetries : Option ℕ → Type 0
SpelledRetries None = Unit {0}
SpelledRetries (Some n) = InRange n

abbrev mutual
  pub SpelledExpr : Expr → Type 0
  SpelledExpr (Number n) = InRange n
  SpelledExpr (Variable x) = IsName x
  SpelledExpr (Prefixed p a) = SpelledExpr a
  SpelledExpr (Binary op a b) = SpelledExpr a × SpelledExpr b
  SpelledExpr (Item a i) = SpelledExpr a × SpelledExpr i
  SpelledExpr (ListOf items) = SpelledItems items
  SpelledExpr (Empty t) = Unit {0}
  SpelledExpr (Call g args) = IsName g × SpelledExprs args
  SpelledExpr (Remote r g args) = SpelledRetries r × IsName g × SpelledExprs args
  SpelledExpr (Len a) = SpelledExpr a
  SpelledExpr (Push a b) = SpelledExpr a × SpelledExpr b

  -- for a list of no items there is `Empty`, which tells its type
  pub SpelledItems : Exprs → Type 0
  SpelledItems no_expr = ⊥
  SpelledItems (also a others) = SpelledExpr a × SpelledExprs others

  pub SpelledExprs : Exprs → Type 0
  SpelledExprs no_expr = Unit {0}
  SpelledExprs (also a others) = SpelledExpr a × SpelledExprs others

abbrev pub SpelledNames : List Name → Type 0
SpelledNames [] = Unit {0}
SpelledNames (x ∷ xs) = IsName x × SpelledNames xs

abbrev mutual
  pub SpelledStmt : Stmt → Type 0
  SpelledStmt (Let x e) = IsName x × SpelledExpr e
  SpelledStmt (LetCall x xs g args) = IsName x × SpelledNames xs × IsName g × SpelledExprs args
  SpelledStmt (LetRemote x xs r g args) = IsName x × SpelledNames xs × SpelledRetries r × IsName g × SpelledExprs args
  SpelledStmt (Set x e) = IsName x × SpelledExpr e
  SpelledStmt (If e a) = SpelledExpr e × SpelledBlock a
  SpelledStmt (IfElse e a b) = SpelledExpr e × SpelledBlock a × SpelledBlock b
  SpelledStmt (For x from to body) = IsName x × SpelledExpr from × SpelledExpr to × SpelledBlock body
  SpelledStmt (Print e) = SpelledExpr e
  SpelledStmt (Return e others) = SpelledExpr e × SpelledExprs others

  pub SpelledBlock : Block → Type 0
  SpelledBlock no_stmt = Unit {0}
  SpelledBlock (stmt s others) = SpelledStmt s × SpelledBlock others

abbrev pub SpelledParameters : List Parameter → Type 0
SpelledParameters [] = Unit {0}
SpelledParameters (p ∷ ps) = IsName p.name × SpelledParameters ps

abbrev pub SpelledFunction : Function → Type 0
SpelledFunction g = IsName g.name × SpelledParameters g.parameters × SpelledBlock g.body

abbrev pub SpelledProgram : Program → Type 0
SpelledProgram [] = Unit {0}
SpelledProgram (g ∷ gs) = SpelledFunction g × SpelledProgram gs

-- ---- the limits

-- a program that has a text, but for the text's length: with the fewest parentheses at most 32 brackets and prefixes are open at one place and
-- an outermost expression has at most 512 tokens; a function has at most 16 parameters and at most 4 results; a return has at most 4 values, and a
-- `let` over a call 2 names to 4; and at most 64 functions are there
pub record IsWithinLimits (program : Program) : Type 0 where
  pub spelled : SpelledProgram program
  pub nesting : FunctionsWithin (written_functions program) 32
  pub few : length program ≤ 64
