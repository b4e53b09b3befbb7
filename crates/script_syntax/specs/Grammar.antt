-- The grammar of statements, functions and programs, with its limits.
use Rattle.std.specs.Prelude.{◌≡◌, ◌≤◌, ◌+◌, ℕ, List, [], ◌∷◌, length, Option}
use Rattle.script_tokens.specs.declared.token.Mark.TheVariants as marks
use Rattle.script_tokens.specs.Tokens.{Name, Token, name, mark}
use Rattle.script_tokens.specs.Texts.{AreTokens}
use Rattle.script_syntax.specs.Trees.{
  Kind,
  Stmt,
  Let,
  LetCall,
  LetRemote,
  Set,
  If,
  IfElse,
  For,
  Print,
  Return,
  Block,
  no_stmt,
  stmt,
  Parameter,
  Function,
  Program,
}
use Rattle.script_syntax.specs.Expressions.{
  Deeper,
  kind_before,
  KindWithin,
  Expression,
  expression_before,
  expression_tree,
  ExpressionWithin,
  Primary,
  CallOf,
  RemoteOf,
  primary_before,
  PrimaryWithin,
  Arguments,
  argument_trees,
  MoreArguments,
  last_argument,
  argument,
  more_before,
  more_trees,
}

-- ---- derivations

mutual
  -- stmt = "let" NAME "=" expr ";" | "let" NAME "," NAME { "," NAME } "=" (call | "remote" [ "(" INT ")" ] call) ";"
  --      | "set" NAME "=" expr ";" | "if" expr block [ "else" block ] | "for" NAME "in" expr ".." expr block
  --      | "print" expr ";" | "return" expr { "," expr } ";"
  -- call = NAME "(" [ expr { "," expr } ] ")", as in expressions. With the limits below: four names at most, and four values.
  pub data Statement : Type 0 where
    LetOf : (x : Name) (e : Expression) → Statement
    LetCallOf : (x : Name) (others : List Name) (g : Name) (args : Arguments) → Statement
    LetRemoteOf : (x : Name) (others : List Name) (retries : Option ℕ) (g : Name) (args : Arguments) → Statement
    SetOf : (x : Name) (e : Expression) → Statement
    IfOf : (e : Expression) (a : Statements) → Statement
    IfElseOf : (e : Expression) (a b : Statements) → Statement
    ForOf : (x : Name) (from to : Expression) (body : Statements) → Statement
    PrintOf : (e : Expression) → Statement
    ReturnOf : (e : Expression) (others : MoreArguments) → Statement

  -- { stmt }, what a block has between its braces
  pub data Statements : Type 0 where
    no_statement : Statements
    statement : (s : Statement) (others : Statements) → Statements

-- func = "fn" NAME "(" [ param { "," param } ] ")" "->" results block
-- results = type | "(" type "," type { "," type } ")", with the limits below: four types at most
-- param = NAME ":" type: a derivation is its own tree
pub data FunctionWord : Type 0 where
  FunctionOf : (x : Name) (parameters : List Parameter) (result : Kind) (others : List Kind) (body : Statements) → FunctionWord

-- program = { func }
pub data Functions : Type 0 where
  no_function : Functions
  function : (g : FunctionWord) (others : Functions) → Functions

-- ---- the tokens, written before a rest

-- { "," NAME }
abbrev pub more_names_before : List Name → List Token → List Token
more_names_before [] rest = rest
more_names_before (x ∷ xs) rest = mark marks.Comma ∷ name x ∷ more_names_before xs rest

abbrev mutual
  pub statement_before : Statement → List Token → List Token
  statement_before (LetOf x e) rest = mark marks.Let ∷ name x ∷ mark marks.Assign ∷ expression_before e (mark marks.Semicolon ∷ rest)
  statement_before (LetCallOf x xs g args) rest = mark marks.Let ∷ name x
      ∷ more_names_before xs (mark marks.Assign ∷ primary_before (CallOf g args) (mark marks.Semicolon ∷ rest))
  statement_before (LetRemoteOf x xs r g args) rest = mark marks.Let ∷ name x
      ∷ more_names_before xs (mark marks.Assign ∷ primary_before (RemoteOf r g args) (mark marks.Semicolon ∷ rest))
  statement_before (SetOf x e) rest = mark marks.Set ∷ name x ∷ mark marks.Assign ∷ expression_before e (mark marks.Semicolon ∷ rest)
  statement_before (IfOf e a) rest = mark marks.If ∷ expression_before e (mark marks.OpenBrace ∷ statements_before a (mark marks.CloseBrace ∷ rest))
  statement_before (IfElseOf e a b) rest = mark marks.If ∷ expression_before e (mark marks.OpenBrace
      ∷ statements_before a (mark marks.CloseBrace ∷ mark marks.Else ∷ mark marks.OpenBrace ∷ statements_before b (mark marks.CloseBrace ∷ rest)))
  statement_before (ForOf x from to body) rest = mark marks.For ∷ name x ∷ mark marks.In
      ∷ expression_before from (mark marks.Range ∷ expression_before to (mark marks.OpenBrace ∷ statements_before body (mark marks.CloseBrace ∷ rest)))
  statement_before (PrintOf e) rest = mark marks.Print ∷ expression_before e (mark marks.Semicolon ∷ rest)
  statement_before (ReturnOf e others) rest = mark marks.Return ∷ expression_before e (more_before others (mark marks.Semicolon ∷ rest))

  pub statements_before : Statements → List Token → List Token
  statements_before no_statement rest = rest
  statements_before (statement s others) rest = statement_before s (statements_before others rest)

-- block = "{" { stmt } "}"
abbrev pub block_before : Statements → List Token → List Token
block_before a rest = mark marks.OpenBrace ∷ statements_before a (mark marks.CloseBrace ∷ rest)

abbrev pub parameter_before : Parameter → List Token → List Token
parameter_before p rest = name p.name ∷ mark marks.Colon ∷ kind_before p.kind rest

-- { "," param }
abbrev pub more_parameters_before : List Parameter → List Token → List Token
more_parameters_before [] rest = rest
more_parameters_before (p ∷ ps) rest = mark marks.Comma ∷ parameter_before p (more_parameters_before ps rest)

-- [ param { "," param } ]
abbrev pub parameters_before : List Parameter → List Token → List Token
parameters_before [] rest = rest
parameters_before (p ∷ ps) rest = parameter_before p (more_parameters_before ps rest)

-- { "," type }
abbrev pub more_kinds_before : List Kind → List Token → List Token
more_kinds_before [] rest = rest
more_kinds_before (t ∷ ts) rest = mark marks.Comma ∷ kind_before t (more_kinds_before ts rest)

abbrev pub results_before : Kind → List Kind → List Token → List Token
results_before t [] rest = kind_before t rest
results_before t (u ∷ us) rest = mark marks.OpenParenthesis ∷ kind_before t (more_kinds_before (u ∷ us) (mark marks.CloseParenthesis ∷ rest))

abbrev pub function_before : FunctionWord → List Token → List Token
function_before (FunctionOf x ps t ts body) rest =
    mark marks.Fn ∷ name x ∷ mark marks.OpenParenthesis ∷ parameters_before ps (mark marks.CloseParenthesis ∷ mark marks.Arrow
    ∷ results_before t ts (block_before body rest))

abbrev pub functions_before : Functions → List Token → List Token
functions_before no_function rest = rest
functions_before (function g others) rest = function_before g (functions_before others rest)

-- ---- the tree

abbrev mutual
  pub statement_tree : Statement → Stmt
  statement_tree (LetOf x e) = Let x (expression_tree e)
  statement_tree (LetCallOf x xs g args) = LetCall x xs g (argument_trees args)
  statement_tree (LetRemoteOf x xs r g args) = LetRemote x xs r g (argument_trees args)
  statement_tree (SetOf x e) = Set x (expression_tree e)
  statement_tree (IfOf e a) = If (expression_tree e) (statements_tree a)
  statement_tree (IfElseOf e a b) = IfElse (expression_tree e) (statements_tree a) (statements_tree b)
  statement_tree (ForOf x from to body) = For x (expression_tree from) (expression_tree to) (statements_tree body)
  statement_tree (PrintOf e) = Print (expression_tree e)
  statement_tree (ReturnOf e others) = Return (expression_tree e) (more_trees others)

  pub statements_tree : Statements → Block
  statements_tree no_statement = no_stmt
  statements_tree (statement s others) = stmt (statement_tree s) (statements_tree others)

abbrev pub function_tree : FunctionWord → Function
function_tree (FunctionOf x ps t ts body) = record { name = x; parameters = ps; result = t; others = ts; body = statements_tree body }

abbrev pub functions_tree : Functions → Program
functions_tree no_function = []
functions_tree (function g others) = function_tree g ∷ functions_tree others

-- ---- the limits

-- an outermost expression: at most 512 tokens
abbrev pub OutermostWithin : Expression → ℕ → Type 0
OutermostWithin e levels = ExpressionWithin e levels × (length (expression_before e []) ≤ 512)

-- each of further outermost expressions
abbrev pub EachWithin : MoreArguments → ℕ → Type 0
EachWithin last_argument levels = Unit {0}
EachWithin (argument e others) levels = OutermostWithin e levels × EachWithin others levels

abbrev pub more_length : MoreArguments → ℕ
more_length last_argument = 0
more_length (argument e others) = 1 + more_length others

-- the call of a `let` of several names: it counts as an outermost expression
abbrev pub CallWithin : Primary → ℕ → Type 0
CallWithin call levels = PrimaryWithin call levels × (length (primary_before call []) ≤ 512)

-- one more to three
abbrev pub AreSeveral : List Name → Type 0
AreSeveral others = (1 ≤ length others) × (length others ≤ 3)

abbrev mutual
  pub StatementWithin : Statement → ℕ → Type 0
  StatementWithin (LetOf x e) levels = OutermostWithin e levels
  StatementWithin (LetCallOf x xs g args) levels = AreSeveral xs × CallWithin (CallOf g args) levels
  StatementWithin (LetRemoteOf x xs r g args) levels = AreSeveral xs × CallWithin (RemoteOf r g args) levels
  StatementWithin (SetOf x e) levels = OutermostWithin e levels
  StatementWithin (IfOf e a) levels = OutermostWithin e levels × Deeper levels (StatementsWithin a)
  StatementWithin (IfElseOf e a b) levels = OutermostWithin e levels × Deeper levels (StatementsWithin a) × Deeper levels (StatementsWithin b)
  StatementWithin (ForOf x from to body) levels = OutermostWithin from levels × OutermostWithin to levels × Deeper levels (StatementsWithin body)
  StatementWithin (PrintOf e) levels = OutermostWithin e levels
  StatementWithin (ReturnOf e others) levels = OutermostWithin e levels × EachWithin others levels × (more_length others ≤ 3)

  pub StatementsWithin : Statements → ℕ → Type 0
  StatementsWithin no_statement levels = Unit {0}
  StatementsWithin (statement s others) levels = StatementWithin s levels × StatementsWithin others levels

abbrev pub ParametersWithin : List Parameter → ℕ → Type 0
ParametersWithin [] levels = Unit {0}
ParametersWithin (p ∷ ps) levels = KindWithin p.kind levels × ParametersWithin ps levels

abbrev pub KindsWithin : List Kind → ℕ → Type 0
KindsWithin [] levels = Unit {0}
KindsWithin (t ∷ ts) levels = KindWithin t levels × KindsWithin ts levels

-- at most 4 results
abbrev pub ResultsWithin : Kind → List Kind → ℕ → Type 0
ResultsWithin t [] levels = KindWithin t levels
ResultsWithin t (u ∷ us) levels = (length us ≤ 2) × Deeper levels (KindWithin t) × Deeper levels (KindsWithin (u ∷ us))

-- at most 16 parameters
abbrev pub FunctionWithin : FunctionWord → ℕ → Type 0
FunctionWithin (FunctionOf x ps t ts body) levels =
    (length ps ≤ 16) × Deeper levels (ParametersWithin ps) × ResultsWithin t ts levels × Deeper levels (StatementsWithin body)

abbrev pub FunctionsWithin : Functions → ℕ → Type 0
FunctionsWithin no_function levels = Unit {0}
FunctionsWithin (function g others) levels = FunctionWithin g levels × FunctionsWithin others levels

-- The tokens are a program with this tree: at most 64 functions, and at one place at most 32 brackets, braces and prefixes (`-`, `get`, `put`, `ref`).
pub record IsProgram (tokens : List Token) (program : Program) : Type 0 where
  pub derivation : Functions
  pub spelled : tokens ≡ functions_before derivation []
  pub given : functions_tree derivation ≡ program
  pub nesting : FunctionsWithin derivation 32
  pub few : length program ≤ 64

-- The text is a program with this tree.
abbrev pub Reads : List ℕ → Program → Type 0
Reads text program = (tokens : List Token) × AreTokens text tokens × IsProgram tokens program

-- The tokens are no program.
abbrev pub NoProgram : List Token → Type 0
NoProgram tokens = (program : Program) → IsProgram tokens program → ⊥
