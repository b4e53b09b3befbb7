-- Main is apart: no function calls it, and it alone prints.
use Rattle.std.specs.Prelude.{◌≡◌, ◌≢◌, List, []}
use Rattle.std.specs.List.{AllByRecursion}
use Rattle.meaning.specs.Values.{Name, Outcome, Birth, Put, Task, Id, main_name}
use Rattle.meaning.specs.Syntax.{
  Expr,
  Num,
  Var,
  Unary,
  Binary,
  ListOf,
  Empty,
  Call,
  Remote,
  PutOf,
  GetOf,
  Exprs,
  end,
  also,
  Stmt,
  Let,
  LetCall,
  LetRemote,
  Set,
  Print,
  Return,
  If,
  For,
  Block,
  done,
  step,
  Function,
  Script,
}
use Rattle.meaning.specs.Meaning.{replay}

-- Scripts

abbrev mutual
  -- no call in the expression is of main
  pub CallsOthers : Expr → Type 0
  CallsOthers (Num n) = Unit {0}
  CallsOthers (Var x) = Unit {0}
  CallsOthers (Unary op a) = CallsOthers a
  CallsOthers (Binary op a b) = CallsOthers a × CallsOthers b
  CallsOthers (ListOf items) = AllCallOthers items
  CallsOthers (Empty t) = Unit {0}
  CallsOthers (Call g args) = (g ≢ main_name) × AllCallOthers args
  CallsOthers (Remote retries g marks args) = (g ≢ main_name) × AllCallOthers args
  CallsOthers (PutOf a) = CallsOthers a
  CallsOthers (GetOf t a) = CallsOthers a

  pub AllCallOthers : Exprs → Type 0
  AllCallOthers end = Unit {0}
  AllCallOthers (also e es) = CallsOthers e × AllCallOthers es

-- in the function of that name
module _ (function : Name) where
  abbrev mutual
    -- no call in the statement is of main, and it prints only in main
    pub IsApart : Stmt → Type 0
    IsApart (Let x e) = CallsOthers e
    IsApart (LetCall x xs g args) = (g ≢ main_name) × AllCallOthers args
    IsApart (LetRemote x xs retries g marks args) = (g ≢ main_name) × AllCallOthers args
    IsApart (Set x e) = CallsOthers e
    IsApart (Print e) = (function ≡ main_name) × CallsOthers e
    IsApart (Return es) = AllCallOthers es
    IsApart (If e a b) = CallsOthers e × BlockIsApart a × BlockIsApart b
    IsApart (For x from to body) = CallsOthers from × CallsOthers to × BlockIsApart body

    pub BlockIsApart : Block → Type 0
    BlockIsApart done = Unit {0}
    BlockIsApart (step s rest) = IsApart s × BlockIsApart rest

abbrev pub FunctionIsApart : Function → Type 0
FunctionIsApart f = BlockIsApart f.name f.body

-- no function calls main, and none but main prints
abbrev pub KeepsMainApart : Script → Type 0
KeepsMainApart script = AllByRecursion FunctionIsApart script

-- Replays

-- a put, or a task of another function than main
abbrev pub IsNotMains : Birth → Type 0
IsNotMains (Put v) = Unit {0}
IsNotMains (Task g args depth retries others) = g ≢ main_name

-- what a birth makes bears no task of main, and prints nothing unless it is main itself
pub record LeavesMainApart (script : Script) (spec : Birth) (base : Id) (answers : List Outcome) : Type 0 where
  pub births : AllByRecursion IsNotMains (replay script spec base answers).births
  pub prints : IsNotMains spec → (replay script spec base answers).prints ≡ []

-- of a script that keeps main apart so does each replay, whatever it is answered
abbrev pub MainStaysApart : Type 0
MainStaysApart =
    (script : Script) → KeepsMainApart script → (spec : Birth) (base : Id) (answers : List Outcome) → LeavesMainApart script spec base answers
