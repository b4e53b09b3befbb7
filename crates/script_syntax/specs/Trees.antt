-- What a script's tree says, without places in the text.
use Rattle.std.specs.Prelude.{ℕ, List, Option}
use Rattle.script_tokens.specs.Tokens.{Name}
use Rattle.script_syntax.specs.declared.tree.Prefix.{Prefix}
use Rattle.script_syntax.specs.declared.tree.BinaryOperator.{BinaryOperator}

pub data Kind : Type 0 where
  IntType : Kind
  ListType : (t : Kind) → Kind
  RefType : (t : Kind) → Kind

mutual
  pub data Expr : Type 0 where
    Number : (n : ℕ) → Expr
    Variable : (x : Name) → Expr
    Prefixed : (op : Prefix) (a : Expr) → Expr
    Binary : (op : BinaryOperator) (a b : Expr) → Expr
    -- the item of a list at an index
    Item : (a i : Expr) → Expr
    ListOf : (items : Exprs) → Expr
    Empty : (t : Kind) → Expr
    Call : (g : Name) (args : Exprs) → Expr
    -- a call as a task, with its retries where they are written
    Remote : (retries : Option ℕ) (g : Name) (args : Exprs) → Expr
    Len : (a : Expr) → Expr
    Push : (a b : Expr) → Expr

  pub data Exprs : Type 0 where
    no_expr : Exprs
    also : (e : Expr) (es : Exprs) → Exprs

mutual
  pub data Stmt : Type 0 where
    Let : (x : Name) (e : Expr) → Stmt
    -- a name and others, for the results of a call
    LetCall : (x : Name) (others : List Name) (g : Name) (args : Exprs) → Stmt
    -- the same of a call as a task, with its retries where they are written
    LetRemote : (x : Name) (others : List Name) (retries : Option ℕ) (g : Name) (args : Exprs) → Stmt
    Set : (x : Name) (e : Expr) → Stmt
    If : (e : Expr) (a : Block) → Stmt
    IfElse : (e : Expr) (a b : Block) → Stmt
    For : (x : Name) (from to : Expr) (body : Block) → Stmt
    Print : (e : Expr) → Stmt
    -- a value and others, one for each result
    Return : (e : Expr) (others : Exprs) → Stmt

  pub data Block : Type 0 where
    no_stmt : Block
    stmt : (s : Stmt) (rest : Block) → Block

pub record Parameter : Type 0 where
  pub name : Name
  pub kind : Kind

pub record Function : Type 0 where
  pub name : Name
  pub parameters : List Parameter
  -- what it gives: a result and others
  pub result : Kind
  pub others : List Kind
  pub body : Block

abbrev pub Program : Type 0
Program = List Function
