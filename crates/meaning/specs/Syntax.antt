-- The syntax of a checked script, without places in the text.
use Rattle.std.specs.Prelude.{ℕ, Bool, List, ◌∷◌, ℤ}
use Rattle.meaning.specs.Values.{Name}

pub data Kind : Type 0 where
  Number : Kind
  ListKind : (t : Kind) → Kind
  RefKind : (t : Kind) → Kind

pub data Operator : Type 0 where
  Add : Operator
  Sub : Operator
  Mul : Operator
  Div : Operator
  Rem : Operator
  Equal : Operator
  Unequal : Operator
  Less : Operator
  LessEqual : Operator
  -- the item at an index
  ItemAt : Operator
  Push : Operator

pub data Prefix : Type 0 where
  Negate : Prefix
  Len : Prefix

mutual
  pub data Expr : Type 0 where
    Num : (n : ℤ) → Expr
    Var : (x : Name) → Expr
    Unary : (op : Prefix) (a : Expr) → Expr
    Binary : (op : Operator) (a b : Expr) → Expr
    ListOf : (items : Exprs) → Expr
    Empty : (t : Kind) → Expr
    -- as expressions, calls of functions of one result
    Call : (g : Name) (args : Exprs) → Expr
    -- each argument marked as dereferenced or not
    Remote : (retries : ℕ) (g : Name) (marks : List Bool) (args : Exprs) → Expr
    PutOf : (a : Expr) → Expr
    -- a get, with the kind of what it gets
    GetOf : (t : Kind) (a : Expr) → Expr

  pub data Exprs : Type 0 where
    end : Exprs
    also : (e : Expr) (es : Exprs) → Exprs

mutual
  pub data Stmt : Type 0 where
    Let : (x : Name) (e : Expr) → Stmt
    -- the results of a plain call, bound to as many names
    LetCall : (x : Name) (xs : List Name) (g : Name) (args : Exprs) → Stmt
    -- the references that a remote call gives, one a result
    LetRemote : (x : Name) (xs : List Name) (retries : ℕ) (g : Name) (marks : List Bool) (args : Exprs) → Stmt
    Set : (x : Name) (e : Expr) → Stmt
    Print : (e : Expr) → Stmt
    -- a value for each result
    Return : (es : Exprs) → Stmt
    If : (e : Expr) (a b : Block) → Stmt
    For : (x : Name) (from to : Expr) (body : Block) → Stmt

  pub data Block : Type 0 where
    done : Block
    step : (s : Stmt) (rest : Block) → Block

pub record Parameter : Type 0 where
  pub name : Name
  pub kind : Kind

pub record Function : Type 0 where
  pub name : Name
  pub parameters : List Parameter
  -- the kind of its first result, and those of the others
  pub result : Kind
  pub others : List Kind
  pub body : Block

abbrev pub results : Function → List Kind
results f = f.result ∷ f.others

abbrev pub Script : Type 0
Script = List Function
