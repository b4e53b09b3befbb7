-- Which programs are allowed, and what each becomes: a rule for each form, over the parsed program.
use Rattle.std.specs.Prelude.{
  ◌≡◌,
  ◌≢◌,
  ℕ,
  ◌<◌,
  ◌≤◌,
  ◌^◌,
  ◌⊎◌,
  Bool,
  false,
  List,
  [],
  ◌∷◌,
  ◌++◌,
  Option,
  Some,
  None,
  pos,
  length,
  map,
  if◌then◌else◌,
}
use Rattle.meaning.specs.Values.{Name, main_name}
use Rattle.meaning.specs.Syntax.{Kind, Number, ListKind, RefKind, Operator, Expr, Exprs, end, also, Stmt, Block, done, step, Parameter, Function, Script}
use Rattle.meaning.specs.Syntax as syntax
use Rattle.meaning.specs.Meaning.{same_name}
use Rattle.meaning.specs.Kinds.{Context, kind_in, argument_kind, has_reference}
use Rattle.script_syntax.specs.Trees as parsed
use Rattle.script_syntax.specs.declared.tree.Prefix.TheVariants as prefixes
use Rattle.script_syntax.specs.declared.tree.BinaryOperator.{BinaryOperator}
use Rattle.script_syntax.specs.declared.tree.BinaryOperator.TheVariants as operators
use Rattle.script_check.specs.Trees.{kind_named}

-- Names

-- the function of a name
abbrev pub function_in : parsed.Program → Name → Option parsed.Function
function_in [] g = None
function_in (f ∷ fs) g = if same_name f.name g then Some f else function_in fs g

-- a function that may be called for so many results beside the first: one of the program, but main
pub record IsCallee (program : parsed.Program) (g : Name) (others : ℕ) (f : parsed.Function) : Type 0 where
  pub found : function_in program g ≡ Some f
  pub not_main : g ≢ main_name
  pub results : length f.others ≡ others

abbrev pub variable : Name → Kind → Context
variable x t = record { name = x; kind = t } ∷ []

-- Expressions

-- how many new runs a remote call allows
abbrev pub retries_of : Option ℕ → ℕ
retries_of None = 3
retries_of (Some k) = k

abbrev pub operator_named : BinaryOperator → Operator
operator_named operators.Add = syntax.Add
operator_named operators.Sub = syntax.Sub
operator_named operators.Mul = syntax.Mul
operator_named operators.Div = syntax.Div
operator_named operators.Rem = syntax.Rem
operator_named operators.Equal = syntax.Equal
operator_named operators.NotEqual = syntax.Unequal
operator_named operators.Less = syntax.Less
operator_named operators.LessEqual = syntax.LessEqual

module _ (program : parsed.Program) (context : Context) where
  abbrev mutual
    -- where those variables are in scope, the expression is allowed, becomes c, and is of type t
    pub IsChecked : parsed.Expr → Expr → Kind → Type 0
    IsChecked (parsed.Number n) c t = (n < 2 ^ 63) × (c ≡ syntax.Num (pos n)) × (t ≡ Number)
    IsChecked (parsed.Variable x) c t = (kind_in context x ≡ Some t) × (c ≡ syntax.Var x)
    IsChecked (parsed.Prefixed prefixes.Negate a) c t = (x : Expr) × IsChecked a x Number × (c ≡ syntax.Unary syntax.Negate x) × (t ≡ Number)
    IsChecked (parsed.Prefixed prefixes.Get a) c t = (x : Expr) × IsChecked a x (RefKind t) × (c ≡ syntax.GetOf t x)
    IsChecked (parsed.Prefixed prefixes.Put a) c t = (x : Expr) × (u : Kind) × IsChecked a x u × (c ≡ syntax.PutOf x) × (t ≡ RefKind u)
    IsChecked (parsed.Binary op a b) c t = (x : Expr) × (y : Expr) × IsChecked a x Number × IsChecked b y Number
        × (c ≡ syntax.Binary (operator_named op) x y) × (t ≡ Number)
    IsChecked (parsed.Item a i) c t = (x : Expr) × (y : Expr) × IsChecked a x (ListKind t) × IsChecked i y Number × (c ≡ syntax.Binary syntax.ItemAt x y)
    IsChecked (parsed.ListOf parsed.no_expr) c t = ⊥
    IsChecked (parsed.ListOf (parsed.also e es)) c t = (x : Expr) × (xs : Exprs) × (u : Kind) × IsChecked e x u × EachChecked es xs u
        × (c ≡ syntax.ListOf (also x xs)) × (t ≡ ListKind u)
    IsChecked (parsed.Empty u) c t = (c ≡ syntax.Empty (kind_named u)) × (t ≡ ListKind (kind_named u))
    IsChecked (parsed.Call g args) c t = (f : parsed.Function) × (xs : Exprs) × IsCallee program g 0 f × ArgumentsChecked args xs f.parameters
        × (c ≡ syntax.Call g xs) × (t ≡ kind_named f.result)
    IsChecked (parsed.Remote r g args) c t = (f : parsed.Function) × (ms : List Bool) × (xs : Exprs) × (retries_of r ≤ 10) × IsCallee program g 0 f
        × MarkedChecked args ms xs f.parameters × (c ≡ syntax.Remote (retries_of r) g ms xs) × (t ≡ RefKind (kind_named f.result))
    IsChecked (parsed.Len a) c t = (x : Expr) × (u : Kind) × IsChecked a x (ListKind u) × (c ≡ syntax.Unary syntax.Len x) × (t ≡ Number)
    IsChecked (parsed.Push a b) c t = (x : Expr) × (y : Expr) × (u : Kind) × IsChecked a x (ListKind u) × IsChecked b y u
        × (c ≡ syntax.Binary syntax.Push x y) × (t ≡ ListKind u)

    -- further items, each of the first one's type
    pub EachChecked : parsed.Exprs → Exprs → Kind → Type 0
    EachChecked parsed.no_expr cs t = cs ≡ end
    EachChecked (parsed.also e es) cs t = (x : Expr) × (xs : Exprs) × IsChecked e x t × EachChecked es xs t × (cs ≡ also x xs)

    -- as many arguments as parameters, each of its parameter's type
    pub ArgumentsChecked : parsed.Exprs → Exprs → List parsed.Parameter → Type 0
    ArgumentsChecked parsed.no_expr cs [] = cs ≡ end
    ArgumentsChecked (parsed.also e es) cs (p ∷ ps) = (x : Expr) × (xs : Exprs) × IsChecked e x (kind_named p.kind) × ArgumentsChecked es xs ps
        × (cs ≡ also x xs)
    ArgumentsChecked _ _ _ = ⊥

    -- each of its parameter's type, or a reference to that, and then marked
    pub MarkedChecked : parsed.Exprs → List Bool → Exprs → List parsed.Parameter → Type 0
    MarkedChecked parsed.no_expr marks cs [] = (marks ≡ []) × (cs ≡ end)
    MarkedChecked (parsed.also e es) marks cs (p ∷ ps) = (x : Expr) × (xs : Exprs) × (m : Bool) × (ms : List Bool)
        × IsChecked e x (argument_kind m (kind_named p.kind)) × MarkedChecked es ms xs ps × (marks ≡ m ∷ ms) × (cs ≡ also x xs)
    MarkedChecked _ _ _ _ = ⊥

  -- as many values as results, each of its result's type
  abbrev pub ResultsChecked : parsed.Exprs → Exprs → List parsed.Kind → Type 0
  ResultsChecked parsed.no_expr cs [] = cs ≡ end
  ResultsChecked (parsed.also e es) cs (t ∷ ts) = (x : Expr) × (xs : Exprs) × IsChecked e x (kind_named t) × ResultsChecked es xs ts
      × (cs ≡ also x xs)
  ResultsChecked _ _ _ = ⊥

-- Statements

-- as many names as results, none in scope yet, and the scope after them
abbrev pub NamesChecked : List Name → List parsed.Kind → Context → Context → Type 0
NamesChecked [] [] before after = after ≡ before
NamesChecked (x ∷ xs) (t ∷ ts) before after = (kind_in before x ≡ None) × NamesChecked xs ts (before ++ variable x (kind_named t)) after
NamesChecked _ _ _ _ = ⊥

-- in a function of a program
module _ (program : parsed.Program) (function : parsed.Function) where
  abbrev mutual
    -- the statement is allowed in a scope, becomes s, and leaves the scope after it
    pub StatementChecked : parsed.Stmt → Context → Stmt → Context → Type 0
    StatementChecked (parsed.Let x e) before s after = (c : Expr) × (t : Kind) × (kind_in before x ≡ None) × IsChecked program before e c t
        × (s ≡ syntax.Let x c) × (after ≡ before ++ variable x t)
    StatementChecked (parsed.LetCall x others g args) before s after = (f : parsed.Function) × (cs : Exprs) × IsCallee program g (length others) f
        × ArgumentsChecked program before args cs f.parameters × NamesChecked (x ∷ others) (f.result ∷ f.others) before after
        × (s ≡ syntax.LetCall x others g cs)
    StatementChecked (parsed.LetRemote x others r g args) before s after = (f : parsed.Function) × (ms : List Bool) × (cs : Exprs) × (retries_of r ≤ 10)
        × IsCallee program g (length others) f × MarkedChecked program before args ms cs f.parameters
        × NamesChecked (x ∷ others) (map parsed.RefType (f.result ∷ f.others)) before after × (s ≡ syntax.LetRemote x others (retries_of r) g ms cs)
    StatementChecked (parsed.Set x e) before s after = (c : Expr) × (t : Kind) × (kind_in before x ≡ Some t) × IsChecked program before e c t
        × (s ≡ syntax.Set x c) × (after ≡ before)
    StatementChecked (parsed.If e a) before s after = (c : Expr) × (x : Block) × IsChecked program before e c Number × BlockChecked a before x
        × (s ≡ syntax.If c x done) × (after ≡ before)
    StatementChecked (parsed.IfElse e a b) before s after = (c : Expr) × (x : Block) × (y : Block) × IsChecked program before e c Number
        × BlockChecked a before x × BlockChecked b before y × (s ≡ syntax.If c x y) × (after ≡ before)
    StatementChecked (parsed.For x from to body) before s after = (c : Expr) × (d : Expr) × (b : Block) × (kind_in before x ≡ None)
        × IsChecked program before from c Number × IsChecked program before to d Number × BlockChecked body (before ++ variable x Number) b
        × (s ≡ syntax.For x c d b) × (after ≡ before)
    StatementChecked (parsed.Print e) before s after = (c : Expr) × (t : Kind) × (function.name ≡ main_name) × IsChecked program before e c t
        × (has_reference t ≡ false) × (s ≡ syntax.Print c) × (after ≡ before)
    StatementChecked (parsed.Return e others) before s after = (cs : Exprs)
        × ResultsChecked program before (parsed.also e others) cs (function.result ∷ function.others) × (s ≡ syntax.Return cs) × (after ≡ before)

    -- its statements in order, each in the scope that the one before leaves
    pub BlockChecked : parsed.Block → Context → Block → Type 0
    BlockChecked parsed.no_stmt before b = b ≡ done
    BlockChecked (parsed.stmt s rest) before b = (after : Context) × (c : Stmt) × (cs : Block) × StatementChecked s before c after
        × BlockChecked rest after cs × (b ≡ step c cs)

abbrev mutual
  -- no way through it passes by without a return
  pub Returns : parsed.Stmt → Type 0
  Returns (parsed.Return e others) = Unit {0}
  Returns (parsed.IfElse e a b) = BlockReturns a × BlockReturns b
  Returns _ = ⊥

  -- a statement of it returns
  pub BlockReturns : parsed.Block → Type 0
  BlockReturns parsed.no_stmt = ⊥
  BlockReturns (parsed.stmt s rest) = Returns s ⊎ BlockReturns rest

-- Functions

abbrev pub parameter_named : parsed.Parameter → Parameter
parameter_named p = record { name = p.name; kind = kind_named p.kind }

-- the parameters, each with a name of its own, and the scope after them
abbrev pub ParametersChecked : List parsed.Parameter → Context → List Parameter → Context → Type 0
ParametersChecked [] before ps after = (ps ≡ []) × (after ≡ before)
ParametersChecked (p ∷ rest) before ps after = (qs : List Parameter) × (kind_in before p.name ≡ None)
    × ParametersChecked rest (before ++ variable p.name (kind_named p.kind)) qs after × (ps ≡ parameter_named p ∷ qs)

-- the function of the program is allowed, and becomes f
pub record FunctionChecked (program : parsed.Program) (function : parsed.Function) (f : Function) : Type 0 where
  pub context : Context
  pub name : f.name ≡ function.name
  pub parameters : ParametersChecked function.parameters [] f.parameters context
  pub result : f.result ≡ kind_named function.result
  pub others : f.others ≡ map kind_named function.others
  pub body : BlockChecked program function function.body context f.body
  pub returns : BlockReturns function.body

abbrev pub FunctionsChecked : parsed.Program → List parsed.Function → Script → Type 0
FunctionsChecked program [] script = script ≡ []
FunctionsChecked program (function ∷ functions) script = (f : Function) × (fs : Script) × FunctionChecked program function f
    × FunctionsChecked program functions fs × (script ≡ f ∷ fs)

-- none of the functions has the name of one before it
abbrev pub AreNamedApart : parsed.Program → parsed.Program → Type 0
AreNamedApart before [] = Unit {0}
AreNamedApart before (f ∷ fs) = (function_in before f.name ≡ None) × AreNamedApart (before ++ f ∷ []) fs

-- main is there, has no parameters and is of type int, with no other result
abbrev pub HasMain : parsed.Program → Type 0
HasMain program = (f : parsed.Function) × (function_in program main_name ≡ Some f) × (f.parameters ≡ []) × (f.result ≡ parsed.IntType) × (f.others ≡ [])

-- the program is allowed, and becomes the script
pub record IsCheckedOf (program : parsed.Program) (script : Script) : Type 0 where
  pub apart : AreNamedApart [] program
  pub main : HasMain program
  pub functions : FunctionsChecked program program script
