-- The rules as functions, which the code follows step by step.
use Rattle.std.specs.Prelude.{
  ℕ,
  ◌+◌,
  Bool,
  true,
  false,
  List,
  [],
  ◌∷◌,
  ◌++◌,
  ◌^◌,
  ◌||◌,
  ◌&&◌,
  Option,
  Some,
  None,
  pos,
  length,
  map,
  not,
  nat_lt,
  nat_eq,
  nat_le,
  if◌then◌else◌,
}
use Rattle.meaning.specs.Values.{Name}
use Rattle.meaning.specs.Syntax.{Kind, Number, ListKind, RefKind, Expr, Exprs, end, also, Stmt, Block, done, step, Parameter, Function, Script}
use Rattle.meaning.specs.Syntax as syntax
use Rattle.meaning.specs.Meaning.{same_name}
use Rattle.meaning.specs.Kinds.{Context, kind_in, has_reference}
use Rattle.script_syntax.specs.Trees as parsed
use Rattle.script_syntax.specs.declared.tree.Prefix.{Prefix}
use Rattle.script_syntax.specs.declared.tree.Prefix.TheVariants as prefixes
use Rattle.script_check.specs.Trees.{kind_named}
use Rattle.script_check.specs.Rules.{function_in, variable, retries_of, operator_named, parameter_named}
use Rattle.meaning.specs.Values.{main_name}

infixl 10 ◌>>=◌
abbrev pub ◌>>=◌ : {A B : Type 0} → Option A → (A → Option B) → Option B
(Some x) >>= f = f x
None >>= f = None

abbrev pub when : {A : Type 0} → Bool → A → Option A
when true x = Some x
when false x = None

abbrev pub same_kind : Kind → Kind → Bool
same_kind Number Number = true
same_kind (ListKind s) (ListKind t) = same_kind s t
same_kind (RefKind s) (RefKind t) = same_kind s t
same_kind _ _ = false

-- an expression that is allowed, with its type
pub record Typing : Type 0 where
  pub expr : Expr
  pub kind : Kind

abbrev pub of_kind : Kind → Typing → Option Expr
of_kind t x = when (same_kind x.kind t) x.expr

abbrev pub items_of : Kind → Option Kind
items_of Number = None
items_of (ListKind t) = Some t
items_of (RefKind t) = None

abbrev pub referent_of : Kind → Option Kind
referent_of Number = None
referent_of (ListKind t) = None
referent_of (RefKind t) = Some t

abbrev pub int_typing : ℕ → Option Typing
int_typing n = when (nat_lt n (2 ^ 63)) (record { expr = syntax.Num (pos n); kind = Number })

abbrev pub variable_typing : Context → Name → Option Typing
variable_typing context x = kind_in context x >>= λ t. Some (record { expr = syntax.Var x; kind = t })

abbrev pub length_typing : Typing → Option Typing
length_typing x = items_of x.kind >>= λ t. Some (record { expr = syntax.Unary syntax.Len x.expr; kind = Number })

abbrev pub prefixed : Prefix → Typing → Option Typing
prefixed prefixes.Negate x = of_kind Number x >>= λ c. Some (record { expr = syntax.Unary syntax.Negate c; kind = Number })
prefixed prefixes.Get x = referent_of x.kind >>= λ t. Some (record { expr = syntax.GetOf t x.expr; kind = t })
prefixed prefixes.Put x = Some (record { expr = syntax.PutOf x.expr; kind = RefKind x.kind })

-- whether an argument of a type is marked for a parameter
abbrev pub mark_for : Kind → Kind → Option Bool
mark_for found wanted = if same_kind found wanted then Some false else when (same_kind found (RefKind wanted)) true

abbrev pub retries_within : Option ℕ → Option ℕ
retries_within r = when (nat_le (retries_of r) 10) (retries_of r)

abbrev pub count : parsed.Exprs → ℕ
count parsed.no_expr = 0
count (parsed.also e es) = count es + 1

-- what may be called for so many results beside the first, with so many arguments
abbrev pub callee : parsed.Program → Name → ℕ → ℕ → Option parsed.Function
callee program g others n =
    if same_name g main_name then None
    else (function_in program g >>= λ f. when (nat_eq (length f.others) others && nat_eq (length f.parameters) n) f)

pub record Marked : Type 0 where
  pub marks : List Bool
  pub exprs : Exprs

module _ (program : parsed.Program) (context : Context) where
  abbrev mutual
    pub infer : parsed.Expr → Option Typing
    infer (parsed.Number n) = int_typing n
    infer (parsed.Variable x) = variable_typing context x
    infer (parsed.Prefixed op a) = infer a >>= prefixed op
    infer (parsed.Binary op a b) = infer a >>= of_kind Number >>= λ c. infer b >>= of_kind Number
        >>= λ d. Some (record { expr = syntax.Binary (operator_named op) c d; kind = Number })
    infer (parsed.Item a i) = infer a >>= λ x. items_of x.kind >>= λ t. infer i >>= of_kind Number
        >>= λ d. Some (record { expr = syntax.Binary syntax.ItemAt x.expr d; kind = t })
    infer (parsed.ListOf parsed.no_expr) = None
    infer (parsed.ListOf (parsed.also e es)) = infer e >>= λ x. infer_each x.kind es >>= λ cs. Some (record {
      expr = syntax.ListOf (also x.expr cs);
      kind = ListKind x.kind;
    })
    infer (parsed.Empty u) = Some (record { expr = syntax.Empty (kind_named u); kind = ListKind (kind_named u) })
    infer (parsed.Call g args) = callee program g 0 (count args) >>= λ f. infer_arguments args f.parameters >>= λ cs. Some (record {
      expr = syntax.Call g cs;
      kind = kind_named f.result;
    })
    infer (parsed.Remote r g args) = retries_within r >>= λ k. callee program g 0 (count args) >>= λ f. infer_marked args f.parameters
        >>= λ m. Some (record { expr = syntax.Remote k g m.marks m.exprs; kind = RefKind (kind_named f.result) })
    infer (parsed.Len a) = infer a >>= length_typing
    infer (parsed.Push a b) = infer a >>= λ x. items_of x.kind >>= λ t. infer b >>= of_kind t
        >>= λ d. Some (record { expr = syntax.Binary syntax.Push x.expr d; kind = ListKind t })

    pub infer_each : Kind → parsed.Exprs → Option Exprs
    infer_each t parsed.no_expr = Some end
    infer_each t (parsed.also e es) = infer e >>= of_kind t >>= λ c. infer_each t es >>= λ cs. Some (also c cs)

    pub infer_arguments : parsed.Exprs → List parsed.Parameter → Option Exprs
    infer_arguments parsed.no_expr [] = Some end
    infer_arguments (parsed.also e es) (p ∷ ps) = infer e >>= of_kind (kind_named p.kind) >>= λ c. infer_arguments es ps >>= λ cs. Some (also c cs)
    infer_arguments _ _ = None

    pub infer_marked : parsed.Exprs → List parsed.Parameter → Option Marked
    infer_marked parsed.no_expr [] = Some (record { marks = []; exprs = end })
    infer_marked (parsed.also e es) (p
        ∷ ps) = infer e >>= λ x. mark_for x.kind (kind_named p.kind) >>= λ m. infer_marked es ps >>= λ rest. Some (record {
          marks = m ∷ rest.marks;
          exprs = also x.expr rest.exprs;
        })
    infer_marked _ _ = None

  abbrev pub infer_as : Kind → parsed.Expr → Option Expr
  infer_as t e = infer e >>= of_kind t

  abbrev pub infer_results : parsed.Exprs → List parsed.Kind → Option Exprs
  infer_results parsed.no_expr [] = Some end
  infer_results (parsed.also e es) (t ∷ ts) = infer_as (kind_named t) e >>= λ c. infer_results es ts >>= λ cs. Some (also c cs)
  infer_results _ _ = None

-- a name that is not in scope yet
abbrev pub free : Option Kind → Option Unit
free None = Some tt
free (Some t) = None

abbrev pub fresh : Context → Name → Option Unit
fresh context x = free (kind_in context x)

pub record Stepped : Type 0 where
  pub stmt : Stmt
  pub after : Context

pub record Blocked : Type 0 where
  pub block : Block
  pub after : Context

abbrev pub let_step : parsed.Program → Context → Name → parsed.Expr → Option Stepped
let_step program before x e = fresh before x >>= λ _. infer program before e >>= λ c. Some (record {
  stmt = syntax.Let x c.expr;
  after = before
      ++ variable x c.kind;
})

abbrev pub only : Bool → Option Unit
only true = Some tt
only false = None

-- one of the names
abbrev pub is_among : List Name → Name → Bool
is_among [] x = false
is_among (y ∷ ys) x = same_name y x || is_among ys x

-- a name that is not in scope yet, nor given before in the same statement
abbrev pub new_name : Context → List Name → Name → Option Unit
new_name before given x = fresh before x >>= λ _. only (not (is_among given x))

abbrev pub new_names : Context → List Name → List Name → Option Unit
new_names before given [] = Some tt
new_names before given (x ∷ xs) = new_name before given x >>= λ _. new_names before (given ++ x ∷ []) xs

-- the scope with the names behind it
abbrev pub bound : Context → List Name → List parsed.Kind → Context
bound before (x ∷ xs) (t ∷ ts) = bound (before ++ variable x (kind_named t)) xs ts
bound before _ _ = before

abbrev pub let_call_step : parsed.Program → Context → Name → List Name → Name → parsed.Exprs → Option Stepped
let_call_step program before x others g args = new_names before [] (x ∷ others) >>= λ _. callee program g (length others) (count args) >>= λ f.
    infer_arguments program before args f.parameters >>= λ cs. Some (record {
      stmt = syntax.LetCall x others g cs;
      after = bound before (x ∷ others) (f.result ∷ f.others);
    })

abbrev pub let_remote_step : parsed.Program → Context → Name → List Name → Option ℕ → Name → parsed.Exprs → Option Stepped
let_remote_step program before x others r g args = new_names before [] (x ∷ others) >>= λ _. retries_within r
    >>= λ k. callee program g (length others) (count args) >>= λ f. infer_marked program before args f.parameters >>= λ m. Some (record {
      stmt = syntax.LetRemote x others k g m.marks m.exprs;
      after = bound before (x ∷ others) (map parsed.RefType (f.result ∷ f.others));
    })

abbrev pub set_step : parsed.Program → Context → Name → parsed.Expr → Option Stepped
set_step program before x e = kind_in before x >>= λ t. infer program before e >>= of_kind t >>= λ d. Some (record { stmt = syntax.Set x d; after = before })

abbrev pub print_step : parsed.Program → Name → Context → parsed.Expr → Option Stepped
print_step program self before e = if same_name self main_name then (infer program before e >>= λ c. if has_reference c.kind then None
    else Some (record { stmt = syntax.Print c.expr; after = before })) else None

abbrev pub return_step : parsed.Program → parsed.Kind → List parsed.Kind → Context → parsed.Expr → parsed.Exprs → Option Stepped
return_step program result others before e es = only (nat_eq (count es) (length others)) >>= λ _. infer_results program before (parsed.also e es) (result
    ∷ others) >>= λ cs. Some (record { stmt = syntax.Return cs; after = before })

abbrev pub block_alone : Blocked → Option Block
block_alone x = Some x.block

module _ (program : parsed.Program) (function : parsed.Function) where
  abbrev mutual
    pub step_of : parsed.Stmt → Context → Option Stepped
    step_of (parsed.Let x e) before = let_step program before x e
    step_of (parsed.LetCall x others g args) before = let_call_step program before x others g args
    step_of (parsed.LetRemote x others r g args) before = let_remote_step program before x others r g args
    step_of (parsed.Set x e) before = set_step program before x e
    step_of (parsed.If e a) before = infer program before e >>= of_kind Number >>= λ c. steps_of a before >>= block_alone
        >>= λ x. Some (record { stmt = syntax.If c x done; after = before })
    step_of (parsed.IfElse e a b) before = infer program before e >>= of_kind Number >>= λ c. steps_of a before >>= block_alone >>= λ x. steps_of b before
        >>= block_alone >>= λ y. Some (record { stmt = syntax.If c x y; after = before })
    step_of (parsed.For x from to body) before = fresh before x >>= λ _. infer program before from >>= of_kind Number >>= λ c. infer program before to
        >>= of_kind Number >>= λ d. steps_of body (before ++ variable x Number) >>= block_alone
        >>= λ b. Some (record { stmt = syntax.For x c d b; after = before })
    step_of (parsed.Print e) before = print_step program function.name before e
    step_of (parsed.Return e others) before = return_step program function.result function.others before e others

    pub steps_of : parsed.Block → Context → Option Blocked
    steps_of parsed.no_stmt before = Some (record { block = done; after = before })
    steps_of (parsed.stmt s rest) before = step_of s before >>= λ c. steps_of rest c.after >>= λ b. Some (record {
      block = step c.stmt b.block;
      after = b.after;
    })

  abbrev pub block_from : parsed.Block → Context → Option Block
  block_from b before = steps_of b before >>= block_alone

  abbrev pub else_from : Option parsed.Block → Context → Option Block
  else_from None before = Some done
  else_from (Some b) before = block_from b before

abbrev mutual
  pub returns : parsed.Stmt → Bool
  returns (parsed.Return e others) = true
  returns (parsed.IfElse e a b) = block_returns a && block_returns b
  returns _ = false

  pub block_returns : parsed.Block → Bool
  block_returns parsed.no_stmt = false
  block_returns (parsed.stmt s rest) = returns s || block_returns rest

abbrev pub else_returns : Option parsed.Block → Bool
else_returns None = false
else_returns (Some b) = block_returns b

pub record Declared : Type 0 where
  pub parameters : List Parameter
  pub context : Context

abbrev pub declared : List parsed.Parameter → Context → Option Declared
declared [] before = Some (record { parameters = []; context = before })
declared (p ∷ ps) before = fresh before p.name >>= λ _. declared ps (before
    ++ variable p.name (kind_named p.kind)) >>= λ d. Some (record { parameters = parameter_named p ∷ d.parameters; context = d.context })

-- no result is there beside the first
abbrev pub is_single : List parsed.Kind → Bool
is_single [] = true
is_single (t ∷ ts) = false

abbrev pub function_from : parsed.Program → parsed.Function → Option Function
function_from program f =
    declared f.parameters [] >>= λ d. block_from program f f.body d.context >>= λ b. when (block_returns f.body) (record {
      name = f.name;
      parameters = d.parameters;
      result = kind_named f.result;
      others = map kind_named f.others;
      body = b;
    })

abbrev pub functions_from : parsed.Program → List parsed.Function → Option Script
functions_from program [] = Some []
functions_from program (f ∷ fs) = function_from program f >>= λ g. functions_from program fs >>= λ gs. Some (g ∷ gs)

abbrev pub is_absent : Option parsed.Function → Bool
is_absent None = true
is_absent (Some f) = false

abbrev pub are_apart : parsed.Program → parsed.Program → Bool
are_apart before [] = true
are_apart before (f ∷ fs) = is_absent (function_in before f.name) && are_apart (before ++ f ∷ []) fs

abbrev pub is_main_good : Option parsed.Function → Bool
is_main_good None = false
is_main_good (Some f) = nat_eq (length f.parameters) 0 && same_kind (kind_named f.result) Number && is_single f.others
