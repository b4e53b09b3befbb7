-- What the code's trees stand for.
use Rattle.std.specs.Prelude.{ℕ, List, [], ◌∷◌, map, Option, Some, None}
use Rattle.std.specs.String.{string_bytes}
use Rattle.script_tokens.specs.Tokens.{Name as AName}
use Rattle.script_syntax.specs.Trees.{
  Kind,
  IntType,
  ListType,
  RefType,
  Expr as ATree,
  Number,
  Variable,
  Prefixed,
  Binary,
  Item,
  ListOf,
  Empty,
  Call,
  Remote,
  Len,
  Push,
  Exprs,
  no_expr,
  also,
  Stmt,
  Let,
  LetCall,
  LetRemote,
  Set,
  If,
  IfElse,
  For,
  Print,
  Return,
  Block as ABlock,
  no_stmt,
  stmt,
  Parameter as AParameter,
  Function as AFunction,
  Program as AProgram,
}
use Rattle.script_syntax.specs.declared.tree.Name.{Name}
use Rattle.script_syntax.specs.declared.tree.ValueType.{ValueType}
use Rattle.script_syntax.specs.declared.tree.ValueType as types
use Rattle.script_syntax.specs.declared.tree.Expr.{Expr}
use Rattle.script_syntax.specs.declared.tree.ExprKind as kinds
use Rattle.script_syntax.specs.declared.tree.Retries.{Retries}
use Rattle.script_syntax.specs.declared.tree.Statement.{Statement}
use Rattle.script_syntax.specs.declared.tree.Statement as statements
use Rattle.script_syntax.specs.declared.tree.Parameter.{Parameter}
use Rattle.script_syntax.specs.declared.tree.Function.{Function}

abbrev pub name_of : Name → AName
name_of x = string_bytes x.text

abbrev pub type_of : ValueType → Kind
type_of types.Int = IntType
type_of (types.List' p t) = ListType (type_of t)
type_of (types.Ref' p t) = RefType (type_of t)

abbrev pub retries_of : Option Retries → Option ℕ
retries_of None = None
retries_of (Some r) = Some r.number

abbrev mutual
  pub kind_tree : kinds.ExprKind → ATree
  kind_tree (kinds.Int n) = Number n
  kind_tree (kinds.Variable x) = Variable (string_bytes x.text)
  kind_tree (kinds.Prefixed' op p a s) = Prefixed op (kind_tree a)
  kind_tree (kinds.Binary' op p a s q b t) = Binary op (kind_tree a) (kind_tree b)
  kind_tree (kinds.Index' p a s q b t) = Item (kind_tree a) (kind_tree b)
  kind_tree (kinds.List' shape items) = ListOf (row_trees items)
  kind_tree (kinds.Empty t) = Empty (type_of t)
  kind_tree (kinds.Call' g shape args) = Call (string_bytes g.text) (row_trees args)
  kind_tree (kinds.Remote' r g shape args) = Remote (retries_of r) (string_bytes g.text) (row_trees args)
  kind_tree (kinds.Len' p a s) = Len (kind_tree a)
  kind_tree (kinds.Push' p a s q b t) = Push (kind_tree a) (kind_tree b)

  pub row_trees : {m : _} → kinds.Row_of-Expr m → Exprs
  row_trees kinds.end_of-Expr = no_expr
  row_trees (kinds.more_of-Expr a s rest) = also (kind_tree a) (row_trees rest)

abbrev pub tree_of : Expr → ATree
tree_of e = kind_tree e.kind

abbrev pub trees_of : List Expr → Exprs
trees_of [] = no_expr
trees_of (e ∷ es) = also (tree_of e) (trees_of es)

abbrev mutual
  pub statement_of : Statement → Stmt
  statement_of (statements.Let x e) = Let (string_bytes x.text) (tree_of e)
  statement_of (statements.LetCall x xs g args) = LetCall (name_of x) (map name_of xs.items) (name_of g) (trees_of args.items)
  statement_of (statements.LetRemote x xs r g args) =
      LetRemote (name_of x) (map name_of xs.items) (retries_of r) (name_of g) (trees_of args.items)
  statement_of (statements.Set x e) = Set (string_bytes x.text) (tree_of e)
  statement_of (statements.If' e shape a other) = branch_of (tree_of e) (row_statements a) other
  statement_of (statements.For' x from to shape body) = For (string_bytes x.text) (tree_of from) (tree_of to) (row_statements body)
  statement_of (statements.Print s e) = Print (tree_of e)
  statement_of (statements.Return s e others) = Return (tree_of e) (trees_of others.items)

  pub branch_of : ATree → ABlock → statements.Held-Statement-If-2 → Stmt
  branch_of e a statements.None' = If e a
  branch_of e a (statements.Some' shape b) = IfElse e a (row_statements b)

  pub row_statements : {m : _} → statements.Row_of-Statement m → ABlock
  row_statements statements.end_of-Statement = no_stmt
  row_statements (statements.more_of-Statement s rest) = stmt (statement_of s) (row_statements rest)

abbrev pub statements_of : List Statement → ABlock
statements_of [] = no_stmt
statements_of (s ∷ ss) = stmt (statement_of s) (statements_of ss)

abbrev pub parameter_of : Parameter → AParameter
parameter_of p = record { name = string_bytes p.name.text; kind = type_of p.kind }

abbrev pub function_of : Function → AFunction
function_of f =
    record {
      name = string_bytes f.name.text;
      parameters = map parameter_of f.parameters.items;
      result = type_of f.result;
      others = map type_of f.others.items;
      body = statements_of f.body.statements.items;
    }

abbrev pub program_of : List Function → AProgram
program_of = map function_of
