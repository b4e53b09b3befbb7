-- What the code's checked trees stand for.
use Rattle.std.specs.Prelude.{List, [], ◌∷◌, map, string_bytes}
use Rattle.meaning.specs.Syntax.{Kind, Number, ListKind, RefKind, Expr, Exprs, end, also, Stmt, Block as ABlock, done, step, Parameter, Function, Script}
use Rattle.meaning.specs.Syntax as syntax
use Rattle.script_syntax.specs.Trees as parsed
use Rattle.script_syntax.specs.Views.{type_of}
use Rattle.script_syntax.specs.declared.tree.ValueType.{ValueType}
use Rattle.script_check.specs.declared.tree.UnaryOperator.{UnaryOperator}
use Rattle.script_check.specs.declared.tree.UnaryOperator.TheVariants as unaries
use Rattle.script_check.specs.declared.tree.Operator.{Operator}
use Rattle.script_check.specs.declared.tree.Operator.TheVariants as operators
use Rattle.script_check.specs.declared.tree.CheckedExpr.{CheckedExpr}
use Rattle.script_check.specs.declared.tree.CheckedExpr as exprs
use Rattle.script_check.specs.declared.tree.CheckedStatement.{CheckedStatement}
use Rattle.script_check.specs.declared.tree.CheckedStatement as statements
use Rattle.script_check.specs.declared.tree.CheckedBlock.{CheckedBlock}
use Rattle.script_check.specs.declared.tree.CheckedParameter.{CheckedParameter}
use Rattle.script_check.specs.declared.tree.CheckedFunction.{CheckedFunction}

-- the kind that a written type names
abbrev pub kind_named : parsed.Kind → Kind
kind_named parsed.IntType = Number
kind_named (parsed.ListType t) = ListKind (kind_named t)
kind_named (parsed.RefType t) = RefKind (kind_named t)

abbrev pub kind_of : ValueType → Kind
kind_of t = kind_named (type_of t)

abbrev pub unary_of : UnaryOperator → syntax.Prefix
unary_of unaries.Negate = syntax.Negate
unary_of unaries.Len = syntax.Len

abbrev pub operator_of : Operator → syntax.Operator
operator_of operators.Add = syntax.Add
operator_of operators.Sub = syntax.Sub
operator_of operators.Mul = syntax.Mul
operator_of operators.Div = syntax.Div
operator_of operators.Rem = syntax.Rem
operator_of operators.Equal = syntax.Equal
operator_of operators.NotEqual = syntax.Unequal
operator_of operators.Less = syntax.Less
operator_of operators.LessEqual = syntax.LessEqual
operator_of operators.Item = syntax.ItemAt
operator_of operators.Push = syntax.Push

abbrev mutual
  pub expr_of : CheckedExpr → Expr
  expr_of (exprs.Int n) = syntax.Num n
  expr_of (exprs.Variable x) = syntax.Var (string_bytes x)
  expr_of (exprs.Unary' op p a) = syntax.Unary (unary_of op) (expr_of a)
  expr_of (exprs.Binary' op p a q b) = syntax.Binary (operator_of op) (expr_of a) (expr_of b)
  expr_of (exprs.List' shape items) = syntax.ListOf (row_exprs items)
  expr_of (exprs.Empty t) = syntax.Empty (kind_of t)
  expr_of (exprs.Call' g shape args) = syntax.Call (string_bytes g) (row_exprs args)
  expr_of (exprs.Remote' retries g marks shape args) = syntax.Remote retries (string_bytes g) marks.items (row_exprs args)
  expr_of (exprs.Put' p a) = syntax.PutOf (expr_of a)
  expr_of (exprs.Get' t p a) = syntax.GetOf (kind_of t) (expr_of a)

  pub row_exprs : {m : _} → exprs.Row_of-CheckedExpr m → Exprs
  row_exprs exprs.end_of-CheckedExpr = end
  row_exprs (exprs.more_of-CheckedExpr e rest) = also (expr_of e) (row_exprs rest)

abbrev pub exprs_of : List CheckedExpr → Exprs
exprs_of [] = end
exprs_of (e ∷ es) = also (expr_of e) (exprs_of es)

abbrev mutual
  pub statement_of : CheckedStatement → Stmt
  statement_of (statements.Let x e) = syntax.Let (string_bytes x) (expr_of e)
  statement_of (statements.LetCall x xs g args) = syntax.LetCall (string_bytes x) (map string_bytes xs.items) (string_bytes g) (exprs_of args.items)
  statement_of (statements.LetRemote x xs retries g marks args) =
      syntax.LetRemote (string_bytes x) (map string_bytes xs.items) retries (string_bytes g) marks.items (exprs_of args.items)
  statement_of (statements.Set x e) = syntax.Set (string_bytes x) (expr_of e)
  statement_of (statements.Print e) = syntax.Print (expr_of e)
  statement_of (statements.Return es) = syntax.Return (exprs_of es.items)
  statement_of (statements.If' e s a t b) = syntax.If (expr_of e) (row_statements a) (row_statements b)
  statement_of (statements.For' x from to s body) = syntax.For (string_bytes x) (expr_of from) (expr_of to) (row_statements body)

  pub row_statements : {m : _} → statements.Row_of-CheckedStatement m → ABlock
  row_statements statements.end_of-CheckedStatement = done
  row_statements (statements.more_of-CheckedStatement s rest) = step (statement_of s) (row_statements rest)

abbrev pub statements_of : List CheckedStatement → ABlock
statements_of [] = done
statements_of (s ∷ rest) = step (statement_of s) (statements_of rest)

abbrev pub block_of : CheckedBlock → ABlock
block_of b = statements_of b.statements.items

abbrev pub parameter_of : CheckedParameter → Parameter
parameter_of p = record { name = string_bytes p.name; kind = kind_of p.kind }

abbrev pub function_of : CheckedFunction → Function
function_of f =
    record {
      name = string_bytes f.name;
      parameters = map parameter_of f.parameters.items;
      result = kind_of f.result;
      others = map kind_of f.others.items;
      body = block_of f.body;
    }

abbrev pub script_of : List CheckedFunction → Script
script_of = map function_of
