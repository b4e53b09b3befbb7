-- How expressions are written in Python.
use Rattle.std.specs.Prelude.{ℕ, Bool, true, false, List, [], ◌∷◌, ◌++◌, codes, drop}
use Rattle.std.specs.Fmt.{decimal, signed_decimal}
use Rattle.meaning.specs.Values.{Name}
use Rattle.meaning.specs.Syntax as syntax
use Rattle.meaning.specs.Syntax.{Operator, Prefix, Expr, Exprs, end, also}

-- functions begin otherwise than variables, and both otherwise than all names of Python and of a program's head
abbrev pub function_name : Name → List ℕ
function_name g = codes "fn_" ++ g

abbrev pub variable_name : Name → List ℕ
variable_name x = codes "v_" ++ x

abbrev pub prefix_operation : Prefix → List ℕ
prefix_operation syntax.Negate = codes "neg"
prefix_operation syntax.Len = codes "len"

abbrev pub operation : Operator → List ℕ
operation syntax.Add = codes "add"
operation syntax.Sub = codes "sub"
operation syntax.Mul = codes "mul"
operation syntax.Div = codes "div"
operation syntax.Rem = codes "rem"
operation syntax.Equal = codes "equal"
operation syntax.Unequal = codes "differ"
operation syntax.Less = codes "less"
operation syntax.LessEqual = codes "at_most"
operation syntax.ItemAt = codes "item"
operation syntax.Push = codes "push"

-- call(fn_g, depth
abbrev pub call_head : Name → List ℕ
call_head g = codes "call(" ++ (function_name g ++ codes ", depth")

-- 3, fn_g, depth
abbrev pub task_head : ℕ → Name → List ℕ
task_head retries g = decimal retries ++ (codes ", " ++ (function_name g ++ codes ", depth"))

-- remote(3, fn_g, depth
abbrev pub remote_head : ℕ → Name → List ℕ
remote_head retries g = codes "remote(" ++ task_head retries g

-- remote_all(1, : of two results, which is one beside the first
unfoldable pub remote_all_of : ℕ → List ℕ
remote_all_of others = codes "remote_all(" ++ (decimal others ++ codes ", ")

-- remote_all(1, 3, fn_g, depth
abbrev pub remote_all_head : ℕ → ℕ → Name → List ℕ
remote_all_head others retries g = remote_all_of others ++ task_head retries g

abbrev pub is_first_marked : List Bool → Bool
is_first_marked [] = false
is_first_marked (m ∷ ms) = m

abbrev pub in_parentheses : List ℕ → List ℕ
in_parentheses t = codes "(" ++ (t ++ codes ")")

abbrev pub after_comma : List ℕ → List ℕ
after_comma t = codes ", " ++ t

-- what stands before an item that is a later one than the first, or is no such
abbrev pub separator : Bool → List ℕ
separator false = []
separator true = codes ", "

-- an argument of a task; one that the engine dereferences is said to be so
abbrev pub argument_text : Bool → List ℕ → List ℕ
argument_text false t = after_comma t
argument_text true t = codes ", marked" ++ in_parentheses t

abbrev mutual
  pub expression_text : Expr → List ℕ
  expression_text (syntax.Num n) = signed_decimal n
  expression_text (syntax.Var x) = variable_name x
  expression_text (syntax.Unary op a) = prefix_operation op ++ in_parentheses (expression_text a)
  expression_text (syntax.Binary op a b) = operation op ++ (codes "(" ++ (expression_text a ++ (codes ", " ++ (expression_text b ++ codes ")"))))
  expression_text (syntax.ListOf items) = codes "[" ++ items_text false items
  expression_text (syntax.Empty t) = codes "[]"
  expression_text (syntax.Call g args) = call_head g ++ arguments_text args
  expression_text (syntax.Remote retries g marks args) = remote_head retries g ++ marked_text marks args
  expression_text (syntax.PutOf a) = codes "put" ++ in_parentheses (expression_text a)
  expression_text (syntax.GetOf t a) = codes "get" ++ in_parentheses (expression_text a)

  -- the items of a list, later ones than the first or all of them, and its end
  pub items_text : Bool → Exprs → List ℕ
  items_text later end = codes "]"
  items_text later (also e es) = separator later ++ (expression_text e ++ items_text true es)

  -- what a plain call is handed, and its end
  pub arguments_text : Exprs → List ℕ
  arguments_text end = codes ")"
  arguments_text (also e es) = after_comma (expression_text e) ++ arguments_text es

  -- what a task is handed, and the end of its call
  pub marked_text : List Bool → Exprs → List ℕ
  marked_text marks end = codes ")"
  marked_text marks (also e es) = argument_text (is_first_marked marks) (expression_text e) ++ marked_text (drop 1 marks) es

-- [a, b]
abbrev pub list_text : Exprs → List ℕ
list_text items = codes "[" ++ items_text false items
