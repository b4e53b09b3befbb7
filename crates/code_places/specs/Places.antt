-- Where in a script's text what each instruction of its code was made of stands, in the order of the code.
use Rattle.std.specs.Prelude.{Bool, true, false, List, [], ◌∷◌, ◌++◌, if◌then◌else◌, Option, Some, None}
use Rattle.script_tokens.specs.declared.token.Span.{Span}
use Rattle.script_syntax.specs.declared.tree.Expr.{Expr}
use Rattle.script_syntax.specs.declared.tree.ExprKind as kinds
use Rattle.script_syntax.specs.declared.tree.Statement.{Statement}
use Rattle.script_syntax.specs.declared.tree.Statement as statements
use Rattle.script_syntax.specs.declared.tree.Block.{Block}
use Rattle.script_syntax.specs.declared.tree.Parameter.{Parameter}
use Rattle.script_syntax.specs.declared.tree.Function.{Function}

-- Expressions: an instruction works out each, behind those that work out its parts

-- as an operand it is worked out before, as anything but a number or a variable
abbrev pub is_worked_out : kinds.ExprKind → Bool
is_worked_out (kinds.Int n) = false
is_worked_out (kinds.Variable x) = false
is_worked_out (kinds.Prefixed' op p a s) = true
is_worked_out (kinds.Binary' op p a s q b t) = true
is_worked_out (kinds.Index' p a s q b t) = true
is_worked_out (kinds.List' shape items) = true
is_worked_out (kinds.Empty t) = true
is_worked_out (kinds.Call' g shape args) = true
is_worked_out (kinds.Remote' r g shape args) = true
is_worked_out (kinds.Len' p a s) = true
is_worked_out (kinds.Push' p a s q b t) = true

-- those of an operand that stands there, given those of its parts
abbrev pub if_worked_out : kinds.ExprKind → Span → List Span → List Span
if_worked_out k s parts = if is_worked_out k then parts ++ s ∷ [] else []

abbrev mutual
  -- those of an expression's parts
  pub parts_places : kinds.ExprKind → List Span
  parts_places (kinds.Int n) = []
  parts_places (kinds.Variable x) = []
  parts_places (kinds.Prefixed' op p a s) = if_worked_out a s (parts_places a)
  parts_places (kinds.Binary' op p a s q b t) = if_worked_out a s (parts_places a) ++ if_worked_out b t (parts_places b)
  parts_places (kinds.Index' p a s q b t) = if_worked_out a s (parts_places a) ++ if_worked_out b t (parts_places b)
  parts_places (kinds.List' shape items) = row_places items
  parts_places (kinds.Empty t) = []
  parts_places (kinds.Call' g shape args) = row_places args
  parts_places (kinds.Remote' r g shape args) = row_places args
  parts_places (kinds.Len' p a s) = if_worked_out a s (parts_places a)
  parts_places (kinds.Push' p a s q b t) = if_worked_out a s (parts_places a) ++ if_worked_out b t (parts_places b)

  pub row_places : {m : _} → kinds.Row_of-Expr m → List Span
  row_places kinds.end_of-Expr = []
  row_places (kinds.more_of-Expr a s rest) = (parts_places a ++ s ∷ []) ++ row_places rest

abbrev pub expr_places : Expr → List Span
expr_places e = parts_places e.kind ++ e.span ∷ []

abbrev pub operand_places : Expr → List Span
operand_places e = if_worked_out e.kind e.span (parts_places e.kind)

abbrev pub exprs_places : List Expr → List Span
exprs_places [] = []
exprs_places (e ∷ es) = expr_places e ++ exprs_places es

-- Statements

-- from where the first begins to where the second ends
abbrev pub over : Span → Span → Span
over s t = record { start = s.start; end = t.end }

-- a block between two instructions that stand at one place: a loop's beginning and its turn, or a condition's test and the jump past the else
abbrev pub enclosed_places : Span → List Span → List Span
enclosed_places s body = s ∷ (body ++ s ∷ [])

-- those of operands, one after another
abbrev pub operands_places : List Expr → List Span
operands_places [] = []
operands_places (e ∷ es) = operand_places e ++ operands_places es

-- where the last of the others stands, or what stands before them
abbrev pub last_span : Span → List Expr → Span
last_span s [] = s
last_span s (e ∷ es) = last_span e.span es

-- a call whose results get names: its arguments, and then where the function's name stands
abbrev pub call_places : Span → List Expr → List Span
call_places s args = exprs_places args ++ s ∷ []

-- a return's values, and then the return, from that word to the end of the last
abbrev pub return_places : Span → Expr → List Expr → List Span
return_places word e others = operand_places e ++ (operands_places others ++ over word (last_span e.span others) ∷ [])

-- what is done with a value, from the word on that says so
abbrev pub last_places : Span → Expr → List Span
last_places word e = operand_places e ++ over word e.span ∷ []

abbrev mutual
  pub statement_places : Statement → List Span
  statement_places (statements.Let x e) = expr_places e
  statement_places (statements.LetCall x xs g args) = call_places g.span args.items
  statement_places (statements.LetRemote x xs r g args) = call_places g.span args.items
  statement_places (statements.Set x e) = expr_places e
  statement_places (statements.If' e shape a other) = operand_places e ++ (enclosed_places e.span (block_places a) ++ else_places other)
  statement_places (statements.For' x from to shape body) =
      expr_places from ++ (expr_places to ++ enclosed_places (over from.span to.span) (block_places body))
  statement_places (statements.Print word e) = last_places word e
  statement_places (statements.Return word e others) = return_places word e others.items

  pub else_places : statements.Held-Statement-If-2 → List Span
  else_places statements.None' = []
  else_places (statements.Some' shape b) = block_places b

  pub block_places : {m : _} → statements.Row_of-Statement m → List Span
  block_places statements.end_of-Statement = []
  block_places (statements.more_of-Statement s rest) = statement_places s ++ block_places rest

abbrev pub statements_places : List Statement → List Span
statements_places [] = []
statements_places (s ∷ rest) = statement_places s ++ statements_places rest

abbrev pub other_places : Option Block → List Span
other_places None = []
other_places (Some b) = statements_places b.statements.items

-- Functions

-- where the parameters' marks are looked at and their arguments dereferenced
abbrev pub marked_places : List Parameter → List Span
marked_places [] = []
marked_places (p ∷ ps) = p.name.span ∷ p.name.span ∷ marked_places ps

-- a body that comes to its end without a return is wrong
abbrev pub function_places : Function → List Span
function_places f = marked_places f.parameters.items ++ (statements_places f.body.statements.items ++ f.name.span ∷ [])

abbrev pub program_places : List Function → List Span
program_places [] = []
program_places (f ∷ fs) = function_places f ++ program_places fs
