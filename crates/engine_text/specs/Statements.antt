-- How statements are written in Python: on lines of their own, each behind a margin.
use Rattle.std.specs.Prelude.{ℕ, Bool, true, false, List, [], ◌++◌, length, codes}
use Rattle.std.specs.List.{flat_map}
use Rattle.meaning.specs.Values.{Name}
use Rattle.meaning.specs.Syntax.{Expr, Exprs, end, also, Stmt, Let, LetCall, LetRemote, Set, Print, Return, If, For, Block, done, step}
use Rattle.engine_text.specs.Expressions.{variable_name, after_comma, separator, call_head, arguments_text, remote_all_head, marked_text, expression_text}

abbrev pub deeper : List ℕ → List ℕ
deeper margin = margin ++ codes "    "

-- v_x = 1
abbrev pub assignment_text : List ℕ → Name → Expr → List ℕ
assignment_text margin x e = margin ++ (variable_name x ++ (codes " = " ++ (expression_text e ++ codes "\n")))

-- a further name
abbrev pub other_name : Name → List ℕ
other_name x = after_comma (variable_name x)

-- v_x, v_y = call(fn_g, depth, 1): Python hands several values on as one tuple
abbrev pub results_text : List ℕ → Name → List Name → Name → Exprs → List ℕ
results_text margin x xs g args =
    margin ++ (variable_name x ++ (flat_map other_name xs ++ (codes " = " ++ (call_head g ++ (arguments_text args ++ codes "\n")))))

-- v_x, v_y = remote_all(1, 3, fn_g, depth, 1): a reference for each result
abbrev pub references_text : List ℕ → Name → List Name → ℕ → Name → List Bool → Exprs → List ℕ
references_text margin x xs retries g marks args =
    margin ++ (variable_name x ++ (flat_map other_name xs
    ++ (codes " = " ++ (remote_all_head (length xs) retries g ++ (marked_text marks args ++ codes "\n")))))

-- what is returned, later values than the first or all of them, and the line's end
abbrev pub values_text : Bool → Exprs → List ℕ
values_text later end = codes "\n"
values_text later (also e es) = separator later ++ (expression_text e ++ values_text true es)

-- return 1, 2
abbrev pub return_text : List ℕ → Exprs → List ℕ
return_text margin es = margin ++ (codes "return " ++ values_text false es)

-- if 1: and the like
abbrev pub word_text : List ℕ → List ℕ → Expr → List ℕ → List ℕ
word_text margin word e tail = margin ++ (word ++ (expression_text e ++ tail))

abbrev pub loop_name : Name → List ℕ
loop_name x = codes "for " ++ (variable_name x ++ codes " in turns(")

abbrev pub bounds_text : Expr → Expr → List ℕ
bounds_text from to = expression_text from ++ (codes ", " ++ (expression_text to ++ codes "):\n"))

-- for v_x in turns(0, 1):
abbrev pub loop_head : List ℕ → Name → Expr → Expr → List ℕ
loop_head margin x from to = margin ++ (loop_name x ++ bounds_text from to)

abbrev mutual
  pub statement_text : List ℕ → Stmt → List ℕ
  statement_text margin (Let x e) = assignment_text margin x e
  statement_text margin (LetCall x xs g args) = results_text margin x xs g args
  statement_text margin (LetRemote x xs retries g marks args) = references_text margin x xs retries g marks args
  statement_text margin (Set x e) = assignment_text margin x e
  statement_text margin (Print e) = word_text margin (codes "show(") e (codes ")\n")
  statement_text margin (Return es) = return_text margin es
  statement_text margin (If e a b) = word_text margin (codes "if ") e (codes ":\n") ++ (block_text margin a ++ else_text margin b)
  statement_text margin (For x from to body) = loop_head margin x from to ++ block_text margin body

  pub lines_text : List ℕ → Block → List ℕ
  lines_text margin done = []
  lines_text margin (step s rest) = statement_text margin s ++ lines_text margin rest

  -- the block in a statement that has a margin
  pub block_text : List ℕ → Block → List ℕ
  block_text margin done = deeper margin ++ codes "pass\n"
  block_text margin (step s rest) = statement_text (deeper margin) s ++ lines_text (deeper margin) rest

  -- nothing where nothing is done
  pub else_text : List ℕ → Block → List ℕ
  else_text margin done = []
  else_text margin (step s rest) = margin ++ (codes "else:\n" ++ (statement_text (deeper margin) s ++ lines_text (deeper margin) rest))
