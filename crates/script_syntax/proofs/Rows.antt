-- The trees of a row are those of the vector's items.
use Rattle.std.proofs.Common.{◌≡◌, List, [], ◌∷◌, ◌++◌, Option, Some, None, map, refl, ap, ◌∙◌}
use Rattle.std.specs.declared.vec.Vec.{Vec}
use Rattle.std.specs.declared.alloc.Global.{Global}
use Rattle.std.specs.String.{string_bytes}
use Rattle.script_syntax.specs.Trees.{also, Call, Remote, ListOf, If, IfElse, For, Block as ABlock, stmt}
use Rattle.script_syntax.specs.declared.tree.Expr.{Expr}
use Rattle.script_syntax.specs.declared.tree.Name.{Name}
use Rattle.script_syntax.specs.declared.tree.Retries.{Retries}
use Rattle.script_syntax.specs.declared.tree.ExprKind as kinds
use Rattle.script_syntax.specs.declared.tree.Statement.{Statement}
use Rattle.script_syntax.specs.declared.tree.Statement as statements
use Rattle.script_syntax.specs.declared.tree.Block.{Block}
use Rattle.script_syntax.specs.Views.{tree_of, trees_of, kind_tree, row_trees, retries_of, statement_of, statements_of, row_statements}
use Rattle.script_syntax.specs.Reading.{and_expr, and_stmt, and_item}

pub row_trees-items : {n : _} (row : kinds.Row_of-Expr n) → row_trees row ≡ trees_of (kinds.items-the_row-Expr n row)
row_trees-items kinds.end_of-Expr = refl
row_trees-items (kinds.more_of-Expr a s rest) = ap (λ ts. also (kind_tree a) ts) (row_trees-items rest)

hidden_trees : (v : Vec Expr Global) → row_trees (Rattle.script_syntax.specs.declared.tree.ExprKind.TheBlock.hidden-the_row-Expr-0 v) ≡ trees_of v.items
hidden_trees v = row_trees-items (Rattle.script_syntax.specs.declared.tree.ExprKind.TheBlock.hidden-the_row-Expr-0 v) ∙ ap trees_of (kinds.items_hidden-the_row-Expr-0 v)

pub call_tree : (g : Name) (v : Vec Expr Global) → kind_tree (kinds.Call g v) ≡ Call (string_bytes g.text) (trees_of v.items)
call_tree g v = ap (Call (string_bytes g.text)) (hidden_trees v)

pub remote_tree : (r : Option Retries) (g : Name) (v : Vec Expr Global) → kind_tree (kinds.Remote r g v) ≡ Remote (retries_of r) (string_bytes g.text) (trees_of v.items)
remote_tree r g v = ap (Remote (retries_of r) (string_bytes g.text)) (hidden_trees v)

pub list_tree : (v : Vec Expr Global) → kind_tree (kinds.List v) ≡ ListOf (trees_of v.items)
list_tree v = ap ListOf (hidden_trees v)

pub trees_and : (xs : List Expr) (x : Expr) → trees_of (xs ++ x ∷ []) ≡ and_expr (trees_of xs) (tree_of x)
trees_and [] x = refl
trees_and (y ∷ ys) x = ap (also (tree_of y)) (trees_and ys x)

-- ---- statements

row_statements-items : {n : _} (row : statements.Row_of-Statement n) → row_statements row ≡ statements_of (statements.items-the_row-Statement n row)
row_statements-items statements.end_of-Statement = refl
row_statements-items (statements.more_of-Statement s rest) = ap (stmt (statement_of s)) (row_statements-items rest)

hidden_statements : (v : Vec Statement Global) → row_statements (Rattle.script_syntax.specs.declared.tree.Statement.TheBlock.hidden-the_row-Statement-0 v) ≡ statements_of v.items
hidden_statements v = row_statements-items (Rattle.script_syntax.specs.declared.tree.Statement.TheBlock.hidden-the_row-Statement-0 v) ∙ ap statements_of (statements.items_hidden-the_row-Statement-0 v)

pub if_alone_tree : (e : Expr) (a : Block) → statement_of (statements.If e a None) ≡ If (tree_of e) (statements_of a.statements.items)
if_alone_tree e a = ap (If (tree_of e)) (hidden_statements a.statements)

pub if_else_tree : (e : Expr) (a b : Block) → statement_of (statements.If e a (Some b)) ≡ IfElse (tree_of e) (statements_of a.statements.items) (statements_of b.statements.items)
if_else_tree e a b = ap (λ (x : ABlock). IfElse (tree_of e) x (row_statements (Rattle.script_syntax.specs.declared.tree.Statement.TheBlock.hidden-the_row-Statement-0 b.statements))) (hidden_statements a.statements) ∙ ap (IfElse (tree_of e) (statements_of a.statements.items)) (hidden_statements b.statements)

pub for_each_tree : (x : Name) (first last : Expr) (body : Block) → statement_of (statements.For x first last body) ≡ For (string_bytes x.text) (tree_of first) (tree_of last) (statements_of body.statements.items)
for_each_tree x first last body = ap (For (string_bytes x.text) (tree_of first) (tree_of last)) (hidden_statements body.statements)

pub statements_and : (xs : List Statement) (x : Statement) → statements_of (xs ++ x ∷ []) ≡ and_stmt (statements_of xs) (statement_of x)
statements_and [] x = refl
statements_and (y ∷ ys) x = ap (stmt (statement_of y)) (statements_and ys x)

pub map_and : {A B : Type 0} (f : A → B) (xs : List A) (x : A) → map f (xs ++ x ∷ []) ≡ and_item (map f xs) (f x)
map_and f [] x = refl
map_and f (y ∷ ys) x = ap (λ zs. f y ∷ zs) (map_and f ys x)
