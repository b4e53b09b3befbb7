-- The trees of a row are those of the vector's items.
use Rattle.std.proofs.Common.{◌≡◌, ℕ, List, Option, Some, None, refl, sym, ap, ◌∙◌}
use Rattle.std.specs.Prelude.{string_bytes}
use Rattle.std.specs.declared.vec.Vec.{Vec}
use Rattle.std.specs.declared.alloc.Global.{Global}
use Rattle.script_syntax.specs.Trees.{ListOf, Call, Remote, also}
use Rattle.script_syntax.specs.Trees as parsed
use Rattle.script_syntax.specs.Views.{kind_tree, row_trees, tree_of, trees_of, retries_of, statement_of, statements_of, row_statements}
use Rattle.script_syntax.specs.declared.tree.Expr.{Expr}
use Rattle.script_syntax.specs.declared.tree.Name.{Name}
use Rattle.script_syntax.specs.declared.tree.Retries.{Retries}
use Rattle.script_syntax.specs.declared.tree.ExprKind as kinds
use Rattle.std.specs.declared.string.String.{String}
use Rattle.meaning.specs.Syntax as syntax
use Rattle.script_syntax.specs.declared.tree.Statement.{Statement}
use Rattle.script_syntax.specs.declared.tree.Statement as statements
use Rattle.script_syntax.specs.declared.tree.Block.{Block}
use Rattle.script_check.specs.Branches.{other_of, branch}
use Rattle.script_check.specs.Trees.{expr_of, row_exprs, exprs_of, block_of, statement_of as checked_statement, statements_of as checked_statements, row_statements as checked_row}
use Rattle.script_check.specs.declared.tree.CheckedBlock.{CheckedBlock}
use Rattle.script_check.specs.declared.tree.CheckedStatement.{CheckedStatement}
use Rattle.script_check.specs.declared.tree.CheckedStatement as done
use Rattle.script_check.specs.declared.tree.CheckedExpr.{CheckedExpr}
use Rattle.script_check.specs.declared.tree.CheckedExpr as checked

row_trees-items : {n : _} (row : kinds.Row_of-Expr n) → row_trees row ≡ trees_of (kinds.items-the_row-Expr n row)
row_trees-items kinds.end_of-Expr = refl
row_trees-items (kinds.more_of-Expr a s rest) = ap (λ ts. also (kind_tree a) ts) (row_trees-items rest)

in_vec : (v : Vec Expr Global) → row_trees (kinds.TheBlock.hidden-the_row-Expr-0 v) ≡ trees_of v.items
in_vec v = row_trees-items (kinds.TheBlock.hidden-the_row-Expr-0 v) ∙ ap trees_of (kinds.items_hidden-the_row-Expr-0 v)

pub list_is : (e : Expr) (v : Vec Expr Global) (xs : List Expr) → e.kind ≡ kinds.List v → xs ≡ v.items → tree_of e ≡ ListOf (trees_of xs)
list_is e v xs is value = ap kind_tree is ∙ ap ListOf (in_vec v ∙ ap trees_of (sym value))

pub call_is : (e : Expr) (g : Name) (v : Vec Expr Global) (xs : List Expr) → e.kind ≡ kinds.Call g v → xs ≡ v.items → tree_of e ≡ Call (string_bytes g.text) (trees_of xs)
call_is e g v xs is value = ap kind_tree is ∙ ap (Call (string_bytes g.text)) (in_vec v ∙ ap trees_of (sym value))

pub remote_is : (e : Expr) (r : Option Retries) (g : Name) (v : Vec Expr Global) (xs : List Expr) → e.kind ≡ kinds.Remote r g v → xs ≡ v.items → tree_of e ≡ Remote (retries_of r) (string_bytes g.text) (trees_of xs)
remote_is e r g v xs is value = ap kind_tree is ∙ ap (Remote (retries_of r) (string_bytes g.text)) (in_vec v ∙ ap trees_of (sym value))

-- the same of the checked trees
row_exprs-items : {n : _} (row : checked.Row_of-CheckedExpr n) → row_exprs row ≡ exprs_of (checked.items-the_row-CheckedExpr n row)
row_exprs-items checked.end_of-CheckedExpr = refl
row_exprs-items (checked.more_of-CheckedExpr e rest) = ap (λ es. syntax.also (expr_of e) es) (row_exprs-items rest)

exprs_in : (v : Vec CheckedExpr Global) → row_exprs (checked.TheBlock.hidden-the_row-CheckedExpr-0 v) ≡ exprs_of v.items
exprs_in v = row_exprs-items (checked.TheBlock.hidden-the_row-CheckedExpr-0 v) ∙ ap exprs_of (checked.items_hidden-the_row-CheckedExpr-0 v)

pub list_expr : (v : Vec CheckedExpr Global) → expr_of (checked.List v) ≡ syntax.ListOf (exprs_of v.items)
list_expr v = ap syntax.ListOf (exprs_in v)

pub call_expr : (g : String Global) (v : Vec CheckedExpr Global) → expr_of (checked.Call g v) ≡ syntax.Call (string_bytes g) (exprs_of v.items)
call_expr g v = ap (syntax.Call (string_bytes g)) (exprs_in v)

pub remote_expr : (k : ℕ) (g : String Global) (ms : _) (v : Vec CheckedExpr Global) → expr_of (checked.Remote k g ms v) ≡ syntax.Remote k (string_bytes g) ms.items (exprs_of v.items)
remote_expr k g ms v = ap (syntax.Remote k (string_bytes g) ms.items) (exprs_in v)

-- statements
row_statements-items : {n : _} (row : statements.Row_of-Statement n) → row_statements row ≡ statements_of (statements.items-the_row-Statement n row)
row_statements-items statements.end_of-Statement = refl
row_statements-items (statements.more_of-Statement s rest) = ap (λ ss. parsed.stmt (statement_of s) ss) (row_statements-items rest)

in_block : (v : Vec Statement Global) → row_statements (statements.TheBlock.hidden-the_row-Statement-0 v) ≡ statements_of v.items
in_block v = row_statements-items (statements.TheBlock.hidden-the_row-Statement-0 v) ∙ ap statements_of (statements.items_hidden-the_row-Statement-0 v)

if_branch : (e : Expr) (a : Block) (o : Option Block) → statement_of (statements.If e a o) ≡ branch (tree_of e) (statements_of a.statements.items) (other_of o)
if_branch e a None = ap (λ x. parsed.If (tree_of e) x) (in_block a.statements)
if_branch e a (Some b) = ap (λ x. parsed.IfElse (tree_of e) x (row_statements (statements.TheBlock.hidden-the_row-Statement-0 b.statements))) (in_block a.statements) ∙ ap (λ x. parsed.IfElse (tree_of e) (statements_of a.statements.items) x) (in_block b.statements)

pub if_is : (s : Statement) (e : Expr) (a : Block) (o : Option Block) → s ≡ statements.If e a o → statement_of s ≡ branch (tree_of e) (statements_of a.statements.items) (other_of o)
if_is s e a o is = ap statement_of is ∙ if_branch e a o

pub for_is : (s : Statement) (x : Name) (from to : Expr) (body : Block) (ss : List Statement) → s ≡ statements.For x from to body → ss ≡ body.statements.items → statement_of s ≡ parsed.For (string_bytes x.text) (tree_of from) (tree_of to) (statements_of ss)
for_is s x from to body ss is value = ap statement_of is ∙ ap (parsed.For (string_bytes x.text) (tree_of from) (tree_of to)) (in_block body.statements ∙ ap statements_of (sym value))

-- checked statements
row_checked-items : {n : _} (row : done.Row_of-CheckedStatement n) → checked_row row ≡ checked_statements (done.items-the_row-CheckedStatement n row)
row_checked-items done.end_of-CheckedStatement = refl
row_checked-items (done.more_of-CheckedStatement s rest) = ap (λ b. syntax.step (checked_statement s) b) (row_checked-items rest)

in_checked : (v : Vec CheckedStatement Global) → checked_row (done.TheBlock.hidden-the_row-CheckedStatement-0 v) ≡ checked_statements v.items
in_checked v = row_checked-items (done.TheBlock.hidden-the_row-CheckedStatement-0 v) ∙ ap checked_statements (done.items_hidden-the_row-CheckedStatement-0 v)

pub if_checked : (e : CheckedExpr) (a b : CheckedBlock) → checked_statement (done.If e a b) ≡ syntax.If (expr_of e) (block_of a) (block_of b)
if_checked e a b = ap (λ x. syntax.If (expr_of e) x (checked_row (done.TheBlock.hidden-the_row-CheckedStatement-0 b.statements))) (in_checked a.statements) ∙ ap (λ x. syntax.If (expr_of e) (block_of a) x) (in_checked b.statements)

pub for_checked : (x : String Global) (c d : CheckedExpr) (b : CheckedBlock) → checked_statement (done.For x c d b) ≡ syntax.For (string_bytes x) (expr_of c) (expr_of d) (block_of b)
for_checked x c d b = ap (syntax.For (string_bytes x) (expr_of c) (expr_of d)) (in_checked b.statements)
