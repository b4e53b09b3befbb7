-- The places of a row are those of the vector's items.
use Rattle.std.proofs.Common.{◌≡◌, ◌++◌, ◌∷◌, [], List, Option, Some, None, Result, Ok, Err, OnOk, refl, sym, ap, ◌∙◌, append_assoc, append-nil}
use Rattle.std.specs.declared.vec.Vec.{Vec}
use Rattle.std.specs.declared.alloc.Global.{Global}
use Rattle.script_tokens.specs.declared.token.Span.{Span}
use Rattle.script_syntax.specs.declared.tree.Expr.{Expr}
use Rattle.script_syntax.specs.declared.tree.Name.{Name}
use Rattle.script_syntax.specs.declared.tree.Retries.{Retries}
use Rattle.script_syntax.specs.declared.tree.ExprKind as kinds
use Rattle.script_syntax.specs.declared.tree.Statement.{Statement}
use Rattle.script_syntax.specs.declared.tree.Statement as statements
use Rattle.script_syntax.specs.declared.tree.Block.{Block}
use Rattle.code_places.specs.Places.{parts_places, row_places, exprs_places, operand_places, expr_places, over}
use Rattle.code_places.specs.Places.{statement_places, block_places, statements_places, other_places, enclosed_places}

row_items : {n : _} (row : kinds.Row_of-Expr n) → row_places row ≡ exprs_places (kinds.items-the_row-Expr n row)
row_items kinds.end_of-Expr = refl
row_items (kinds.more_of-Expr a s rest) = ap (λ (ss : List Span). (parts_places a ++ s ∷ []) ++ ss) (row_items rest)

in_vec : (v : Vec Expr Global) → row_places (kinds.TheBlock.hidden-the_row-Expr-0 v) ≡ exprs_places v.items
in_vec v = row_items (kinds.TheBlock.hidden-the_row-Expr-0 v) ∙ ap exprs_places (kinds.items_hidden-the_row-Expr-0 v)

pub list_is : (k : kinds.ExprKind) (v : Vec Expr Global) (xs : List Expr) → k ≡ kinds.List v → xs ≡ v.items → parts_places k ≡ exprs_places xs
list_is k v xs is value = ap parts_places is ∙ in_vec v ∙ ap exprs_places (sym value)

pub call_is : (k : kinds.ExprKind) (g : Name) (v : Vec Expr Global) (xs : List Expr) → k ≡ kinds.Call g v → xs ≡ v.items → parts_places k ≡ exprs_places xs
call_is k g v xs is value = ap parts_places is ∙ in_vec v ∙ ap exprs_places (sym value)

pub remote_is : (k : kinds.ExprKind) (r : Option Retries) (g : Name) (v : Vec Expr Global) (xs : List Expr) → k ≡ kinds.Remote r g v → xs ≡ v.items
    → parts_places k ≡ exprs_places xs
remote_is k r g v xs is value = ap parts_places is ∙ in_vec v ∙ ap exprs_places (sym value)

block_items : {n : _} (row : statements.Row_of-Statement n) → block_places row ≡ statements_places (statements.items-the_row-Statement n row)
block_items statements.end_of-Statement = refl
block_items (statements.more_of-Statement s rest) = ap (λ (ss : List Span). statement_places s ++ ss) (block_items rest)

in_block : (v : Vec Statement Global) → block_places (statements.TheBlock.hidden-the_row-Statement-0 v) ≡ statements_places v.items
in_block v = block_items (statements.TheBlock.hidden-the_row-Statement-0 v) ∙ ap statements_places (statements.items_hidden-the_row-Statement-0 v)

if_branch : (e : Expr) (a : Block) (o : Option Block)
    → statement_places (statements.If e a o) ≡ operand_places e ++ (enclosed_places e.span (statements_places a.statements.items) ++ other_places o)
if_branch e a None = ap (λ (ss : List Span). operand_places e ++ (enclosed_places e.span ss ++ [])) (in_block a.statements)
if_branch e a (Some b) =
    ap (λ (ss : List Span). operand_places e ++ (enclosed_places e.span ss ++ block_places (statements.TheBlock.hidden-the_row-Statement-0 b.statements)))
    (in_block a.statements)
    ∙ ap (λ (ss : List Span). operand_places e ++ (enclosed_places e.span (statements_places a.statements.items) ++ ss)) (in_block b.statements)

-- what comes of a call that ends well
pub on_ok : {A B : Type 0} (P Q : Type 0) (r : Result A B) → (P → Q) → OnOk r P → OnOk r Q
on_ok P Q (Ok a) f p = f p
on_ok P Q (Err b) f p = p

-- some places, and then others
joined : (before now after : List Span) (a b : List Span) → now ≡ before ++ a → after ≡ now ++ b → after ≡ before ++ (a ++ b)
joined before now after a b e1 e2 = e2 ∙ ap (λ (l : List Span). l ++ b) e1 ∙ append_assoc before a b

-- an if with no else
pub if_alone : (s : Statement) (e : Expr) (a : Block) (o : Option Block) (taken : List Statement) (p0 p1 p2 : List Span) → s ≡ statements.If e a o → o ≡ None
    → taken ≡ a.statements.items → p1 ≡ p0 ++ operand_places e → p2 ≡ p1 ++ enclosed_places e.span (statements_places taken) → p2 ≡ p0 ++ statement_places s
if_alone s e a o taken p0 p1 p2 is none value e1 e2 =
    joined p0 p1 p2 (operand_places e) (enclosed_places e.span (statements_places taken)) e1 e2
    ∙ ap (λ (ss : List Statement). p0 ++ (operand_places e ++ enclosed_places e.span (statements_places ss))) value
    ∙ ap (λ (l : List Span). p0 ++ (operand_places e ++ l)) (sym (append-nil (enclosed_places e.span (statements_places a.statements.items))))
    ∙ ap (λ (l : List Span). p0 ++ l) (sym (ap statement_places (is ∙ ap (statements.If e a) none) ∙ if_branch e a None))

-- an if with an else
pub if_else : (s : Statement) (e : Expr) (a b : Block) (o : Option Block) (taken bs : List Statement) (p0 p1 p2 p3 : List Span) → s ≡ statements.If e a o
    → o ≡ Some b → taken ≡ a.statements.items → bs ≡ b.statements.items → p1 ≡ p0 ++ operand_places e
    → p2 ≡ p1 ++ enclosed_places e.span (statements_places taken) → p3 ≡ p2 ++ statements_places bs → p3 ≡ p0 ++ statement_places s
if_else s e a b o taken bs p0 p1 p2 p3 is some first second e1 e2 e3 =
    joined p0 p1 p3 (operand_places e) (enclosed_places e.span (statements_places taken) ++ statements_places bs) e1
    (joined p1 p2 p3 (enclosed_places e.span (statements_places taken)) (statements_places bs) e2 e3)
    ∙ ap (λ (ss : List Statement). p0 ++ (operand_places e ++ (enclosed_places e.span (statements_places ss) ++ statements_places bs))) first
    ∙ ap (λ (ss : List Statement). p0 ++ (operand_places e ++ (enclosed_places e.span (statements_places a.statements.items) ++ statements_places ss))) second
    ∙ ap (λ (l : List Span). p0 ++ l) (sym (ap statement_places (is ∙ ap (statements.If e a) some) ∙ if_branch e a (Some b)))

for_is : (s : Statement) (x : Name) (from to : Expr) (body : Block) (ss : List Statement) → s ≡ statements.For x from to body → ss ≡ body.statements.items
    → statement_places s ≡ expr_places from ++ (expr_places to ++ enclosed_places (over from.span to.span) (statements_places ss))
for_is s x from to body ss is value =
    ap statement_places is
    ∙ ap (λ (ps : List Span). expr_places from ++ (expr_places to ++ enclosed_places (over from.span to.span) ps))
    (in_block body.statements ∙ ap statements_places (sym value))

pub for_each : (s : Statement) (x : Name) (from to : Expr) (body : Block) (ss : List Statement) (at : Span) (p0 p1 p2 p3 : List Span)
    → s ≡ statements.For x from to body → ss ≡ body.statements.items → at ≡ over from.span to.span → p1 ≡ p0 ++ expr_places from
    → p2 ≡ p1 ++ expr_places to → p3 ≡ p2 ++ enclosed_places at (statements_places ss) → p3 ≡ p0 ++ statement_places s
for_each s x from to body ss at p0 p1 p2 p3 is value place e1 e2 e3 =
    joined p0 p1 p3 (expr_places from) (expr_places to ++ enclosed_places at (statements_places ss)) e1
    (joined p1 p2 p3 (expr_places to) (enclosed_places at (statements_places ss)) e2 e3)
    ∙ ap (λ (t : Span). p0 ++ (expr_places from ++ (expr_places to ++ enclosed_places t (statements_places ss)))) place
    ∙ ap (λ (l : List Span). p0 ++ l) (sym (for_is s x from to body ss is value))
