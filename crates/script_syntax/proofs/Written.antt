-- What is written for a tree, by its parts.
use Rattle.std.proofs.Common.{◌≡◌, List, ◌∷◌, refl, sym, ap, ◌∙◌, if◌then◌else◌, Bool, true, false, Option, Some, None}
use Rattle.std.specs.declared.vec.Vec.{Vec}
use Rattle.std.specs.declared.alloc.Global.{Global}
use Rattle.std.specs.String.{string_bytes}
use Rattle.script_tokens.specs.declared.token.Mark.TheVariants as marks
use Rattle.script_tokens.specs.Tokens.{Token, mark, name}
use Rattle.script_tokens.specs.declared.token.Mark.{Mark}
use Rattle.script_syntax.specs.declared.tree.BinaryOperator.{BinaryOperator}
use Rattle.script_syntax.specs.declared.tree.BinaryOperator.TheVariants as operators
use Rattle.script_syntax.specs.declared.writer.Word.{Word}
use Rattle.script_syntax.specs.declared.tree.Statement.{Statement}
use Rattle.script_syntax.specs.declared.tree.Statement as statements
use Rattle.script_syntax.specs.declared.tree.Block.{Block}
use Rattle.script_syntax.specs.declared.tree.Expr.{Expr}
use Rattle.script_syntax.specs.declared.tree.Name.{Name as CodeName}
use Rattle.script_syntax.specs.declared.tree.Retries.{Retries}
use Rattle.script_syntax.specs.declared.tree.ExprKind as kinds
use Rattle.script_syntax.specs.Trees.{Stmt, Expr as ATree, Exprs, no_expr, also}
use Rattle.script_syntax.specs.Grammar.{statement_before, block_before}
use Rattle.script_syntax.specs.Views.{statement_of, statements_of, tree_of, trees_of, kind_tree, retries_of}
use Rattle.script_syntax.specs.Printing.{expression_of, written_statement, written_statements, Written, as_postfix, as_unary, as_product, as_sum, as_expression, more_addends, plus, more_factors, times, more_indexes, item_at, binary, written, written_list, written_arguments}
use Rattle.script_syntax.specs.Operators.{Additive, adds, subtracts, Multiplicative, multiplies, divides, leaves, additive_mark, multiplicative_mark}
use Rattle.script_syntax.specs.Expressions.{Expression, Sum, SumOf, Addends, no_addend, addend, Product, ProductOf, Factors, no_factor, factor, Unary, Postfix, PostfixOf, Indexes, no_index, index, expression_before, sum_before, addends_before, product_before, factors_before, unary_before, postfix_before, indexes_before, primary_before, retries_before, arguments_before}
use Rattle.script_syntax.specs.Writing.{left_word, right_word, operator_mark, bare_before, wanted_before, has_items}
use Rattle.script_syntax.proofs.Rows.{if_alone_tree, if_else_tree, for_each_tree, call_tree, remote_tree, list_tree}

addends_last : (others : Addends) (op : Additive) (a : Product) (rest : List Token) → addends_before (more_addends others op a) rest ≡ addends_before others (mark (additive_mark op) ∷ product_before a rest)
addends_last no_addend op a rest = refl
addends_last (addend o b others) op a rest = ap (λ (x : List Token). mark (additive_mark o) ∷ product_before b x) (addends_last others op a rest)

plus_before : (s : Sum) (op : Additive) (a : Product) (rest : List Token) → sum_before (plus s op a) rest ≡ sum_before s (mark (additive_mark op) ∷ product_before a rest)
plus_before (SumOf first others) op a rest = ap (product_before first) (addends_last others op a rest)

factors_last : (others : Factors) (op : Multiplicative) (a : Unary) (rest : List Token) → factors_before (more_factors others op a) rest ≡ factors_before others (mark (multiplicative_mark op) ∷ unary_before a rest)
factors_last no_factor op a rest = refl
factors_last (factor o b others) op a rest = ap (λ (x : List Token). mark (multiplicative_mark o) ∷ unary_before b x) (factors_last others op a rest)

times_before : (s : Product) (op : Multiplicative) (a : Unary) (rest : List Token) → product_before (times s op a) rest ≡ product_before s (mark (multiplicative_mark op) ∷ unary_before a rest)
times_before (ProductOf first others) op a rest = ap (unary_before first) (factors_last others op a rest)

indexes_last : (others : Indexes) (e : Expression) (rest : List Token) → indexes_before (more_indexes others e) rest ≡ indexes_before others (mark marks.OpenBracket ∷ expression_before e (mark marks.CloseBracket ∷ rest))
indexes_last no_index e rest = refl
indexes_last (index i others) e rest = ap (λ (x : List Token). mark marks.OpenBracket ∷ expression_before i (mark marks.CloseBracket ∷ x)) (indexes_last others e rest)

pub item_before : (s : Postfix) (e : Expression) (rest : List Token) → postfix_before (item_at s e) rest ≡ postfix_before s (mark marks.OpenBracket ∷ expression_before e (mark marks.CloseBracket ∷ rest))
item_before (PostfixOf first others) e rest = ap (primary_before first) (indexes_last others e rest)

-- an operator between its operands
pub binary_before : (op : BinaryOperator) (a b : Written) (rest : List Token) → bare_before (binary op a b) rest ≡ wanted_before (left_word op) a (mark (operator_mark op) ∷ wanted_before (right_word op) b rest)
binary_before operators.Add a b rest = plus_before (as_sum a) adds (as_product b) rest
binary_before operators.Sub a b rest = plus_before (as_sum a) subtracts (as_product b) rest
binary_before operators.Mul a b rest = times_before (as_product a) multiplies (as_unary b) rest
binary_before operators.Div a b rest = times_before (as_product a) divides (as_unary b) rest
binary_before operators.Rem a b rest = times_before (as_product a) leaves (as_unary b) rest
binary_before operators.Equal a b rest = refl
binary_before operators.NotEqual a b rest = refl
binary_before operators.Less a b rest = refl
binary_before operators.LessEqual a b rest = refl

-- ---- the same, of the code's trees

pub binary_written : (k : kinds.ExprKind) (op : BinaryOperator) (p q : _) (x y : Expr) (l r : Word) (m : Mark) (rest : List Token) → k ≡ kinds.Binary op p q → x ≡ p.value → y ≡ q.value
    → l ≡ left_word op → m ≡ operator_mark op → r ≡ right_word op
    → wanted_before l (written (tree_of x)) (mark m ∷ wanted_before r (written (tree_of y)) rest) ≡ bare_before (written (kind_tree k)) rest
binary_written k op p q x y l r m rest is ex ey el em er = rw (is, ex, ey, el, em, er) (sym (binary_before op (written (tree_of p.value)) (written (tree_of q.value)) rest))

pub index_written : (k : kinds.ExprKind) (p q : _) (x y : Expr) (rest : List Token) → k ≡ kinds.Index p q → x ≡ p.value → y ≡ q.value
    → postfix_before (as_postfix (written (tree_of x))) (mark marks.OpenBracket ∷ expression_before (as_expression (written (tree_of y))) (mark marks.CloseBracket ∷ rest)) ≡ bare_before (written (kind_tree k)) rest
index_written k p q x y rest is ex ey = rw (is, ex, ey) (sym (item_before (as_postfix (written (tree_of p.value))) (as_expression (written (tree_of q.value))) rest))

list_before : (es : Exprs) (rest : List Token) → primary_before (written_list es) rest
    ≡ (if has_items es then mark marks.OpenBracket ∷ arguments_before (written_arguments es) (mark marks.CloseBracket ∷ rest) else mark marks.Empty ∷ mark marks.Int ∷ rest)
list_before no_expr rest = refl
list_before (also e es) rest = refl

pub list_written : (k : kinds.ExprKind) (v : Vec Expr Global) (es : List Expr) (rest : List Token) → k ≡ kinds.List v → es ≡ v.items → has_items (trees_of es) ≡ true
    → mark marks.OpenBracket ∷ arguments_before (written_arguments (trees_of es)) (mark marks.CloseBracket ∷ rest) ≡ bare_before (written (kind_tree k)) rest
list_written k v es rest is e h =
    sym (list_before (trees_of es) rest ∙ ap (λ (b : Bool). if b then mark marks.OpenBracket ∷ arguments_before (written_arguments (trees_of es)) (mark marks.CloseBracket ∷ rest) else mark marks.Empty ∷ mark marks.Int ∷ rest) h)
    ∙ ap (λ (xs : List Expr). primary_before (written_list (trees_of xs)) rest) e
    ∙ ap (λ (x : ATree). bare_before (written x) rest) (sym (ap kind_tree is ∙ list_tree v))

pub no_list_written : (k : kinds.ExprKind) (v : Vec Expr Global) (es : List Expr) (rest : List Token) → k ≡ kinds.List v → es ≡ v.items → has_items (trees_of es) ≡ false
    → mark marks.Empty ∷ mark marks.Int ∷ rest ≡ bare_before (written (kind_tree k)) rest
no_list_written k v es rest is e h =
    sym (list_before (trees_of es) rest ∙ ap (λ (b : Bool). if b then mark marks.OpenBracket ∷ arguments_before (written_arguments (trees_of es)) (mark marks.CloseBracket ∷ rest) else mark marks.Empty ∷ mark marks.Int ∷ rest) h)
    ∙ ap (λ (xs : List Expr). primary_before (written_list (trees_of xs)) rest) e
    ∙ ap (λ (x : ATree). bare_before (written x) rest) (sym (ap kind_tree is ∙ list_tree v))

pub call_written : (k : kinds.ExprKind) (g : CodeName) (v : Vec Expr Global) (es : List Expr) (rest : List Token) → k ≡ kinds.Call g v → es ≡ v.items
    → name (string_bytes g.text) ∷ mark marks.OpenParenthesis ∷ arguments_before (written_arguments (trees_of es)) (mark marks.CloseParenthesis ∷ rest) ≡ bare_before (written (kind_tree k)) rest
call_written k g v es rest is e =
    ap (λ (xs : List Expr). name (string_bytes g.text) ∷ mark marks.OpenParenthesis ∷ arguments_before (written_arguments (trees_of xs)) (mark marks.CloseParenthesis ∷ rest)) e
    ∙ ap (λ (x : ATree). bare_before (written x) rest) (sym (ap kind_tree is ∙ call_tree g v))

pub remote_written : (k : kinds.ExprKind) (r : Option Retries) (g : CodeName) (v : Vec Expr Global) (es : List Expr) (rest : List Token) → k ≡ kinds.Remote r g v → es ≡ v.items
    → mark marks.Remote ∷ retries_before (retries_of r) (name (string_bytes g.text) ∷ mark marks.OpenParenthesis ∷ arguments_before (written_arguments (trees_of es)) (mark marks.CloseParenthesis ∷ rest)) ≡ bare_before (written (kind_tree k)) rest
remote_written k r g v es rest is e =
    ap (λ (xs : List Expr). mark marks.Remote ∷ retries_before (retries_of r) (name (string_bytes g.text) ∷ mark marks.OpenParenthesis ∷ arguments_before (written_arguments (trees_of xs)) (mark marks.CloseParenthesis ∷ rest))) e
    ∙ ap (λ (x : ATree). bare_before (written x) rest) (sym (ap kind_tree is ∙ remote_tree r g v))

-- ---- statements

pub if_written : (s : Statement) (e : Expr) (a : Block) (o : Option Block) (rest : List Token) → s ≡ statements.If e a o → o ≡ None
    → mark marks.If ∷ expression_before (expression_of (tree_of e)) (block_before (written_statements (statements_of a.statements.items)) rest) ≡ statement_before (written_statement (statement_of s)) rest
if_written s e a o rest is none =
    ap (λ (x : Stmt). statement_before (written_statement x) rest) (sym (ap statement_of (is ∙ ap (statements.If e a) none) ∙ if_alone_tree e a))

pub if_else_written : (s : Statement) (e : Expr) (a b : Block) (o : Option Block) (rest : List Token) → s ≡ statements.If e a o → o ≡ Some b
    → mark marks.If ∷ expression_before (expression_of (tree_of e)) (block_before (written_statements (statements_of a.statements.items)) (mark marks.Else ∷ block_before (written_statements (statements_of b.statements.items)) rest)) ≡ statement_before (written_statement (statement_of s)) rest
if_else_written s e a b o rest is some =
    ap (λ (x : Stmt). statement_before (written_statement x) rest) (sym (ap statement_of (is ∙ ap (statements.If e a) some) ∙ if_else_tree e a b))

pub for_written : (s : Statement) (x : CodeName) (first last : Expr) (body : Block) (rest : List Token) → s ≡ statements.For x first last body
    → mark marks.For ∷ name (string_bytes x.text) ∷ mark marks.In ∷ expression_before (expression_of (tree_of first)) (mark marks.Range ∷ expression_before (expression_of (tree_of last)) (block_before (written_statements (statements_of body.statements.items)) rest)) ≡ statement_before (written_statement (statement_of s)) rest
for_written s x first last body rest is =
    ap (λ (y : Stmt). statement_before (written_statement y) rest) (sym (ap statement_of is ∙ for_each_tree x first last body))
