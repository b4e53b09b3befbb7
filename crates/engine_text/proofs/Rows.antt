-- The texts of what stands in vectors and blocks.
use Rattle.std.proofs.Common.{◌≡◌, ℕ, ◌≤◌, List, [], ◌∷◌, ◌++◌, length, if◌then◌else◌, Result, Ok, Err, is_ok, OnOk, refl, sym, ap, ◌∙◌, append_assoc, arith}
use Rattle.std.specs.Prelude.{codes, string_bytes}
use Rattle.std.specs.declared.vec.Vec.{Vec}
use Rattle.std.specs.declared.string.String.{String}
use Rattle.std.specs.declared.alloc.Global.{Global}
use Rattle.script_check.specs.Trees.{expr_of, exprs_of, statement_of, statements_of, block_of}
use Rattle.script_check.specs.declared.tree.CheckedExpr.{CheckedExpr, List as AList, Call, Remote}
use Rattle.script_check.specs.declared.tree.CheckedBlock.{CheckedBlock}
use Rattle.script_check.specs.declared.tree.CheckedStatement.{CheckedStatement}
use Rattle.script_check.specs.declared.tree.CheckedStatement as checked
use Rattle.script_check.proofs.Rows.{list_expr, call_expr, remote_expr, if_checked, for_checked}
use Rattle.engine_text.specs.Expressions.{expression_text, list_text, call_head, arguments_text, remote_head, marked_text}
use Rattle.engine_text.specs.Statements.{deeper, word_text, loop_head, statement_text, lines_text, block_text, else_text}

-- what comes of a call that ends well
pub on_ok : {A B : Type 0} (P Q : Type 0) (r : Result A B) → (P → Q) → OnOk r P → OnOk r Q
on_ok P Q (Ok a) f p = f p
on_ok P Q (Err b) f p = p

-- a piece that is pushed, unless its text has no room
pub pushed : {A B : Type 0} (r : Result A B) (before piece new : List ℕ) → new ≡ (if is_ok r then before ++ piece else before) → OnOk r (new ≡ before ++ piece)
pushed (Ok a) before piece new e = e
pushed (Err b) before piece new e = tt

-- two pieces, one after the other
two : (base a b mid new : List ℕ) → mid ≡ base ++ a → new ≡ mid ++ b → new ≡ base ++ (a ++ b)
two base a b mid new first second = second ∙ ap (λ m. m ++ b) first ∙ append_assoc base a b

-- and three
pub three : (base a b c c1 c2 new : List ℕ) → c1 ≡ base ++ a → c2 ≡ c1 ++ b → new ≡ c2 ++ c → new ≡ base ++ (a ++ (b ++ c))
three base a b c c1 c2 new e1 e2 e3 = two base a (b ++ c) c1 new e1 (two c1 b c c2 new e2 e3)

-- six, of which the second is two
pub six : (base a b1 b2 c d e f c1 c2 c3 c4 c5 new : List ℕ) → c1 ≡ base ++ a → c2 ≡ c1 ++ (b1 ++ b2) → c3 ≡ c2 ++ c → c4 ≡ c3 ++ d → c5 ≡ c4 ++ e →
    new ≡ c5 ++ f → new ≡ base ++ (a ++ (b1 ++ (b2 ++ (c ++ (d ++ (e ++ f))))))
six base a b1 b2 c d e f c1 c2 c3 c4 c5 new e1 e2 e3 e4 e5 e6 =
    two base a ((b1 ++ b2) ++ (c ++ (d ++ (e ++ f)))) c1 new e1
    (three c1 (b1 ++ b2) c (d ++ (e ++ f)) c2 c3 new e2 e3 (three c3 d e f c4 c5 new e4 e5 e6))
    ∙ ap (λ t. base ++ (a ++ t)) (append_assoc b1 b2 (c ++ (d ++ (e ++ f))))

-- a whole text of four
pub whole : (start calls a b c d c1 c2 c3 new : List ℕ) → start ≡ [] → calls ≡ a → c1 ≡ start ++ calls → c2 ≡ c1 ++ b → c3 ≡ c2 ++ c → new ≡ c3 ++ d →
    new ≡ a ++ (b ++ (c ++ d))
whole start calls a b c d c1 c2 c3 new empty is e1 e2 e3 e4 =
    two start calls (b ++ (c ++ d)) c1 new e1 (three c1 b c d c2 c3 new e2 e3 e4)
    ∙ ap (λ t. t ++ (calls ++ (b ++ (c ++ d)))) empty ∙ ap (λ t. t ++ (b ++ (c ++ d))) is

-- ---- expressions

pub list_written : (e : CheckedExpr) (v : Vec CheckedExpr Global) (es : List CheckedExpr) (base new : List ℕ) → e ≡ AList v → es ≡ v.items →
    new ≡ base ++ list_text (exprs_of es) → new ≡ base ++ expression_text (expr_of e)
list_written e v es base new is value h =
    h ∙ ap (λ xs. base ++ list_text (exprs_of xs)) value ∙ ap (λ x. base ++ expression_text x) (sym (list_expr v))
    ∙ ap (λ x. base ++ expression_text (expr_of x)) (sym is)

pub call_written : (e : CheckedExpr) (g : String Global) (v : Vec CheckedExpr Global) (es : List CheckedExpr) (base mid new : List ℕ) →
    e ≡ Call g v → es ≡ v.items → mid ≡ base ++ call_head (string_bytes g) → new ≡ mid ++ arguments_text (exprs_of es) →
    new ≡ base ++ expression_text (expr_of e)
call_written e g v es base mid new is value first second =
    two base (call_head (string_bytes g)) (arguments_text (exprs_of es)) mid new first second
    ∙ ap (λ xs. base ++ (call_head (string_bytes g) ++ arguments_text (exprs_of xs))) value
    ∙ ap (λ x. base ++ expression_text x) (sym (call_expr g v)) ∙ ap (λ x. base ++ expression_text (expr_of x)) (sym is)

pub remote_written : (e : CheckedExpr) (k : ℕ) (g : String Global) (ms : _) (v : Vec CheckedExpr Global) (es : List CheckedExpr) (marks : _)
    (base mid new : List ℕ) → e ≡ Remote k g ms v → marks ≡ ms.items → es ≡ v.items → mid ≡ base ++ remote_head k (string_bytes g) →
    new ≡ mid ++ marked_text marks (exprs_of es) → new ≡ base ++ expression_text (expr_of e)
remote_written e k g ms v es marks base mid new is marked value first second =
    two base (remote_head k (string_bytes g)) (marked_text marks (exprs_of es)) mid new first second
    ∙ ap (λ m. base ++ (remote_head k (string_bytes g) ++ marked_text m (exprs_of es))) marked
    ∙ ap (λ xs. base ++ (remote_head k (string_bytes g) ++ marked_text ms.items (exprs_of xs))) value
    ∙ ap (λ x. base ++ expression_text x) (sym (remote_expr k g ms v)) ∙ ap (λ x. base ++ expression_text (expr_of x)) (sym is)

-- ---- statements

pub block_is : (margin : List ℕ) (ss : List CheckedStatement) → 1 ≤ length ss → block_text margin (statements_of ss) ≡ lines_text (deeper margin) (statements_of ss)
block_is margin [] some = absurd (omega arith)
block_is margin (s ∷ ss) some = refl

else_is : (margin : List ℕ) (ss : List CheckedStatement) → 1 ≤ length ss →
    else_text margin (statements_of ss) ≡ margin ++ (codes "else:\n" ++ block_text margin (statements_of ss))
else_is margin [] some = absurd (omega arith)
else_is margin (s ∷ ss) some = refl

pub else_written : (margin : List ℕ) (ss : List CheckedStatement) (base c1 c2 new : List ℕ) → 1 ≤ length ss → c1 ≡ base ++ margin →
    c2 ≡ c1 ++ codes "else:\n" → new ≡ c2 ++ block_text margin (statements_of ss) → new ≡ base ++ else_text margin (statements_of ss)
else_written margin ss base c1 c2 new some e1 e2 e3 =
    two base margin (codes "else:\n" ++ block_text margin (statements_of ss)) c1 new e1
    (two c1 (codes "else:\n") (block_text margin (statements_of ss)) c2 new e2 e3)
    ∙ ap (λ t. base ++ t) (sym (else_is margin ss some))

pub choice_written : (s : CheckedStatement) (e : CheckedExpr) (a b : CheckedBlock) (fs gs : List CheckedStatement) (margin base c1 c2 new : List ℕ) →
    s ≡ checked.If e a b → fs ≡ a.statements.items → gs ≡ b.statements.items → c1 ≡ base ++ word_text margin (codes "if ") (expr_of e) (codes ":\n") →
    c2 ≡ c1 ++ block_text margin (statements_of fs) → new ≡ c2 ++ else_text margin (statements_of gs) → new ≡ base ++ statement_text margin (statement_of s)
choice_written s e a b fs gs margin base c1 c2 new is f g e1 e2 e3 =
    two base head (block_text margin (statements_of fs) ++ else_text margin (statements_of gs)) c1 new e1
    (two c1 (block_text margin (statements_of fs)) (else_text margin (statements_of gs)) c2 new e2 e3)
    ∙ ap (λ ss. base ++ (head ++ (block_text margin (statements_of ss) ++ else_text margin (statements_of gs)))) f
    ∙ ap (λ ss. base ++ (head ++ (block_text margin (block_of a) ++ else_text margin (statements_of ss)))) g
    ∙ ap (λ x. base ++ statement_text margin x) (sym (if_checked e a b))
    ∙ ap (λ x. base ++ statement_text margin (statement_of x)) (sym is)
  where
    head : List ℕ
    head = word_text margin (codes "if ") (expr_of e) (codes ":\n")

pub loop_written : (s : CheckedStatement) (x : String Global) (from to : CheckedExpr) (b : CheckedBlock) (ss : List CheckedStatement)
    (margin base c1 new : List ℕ) → s ≡ checked.For x from to b → ss ≡ b.statements.items →
    c1 ≡ base ++ loop_head margin (string_bytes x) (expr_of from) (expr_of to) → new ≡ c1 ++ block_text margin (statements_of ss) →
    new ≡ base ++ statement_text margin (statement_of s)
loop_written s x from to b ss margin base c1 new is value e1 e2 =
    two base head (block_text margin (statements_of ss)) c1 new e1 e2
    ∙ ap (λ zs. base ++ (head ++ block_text margin (statements_of zs))) value
    ∙ ap (λ y. base ++ statement_text margin y) (sym (for_checked x from to b))
    ∙ ap (λ y. base ++ statement_text margin (statement_of y)) (sym is)
  where
    head : List ℕ
    head = loop_head margin (string_bytes x) (expr_of from) (expr_of to)
