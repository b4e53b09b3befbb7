-- What is printed for a program within the limits is read as that program, and what is read is within them.
use Rattle.std.proofs.Common.{◌≡◌, ◌≤◌, ℕ, List, [], ◌∷◌, length, refl, sym, ap, subst, ◌∙◌}
use Rattle.script_tokens.specs.Tokens.{Token}
use Rattle.script_tokens.specs.Spelling.{AllTokens, tokens_of_lines, text_of_lines}
use Rattle.script_tokens.specs.Texts.{AreTokens}
use Rattle.script_syntax.specs.Trees.{Expr, Number, Variable, Prefixed, Binary, Item, ListOf, Empty, Call, Remote, Len, Push, Exprs, no_expr, also}
use Rattle.script_syntax.specs.Trees.{Stmt, Let, LetCall, LetRemote, Set, If, IfElse, For, Print, Return, Block, no_stmt, stmt, Function, Program}
use Rattle.script_syntax.specs.Expressions.{expression_tree, argument_trees, more_trees}
use Rattle.script_syntax.specs.Grammar.{statement_tree, statements_tree, function_tree, functions_tree, FunctionsWithin, IsProgram, Reads}
use Rattle.script_syntax.specs.Printing.{written, written_arguments, written_others, expression_of, written_statement, written_statements}
use Rattle.script_syntax.specs.Printing.{written_function, written_functions, printed, printed_program}
use Rattle.script_syntax.specs.Limits.{SpelledExpr, SpelledExprs, SpelledStmt, SpelledBlock, SpelledFunction, SpelledProgram, IsWithinLimits}
use Rattle.script_syntax.proofs.Prints.{Good, good_expression, good_binary, good_item, unary_same}
use Rattle.script_syntax.proofs.Again.{functions_fit}
use Rattle.script_syntax.proofs.Lines.{lines_are}
use Rattle.script_syntax.proofs.Spelled.{program_passed, program_spelled}

mutual
  tree_good : (e : Expr) → SpelledExpr e → Good e
  tree_good (Number n) h = refl
  tree_good (Variable x) h = refl
  tree_good (Prefixed p a) h = ap (Prefixed p) (unary_same (written a) ∙ tree_good a h)
  tree_good (Binary op a b) h = good_binary op a b (tree_good a h.0) (tree_good b h.1)
  tree_good (Item a i) h = good_item a i (tree_good a h.0) (tree_good i h.1)
  tree_good (ListOf no_expr) h = absurd h
  tree_good (ListOf (also e others)) h =
      ap (λ (x : Expr). ListOf (also x (more_trees (written_others others)))) (good_expression e (tree_good e h.0)) ∙ ap (λ (xs : Exprs). ListOf (also e xs)) (more_again others h.1)
  tree_good (Empty t) h = refl
  tree_good (Call g args) h = ap (Call g) (arguments_again args h.1)
  tree_good (Remote r g args) h = ap (Remote r g) (arguments_again args h.2)
  tree_good (Len a) h = ap Len (good_expression a (tree_good a h))
  tree_good (Push a b) h = ap (λ (x : Expr). Push x (expression_tree (expression_of b))) (good_expression a (tree_good a h.0)) ∙ ap (Push a) (good_expression b (tree_good b h.1))

  arguments_again : (es : Exprs) → SpelledExprs es → argument_trees (written_arguments es) ≡ es
  arguments_again no_expr h = refl
  arguments_again (also e others) h = ap (λ (x : Expr). also x (more_trees (written_others others))) (good_expression e (tree_good e h.0)) ∙ ap (also e) (more_again others h.1)

  more_again : (es : Exprs) → SpelledExprs es → more_trees (written_others es) ≡ es
  more_again no_expr h = refl
  more_again (also e others) h = ap (λ (x : Expr). also x (more_trees (written_others others))) (good_expression e (tree_good e h.0)) ∙ ap (also e) (more_again others h.1)

again : (e : Expr) → SpelledExpr e → expression_tree (expression_of e) ≡ e
again e h = good_expression e (tree_good e h)

mutual
  statement_again : (s : Stmt) → SpelledStmt s → statement_tree (written_statement s) ≡ s
  statement_again (Let x e) h = ap (Let x) (again e h.1)
  statement_again (LetCall x xs g args) h = ap (LetCall x xs g) (arguments_again args h.3)
  statement_again (LetRemote x xs r g args) h = ap (LetRemote x xs r g) (arguments_again args h.4)
  statement_again (Set x e) h = ap (Set x) (again e h.1)
  statement_again (If e a) h = ap (λ (t : Expr). If t (statements_tree (written_statements a))) (again e h.0) ∙ ap (If e) (block_again a h.1)
  statement_again (IfElse e a b) h =
      ap (λ (t : Expr). IfElse t (statements_tree (written_statements a)) (statements_tree (written_statements b))) (again e h.0)
      ∙ ap (λ (t : Block). IfElse e t (statements_tree (written_statements b))) (block_again a h.1) ∙ ap (IfElse e a) (block_again b h.2)
  statement_again (For x from to body) h =
      ap (λ (t : Expr). For x t (expression_tree (expression_of to)) (statements_tree (written_statements body))) (again from h.1)
      ∙ ap (λ (t : Expr). For x from t (statements_tree (written_statements body))) (again to h.2) ∙ ap (For x from to) (block_again body h.3)
  statement_again (Print e) h = ap Print (again e h)
  statement_again (Return e others) h = ap (λ (t : Expr). Return t (more_trees (written_others others))) (again e h.0) ∙ ap (Return e) (more_again others h.1)

  block_again : (b : Block) → SpelledBlock b → statements_tree (written_statements b) ≡ b
  block_again no_stmt h = refl
  block_again (stmt s others) h = ap (λ (t : Stmt). stmt t (statements_tree (written_statements others))) (statement_again s h.0) ∙ ap (stmt s) (block_again others h.1)

function_again : (g : Function) → SpelledFunction g → function_tree (written_function g) ≡ g
function_again g h = ap (λ (b : Block). let y : Function = record { name = g.name; parameters = g.parameters; result = g.result; others = g.others; body = b } in y) (block_again g.body h.2)

functions_again : (gs : Program) → SpelledProgram gs → functions_tree (written_functions gs) ≡ gs
functions_again [] h = refl
functions_again (g ∷ gs) h = ap (λ (t : Function). t ∷ functions_tree (written_functions gs)) (function_again g h.0) ∙ ap (λ (ts : Program). g ∷ ts) (functions_again gs h.1)

limited_is_program : (program : Program) → IsWithinLimits program → IsProgram (printed program) program
limited_is_program program h = record {
  derivation = written_functions program;
  spelled = refl;
  given = functions_again program h.spelled;
  nesting = h.nesting;
  few = h.few;
}

pub limited_is_read : ((lines : List (List Token)) → AllTokens (tokens_of_lines lines) → length (text_of_lines lines) ≤ 65536 → AreTokens (text_of_lines lines) (tokens_of_lines lines))
    → (program : Program) → IsWithinLimits program → length (text_of_lines (printed_program program)) ≤ 65536 → Reads (text_of_lines (printed_program program)) program
limited_is_read spelled program h short =
    let is_program : IsProgram (printed program) program = limited_is_program program h in
    let tokens : AllTokens (tokens_of_lines (printed_program program)) = subst AllTokens (sym (lines_are program)) (program_spelled (printed program) program is_program h.spelled) in (
      tokens_of_lines (printed_program program),
      spelled (printed_program program) tokens short,
      subst (λ (ts : List Token). IsProgram ts program) (sym (lines_are program)) is_program,
    )

pub read_is_limited : ((text : List ℕ) (tokens : List Token) → AreTokens text tokens → AllTokens tokens) → (text : List ℕ) (program : Program) → Reads text program → IsWithinLimits program
read_is_limited are text program h =
    let is_program : IsProgram h.0 program = h.2 in
    record {
      spelled = program_passed h.0 program is_program (are text h.0 h.1);
      nesting = subst (λ (q : Program). FunctionsWithin (written_functions q) 32) is_program.given (functions_fit is_program.derivation is_program.nesting);
      few = is_program.few;
    }
