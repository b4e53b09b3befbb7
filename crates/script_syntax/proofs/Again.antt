-- What is printed for a program that some text is, is read again as that program.
use Rattle.std.proofs.Common.{◌≡◌, ◌≤◌, ◌+◌, ℕ, zero, suc, List, [], ◌∷◌, length, refl, sym, ap, subst, ◌∙◌, arith}
use Rattle.script_tokens.specs.Tokens.{Token}
use Rattle.script_syntax.specs.Trees.{Expr, Stmt, Let, LetCall, LetRemote, Set, If, IfElse, For, Print, Return, Block, stmt, Function, Program}
use Rattle.script_syntax.specs.Expressions.{Expression, expression_tree, CallOf, RemoteOf, Arguments, argument_trees, MoreArguments, last_argument, argument, more_trees}
use Rattle.script_syntax.specs.Grammar.{Statement, LetOf, LetCallOf, LetRemoteOf, SetOf, IfOf, IfElseOf, ForOf, PrintOf, ReturnOf, Statements, no_statement, statement, FunctionWord, FunctionOf, Functions, no_function, function, statement_tree, statements_tree, function_tree, functions_tree, OutermostWithin, EachWithin, more_length, CallWithin, StatementWithin, StatementsWithin, FunctionWithin, FunctionsWithin, IsProgram}
use Rattle.script_syntax.specs.Printing.{written_arguments, written_others, expression_of, written_statement, written_statements, written_function, written_functions, printed}
use Rattle.script_syntax.proofs.Counts.{expression_counted, primary_counted}
use Rattle.script_syntax.proofs.Prints.{good_expression, expression_good, arguments_good, more_good}
use Rattle.script_syntax.proofs.Fewest.{expression_fits, primary_fits}
use Rattle.script_syntax.proofs.Shortest.{expression_short, primary_short}

again : (e : Expression) → expression_tree (expression_of (expression_tree e)) ≡ expression_tree e
again e = good_expression (expression_tree e) (expression_good e)

outermost_again : (e : Expression) (levels : ℕ) → OutermostWithin e levels → OutermostWithin (expression_of (expression_tree e)) levels
outermost_again e levels w = (expression_fits e levels w.0, omega (arith, w.1, expression_short e, expression_counted e [], expression_counted (expression_of (expression_tree e)) []))

-- a call is written as a call
call_again : (g : _) (args : Arguments) (levels : ℕ) → CallWithin (CallOf g args) levels → CallWithin (CallOf g (written_arguments (argument_trees args))) levels
call_again g args levels w = (primary_fits (CallOf g args) levels w.0, omega (arith, w.1, primary_short (CallOf g args), primary_counted (CallOf g args) [], primary_counted (CallOf g (written_arguments (argument_trees args))) []))

task_again : (r : _) (g : _) (args : Arguments) (levels : ℕ) → CallWithin (RemoteOf r g args) levels → CallWithin (RemoteOf r g (written_arguments (argument_trees args))) levels
task_again r g args levels w = (primary_fits (RemoteOf r g args) levels w.0, omega (arith, w.1, primary_short (RemoteOf r g args), primary_counted (RemoteOf r g args) [], primary_counted (RemoteOf r g (written_arguments (argument_trees args))) []))

each_again : (others : MoreArguments) (levels : ℕ) → EachWithin others levels → EachWithin (written_others (more_trees others)) levels
each_again last_argument levels w = tt
each_again (argument e others) levels w = (outermost_again e levels w.0, each_again others levels w.1)

more_length_again : (others : MoreArguments) → more_length (written_others (more_trees others)) ≡ more_length others
more_length_again last_argument = refl
more_length_again (argument e others) = ap (λ (n : ℕ). 1 + n) (more_length_again others)

mutual
  statement_again : (s : Statement) → statement_tree (written_statement (statement_tree s)) ≡ statement_tree s
  statement_again (LetOf x e) = ap (Let x) (again e)
  statement_again (LetCallOf x xs g args) = ap (LetCall x xs g) (arguments_good args)
  statement_again (LetRemoteOf x xs r g args) = ap (LetRemote x xs r g) (arguments_good args)
  statement_again (SetOf x e) = ap (Set x) (again e)
  statement_again (IfOf e a) = ap (λ (t : Expr). If t (statements_tree (written_statements (statements_tree a)))) (again e) ∙ ap (If (expression_tree e)) (statements_again a)
  statement_again (IfElseOf e a b) =
      ap (λ (t : Expr). IfElse t (statements_tree (written_statements (statements_tree a))) (statements_tree (written_statements (statements_tree b)))) (again e)
      ∙ ap (λ (t : Block). IfElse (expression_tree e) t (statements_tree (written_statements (statements_tree b)))) (statements_again a) ∙ ap (IfElse (expression_tree e) (statements_tree a)) (statements_again b)
  statement_again (ForOf x from to body) =
      ap (λ (t : Expr). For x t (expression_tree (expression_of (expression_tree to))) (statements_tree (written_statements (statements_tree body)))) (again from)
      ∙ ap (λ (t : Expr). For x (expression_tree from) t (statements_tree (written_statements (statements_tree body)))) (again to) ∙ ap (For x (expression_tree from) (expression_tree to)) (statements_again body)
  statement_again (PrintOf e) = ap Print (again e)
  statement_again (ReturnOf e others) = ap (λ (t : Expr). Return t (more_trees (written_others (more_trees others)))) (again e) ∙ ap (Return (expression_tree e)) (more_good others)

  statements_again : (ss : Statements) → statements_tree (written_statements (statements_tree ss)) ≡ statements_tree ss
  statements_again no_statement = refl
  statements_again (statement s others) = ap (λ (t : Stmt). stmt t (statements_tree (written_statements (statements_tree others)))) (statement_again s) ∙ ap (stmt (statement_tree s)) (statements_again others)

mutual
  statement_fits : (s : Statement) (n : ℕ) → StatementWithin s n → StatementWithin (written_statement (statement_tree s)) n
  statement_fits (LetOf x e) n w = outermost_again e n w
  statement_fits (LetCallOf x xs g args) n w = (w.0, call_again g args n w.1)
  statement_fits (LetRemoteOf x xs r g args) n w = (w.0, task_again r g args n w.1)
  statement_fits (SetOf x e) n w = outermost_again e n w
  statement_fits (IfOf e a) zero w = absurd w.1
  statement_fits (IfOf e a) (suc n) w = (outermost_again e (suc n) w.0, statements_fit a n w.1)
  statement_fits (IfElseOf e a b) zero w = absurd w.1
  statement_fits (IfElseOf e a b) (suc n) w = (outermost_again e (suc n) w.0, statements_fit a n w.1, statements_fit b n w.2)
  statement_fits (ForOf x from to body) zero w = absurd w.2
  statement_fits (ForOf x from to body) (suc n) w = (outermost_again from (suc n) w.0, outermost_again to (suc n) w.1, statements_fit body n w.2)
  statement_fits (PrintOf e) n w = outermost_again e n w
  statement_fits (ReturnOf e others) n w = (outermost_again e n w.0, each_again others n w.1, omega (arith, w.2, more_length_again others))

  statements_fit : (ss : Statements) (n : ℕ) → StatementsWithin ss n → StatementsWithin (written_statements (statements_tree ss)) n
  statements_fit no_statement n w = tt
  statements_fit (statement s others) n w = (statement_fits s n w.0, statements_fit others n w.1)

function_again : (g : FunctionWord) → function_tree (written_function (function_tree g)) ≡ function_tree g
function_again (FunctionOf x ps t ts body) = ap (λ (b : Block). let y : Function = record { name = x; parameters = ps; result = t; others = ts; body = b } in y) (statements_again body)

function_fits : (g : FunctionWord) → FunctionWithin g 32 → FunctionWithin (written_function (function_tree g)) 32
function_fits (FunctionOf x ps t ts body) w = (w.0, w.1, w.2, statements_fit body 31 w.3)

functions_again : (gs : Functions) → functions_tree (written_functions (functions_tree gs)) ≡ functions_tree gs
functions_again no_function = refl
functions_again (function g others) = ap (λ (t : Function). t ∷ functions_tree (written_functions (functions_tree others))) (function_again g) ∙ ap (λ (ts : Program). function_tree g ∷ ts) (functions_again others)

pub functions_fit : (gs : Functions) → FunctionsWithin gs 32 → FunctionsWithin (written_functions (functions_tree gs)) 32
functions_fit no_function w = tt
functions_fit (function g others) w = (function_fits g w.0, functions_fit others w.1)

pub printed_again : (tokens : List Token) (program : Program) → IsProgram tokens program → IsProgram (printed program) program
printed_again tokens program h =
    subst (λ (q : Program). IsProgram (printed q) q) h.given
    (record {
      derivation = written_functions (functions_tree h.derivation);
      spelled = refl;
      given = functions_again h.derivation;
      nesting = functions_fit h.derivation h.nesting;
      few = subst (λ (q : Program). length q ≤ 64) (sym h.given) h.few;
    })
