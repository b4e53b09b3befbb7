-- In what is allowed main is apart.
use Rattle.std.proofs.Common.{Bool, List, [], ◌∷◌, ◌++◌, sym, subst}
use Rattle.meaning.specs.Syntax.{Kind, Number, ListKind, RefKind, Expr, Exprs, Stmt, Block, Function, Script}
use Rattle.meaning.specs.Kinds.{Context, argument_kind}
use Rattle.meaning.specs.Mains.{CallsOthers, AllCallOthers, IsApart, BlockIsApart, FunctionIsApart, KeepsMainApart}
use Rattle.script_syntax.specs.Trees as parsed
use Rattle.script_syntax.specs.declared.tree.Prefix.TheVariants as prefixes
use Rattle.script_check.specs.Trees.{kind_named}
use Rattle.script_check.specs.Rules.{variable, IsChecked, EachChecked, ArgumentsChecked, MarkedChecked, ResultsChecked, StatementChecked, BlockChecked, FunctionChecked, FunctionsChecked}

module _ (program : parsed.Program) where
  module _ (context : Context) where
    mutual
      expr_apart : (e : parsed.Expr) (c : Expr) (t : Kind) → IsChecked program context e c t → CallsOthers c
      expr_apart (parsed.Number n) c t h = subst CallsOthers (sym h.1) tt
      expr_apart (parsed.Variable x) c t h = subst CallsOthers (sym h.1) tt
      expr_apart (parsed.Prefixed prefixes.Negate a) c t h = subst CallsOthers (sym h.2) (expr_apart a h.0 Number h.1)
      expr_apart (parsed.Prefixed prefixes.Get a) c t h = subst CallsOthers (sym h.2) (expr_apart a h.0 (RefKind t) h.1)
      expr_apart (parsed.Prefixed prefixes.Put a) c t h = subst CallsOthers (sym h.3) (expr_apart a h.0 h.1 h.2)
      expr_apart (parsed.Binary op a b) c t h = subst CallsOthers (sym h.4) (expr_apart a h.0 Number h.2, expr_apart b h.1 Number h.3)
      expr_apart (parsed.Item a i) c t h = subst CallsOthers (sym h.4) (expr_apart a h.0 (ListKind t) h.2, expr_apart i h.1 Number h.3)
      expr_apart (parsed.ListOf parsed.no_expr) c t h = absurd h
      expr_apart (parsed.ListOf (parsed.also e es)) c t h = subst CallsOthers (sym h.5) (expr_apart e h.0 h.2 h.3, each_apart es h.1 h.2 h.4)
      expr_apart (parsed.Empty u) c t h = subst CallsOthers (sym h.0) tt
      expr_apart (parsed.Call g args) c t h = subst CallsOthers (sym h.4) (h.2.not_main, arguments_apart args h.1 h.0.parameters h.3)
      expr_apart (parsed.Remote r g args) c t h = subst CallsOthers (sym h.6) (h.4.not_main, marked_apart args h.1 h.2 h.0.parameters h.5)
      expr_apart (parsed.Len a) c t h = subst CallsOthers (sym h.3) (expr_apart a h.0 (ListKind h.1) h.2)
      expr_apart (parsed.Push a b) c t h = subst CallsOthers (sym h.5) (expr_apart a h.0 (ListKind h.2) h.3, expr_apart b h.1 h.2 h.4)

      each_apart : (es : parsed.Exprs) (cs : Exprs) (t : Kind) → EachChecked program context es cs t → AllCallOthers cs
      each_apart parsed.no_expr cs t h = subst AllCallOthers (sym h) tt
      each_apart (parsed.also e es) cs t h = subst AllCallOthers (sym h.4) (expr_apart e h.0 t h.2, each_apart es h.1 t h.3)

      arguments_apart : (es : parsed.Exprs) (cs : Exprs) (ps : List parsed.Parameter) → ArgumentsChecked program context es cs ps → AllCallOthers cs
      arguments_apart parsed.no_expr cs [] h = subst AllCallOthers (sym h) tt
      arguments_apart parsed.no_expr cs (p ∷ ps) h = absurd h
      arguments_apart (parsed.also e es) cs [] h = absurd h
      arguments_apart (parsed.also e es) cs (p ∷ ps) h = subst AllCallOthers (sym h.4) (expr_apart e h.0 (kind_named p.kind) h.2, arguments_apart es h.1 ps h.3)

      marked_apart : (es : parsed.Exprs) (ms : List Bool) (cs : Exprs) (ps : List parsed.Parameter) → MarkedChecked program context es ms cs ps → AllCallOthers cs
      marked_apart parsed.no_expr ms cs [] h = subst AllCallOthers (sym h.1) tt
      marked_apart parsed.no_expr ms cs (p ∷ ps) h = absurd h
      marked_apart (parsed.also e es) ms cs [] h = absurd h
      marked_apart (parsed.also e es) ms cs (p ∷ ps) h = subst AllCallOthers (sym h.7) (expr_apart e h.0 (argument_kind h.2 (kind_named p.kind)) h.4, marked_apart es h.3 h.1 ps h.5)

    results_apart : (es : parsed.Exprs) (cs : Exprs) (ts : List parsed.Kind) → ResultsChecked program context es cs ts → AllCallOthers cs
    results_apart parsed.no_expr cs [] h = subst AllCallOthers (sym h) tt
    results_apart parsed.no_expr cs (t ∷ ts) h = absurd h
    results_apart (parsed.also e es) cs [] h = absurd h
    results_apart (parsed.also e es) cs (t ∷ ts) h = subst AllCallOthers (sym h.4) (expr_apart e h.0 (kind_named t) h.2, results_apart es h.1 ts h.3)

  module _ (function : parsed.Function) where
    mutual
      statement_apart : (s : parsed.Stmt) (before : Context) (c : Stmt) (after : Context) → StatementChecked program function s before c after → IsApart function.name c
      statement_apart (parsed.Let x e) before c after h = subst (IsApart function.name) (sym h.4) (expr_apart before e h.0 h.1 h.3)
      statement_apart (parsed.LetCall x others g args) before c after h = subst (IsApart function.name) (sym h.5) (h.2.not_main, arguments_apart before args h.1 h.0.parameters h.3)
      statement_apart (parsed.LetRemote x others r g args) before c after h = subst (IsApart function.name) (sym h.7) (h.4.not_main, marked_apart before args h.1 h.2 h.0.parameters h.5)
      statement_apart (parsed.Set x e) before c after h = subst (IsApart function.name) (sym h.4) (expr_apart before e h.0 h.1 h.3)
      statement_apart (parsed.If e a) before c after h = subst (IsApart function.name) (sym h.4) (expr_apart before e h.0 Number h.2, block_apart a before h.1 h.3, tt)
      statement_apart (parsed.IfElse e a b) before c after h = subst (IsApart function.name) (sym h.6) (expr_apart before e h.0 Number h.3, block_apart a before h.1 h.4, block_apart b before h.2 h.5)
      statement_apart (parsed.For x from to body) before c after h =
          subst (IsApart function.name) (sym h.7) (expr_apart before from h.0 Number h.4, expr_apart before to h.1 Number h.5, block_apart body (before ++ variable x Number) h.2 h.6)
      statement_apart (parsed.Print e) before c after h = subst (IsApart function.name) (sym h.5) (h.2, expr_apart before e h.0 h.1 h.3)
      statement_apart (parsed.Return e others) before c after h = subst (IsApart function.name) (sym h.2) (results_apart before (parsed.also e others) h.0 (function.result ∷ function.others) h.1)

      block_apart : (b : parsed.Block) (before : Context) (c : Block) → BlockChecked program function b before c → BlockIsApart function.name c
      block_apart parsed.no_stmt before c h = subst (BlockIsApart function.name) (sym h) tt
      block_apart (parsed.stmt s rest) before c h = subst (BlockIsApart function.name) (sym h.5) (statement_apart s before h.1 h.0 h.3, block_apart rest h.0 h.2 h.4)

  function_apart : (function : parsed.Function) (f : Function) → FunctionChecked program function f → FunctionIsApart f
  function_apart function f h = subst (λ n. BlockIsApart n f.body) (sym h.name) (block_apart function function.body h.context f.body h.body)

  pub main_is_apart : (fs : parsed.Program) (script : Script) → FunctionsChecked program fs script → KeepsMainApart script
  main_is_apart [] script h = subst KeepsMainApart (sym h) tt
  main_is_apart (f ∷ fs) script h = subst KeepsMainApart (sym h.4) (function_apart f h.0 h.2, main_is_apart fs h.1 h.3)
