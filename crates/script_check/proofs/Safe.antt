-- What is allowed is well typed.
use Rattle.std.proofs.Common.{◌≡◌, Bool, true, false, List, [], ◌∷◌, ◌++◌, length, map, refl, sym, ap, ◌∙◌, subst, Some, None, inl, inr, append_assoc}
use Rattle.std.specs.Prelude.{if◌then◌else◌}
use Rattle.meaning.specs.Values.{Name}
use Rattle.meaning.specs.Syntax.{Kind, Number, ListKind, RefKind, Expr, Exprs, end, also, Stmt, Block, Parameter, Function, results, Script}
use Rattle.meaning.specs.Meaning.{same_name, find}
use Rattle.meaning.specs.Kinds.{Context, OperatorChecks, argument_kind, Checks, EachChecks, ArgumentsCheck, MarkedCheck, ResultsCheck, Binds, StmtChecks, BlockChecks, Returns as ReturnsChecked, BlockReturns as BlockReturnsChecked, context_of, FunctionChecks, ScriptChecks}
use Rattle.script_syntax.specs.Trees as parsed
use Rattle.script_syntax.specs.declared.tree.Prefix.TheVariants as prefixes
use Rattle.script_syntax.specs.declared.tree.BinaryOperator.{BinaryOperator}
use Rattle.script_syntax.specs.declared.tree.BinaryOperator.TheVariants as operators
use Rattle.script_check.specs.Trees.{kind_named}
use Rattle.script_check.specs.Rules.{function_in, variable, operator_named, IsChecked, EachChecked, ArgumentsChecked, MarkedChecked, ResultsChecked, NamesChecked, StatementChecked, BlockChecked, Returns, BlockReturns, parameter_named, ParametersChecked, FunctionChecked, FunctionsChecked, AreNamedApart, IsCheckedOf}
use Rattle.meaning.specs.Values.{main_name}
use Rattle.script_check.specs.Scripts.{AreApart, IsWellTyped}
use Rattle.script_check.proofs.Binds.{none_left}
use Rattle.script_check.proofs.MainApart.{main_is_apart}

abbrev named_all : List parsed.Parameter → List Parameter
named_all = map parameter_named

-- the checked function of a name
record IsFound (script : Script) (g : Name) (f : parsed.Function) (h : Function) : Type 0 where
  found : find script g ≡ Some h
  parameters : h.parameters ≡ named_all f.parameters
  result : h.result ≡ kind_named f.result
  others : h.others ≡ map kind_named f.others

results_found : (script : Script) (g : Name) (f : parsed.Function) (h : Function) → IsFound script g f h → results h ≡ map kind_named (f.result ∷ f.others)
results_found script g f h d = ap (λ t. t ∷ h.others) d.result ∙ ap (λ ts. kind_named f.result ∷ ts) d.others

references_named : (ts : List parsed.Kind) → map kind_named (map parsed.RefType ts) ≡ map RefKind (map kind_named ts)
references_named [] = refl
references_named (t ∷ ts) = ap (λ us. RefKind (kind_named t) ∷ us) (references_named ts)

one_result : (script : Script) (g : Name) (f : parsed.Function) (h : Function) (t : Kind) → IsFound script g f h → length f.others ≡ 0 → t ≡ kind_named f.result → results h ≡ t ∷ []
one_result script g f h t d n e = results_found script g f h d ∙ ap (λ ts. map kind_named (f.result ∷ ts)) (none_left f.others n) ∙ ap (λ k. k ∷ []) (sym e)

names_bind : (xs : List Name) (ts : List parsed.Kind) (before after : Context) → NamesChecked xs ts before after → Binds xs (map kind_named ts) before after
names_bind [] [] before after h = h
names_bind [] (t ∷ ts) before after h = absurd h
names_bind (x ∷ xs) [] before after h = absurd h
names_bind (x ∷ xs) (t ∷ ts) before after h = names_bind xs ts (before ++ variable x (kind_named t)) after h.1

arithmetic : (op : BinaryOperator) (t : Kind) → t ≡ Number → OperatorChecks (operator_named op) Number Number t
arithmetic operators.Add t e = (refl, refl, e)
arithmetic operators.Sub t e = (refl, refl, e)
arithmetic operators.Mul t e = (refl, refl, e)
arithmetic operators.Div t e = (refl, refl, e)
arithmetic operators.Rem t e = (refl, refl, e)
arithmetic operators.Equal t e = (refl, refl, e)
arithmetic operators.NotEqual t e = (refl, refl, e)
arithmetic operators.Less t e = (refl, refl, e)
arithmetic operators.LessEqual t e = (refl, refl, e)

abbrev Finds : parsed.Program → Script → Type 0
Finds program script = (g : Name) (f : parsed.Function) → function_in program g ≡ Some f → (h : Function) × IsFound script g f h

module _ (program : parsed.Program) (script : Script) (finds : Finds program script) where
  module _ (context : Context) where
    abbrev As : Exprs → Kind → Type 0
    As cs t = EachChecks script context cs t

    mutual
      expr_safe : (e : parsed.Expr) (c : Expr) (t : Kind) → IsChecked program context e c t → Checks script context c t
      expr_safe (parsed.Number n) c t h = subst (λ z. Checks script context z t) (sym h.1) h.2
      expr_safe (parsed.Variable x) c t h = subst (λ z. Checks script context z t) (sym h.1) h.0
      expr_safe (parsed.Prefixed prefixes.Negate a) c t h = subst (λ z. Checks script context z t) (sym h.2) (Number, expr_safe a h.0 Number h.1, (refl, h.3))
      expr_safe (parsed.Prefixed prefixes.Get a) c t h = subst (λ z. Checks script context z t) (sym h.2) (expr_safe a h.0 (RefKind t) h.1, refl)
      expr_safe (parsed.Prefixed prefixes.Put a) c t h = subst (λ z. Checks script context z t) (sym h.3) (h.1, expr_safe a h.0 h.1 h.2, h.4)
      expr_safe (parsed.Binary op a b) c t h = subst (λ z. Checks script context z t) (sym h.4) (Number, Number, expr_safe a h.0 Number h.2, expr_safe b h.1 Number h.3, arithmetic op t h.5)
      expr_safe (parsed.Item a i) c t h = subst (λ z. Checks script context z t) (sym h.4) (ListKind t, Number, expr_safe a h.0 (ListKind t) h.2, expr_safe i h.1 Number h.3, (refl, refl))
      expr_safe (parsed.ListOf parsed.no_expr) c t h = absurd h
      expr_safe (parsed.ListOf (parsed.also e es)) c t h = subst (λ z. Checks script context z t) (sym h.5) (h.2, (expr_safe e h.0 h.2 h.3, each_safe es h.1 h.2 h.4), h.6)
      expr_safe (parsed.Empty u) c t h = subst (λ z. Checks script context z t) (sym h.0) h.1
      expr_safe (parsed.Call g args) c t h =
          let d = finds g h.0 h.2.found in
          subst (λ z. Checks script context z t) (sym h.4) (d.0, d.1.found, subst (λ ps. ArgumentsCheck script context h.1 ps) (sym d.1.parameters) (arguments_safe args h.1 h.0.parameters h.3), one_result script g h.0 d.0 t d.1 h.2.results h.5)
      expr_safe (parsed.Remote r g args) c t h =
          let d = finds g h.0 h.4.found in
          subst (λ z. Checks script context z t) (sym h.6) (d.0, d.1.found, subst (λ ps. MarkedCheck script context h.2 h.1 ps) (sym d.1.parameters) (marked_safe args h.1 h.2 h.0.parameters h.5), kind_named h.0.result, one_result script g h.0 d.0 (kind_named h.0.result) d.1 h.4.results refl, h.7)
      expr_safe (parsed.Len a) c t h = subst (λ z. Checks script context z t) (sym h.3) (ListKind h.1, expr_safe a h.0 (ListKind h.1) h.2, (h.1, refl, h.4))
      expr_safe (parsed.Push a b) c t h = subst (λ z. Checks script context z t) (sym h.5) (ListKind h.2, h.2, expr_safe a h.0 (ListKind h.2) h.3, expr_safe b h.1 h.2 h.4, (refl, h.6))

      each_safe : (es : parsed.Exprs) (cs : Exprs) (t : Kind) → EachChecked program context es cs t → EachChecks script context cs t
      each_safe parsed.no_expr cs t h = subst (λ z. EachChecks script context z t) (sym h) tt
      each_safe (parsed.also e es) cs t h = subst (λ z. EachChecks script context z t) (sym h.4) (expr_safe e h.0 t h.2, each_safe es h.1 t h.3)

      arguments_safe : (es : parsed.Exprs) (cs : Exprs) (ps : List parsed.Parameter) → ArgumentsChecked program context es cs ps → ArgumentsCheck script context cs (named_all ps)
      arguments_safe parsed.no_expr cs [] h = subst (λ z. ArgumentsCheck script context z []) (sym h) tt
      arguments_safe parsed.no_expr cs (p ∷ ps) h = absurd h
      arguments_safe (parsed.also e es) cs [] h = absurd h
      arguments_safe (parsed.also e es) cs (p ∷ ps) h = subst (λ z. ArgumentsCheck script context z (named_all (p ∷ ps))) (sym h.4) (expr_safe e h.0 (kind_named p.kind) h.2, arguments_safe es h.1 ps h.3)

      marked_safe : (es : parsed.Exprs) (ms : List Bool) (cs : Exprs) (ps : List parsed.Parameter) → MarkedChecked program context es ms cs ps → MarkedCheck script context cs ms (named_all ps)
      marked_safe parsed.no_expr ms cs [] h = subst (λ z. MarkedCheck script context z ms []) (sym h.1) (subst (λ z. MarkedCheck script context end z []) (sym h.0) tt)
      marked_safe parsed.no_expr ms cs (p ∷ ps) h = absurd h
      marked_safe (parsed.also e es) ms cs [] h = absurd h
      marked_safe (parsed.also e es) ms cs (p ∷ ps) h =
          subst (λ z. MarkedCheck script context z ms (named_all (p ∷ ps))) (sym h.7) (subst (λ z. MarkedCheck script context (also h.0 h.1) z (named_all (p ∷ ps))) (sym h.6) (expr_safe e h.0 (argument_kind h.2 (kind_named p.kind)) h.4, marked_safe es h.3 h.1 ps h.5))

    results_safe : (es : parsed.Exprs) (cs : Exprs) (ts : List parsed.Kind) → ResultsChecked program context es cs ts → ResultsCheck script context cs (map kind_named ts)
    results_safe parsed.no_expr cs [] h = subst (λ z. ResultsCheck script context z []) (sym h) tt
    results_safe parsed.no_expr cs (t ∷ ts) h = absurd h
    results_safe (parsed.also e es) cs [] h = absurd h
    results_safe (parsed.also e es) cs (t ∷ ts) h = subst (λ z. ResultsCheck script context z (map kind_named (t ∷ ts))) (sym h.4) (expr_safe e h.0 (kind_named t) h.2, results_safe es h.1 ts h.3)

  module _ (function : parsed.Function) where
    abbrev result : List Kind
    result = map kind_named (function.result ∷ function.others)

    mutual
      statement_safe : (s : parsed.Stmt) (before : Context) (c : Stmt) (after : Context) → StatementChecked program function s before c after → StmtChecks c script result before after
      statement_safe (parsed.Let x e) before c after h = subst (λ z. StmtChecks z script result before after) (sym h.4) (h.1, expr_safe before e h.0 h.1 h.3, h.5)
      statement_safe (parsed.LetCall x others g args) before c after h =
          let d = finds g h.0 h.2.found in
          subst (λ z. StmtChecks z script result before after) (sym h.5) (d.0, d.1.found, subst (λ ps. ArgumentsCheck script before h.1 ps) (sym d.1.parameters) (arguments_safe before args h.1 h.0.parameters h.3), subst (λ ts. Binds (x ∷ others) ts before after) (sym (results_found script g h.0 d.0 d.1)) (names_bind (x ∷ others) (h.0.result ∷ h.0.others) before after h.4))
      statement_safe (parsed.LetRemote x others r g args) before c after h =
          let d = finds g h.0 h.4.found in
          subst (λ z. StmtChecks z script result before after) (sym h.7) (d.0, d.1.found, subst (λ ps. MarkedCheck script before h.2 h.1 ps) (sym d.1.parameters) (marked_safe before args h.1 h.2 h.0.parameters h.5), subst (λ ts. Binds (x ∷ others) (map RefKind ts) before after) (sym (results_found script g h.0 d.0 d.1)) (subst (λ ts. Binds (x ∷ others) ts before after) (references_named (h.0.result ∷ h.0.others)) (names_bind (x ∷ others) (map parsed.RefType (h.0.result ∷ h.0.others)) before after h.6)))
      statement_safe (parsed.Set x e) before c after h = subst (λ z. StmtChecks z script result before after) (sym h.4) (h.1, h.2, expr_safe before e h.0 h.1 h.3, h.5)
      statement_safe (parsed.If e a) before c after h = subst (λ z. StmtChecks z script result before after) (sym h.4) (expr_safe before e h.0 Number h.2, block_safe a before h.1 h.3, tt, h.5)
      statement_safe (parsed.IfElse e a b) before c after h = subst (λ z. StmtChecks z script result before after) (sym h.6) (expr_safe before e h.0 Number h.3, block_safe a before h.1 h.4, block_safe b before h.2 h.5, h.7)
      statement_safe (parsed.For x from to body) before c after h = subst (λ z. StmtChecks z script result before after) (sym h.7) (expr_safe before from h.0 Number h.4, expr_safe before to h.1 Number h.5, block_safe body (before ++ variable x Number) h.2 h.6, h.8)
      statement_safe (parsed.Print e) before c after h = subst (λ z. StmtChecks z script result before after) (sym h.5) (h.1, expr_safe before e h.0 h.1 h.3, h.4, h.6)
      statement_safe (parsed.Return e others) before c after h = subst (λ z. StmtChecks z script result before after) (sym h.2) (results_safe before (parsed.also e others) h.0 (function.result ∷ function.others) h.1, h.3)

      block_safe : (b : parsed.Block) (before : Context) (c : Block) → BlockChecked program function b before c → BlockChecks c script result before
      block_safe parsed.no_stmt before c h = subst (λ z. BlockChecks z script result before) (sym h) tt
      block_safe (parsed.stmt s rest) before c h = subst (λ z. BlockChecks z script result before) (sym h.5) (h.0, statement_safe s before h.1 h.0 h.3, block_safe rest h.0 h.2 h.4)

    mutual
      statement_returns : (s : parsed.Stmt) (before : Context) (c : Stmt) (after : Context) → StatementChecked program function s before c after → Returns s → ReturnsChecked c
      statement_returns (parsed.Let x e) before c after h r = absurd r
      statement_returns (parsed.LetCall x others g args) before c after h r = absurd r
      statement_returns (parsed.LetRemote x others k g args) before c after h r = absurd r
      statement_returns (parsed.Set x e) before c after h r = absurd r
      statement_returns (parsed.If e a) before c after h r = absurd r
      statement_returns (parsed.IfElse e a b) before c after h r = subst ReturnsChecked (sym h.6) (block_returning a before h.1 h.4 r.0, block_returning b before h.2 h.5 r.1)
      statement_returns (parsed.For x from to body) before c after h r = absurd r
      statement_returns (parsed.Print e) before c after h r = absurd r
      statement_returns (parsed.Return e others) before c after h r = subst ReturnsChecked (sym h.2) tt

      block_returning : (b : parsed.Block) (before : Context) (c : Block) → BlockChecked program function b before c → BlockReturns b → BlockReturnsChecked c
      block_returning parsed.no_stmt before c h r = absurd r
      block_returning (parsed.stmt s rest) before c h (inl r) = subst BlockReturnsChecked (sym h.5) (inl (statement_returns s before h.1 h.0 h.3 r))
      block_returning (parsed.stmt s rest) before c h (inr r) = subst BlockReturnsChecked (sym h.5) (inr (block_returning rest h.0 h.2 h.4 r))

-- Functions

parameters_named : (ps : List parsed.Parameter) (before : Context) (qs : List Parameter) (after : Context) → ParametersChecked ps before qs after → (qs ≡ named_all ps) × (after ≡ before ++ context_of qs)
parameters_named [] before qs after h = (h.0, h.1 ∙ sym (nothing before) ∙ ap (λ z. before ++ context_of z) (sym h.0))
  where
    nothing : (c : Context) → c ++ [] ≡ c
    nothing [] = refl
    nothing (k ∷ c) = ap (λ z. k ∷ z) (nothing c)
parameters_named (p ∷ ps) before qs after h =
    let r = parameters_named ps (before ++ variable p.name (kind_named p.kind)) h.0 after h.2 in
    (h.3 ∙ ap (λ z. parameter_named p ∷ z) r.0, r.1 ∙ append_assoc before (variable p.name (kind_named p.kind)) (context_of h.0) ∙ ap (λ z. before ++ context_of z) (sym h.3))

function_safe : (program : parsed.Program) (script : Script) → Finds program script → (f : parsed.Function) (g : Function) → FunctionChecked program f g → FunctionChecks script g
function_safe program script finds f g h =
    let p = parameters_named f.parameters [] g.parameters h.context h.parameters in
    record {
      body = subst (λ ts. BlockChecks g.body script ts (context_of g.parameters)) (sym (ap (λ t. t ∷ g.others) h.result ∙ ap (λ ts. kind_named f.result ∷ ts) h.others)) (subst (λ c. BlockChecks g.body script (map kind_named (f.result ∷ f.others)) c) p.1 (block_safe program script finds f f.body h.context g.body h.body));
      returns = block_returning program script finds f f.body h.context g.body h.body h.returns;
    }

all_safe : (program : parsed.Program) (script : Script) → Finds program script → (fs : parsed.Program) (gs : Script) → FunctionsChecked program fs gs → ScriptChecks script gs
all_safe program script finds [] gs h = subst (λ z. ScriptChecks script z) (sym h) tt
all_safe program script finds (f ∷ fs) gs h = subst (λ z. ScriptChecks script z) (sym h.4) (function_safe program script finds f h.0 h.2, all_safe program script finds fs h.1 h.3)

found_in : (program fs : parsed.Program) (gs : Script) → FunctionsChecked program fs gs → (x : Name) (f : parsed.Function) → function_in fs x ≡ Some f → (h : Function) × IsFound gs x f h
found_in program [] gs h x f e = absurd (cc)
found_in program (k ∷ fs) gs h x f e = go (same_name k.name x) refl e (found_in program fs h.1 h.3 x f)
  where
    names : find gs x ≡ (if same_name k.name x then Some h.0 else find h.1 x)
    names = ap (λ z. find z x) h.4 ∙ ap (λ n. if same_name n x then Some h.0 else find h.1 x) h.2.name

    go : (b : Bool) → same_name k.name x ≡ b → (if b then Some k else function_in fs x) ≡ Some f → (function_in fs x ≡ Some f → (g : Function) × IsFound h.1 x f g) → (g : Function) × IsFound gs x f g
    go true s q r =
        let e' : k ≡ f = cc in
        let p = parameters_named k.parameters [] h.0.parameters h.2.context h.2.parameters in
        (h.0, record { found = names ∙ ap (λ b. if b then Some h.0 else find h.1 x) s; parameters = p.0 ∙ ap (λ (y : parsed.Function). named_all y.parameters) e'; result = h.2.result ∙ ap (λ (y : parsed.Function). kind_named y.result) e'; others = h.2.others ∙ ap (λ (y : parsed.Function). map kind_named y.others) e' })
    go false s q r = let d = r q in (d.0, record { found = names ∙ ap (λ b. if b then Some h.0 else find h.1 x) s ∙ d.1.found; parameters = d.1.parameters; result = d.1.result; others = d.1.others })

absent_in : (program fs : parsed.Program) (gs : Script) → FunctionsChecked program fs gs → (x : Name) → function_in fs x ≡ None → find gs x ≡ None
absent_in program [] gs h x e = ap (λ z. find z x) h
absent_in program (k ∷ fs) gs h x e = go (same_name k.name x) refl e (absent_in program fs h.1 h.3 x)
  where
    names : find gs x ≡ (if same_name k.name x then Some h.0 else find h.1 x)
    names = ap (λ z. find z x) h.4 ∙ ap (λ n. if same_name n x then Some h.0 else find h.1 x) h.2.name

    go : (b : Bool) → same_name k.name x ≡ b → (if b then Some k else function_in fs x) ≡ None → (function_in fs x ≡ None → find h.1 x ≡ None) → find gs x ≡ None
    go true s q r = absurd (cc)
    go false s q r = names ∙ ap (λ b. if b then Some h.0 else find h.1 x) s ∙ r q

one_more : (program fs : parsed.Program) (gs : Script) (f : parsed.Function) (g : Function) → FunctionsChecked program fs gs → FunctionChecked program f g → FunctionsChecked program (fs ++ f ∷ []) (gs ++ g ∷ [])
one_more program [] gs f g h k = subst (λ z. FunctionsChecked program (f ∷ []) (z ++ g ∷ [])) (sym h) (g, [], k, refl, refl)
one_more program (x ∷ fs) gs f g h k = subst (λ z. FunctionsChecked program (x ∷ fs ++ f ∷ []) (z ++ g ∷ [])) (sym h.4) (h.0, h.1 ++ g ∷ [], h.2, one_more program fs h.1 f g h.3 k, refl)

apart_safe : (program before fs : parsed.Program) (sb gs : Script) → FunctionsChecked program before sb → FunctionsChecked program fs gs → AreNamedApart before fs → AreApart sb gs
apart_safe program before [] sb gs b h a = subst (λ z. AreApart sb z) (sym h) tt
apart_safe program before (f ∷ fs) sb gs b h a =
    subst (λ z. AreApart sb z) (sym h.4) (ap (λ n. find sb n) h.2.name ∙ absent_in program before sb b f.name a.0, apart_safe program (before ++ f ∷ []) fs (sb ++ h.0 ∷ []) h.1 (one_more program before sb f h.0 b h.2) h.3 a.1)

no_parameters : (f : parsed.Function) (h : Function) → h.parameters ≡ named_all f.parameters → f.parameters ≡ [] → h.parameters ≡ []
no_parameters f h p e = p ∙ ap named_all e

pub well_typed : (program : parsed.Program) (script : Script) → IsCheckedOf program script → IsWellTyped script
well_typed program script h =
    let finds : Finds program script = found_in program program script h.functions in
    let d = finds main_name h.main.0 h.main.1 in
    record {
      checks = all_safe program script finds program script h.functions;
      apart = apart_safe program [] program [] script refl h.functions h.apart;
      main = (d.0, d.1.found, no_parameters h.main.0 d.0 d.1.parameters h.main.2, one_result script main_name h.main.0 d.0 Number d.1 (ap length h.main.4) (sym (ap kind_named h.main.3)));
      main_apart = main_is_apart program program script h.functions;
    }
