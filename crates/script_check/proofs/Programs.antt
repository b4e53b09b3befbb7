-- What is made of statements, functions and programs is what is allowed.
use Rattle.std.proofs.Common.{◌≡◌, Bool, true, false, List, [], ◌∷◌, ◌++◌, length, map, refl, sym, ap, ◌∙◌, subst, arith, Option, Some, None, inl, inr}
use Rattle.std.specs.Prelude.{nat_eq, if◌then◌else◌, ◌&&◌, ◌||◌, ◌⊎◌}
use Rattle.std.proofs.lemmas.List.{length-map}
use Rattle.meaning.specs.Syntax.{Kind, Number, ListKind, RefKind, Expr, Stmt, Block, done, step, Parameter, Function, Script}
use Rattle.meaning.specs.Syntax as syntax
use Rattle.meaning.specs.Meaning.{same_name}
use Rattle.meaning.specs.Kinds.{Context, kind_in, has_reference}
use Rattle.meaning.proofs.Names.{same_name-true, same_name-refl}
use Rattle.script_syntax.specs.Trees as parsed
use Rattle.script_check.specs.Trees.{kind_named}
use Rattle.script_check.specs.Rules.{function_in, variable, retries_of, NamesChecked, StatementChecked, BlockChecked, Returns, BlockReturns, ParametersChecked, FunctionChecked, FunctionsChecked, AreNamedApart, HasMain, IsCheckedOf}
use Rattle.meaning.specs.Values.{main_name}
use Rattle.script_check.specs.Inference.{◌>>=◌, when, same_kind, Typing, infer, infer_as, fresh, Stepped, Blocked, step_of, steps_of, block_from, block_alone, returns, block_returns, Declared, declared, only, count, callee, infer_arguments, infer_results, new_names, is_single, function_from, functions_from, is_absent, are_apart, is_main_good, retries_within, infer_marked}
use Rattle.std.specs.Prelude.{IsTrue}
use Rattle.script_check.specs.Refusals.{is_refusal}
use Rattle.script_check.specs.declared.error.CheckError.{CheckError}
use Rattle.script_check.specs.declared.error.CheckError.TheVariants.{UnknownName, WrongType, WrongCount, NoMain, PrintOutsideMain, MissingReturn, BadRetries, Duplicate, WrongReturns, NoMemory}
use Rattle.script_check.proofs.Binds.{bind_some, some_is, when_some, and_true, both_true, none_left}
use Rattle.script_check.proofs.Names.{free_from, free_to, are_sound_names, are_complete_names}
use Rattle.script_check.proofs.Arms.{both}
use Rattle.script_check.proofs.Sound.{is_sound, is_sound_as, are_sound_arguments, are_sound_marked, are_sound_results, few_are, callee_is, same_kind_is, eq_from, eq_to, le_to}
use Rattle.script_check.proofs.Complete.{is_complete, is_complete_as, are_complete_arguments, are_complete_marked, are_complete_results, callee_to, arguments_count, marked_count, results_count}

-- Tests

or_true : (a b : Bool) → (a || b) ≡ true → (a ≡ true) ⊎ (b ≡ true)
or_true true b h = inl refl
or_true false b h = inr h

or_second : (a b : Bool) → b ≡ true → (a || b) ≡ true
or_second true b h = refl
or_second false b h = h

mutual
  returns_from : (s : parsed.Stmt) → returns s ≡ true → Returns s
  returns_from (parsed.Let x e) h = absurd (cc)
  returns_from (parsed.LetCall x others g args) h = absurd (cc)
  returns_from (parsed.LetRemote x others k g args) h = absurd (cc)
  returns_from (parsed.Set x e) h = absurd (cc)
  returns_from (parsed.If e a) h = absurd (cc)
  returns_from (parsed.IfElse e a b) h = let w = and_true (block_returns a) (block_returns b) h in (block_returns_from a w.0, block_returns_from b w.1)
  returns_from (parsed.For x from to body) h = absurd (cc)
  returns_from (parsed.Print e) h = absurd (cc)
  returns_from (parsed.Return e others) h = tt

  block_returns_from : (b : parsed.Block) → block_returns b ≡ true → BlockReturns b
  block_returns_from parsed.no_stmt h = absurd (cc)
  block_returns_from (parsed.stmt s rest) h =
      elim (or_true (returns s) (block_returns rest) h) [ inl e ↦ inl (returns_from s e) | inr e ↦ inr (block_returns_from rest e) ]

mutual
  returns_to : (s : parsed.Stmt) → Returns s → returns s ≡ true
  returns_to (parsed.Let x e) h = absurd h
  returns_to (parsed.LetCall x others g args) h = absurd h
  returns_to (parsed.LetRemote x others k g args) h = absurd h
  returns_to (parsed.Set x e) h = absurd h
  returns_to (parsed.If e a) h = absurd h
  returns_to (parsed.IfElse e a b) h = both_true (block_returns a) (block_returns b) (block_returns_to a h.0) (block_returns_to b h.1)
  returns_to (parsed.For x from to body) h = absurd h
  returns_to (parsed.Print e) h = absurd h
  returns_to (parsed.Return e others) h = refl

  block_returns_to : (b : parsed.Block) → BlockReturns b → block_returns b ≡ true
  block_returns_to parsed.no_stmt h = absurd h
  block_returns_to (parsed.stmt s rest) (inl h) = ap (λ x. x || block_returns rest) (returns_to s h)
  block_returns_to (parsed.stmt s rest) (inr h) = or_second (returns s) (block_returns rest) (block_returns_to rest h)

single_from : (ts : List parsed.Kind) → is_single ts ≡ true → ts ≡ []
single_from [] h = refl
single_from (t ∷ ts) h = absurd (cc)

abbrev stepped : Stmt → Context → Stepped
stepped s after = record { stmt = s; after = after }

stepped_is : (s : Stmt) (a : Context) (t : Stmt) (b : Context) → t ≡ s → b ≡ a → Some (stepped s a) ≡ Some (stepped t b)
stepped_is s a t b e f = ap (λ x. Some (stepped x a)) (sym e) ∙ ap (λ x. Some (stepped t x)) (sym f)

stmt_eq : (r q : Stepped) → Some r ≡ Some q → q.stmt ≡ r.stmt
stmt_eq r q h = sym (ap (λ (x : Stepped). x.stmt) (some_is r q h))

after_eq : (r q : Stepped) → Some r ≡ Some q → q.after ≡ r.after
after_eq r q h = sym (ap (λ (x : Stepped). x.after) (some_is r q h))

module _ (program : parsed.Program) (function : parsed.Function) where
  print_sound : (before : Context) (e : parsed.Expr) (r : Stepped) → step_of program function (parsed.Print e) before ≡ Some r → StatementChecked program function (parsed.Print e) before r.stmt r.after
  print_sound before e r h = main (same_name function.name main_name) refl h
    where
      printed : (i : Typing) → infer program before e ≡ Some i → (b : Bool) → has_reference i.kind ≡ b → function.name ≡ main_name → (if b then None else Some (stepped (syntax.Print i.expr) before)) ≡ Some r → StatementChecked program function (parsed.Print e) before r.stmt r.after
      printed i some true q m k = absurd (cc)
      printed i some false q m k = (i.expr, i.kind, m, is_sound program before e i some, q, stmt_eq _ r k, after_eq _ r k)

      main : (b : Bool) → same_name function.name main_name ≡ b → (if b then (infer program before e >>= λ c. if has_reference c.kind then None else Some (stepped (syntax.Print c.expr) before)) else None) ≡ Some r → StatementChecked program function (parsed.Print e) before r.stmt r.after
      main true m k = let i = bind_some (infer program before e) _ r k in printed i.0 i.1 (has_reference i.0.kind) refl (same_name-true function.name main_name m) i.2
      main false m k = absurd (cc)

  mutual
    step_sound : (s : parsed.Stmt) (before : Context) (r : Stepped) → step_of program function s before ≡ Some r → StatementChecked program function s before r.stmt r.after
    step_sound (parsed.Let x e) before r h =
        let f = bind_some (fresh before x) _ r h in let i = bind_some (infer program before e) _ r f.2 in
        (i.0.expr, i.0.kind, free_from (kind_in before x) f.1, is_sound program before e i.0 i.1, stmt_eq _ r i.2, after_eq _ r i.2)
    step_sound (parsed.LetCall x others g args) before r h =
        let n = bind_some (new_names before [] (x ∷ others)) _ r h in let f = bind_some (callee program g (length others) (count args)) _ r n.2 in
        let cs = bind_some (infer_arguments program before args f.0.parameters) _ r f.2 in let k = callee_is program g (length others) (count args) f.0 f.1 in
        (f.0, cs.0, k, are_sound_arguments program before args f.0.parameters cs.0 cs.1, subst (λ z. NamesChecked (x ∷ others) (f.0.result ∷ f.0.others) before z) (sym (after_eq _ r cs.2)) (are_sound_names before (x ∷ others) (f.0.result ∷ f.0.others) (let l = k.results in omega arith) n.1), stmt_eq _ r cs.2)
    step_sound (parsed.LetRemote x others k g args) before r h =
        let n = bind_some (new_names before [] (x ∷ others)) _ r h in let few = bind_some (retries_within k) _ r n.2 in
        let f = bind_some (callee program g (length others) (count args)) _ r few.2 in let m = bind_some (infer_marked program before args f.0.parameters) _ r f.2 in
        let w = few_are k few.0 few.1 in let is = callee_is program g (length others) (count args) f.0 f.1 in
        let ts = map parsed.RefType (f.0.result ∷ f.0.others) in (
          f.0,
          m.0.marks,
          m.0.exprs,
          w.0,
          is,
          are_sound_marked program before args f.0.parameters m.0 m.1,
          subst (λ z. NamesChecked (x ∷ others) ts before z) (sym (after_eq _ r m.2)) (are_sound_names before (x ∷ others) ts (length-map (f.0.result ∷ f.0.others) parsed.RefType ∙ (let l = is.results in omega arith)) n.1),
          stmt_eq _ r m.2 ∙ ap (λ i. syntax.LetRemote x others i g m.0.marks m.0.exprs) (sym w.1),
        )
    step_sound (parsed.Set x e) before r h =
        let k = bind_some (kind_in before x) _ r h in let i = bind_some (infer_as program before k.0 e) _ r k.2 in
        (i.0, k.0, k.1, is_sound_as program before k.0 e i.0 i.1, stmt_eq _ r i.2, after_eq _ r i.2)
    step_sound (parsed.If e a) before r h =
        let i = bind_some (infer_as program before Number e) _ r h in let x = bind_some (block_from program function a before) _ r i.2 in
        let y = bind_some (steps_of program function a before) block_alone x.0 x.1 in
        (i.0, x.0, is_sound_as program before Number e i.0 i.1, subst (λ b. BlockChecked program function a before b) (some_is _ _ y.2) (steps_sound a before y.0 y.1), stmt_eq _ r x.2, after_eq _ r x.2)
    step_sound (parsed.IfElse e a b) before r h =
        let i = bind_some (infer_as program before Number e) _ r h in let x = bind_some (block_from program function a before) _ r i.2 in let z = bind_some (block_from program function b before) _ r x.2 in
        let y = bind_some (steps_of program function a before) block_alone x.0 x.1 in let w = bind_some (steps_of program function b before) block_alone z.0 z.1 in
        (i.0, x.0, z.0, is_sound_as program before Number e i.0 i.1, subst (λ d. BlockChecked program function a before d) (some_is _ _ y.2) (steps_sound a before y.0 y.1), subst (λ d. BlockChecked program function b before d) (some_is _ _ w.2) (steps_sound b before w.0 w.1), stmt_eq _ r z.2, after_eq _ r z.2)
    step_sound (parsed.For x from to body) before r h =
        let f = bind_some (fresh before x) _ r h in let c = bind_some (infer_as program before Number from) _ r f.2 in let d = bind_some (infer_as program before Number to) _ r c.2 in
        let b = bind_some (block_from program function body (before ++ variable x Number)) _ r d.2 in let y = bind_some (steps_of program function body (before ++ variable x Number)) block_alone b.0 b.1 in
        (c.0, d.0, b.0, free_from (kind_in before x) f.1, is_sound_as program before Number from c.0 c.1, is_sound_as program before Number to d.0 d.1, subst (λ z. BlockChecked program function body (before ++ variable x Number) z) (some_is _ _ y.2) (steps_sound body (before ++ variable x Number) y.0 y.1), stmt_eq _ r b.2, after_eq _ r b.2)
    step_sound (parsed.Print e) before r h = print_sound before e r h
    step_sound (parsed.Return e others) before r h =
        let o = bind_some (only (nat_eq (count others) (length function.others))) _ r h in
        let i = bind_some (infer_results program before (parsed.also e others) (function.result ∷ function.others)) _ r o.2 in (i.0, are_sound_results program before (parsed.also e others) (function.result ∷ function.others) i.0 i.1, stmt_eq _ r i.2, after_eq _ r i.2)

    steps_sound : (b : parsed.Block) (before : Context) (r : Blocked) → steps_of program function b before ≡ Some r → BlockChecked program function b before r.block
    steps_sound parsed.no_stmt before r h = sym (ap (λ (x : Blocked). x.block) (some_is _ r h))
    steps_sound (parsed.stmt s rest) before r h =
        let c = bind_some (step_of program function s before) _ r h in let b = bind_some (steps_of program function rest c.0.after) _ r c.2 in
        (c.0.after, c.0.stmt, b.0.block, step_sound s before c.0 c.1, steps_sound rest c.0.after b.0 b.1, sym (ap (λ (x : Blocked). x.block) (some_is _ r b.2)))

  abbrev Ends : parsed.Block → Context → Block → Type 0
  Ends b before c = (after : Context) × (steps_of program function b before ≡ Some (record { block = c; after = after }))

  alone : (b : parsed.Block) (before : Context) (c : Block) → Ends b before c → block_from program function b before ≡ Some c
  alone b before c h = both (steps_of program function b before) _ block_alone _ h.1 refl

  mutual
    step_complete : (s : parsed.Stmt) (before : Context) (c : Stmt) (after : Context) → StatementChecked program function s before c after → step_of program function s before ≡ Some (record { stmt = c; after = after })
    step_complete (parsed.Let x e) before c after h =
        both (fresh before x) tt _ _ (free_to (kind_in before x) h.2) (both (infer program before e) (record { expr = h.0; kind = h.1 }) _ _ (is_complete program before e h.0 h.1 h.3) (stepped_is _ _ c after h.4 h.5))
    step_complete (parsed.LetCall x others g args) before c after h =
        let n = are_complete_names before (x ∷ others) (h.0.result ∷ h.0.others) after h.4 in
        both (new_names before [] (x ∷ others)) tt _ _ n.0 (both (callee program g (length others) (count args)) h.0 _ _ (callee_to program g (length others) (count args) h.0 h.2 (arguments_count program before args h.1 h.0.parameters h.3))
        (both (infer_arguments program before args h.0.parameters) h.1 _ _ (are_complete_arguments program before args h.1 h.0.parameters h.3) (stepped_is _ _ c after h.5 n.1)))
    step_complete (parsed.LetRemote x others k g args) before c after h =
        let n = are_complete_names before (x ∷ others) (map parsed.RefType (h.0.result ∷ h.0.others)) after h.6 in
        both (new_names before [] (x ∷ others)) tt _ _ n.0 (both (retries_within k) (retries_of k) _ _ (ap (λ b. when b (retries_of k)) (le_to (retries_of k) 10 h.3))
        (both (callee program g (length others) (count args)) h.0 _ _ (callee_to program g (length others) (count args) h.0 h.4 (marked_count program before args h.1 h.2 h.0.parameters h.5))
        (both (infer_marked program before args h.0.parameters) (record { marks = h.1; exprs = h.2 }) _ _ (are_complete_marked program before args h.1 h.2 h.0.parameters h.5) (stepped_is _ _ c after h.7 n.1))))
    step_complete (parsed.Set x e) before c after h =
        both (kind_in before x) h.1 _ _ h.2 (both (infer_as program before h.1 e) h.0 _ _ (is_complete_as program before e h.0 h.1 h.3) (stepped_is _ _ c after h.4 h.5))
    step_complete (parsed.If e a) before c after h =
        both (infer_as program before Number e) h.0 _ _ (is_complete_as program before e h.0 Number h.2) (both (block_from program function a before) h.1 _ _ (alone a before h.1 (steps_complete a before h.1 h.3)) (stepped_is _ _ c after h.4 h.5))
    step_complete (parsed.IfElse e a b) before c after h =
        both (infer_as program before Number e) h.0 _ _ (is_complete_as program before e h.0 Number h.3) (both (block_from program function a before) h.1 _ _ (alone a before h.1 (steps_complete a before h.1 h.4))
        (both (block_from program function b before) h.2 _ _ (alone b before h.2 (steps_complete b before h.2 h.5)) (stepped_is _ _ c after h.6 h.7)))
    step_complete (parsed.For x from to body) before c after h =
        both (fresh before x) tt _ _ (free_to (kind_in before x) h.3) (both (infer_as program before Number from) h.0 _ _ (is_complete_as program before from h.0 Number h.4) (both (infer_as program before Number to) h.1 _ _ (is_complete_as program before to h.1 Number h.5)
        (both (block_from program function body (before ++ variable x Number)) h.2 _ _ (alone body (before ++ variable x Number) h.2 (steps_complete body (before ++ variable x Number) h.2 h.6)) (stepped_is _ _ c after h.7 h.8))))
    step_complete (parsed.Print e) before c after h =
        let i = is_complete program before e h.0 h.1 h.3 in
        ap (λ b. if b then (infer program before e >>= λ y. if has_reference y.kind then None else Some (stepped (syntax.Print y.expr) before)) else None) (ap (λ n. same_name n main_name) h.2 ∙ same_name-refl main_name)
        ∙ both (infer program before e) (record { expr = h.0; kind = h.1 }) _ _ i (ap (λ b. if b then None else Some (stepped (syntax.Print h.0) before)) h.4 ∙ stepped_is _ _ c after h.5 h.6)
    step_complete (parsed.Return e others) before c after h =
        both (only (nat_eq (count others) (length function.others))) tt _ _ (ap only (eq_to (count others) (length function.others) (sym (results_count program before others h.1.1 function.others h.1.3))))
        (both (infer_results program before (parsed.also e others) (function.result ∷ function.others)) h.0 _ _ (are_complete_results program before (parsed.also e others) h.0 (function.result ∷ function.others) h.1) (stepped_is _ _ c after h.2 h.3))

    steps_complete : (b : parsed.Block) (before : Context) (c : Block) → BlockChecked program function b before c → Ends b before c
    steps_complete parsed.no_stmt before c h = (before, ap (λ x. Some (record { block = x; after = before })) (sym h))
    steps_complete (parsed.stmt s rest) before c h =
        let r = steps_complete rest h.0 h.2 h.4 in
        (r.0, both (step_of program function s before) (stepped h.1 h.0) _ _ (step_complete s before h.1 h.0 h.3) (both (steps_of program function rest h.0) (record { block = h.2; after = r.0 }) _ _ r.1 (ap (λ x. Some (record { block = x; after = r.0 })) (sym h.5))))

-- Functions

declared_sound : (ps : List parsed.Parameter) (before : Context) (d : Declared) → declared ps before ≡ Some d → ParametersChecked ps before d.parameters d.context
declared_sound [] before d h = (sym (ap (λ (x : Declared). x.parameters) (some_is _ d h)), sym (ap (λ (x : Declared). x.context) (some_is _ d h)))
declared_sound (p ∷ ps) before d h =
    let f = bind_some (fresh before p.name) _ d h in let r = bind_some (declared ps (before ++ variable p.name (kind_named p.kind))) _ d f.2 in let e = some_is _ d r.2 in
    (r.0.parameters, free_from (kind_in before p.name) f.1, subst (λ c. ParametersChecked ps (before ++ variable p.name (kind_named p.kind)) r.0.parameters c) (ap (λ (x : Declared). x.context) e) (declared_sound ps (before ++ variable p.name (kind_named p.kind)) r.0 r.1), sym (ap (λ (x : Declared). x.parameters) e))

declared_complete : (ps : List parsed.Parameter) (before : Context) (qs : List Parameter) (after : Context) → ParametersChecked ps before qs after → declared ps before ≡ Some (record { parameters = qs; context = after })
declared_complete [] before qs after h = ap (λ x. Some (record { parameters = x; context = before })) (sym h.0) ∙ ap (λ x. Some (record { parameters = qs; context = x })) (sym h.1)
declared_complete (p ∷ ps) before qs after h =
    both (fresh before p.name) tt _ _ (free_to (kind_in before p.name) h.1) (both (declared ps (before ++ variable p.name (kind_named p.kind))) (record { parameters = h.0; context = after }) _ _ (declared_complete ps (before ++ variable p.name (kind_named p.kind)) h.0 after h.2) (ap (λ x. Some (record { parameters = x; context = after })) (sym h.3)))

function_sound : (program : parsed.Program) (f : parsed.Function) (g : Function) → function_from program f ≡ Some g → FunctionChecked program f g
function_sound program f g h =
    let d = bind_some (declared f.parameters []) _ g h in let b = bind_some (block_from program f f.body d.0.context) _ g d.2 in let w = when_some (block_returns f.body) _ g b.2 in
    let y = bind_some (steps_of program f f.body d.0.context) block_alone b.0 b.1 in
    record {
      context = d.0.context;
      name = sym (ap (λ (x : Function). x.name) w.1);
      parameters = subst (λ qs. ParametersChecked f.parameters [] qs d.0.context) (ap (λ (x : Function). x.parameters) w.1) (declared_sound f.parameters [] d.0 d.1);
      result = sym (ap (λ (x : Function). x.result) w.1);
      others = sym (ap (λ (x : Function). x.others) w.1);
      body = subst (λ z. BlockChecked program f f.body d.0.context z) (some_is _ _ y.2 ∙ ap (λ (x : Function). x.body) w.1) (steps_sound program f f.body d.0.context y.0 y.1);
      returns = block_returns_from f.body w.0;
    }

function_complete : (program : parsed.Program) (f : parsed.Function) (g : Function) → FunctionChecked program f g → function_from program f ≡ Some g
function_complete program f g h =
    both (declared f.parameters []) (record { parameters = g.parameters; context = h.context }) _ _ (declared_complete f.parameters [] g.parameters h.context h.parameters)
    (both (block_from program f f.body h.context) g.body _ _ (alone program f f.body h.context g.body (steps_complete program f f.body h.context g.body h.body))
    (ap (λ b. when b (record { name = f.name; parameters = g.parameters; result = kind_named f.result; others = map kind_named f.others; body = g.body })) (block_returns_to f.body h.returns)
    ∙ ap (λ n. Some (record { name = n; parameters = g.parameters; result = kind_named f.result; others = map kind_named f.others; body = g.body })) (sym h.name)
    ∙ ap (λ k. Some (record { name = g.name; parameters = g.parameters; result = k; others = map kind_named f.others; body = g.body })) (sym h.result)
    ∙ ap (λ ks. Some (record { name = g.name; parameters = g.parameters; result = g.result; others = ks; body = g.body })) (sym h.others)))

functions_sound : (program fs : parsed.Program) (script : Script) → functions_from program fs ≡ Some script → FunctionsChecked program fs script
functions_sound program [] script h = sym (some_is _ script h)
functions_sound program (f ∷ fs) script h =
    let g = bind_some (function_from program f) _ script h in let gs = bind_some (functions_from program fs) _ script g.2 in
    (g.0, gs.0, function_sound program f g.0 g.1, functions_sound program fs gs.0 gs.1, sym (some_is _ script gs.2))

functions_complete : (program fs : parsed.Program) (script : Script) → FunctionsChecked program fs script → functions_from program fs ≡ Some script
functions_complete program [] script h = ap Some (sym h)
functions_complete program (f ∷ fs) script h = both (function_from program f) h.0 _ _ (function_complete program f h.0 h.2) (both (functions_from program fs) h.1 _ _ (functions_complete program fs h.1 h.3) (ap Some (sym h.4)))

-- Programs

absent_from : (o : Option parsed.Function) → is_absent o ≡ true → o ≡ None
absent_from None h = refl
absent_from (Some f) h = absurd (cc)

apart_sound : (before fs : parsed.Program) → are_apart before fs ≡ true → AreNamedApart before fs
apart_sound before [] h = tt
apart_sound before (f ∷ fs) h = let w = and_true (is_absent (function_in before f.name)) (are_apart (before ++ f ∷ []) fs) h in (absent_from (function_in before f.name) w.0, apart_sound (before ++ f ∷ []) fs w.1)

apart_complete : (before fs : parsed.Program) → AreNamedApart before fs → are_apart before fs ≡ true
apart_complete before [] h = refl
apart_complete before (f ∷ fs) h = both_true (is_absent (function_in before f.name)) (are_apart (before ++ f ∷ []) fs) (ap is_absent h.0) (apart_complete (before ++ f ∷ []) fs h.1)

int_is : (t : parsed.Kind) → kind_named t ≡ Number → t ≡ parsed.IntType
int_is parsed.IntType h = refl
int_is (parsed.ListType t) h = absurd (cc)
int_is (parsed.RefType t) h = absurd (cc)

main_sound : (program : parsed.Program) → is_main_good (function_in program main_name) ≡ true → HasMain program
main_sound program h = go (function_in program main_name) refl h
  where
    go : (o : Option parsed.Function) → function_in program main_name ≡ o → is_main_good o ≡ true → HasMain program
    go None e k = absurd (cc)
    go (Some f) e k =
        let v = and_true (nat_eq (length f.parameters) 0 && same_kind (kind_named f.result) Number) (is_single f.others) k in
        let w = and_true (nat_eq (length f.parameters) 0) (same_kind (kind_named f.result) Number) v.0 in
        (f, e, none_left f.parameters (eq_from (length f.parameters) 0 w.0), int_is f.result (same_kind_is (kind_named f.result) Number w.1), single_from f.others v.1)

main_complete : (program : parsed.Program) → HasMain program → is_main_good (function_in program main_name) ≡ true
main_complete program h =
    ap is_main_good h.1
    ∙ both_true (nat_eq (length h.0.parameters) 0 && same_kind (kind_named h.0.result) Number) (is_single h.0.others) (both_true (nat_eq (length h.0.parameters) 0) (same_kind (kind_named h.0.result) Number) (ap (λ ps. nat_eq (length ps) 0) h.2) (ap (λ t. same_kind (kind_named t) Number) h.3)) (ap is_single h.4)

pub program_sound : (program : parsed.Program) (script : Script) → are_apart [] program ≡ true → is_main_good (function_in program main_name) ≡ true → functions_from program program ≡ Some script → IsCheckedOf program script
program_sound program script a m f = record { apart = apart_sound [] program a; main = main_sound program m; functions = functions_sound program program script f }

pub apart_is : (program : parsed.Program) (script : Script) → IsCheckedOf program script → are_apart [] program ≡ true
apart_is program script h = apart_complete [] program h.apart

pub main_is : (program : parsed.Program) (script : Script) → IsCheckedOf program script → is_main_good (function_in program main_name) ≡ true
main_is program script h = main_complete program h.main

pub functions_are : (program : parsed.Program) (script : Script) → IsCheckedOf program script → functions_from program program ≡ Some script
functions_are program script h = functions_complete program program script h.functions

pub one_checked : (program : parsed.Program) (a b : Script) → IsCheckedOf program a → IsCheckedOf program b → a ≡ b
one_checked program a b h k = some_is a b (sym (functions_are program a h) ∙ functions_are program b k)

-- what is no refusal is want of memory
pub memory_only : (e : CheckError) → (IsTrue (is_refusal e) → ⊥) → e ≡ NoMemory
memory_only (UnknownName s) h = absurd (h refl)
memory_only (WrongType s) h = absurd (h refl)
memory_only (WrongCount s) h = absurd (h refl)
memory_only NoMain h = absurd (h refl)
memory_only (PrintOutsideMain s) h = absurd (h refl)
memory_only (MissingReturn s) h = absurd (h refl)
memory_only (BadRetries s) h = absurd (h refl)
memory_only (Duplicate s) h = absurd (h refl)
memory_only (WrongReturns s) h = absurd (h refl)
memory_only NoMemory h = refl
