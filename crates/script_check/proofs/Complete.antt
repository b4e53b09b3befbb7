-- What is allowed is inferred.
use Rattle.std.proofs.Common.{◌≡◌, ℕ, ◌^◌, Bool, true, false, List, [], ◌∷◌, length, refl, sym, ap, ◌∙◌, arith, Some, None, pos}
use Rattle.std.specs.Prelude.{nat_eq, ◌&&◌, if◌then◌else◌}
use Rattle.meaning.specs.Values.{Name}
use Rattle.meaning.specs.Syntax.{Kind, Number, ListKind, RefKind, Expr, Exprs, end, also}
use Rattle.meaning.specs.Syntax as syntax
use Rattle.meaning.specs.Meaning.{same_name}
use Rattle.meaning.specs.Kinds.{Context, kind_in, argument_kind}
use Rattle.meaning.proofs.Names.{same_name-true}
use Rattle.script_syntax.specs.Trees as parsed
use Rattle.script_syntax.specs.declared.tree.Prefix.TheVariants as prefixes
use Rattle.script_check.specs.Trees.{kind_named}
use Rattle.script_check.specs.Rules.{function_in, IsCallee, retries_of, IsChecked, EachChecked, ArgumentsChecked, MarkedChecked, ResultsChecked}
use Rattle.meaning.specs.Values.{main_name}
use Rattle.script_check.specs.Inference.{◌>>=◌, when, same_kind, Typing, of_kind, prefixed, mark_for, retries_within, count, callee, infer, infer_as, infer_each, infer_arguments, infer_marked, infer_results}
use Rattle.script_check.proofs.Arms.{both}
use Rattle.script_check.proofs.Binds.{both_true}
use Rattle.script_check.proofs.Sound.{same_kind_itself, lt_to, le_to, eq_to}

abbrev typing : Expr → Kind → Typing
typing c t = record { expr = c; kind = t }

made : (c : Expr) (t : Kind) (d : Expr) (u : Kind) → d ≡ c → u ≡ t → Some (typing c t) ≡ Some (typing d u)
made c t d u e f = ap (λ x. Some (typing x t)) (sym e) ∙ ap (λ x. Some (typing d x)) (sym f)

pub callee_to : (program : parsed.Program) (g : Name) (others n : ℕ) (f : parsed.Function) → IsCallee program g others f → length f.parameters ≡ n → callee program g others n ≡ Some f
callee_to program g others n f h e = go (same_name g main_name) refl
  where
    go : (b : Bool) → same_name g main_name ≡ b → (if b then None else (function_in program g >>= λ k. when (nat_eq (length k.others) others && nat_eq (length k.parameters) n) k)) ≡ Some f
    go true same = absurd (h.not_main (same_name-true g main_name same))
    go false other = both (function_in program g) f _ _ h.found (ap (λ b. when b f) (both_true (nat_eq (length f.others) others) (nat_eq (length f.parameters) n) (eq_to (length f.others) others h.results) (eq_to (length f.parameters) n e)))

not_itself : (t : Kind) → same_kind (RefKind t) t ≡ true → ⊥
not_itself Number h = cc
not_itself (ListKind t) h = cc
not_itself (RefKind t) h = not_itself t h

marks_for : (m : Bool) (t : Kind) → mark_for (argument_kind m t) t ≡ Some m
marks_for false t = ap (λ b. if b then Some false else when (same_kind t (RefKind t)) true) (same_kind_itself t)
marks_for true t = go (same_kind (RefKind t) t) refl
  where
    go : (b : Bool) → same_kind (RefKind t) t ≡ b → (if b then Some false else when (same_kind (RefKind t) (RefKind t)) true) ≡ Some true
    go true h = absurd (not_itself t h)
    go false h = ap (λ b. when b true) (same_kind_itself (RefKind t))

module _ (program : parsed.Program) (context : Context) where
  as_kind : (e : parsed.Expr) (c : Expr) (t : Kind) → infer program context e ≡ Some (record { expr = c; kind = t }) → infer_as program context t e ≡ Some c
  as_kind e c t h = both (infer program context e) (record { expr = c; kind = t }) (of_kind t) (Some c) h (ap (λ b. when b c) (same_kind_itself t))

  pub arguments_count : (es : parsed.Exprs) (cs : Exprs) (ps : List parsed.Parameter) → ArgumentsChecked program context es cs ps → length ps ≡ count es
  arguments_count parsed.no_expr cs [] h = refl
  arguments_count parsed.no_expr cs (p ∷ ps) h = absurd h
  arguments_count (parsed.also e es) cs [] h = absurd h
  arguments_count (parsed.also e es) cs (p ∷ ps) h = let r = arguments_count es h.1 ps h.3 in omega arith

  pub results_count : (es : parsed.Exprs) (cs : Exprs) (ts : List parsed.Kind) → ResultsChecked program context es cs ts → length ts ≡ count es
  results_count parsed.no_expr cs [] h = refl
  results_count parsed.no_expr cs (t ∷ ts) h = absurd h
  results_count (parsed.also e es) cs [] h = absurd h
  results_count (parsed.also e es) cs (t ∷ ts) h = let r = results_count es h.1 ts h.3 in omega arith

  pub marked_count : (es : parsed.Exprs) (ms : List Bool) (cs : Exprs) (ps : List parsed.Parameter) → MarkedChecked program context es ms cs ps → length ps ≡ count es
  marked_count parsed.no_expr ms cs [] h = refl
  marked_count parsed.no_expr ms cs (p ∷ ps) h = absurd h
  marked_count (parsed.also e es) ms cs [] h = absurd h
  marked_count (parsed.also e es) ms cs (p ∷ ps) h = let r = marked_count es h.3 h.1 ps h.5 in omega arith

  mutual
    complete : (e : parsed.Expr) (c : Expr) (t : Kind) → IsChecked program context e c t → infer program context e ≡ Some (record { expr = c; kind = t })
    complete (parsed.Number n) c t h = ap (λ b. when b (typing (syntax.Num (pos n)) Number)) (lt_to n (2 ^ 63) h.0) ∙ made (syntax.Num (pos n)) Number c t h.1 h.2
    complete (parsed.Variable x) c t h = both (kind_in context x) t _ _ h.0 (made (syntax.Var x) t c t h.1 refl)
    complete (parsed.Prefixed prefixes.Negate a) c t h = both (infer program context a) (record { expr = h.0; kind = Number }) (prefixed prefixes.Negate) _ (complete a h.0 Number h.1) (made _ _ c t h.2 h.3)
    complete (parsed.Prefixed prefixes.Get a) c t h = both (infer program context a) (record { expr = h.0; kind = RefKind t }) (prefixed prefixes.Get) _ (complete a h.0 (RefKind t) h.1) (made _ _ c t h.2 refl)
    complete (parsed.Prefixed prefixes.Put a) c t h = both (infer program context a) (record { expr = h.0; kind = h.1 }) (prefixed prefixes.Put) _ (complete a h.0 h.1 h.2) (made _ _ c t h.3 h.4)
    complete (parsed.Binary op a b) c t h =
        both (infer_as program context Number a) h.0 _ _ (as_kind a h.0 Number (complete a h.0 Number h.2)) (both (infer_as program context Number b) h.1 _ _ (as_kind b h.1 Number (complete b h.1 Number h.3)) (made _ _ c t h.4 h.5))
    complete (parsed.Item a i) c t h =
        both (infer program context a) (record { expr = h.0; kind = ListKind t }) _ _ (complete a h.0 (ListKind t) h.2) (both (infer_as program context Number i) h.1 _ _ (as_kind i h.1 Number (complete i h.1 Number h.3)) (made _ _ c t h.4 refl))
    complete (parsed.ListOf parsed.no_expr) c t h = absurd h
    complete (parsed.ListOf (parsed.also e es)) c t h =
        both (infer program context e) (record { expr = h.0; kind = h.2 }) _ _ (complete e h.0 h.2 h.3) (both (infer_each program context h.2 es) h.1 _ _ (complete_each es h.1 h.2 h.4) (made _ _ c t h.5 h.6))
    complete (parsed.Empty u) c t h = made _ _ c t h.0 h.1
    complete (parsed.Call g args) c t h =
        both (callee program g 0 (count args)) h.0 _ _ (callee_to program g 0 (count args) h.0 h.2 (arguments_count args h.1 h.0.parameters h.3)) (both (infer_arguments program context args h.0.parameters) h.1 _ _ (complete_arguments args h.1 h.0.parameters h.3) (made _ _ c t h.4 h.5))
    complete (parsed.Remote r g args) c t h =
        both (retries_within r) (retries_of r) _ _ (ap (λ b. when b (retries_of r)) (le_to (retries_of r) 10 h.3))
        (both (callee program g 0 (count args)) h.0 _ _ (callee_to program g 0 (count args) h.0 h.4 (marked_count args h.1 h.2 h.0.parameters h.5))
        (both (infer_marked program context args h.0.parameters) (record { marks = h.1; exprs = h.2 }) _ _ (complete_marked args h.1 h.2 h.0.parameters h.5) (made _ _ c t h.6 h.7)))
    complete (parsed.Len a) c t h = both (infer program context a) (record { expr = h.0; kind = ListKind h.1 }) _ _ (complete a h.0 (ListKind h.1) h.2) (made _ _ c t h.3 h.4)
    complete (parsed.Push a b) c t h =
        both (infer program context a) (record { expr = h.0; kind = ListKind h.2 }) _ _ (complete a h.0 (ListKind h.2) h.3) (both (infer_as program context h.2 b) h.1 _ _ (as_kind b h.1 h.2 (complete b h.1 h.2 h.4)) (made _ _ c t h.5 h.6))

    complete_each : (es : parsed.Exprs) (cs : Exprs) (t : Kind) → EachChecked program context es cs t → infer_each program context t es ≡ Some cs
    complete_each parsed.no_expr cs t h = ap Some (sym h)
    complete_each (parsed.also e es) cs t h = both (infer_as program context t e) h.0 _ _ (as_kind e h.0 t (complete e h.0 t h.2)) (both (infer_each program context t es) h.1 _ _ (complete_each es h.1 t h.3) (ap Some (sym h.4)))

    complete_arguments : (es : parsed.Exprs) (cs : Exprs) (ps : List parsed.Parameter) → ArgumentsChecked program context es cs ps → infer_arguments program context es ps ≡ Some cs
    complete_arguments parsed.no_expr cs [] h = ap Some (sym h)
    complete_arguments parsed.no_expr cs (p ∷ ps) h = absurd h
    complete_arguments (parsed.also e es) cs [] h = absurd h
    complete_arguments (parsed.also e es) cs (p ∷ ps) h =
        both (infer_as program context (kind_named p.kind) e) h.0 _ _ (as_kind e h.0 (kind_named p.kind) (complete e h.0 (kind_named p.kind) h.2)) (both (infer_arguments program context es ps) h.1 _ _ (complete_arguments es h.1 ps h.3) (ap Some (sym h.4)))

    complete_marked : (es : parsed.Exprs) (ms : List Bool) (cs : Exprs) (ps : List parsed.Parameter) → MarkedChecked program context es ms cs ps → infer_marked program context es ps ≡ Some (record { marks = ms; exprs = cs })
    complete_marked parsed.no_expr ms cs [] h = ap (λ x. Some (record { marks = x; exprs = end })) (sym h.0) ∙ ap (λ x. Some (record { marks = ms; exprs = x })) (sym h.1)
    complete_marked parsed.no_expr ms cs (p ∷ ps) h = absurd h
    complete_marked (parsed.also e es) ms cs [] h = absurd h
    complete_marked (parsed.also e es) ms cs (p ∷ ps) h =
        let k = argument_kind h.2 (kind_named p.kind) in
        both (infer program context e) (record { expr = h.0; kind = k }) _ _ (complete e h.0 k h.4) (both (mark_for k (kind_named p.kind)) h.2 _ _ (marks_for h.2 (kind_named p.kind))
        (both (infer_marked program context es ps) (record { marks = h.3; exprs = h.1 }) _ _ (complete_marked es h.3 h.1 ps h.5) (ap (λ x. Some (record { marks = x; exprs = also h.0 h.1 })) (sym h.6) ∙ ap (λ x. Some (record { marks = ms; exprs = x })) (sym h.7))))

  complete_results : (es : parsed.Exprs) (cs : Exprs) (ts : List parsed.Kind) → ResultsChecked program context es cs ts → infer_results program context es ts ≡ Some cs
  complete_results parsed.no_expr cs [] h = ap Some (sym h)
  complete_results parsed.no_expr cs (t ∷ ts) h = absurd h
  complete_results (parsed.also e es) cs [] h = absurd h
  complete_results (parsed.also e es) cs (t ∷ ts) h =
      both (infer_as program context (kind_named t) e) h.0 _ _ (as_kind e h.0 (kind_named t) (complete e h.0 (kind_named t) h.2)) (both (infer_results program context es ts) h.1 _ _ (complete_results es h.1 ts h.3) (ap Some (sym h.4)))

pub is_complete : (program : parsed.Program) (context : Context) (e : parsed.Expr) (c : Expr) (t : Kind) → IsChecked program context e c t → infer program context e ≡ Some (record { expr = c; kind = t })
is_complete program context = complete program context

pub is_complete_as : (program : parsed.Program) (context : Context) (e : parsed.Expr) (c : Expr) (t : Kind) → IsChecked program context e c t → infer_as program context t e ≡ Some c
is_complete_as program context e c t h = as_kind program context e c t (complete program context e c t h)

pub are_complete_arguments : (program : parsed.Program) (context : Context) (es : parsed.Exprs) (cs : Exprs) (ps : List parsed.Parameter) → ArgumentsChecked program context es cs ps → infer_arguments program context es ps ≡ Some cs
are_complete_arguments program context = complete_arguments program context

pub are_complete_marked : (program : parsed.Program) (context : Context) (es : parsed.Exprs) (ms : List Bool) (cs : Exprs) (ps : List parsed.Parameter) → MarkedChecked program context es ms cs ps → infer_marked program context es ps ≡ Some (record { marks = ms; exprs = cs })
are_complete_marked program context = complete_marked program context

pub are_complete_results : (program : parsed.Program) (context : Context) (es : parsed.Exprs) (cs : Exprs) (ts : List parsed.Kind) → ResultsChecked program context es cs ts → infer_results program context es ts ≡ Some cs
are_complete_results program context = complete_results program context
