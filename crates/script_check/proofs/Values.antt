-- Steps of the proofs on several results.
use Rattle.std.proofs.Common.{◌≡◌, ℕ, zero, suc, ◌+◌, ◌<◌, ◌≤◌, Bool, true, false, List, [], ◌∷◌, ◌++◌, length, get_or, take, drop, map, refl, sym, ap, ◌∙◌, arith, Option, Some, None, add-one}
use Rattle.std.specs.Prelude.{nat_eq}
use Rattle.std.proofs.lemmas.List.{length-map}
use Rattle.meaning.specs.Values.{Name as AName}
use Rattle.meaning.specs.Syntax.{RefKind, Expr as AnExpr, Exprs, also}
use Rattle.meaning.specs.Syntax as syntax
use Rattle.meaning.specs.Kinds.{Context}
use Rattle.script_syntax.specs.Trees as parsed
use Rattle.script_syntax.specs.Views.{tree_of, trees_of, type_of, name_of}
use Rattle.script_syntax.specs.declared.tree.Expr.{Expr}
use Rattle.script_syntax.specs.declared.tree.Name.{Name}
use Rattle.script_syntax.specs.declared.tree.ValueType.{ValueType}
use Rattle.script_check.specs.Rules.{variable}
use Rattle.script_check.specs.Trees.{kind_named, kind_of, expr_of, exprs_of}
use Rattle.script_check.specs.Typings.{onto}
use Rattle.script_check.specs.Inference.{only, count, callee, infer, infer_as, infer_arguments, infer_results, fresh, new_name, new_names, bound, let_call_step, return_step, retries_within, infer_marked, let_remote_step, Marked}
use Rattle.script_check.specs.declared.tree.CheckedExpr.{CheckedExpr}
use Rattle.script_check.proofs.Arms.{here, drop_end, both, neither, onto_none, onto_more, joined_end, count_trees}
use Rattle.script_check.proofs.Sound.{eq_from, eq_to}

-- Values of results

unequal : (m n : ℕ) → (m ≡ n → ⊥) → nat_eq m n ≡ false
unequal m n h = go (nat_eq m n) refl
  where
    go : (b : Bool) → nat_eq m n ≡ b → b ≡ false
    go true e = absurd (h (eq_from m n e))
    go false e = refl

count_is : (es : List Expr) (ts : List ValueType) → length es ≡ length ts → count (trees_of es) ≡ length (map type_of ts)
count_is es ts e = count_trees es ∙ e ∙ sym (length-map ts type_of)

pub counted : (es : List Expr) (ts : List ValueType) → length es ≡ length ts → nat_eq (count (trees_of es)) (length (map type_of ts)) ≡ true
counted es ts e = eq_to (count (trees_of es)) (length (map type_of ts)) (count_is es ts e)

pub miscounted : (es : List Expr) (ts : List ValueType) → (length es ≡ length ts → ⊥) → nat_eq (count (trees_of es)) (length (map type_of ts)) ≡ false
miscounted es ts h = unequal (count (trees_of es)) (length (map type_of ts)) (λ e. h (sym (count_trees es) ∙ e ∙ length-map ts type_of))

module _ (program : parsed.Program) (context : Context) where
  unread : (e : parsed.Expr) (es : parsed.Exprs) (ts : List parsed.Kind) → infer program context e ≡ None → infer_results program context (parsed.also e es) ts ≡ None
  unread e es [] none = refl
  unread e es (t ∷ ts) none = neither (infer_as program context (kind_named t) e) _ (neither (infer program context e) _ none)

  pub values_fail : (before cs : List CheckedExpr) (es : List Expr) (ts : List ValueType) (i : ℕ) (x : Expr) (whole : Option Exprs) → i < length es → x ≡ get_or es i x →
      onto cs (infer_results program context (trees_of (drop i es)) (map type_of (drop i ts))) ≡ onto before whole →
      infer program context (tree_of x) ≡ None → whole ≡ None
  values_fail before cs es ts i x whole h e so none =
      onto_none before whole (sym so ∙ ap (λ ys. onto cs (infer_results program context (trees_of ys) (map type_of (drop i ts)))) (here es i x h e)
      ∙ ap (onto cs) (unread (tree_of x) (trees_of (drop (i + 1) es)) (map type_of (drop i ts)) none))

  both_here : (es : List Expr) (ts : List ValueType) (i : ℕ) (x : Expr) (t : ValueType) → i < length es → x ≡ get_or es i x → i < length ts → t ≡ get_or ts i t →
      infer_results program context (trees_of (drop i es)) (map type_of (drop i ts)) ≡ infer_results program context (parsed.also (tree_of x) (trees_of (drop (i + 1) es))) (type_of t ∷ map type_of (drop (i + 1) ts))
  both_here es ts i x t h e ht et =
      ap (λ ys. infer_results program context (trees_of ys) (map type_of (drop i ts))) (here es i x h e)
      ∙ ap (λ us. infer_results program context (parsed.also (tree_of x) (trees_of (drop (i + 1) es))) (map type_of us)) (here ts i t ht et)

  pub values_misfit : (before cs : List CheckedExpr) (es : List Expr) (ts : List ValueType) (i : ℕ) (x : Expr) (t : ValueType) (whole : Option Exprs) → i < length es → x ≡ get_or es i x → i < length ts → t ≡ get_or ts i t →
      onto cs (infer_results program context (trees_of (drop i es)) (map type_of (drop i ts))) ≡ onto before whole →
      infer_as program context (kind_of t) (tree_of x) ≡ None → whole ≡ None
  values_misfit before cs es ts i x t whole h e ht et so none =
      onto_none before whole (sym so ∙ ap (onto cs) (both_here es ts i x t h e ht et ∙ neither (infer_as program context (kind_of t) (tree_of x)) _ none))

  pub values_step : (cs : List CheckedExpr) (c : CheckedExpr) (es : List Expr) (ts : List ValueType) (i : ℕ) (x : Expr) (t : ValueType) (whole : Option Exprs) → i < length es → x ≡ get_or es i x → i < length ts → t ≡ get_or ts i t →
      onto cs (infer_results program context (trees_of (drop i es)) (map type_of (drop i ts))) ≡ whole →
      infer_as program context (kind_of t) (tree_of x) ≡ Some (expr_of c) →
      onto (cs ++ c ∷ []) (infer_results program context (trees_of (drop (i + 1) es)) (map type_of (drop (i + 1) ts))) ≡ whole
  values_step cs c es ts i x t whole h e ht et so some =
      sym (onto_more cs c (infer_results program context (trees_of (drop (i + 1) es)) (map type_of (drop (i + 1) ts))))
      ∙ sym (ap (onto cs) (both_here es ts i x t h e ht et ∙ both (infer_as program context (kind_of t) (tree_of x)) (expr_of c) _ _ some refl)) ∙ so

  pub values_end : (cs : List CheckedExpr) (es : List Expr) (ts : List ValueType) (i : ℕ) (whole : Option Exprs) → length ts ≡ length es → length es ≤ i →
      onto cs (infer_results program context (trees_of (drop i es)) (map type_of (drop i ts))) ≡ whole → whole ≡ Some (exprs_of cs)
  values_end cs es ts i whole l h so =
      sym so ∙ ap (λ ys. onto cs (infer_results program context (trees_of ys) (map type_of (drop i ts)))) (drop_end es i h)
      ∙ ap (λ us. onto cs (infer_results program context parsed.no_expr (map type_of us))) (drop_end ts i (omega arith)) ∙ ap Some (joined_end cs)

  -- a return

  module _ (t : parsed.Kind) (ts : List parsed.Kind) (e : parsed.Expr) (es : parsed.Exprs) where
    pub return_miscounted : nat_eq (count es) (length ts) ≡ false → return_step program t ts context e es ≡ None
    return_miscounted h = neither (only (nat_eq (count es) (length ts))) _ (ap only h)

    pub return_fails_first : nat_eq (count es) (length ts) ≡ true → infer_as program context (kind_named t) e ≡ None → return_step program t ts context e es ≡ None
    return_fails_first h none =
        both (only (nat_eq (count es) (length ts))) tt _ None (ap only h) (neither (infer_results program context (parsed.also e es) (t ∷ ts)) _ (neither (infer_as program context (kind_named t) e) _ none))

    pub return_fails_rest : (c : AnExpr) → nat_eq (count es) (length ts) ≡ true → infer_as program context (kind_named t) e ≡ Some c → infer_results program context es ts ≡ None → return_step program t ts context e es ≡ None
    return_fails_rest c h some none =
        both (only (nat_eq (count es) (length ts))) tt _ None (ap only h) (neither (infer_results program context (parsed.also e es) (t ∷ ts)) _ (both (infer_as program context (kind_named t) e) c _ None some (neither (infer_results program context es ts) _ none)))

    pub return_gives : (c : CheckedExpr) (cs : Exprs) → nat_eq (count es) (length ts) ≡ true → infer_as program context (kind_named t) e ≡ Some (expr_of c) → onto (c ∷ []) (infer_results program context es ts) ≡ Some cs →
        return_step program t ts context e es ≡ Some (record { stmt = syntax.Return cs; after = context })
    return_gives c cs h some rest =
        both (only (nat_eq (count es) (length ts))) tt _ _ (ap only h) (both (infer_results program context (parsed.also e es) (t ∷ ts)) cs _ _ (both (infer_as program context (kind_named t) e) (expr_of c) _ _ some rest) refl)

-- Names

map_snoc : {A B : Type 0} (f : A → B) (xs : List A) (x : A) → map f (xs ++ x ∷ []) ≡ map f xs ++ f x ∷ []
map_snoc f [] x = refl
map_snoc f (y ∷ xs) x = ap (λ ys. f y ∷ ys) (map_snoc f xs x)

take_suc : {A : Type 0} (xs : List A) (i : ℕ) (x : A) → i < length xs → x ≡ get_or xs i x → take (suc i) xs ≡ take i xs ++ x ∷ []
take_suc [] i x h e = absurd (omega arith)
take_suc (y ∷ xs) zero x h e = ap (λ z. z ∷ []) (sym e)
take_suc (y ∷ xs) (suc i) x h e = ap (λ ys. y ∷ ys) (take_suc xs i x (omega arith) e)

take_next : {A : Type 0} (xs : List A) (i : ℕ) (x : A) → i < length xs → x ≡ get_or xs i x → take (i + 1) xs ≡ take i xs ++ x ∷ []
take_next xs i x h e = rw add-one (take_suc xs i x h e)

module _ (context : Context) (first : AName) where
  pub names_old : (xs : List AName) → fresh context first ≡ None → new_names context [] (first ∷ xs) ≡ None
  names_old xs none = neither (new_name context [] first) _ (neither (fresh context first) _ none)

  pub names_begin : (xs : List AName) → fresh context first ≡ Some tt → new_names context (first ∷ []) xs ≡ new_names context [] (first ∷ xs)
  names_begin xs new = sym (both (new_name context [] first) tt _ _ (both (fresh context first) tt _ _ new refl) refl)

  pub names_fail : (xs : List Name) (i : ℕ) (x : Name) (whole : Option Unit) → i < length xs → x ≡ get_or xs i x →
      new_names context (first ∷ map name_of (take i xs)) (map name_of (drop i xs)) ≡ whole → new_name context (first ∷ map name_of (take i xs)) (name_of x) ≡ None → whole ≡ None
  names_fail xs i x whole h e so none =
      sym so ∙ ap (λ ys. new_names context (first ∷ map name_of (take i xs)) (map name_of ys)) (here xs i x h e) ∙ neither (new_name context (first ∷ map name_of (take i xs)) (name_of x)) _ none

  pub names_step : (xs : List Name) (i : ℕ) (x : Name) (whole : Option Unit) → i < length xs → x ≡ get_or xs i x →
      new_names context (first ∷ map name_of (take i xs)) (map name_of (drop i xs)) ≡ whole → new_name context (first ∷ map name_of (take i xs)) (name_of x) ≡ Some tt →
      new_names context (first ∷ map name_of (take (i + 1) xs)) (map name_of (drop (i + 1) xs)) ≡ whole
  names_step xs i x whole h e so new =
      ap (λ ys. new_names context (first ∷ map name_of ys) (map name_of (drop (i + 1) xs))) (take_next xs i x h e)
      ∙ ap (λ ys. new_names context (first ∷ ys) (map name_of (drop (i + 1) xs))) (map_snoc name_of (take i xs) x)
      ∙ sym (ap (λ ys. new_names context (first ∷ map name_of (take i xs)) (map name_of ys)) (here xs i x h e) ∙ both (new_name context (first ∷ map name_of (take i xs)) (name_of x)) tt _ _ new refl) ∙ so

  pub names_end : (xs : List Name) (i : ℕ) (whole : Option Unit) → length xs ≤ i →
      new_names context (first ∷ map name_of (take i xs)) (map name_of (drop i xs)) ≡ whole → whole ≡ Some tt
  names_end xs i whole h so = sym so ∙ ap (λ ys. new_names context (first ∷ map name_of (take i xs)) (map name_of ys)) (drop_end xs i h)

pub bound_step : (before after whole : Context) (xs : List Name) (ts : List ValueType) (i : ℕ) (x : Name) (t : ValueType) → i < length xs → x ≡ get_or xs i x → i < length ts → t ≡ get_or ts i t →
    bound before (map name_of (drop i xs)) (map type_of (drop i ts)) ≡ whole → after ≡ before ++ variable (name_of x) (kind_of t) →
    bound after (map name_of (drop (i + 1) xs)) (map type_of (drop (i + 1) ts)) ≡ whole
bound_step before after whole xs ts i x t h e ht et so is =
    ap (λ z. bound z (map name_of (drop (i + 1) xs)) (map type_of (drop (i + 1) ts))) is
    ∙ sym (ap (λ ys. bound before (map name_of ys) (map type_of (drop i ts))) (here xs i x h e) ∙ ap (λ us. bound before (name_of x ∷ map name_of (drop (i + 1) xs)) (map type_of us)) (here ts i t ht et)) ∙ so

pub bound_end : (before whole : Context) (xs : List Name) (ts : List ValueType) (i : ℕ) → length xs ≤ i → bound before (map name_of (drop i xs)) (map type_of (drop i ts)) ≡ whole → before ≡ whole
bound_end before whole xs ts i h so = sym (ap (λ ys. bound before (map name_of ys) (map type_of (drop i ts))) (drop_end xs i h) ∙ nothing before (map type_of (drop i ts))) ∙ so
  where
    nothing : (c : Context) (us : List parsed.Kind) → bound c [] us ≡ c
    nothing c [] = refl
    nothing c (u ∷ us) = refl

pub references_step : (before after whole : Context) (xs : List Name) (ts : List ValueType) (i : ℕ) (x : Name) (t : ValueType) → i < length xs → x ≡ get_or xs i x → i < length ts → t ≡ get_or ts i t →
    bound before (map name_of (drop i xs)) (map parsed.RefType (map type_of (drop i ts))) ≡ whole → after ≡ before ++ variable (name_of x) (RefKind (kind_of t)) →
    bound after (map name_of (drop (i + 1) xs)) (map parsed.RefType (map type_of (drop (i + 1) ts))) ≡ whole
references_step before after whole xs ts i x t h e ht et so is =
    ap (λ z. bound z (map name_of (drop (i + 1) xs)) (map parsed.RefType (map type_of (drop (i + 1) ts)))) is
    ∙ sym (ap (λ ys. bound before (map name_of ys) (map parsed.RefType (map type_of (drop i ts)))) (here xs i x h e)
    ∙ ap (λ us. bound before (name_of x ∷ map name_of (drop (i + 1) xs)) (map parsed.RefType (map type_of us))) (here ts i t ht et)) ∙ so

pub references_end : (before whole : Context) (xs : List Name) (ts : List ValueType) (i : ℕ) → length xs ≤ i →
    bound before (map name_of (drop i xs)) (map parsed.RefType (map type_of (drop i ts))) ≡ whole → before ≡ whole
references_end before whole xs ts i h so =
    sym (ap (λ ys. bound before (map name_of ys) (map parsed.RefType (map type_of (drop i ts)))) (drop_end xs i h)
    ∙ nothing before (map parsed.RefType (map type_of (drop i ts)))) ∙ so
  where
    nothing : (c : Context) (us : List parsed.Kind) → bound c [] us ≡ c
    nothing c [] = refl
    nothing c (u ∷ us) = refl

-- A let over a call

module _ (program : parsed.Program) (before : Context) (x : AName) (others : List AName) (g : AName) (args : parsed.Exprs) where
  pub let_call_old : new_names before [] (x ∷ others) ≡ None → let_call_step program before x others g args ≡ None
  let_call_old none = neither (new_names before [] (x ∷ others)) _ none

  pub let_call_uncalled : (k n : ℕ) → length others ≡ k → count args ≡ n → new_names before [] (x ∷ others) ≡ Some tt → callee program g k n ≡ None → let_call_step program before x others g args ≡ None
  let_call_uncalled k n e c new none =
      both (new_names before [] (x ∷ others)) tt _ None new (neither (callee program g (length others) (count args)) _ (ap (λ z. callee program g z (count args)) e ∙ ap (callee program g k) c ∙ none))

  pub let_call_misfits : (k n : ℕ) (f : parsed.Function) → length others ≡ k → count args ≡ n → new_names before [] (x ∷ others) ≡ Some tt → callee program g k n ≡ Some f → infer_arguments program before args f.parameters ≡ None →
      let_call_step program before x others g args ≡ None
  let_call_misfits k n f e c new some none =
      both (new_names before [] (x ∷ others)) tt _ None new (both (callee program g (length others) (count args)) f _ None (ap (λ z. callee program g z (count args)) e ∙ ap (callee program g k) c ∙ some) (neither (infer_arguments program before args f.parameters) _ none))

  pub let_call_gives : (k n : ℕ) (f : parsed.Function) (cs : Exprs) (after : Context) → length others ≡ k → count args ≡ n → new_names before [] (x ∷ others) ≡ Some tt → callee program g k n ≡ Some f → infer_arguments program before args f.parameters ≡ Some cs →
      after ≡ bound before (x ∷ others) (f.result ∷ f.others) → let_call_step program before x others g args ≡ Some (record { stmt = syntax.LetCall x others g cs; after = after })
  let_call_gives k n f cs after e c new some given is =
      both (new_names before [] (x ∷ others)) tt _ _ new (both (callee program g (length others) (count args)) f _ _ (ap (λ z. callee program g z (count args)) e ∙ ap (callee program g k) c ∙ some)
      (both (infer_arguments program before args f.parameters) cs _ _ given (ap (λ z. Some (record { stmt = syntax.LetCall x others g cs; after = z })) (sym is))))

-- A let over a remote call

module _ (program : parsed.Program) (before : Context) (x : AName) (others : List AName) (written : Option ℕ) (g : AName) (args : parsed.Exprs) where
  pub let_remote_old : new_names before [] (x ∷ others) ≡ None → let_remote_step program before x others written g args ≡ None
  let_remote_old none = neither (new_names before [] (x ∷ others)) _ none

  pub let_remote_overmuch : new_names before [] (x ∷ others) ≡ Some tt → retries_within written ≡ None → let_remote_step program before x others written g args ≡ None
  let_remote_overmuch new none = both (new_names before [] (x ∷ others)) tt _ None new (neither (retries_within written) _ none)

  module _ (retries k n : ℕ) (e : length others ≡ k) (c : count args ≡ n) (new : new_names before [] (x ∷ others) ≡ Some tt) (few : retries_within written ≡ Some retries) where
    as_called : (f : Option parsed.Function) → callee program g k n ≡ f → callee program g (length others) (count args) ≡ f
    as_called f is = ap (λ z. callee program g z (count args)) e ∙ ap (callee program g k) c ∙ is

    pub let_remote_uncalled : callee program g k n ≡ None → let_remote_step program before x others written g args ≡ None
    let_remote_uncalled none =
        both (new_names before [] (x ∷ others)) tt _ None new (both (retries_within written) retries _ None few
        (neither (callee program g (length others) (count args)) _ (as_called None none)))

    pub let_remote_misfits : (f : parsed.Function) → callee program g k n ≡ Some f → infer_marked program before args f.parameters ≡ None →
        let_remote_step program before x others written g args ≡ None
    let_remote_misfits f some none =
        both (new_names before [] (x ∷ others)) tt _ None new (both (retries_within written) retries _ None few
        (both (callee program g (length others) (count args)) f _ None (as_called (Some f) some) (neither (infer_marked program before args f.parameters) _ none)))

    pub let_remote_gives : (f : parsed.Function) (m : Marked) (after : Context) → callee program g k n ≡ Some f → infer_marked program before args f.parameters ≡ Some m →
        after ≡ bound before (x ∷ others) (map parsed.RefType (f.result ∷ f.others)) →
        let_remote_step program before x others written g args ≡ Some (record { stmt = syntax.LetRemote x others retries g m.marks m.exprs; after = after })
    let_remote_gives f m after some given is =
        both (new_names before [] (x ∷ others)) tt _ _ new (both (retries_within written) retries _ _ few
        (both (callee program g (length others) (count args)) f _ _ (as_called (Some f) some) (both (infer_marked program before args f.parameters) m _ _ given
        (ap (λ z. Some (record { stmt = syntax.LetRemote x others retries g m.marks m.exprs; after = z })) (sym is)))))
