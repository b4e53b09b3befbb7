-- Steps of the proofs on expressions.
use Rattle.std.proofs.Common.{◌≡◌, ℕ, zero, suc, ◌+◌, ◌<◌, ◌≤◌, Bool, List, [], ◌∷◌, ◌++◌, length, get_or, drop, map, refl, sym, ap, ◌∙◌, arith, Option, Some, None, add-one, drop-cons, append_assoc, take, ◌-◌, length-drop}
use Rattle.std.proofs.lemmas.List.{take_all}
use Rattle.meaning.specs.Values.{Name}
use Rattle.meaning.specs.Syntax.{Kind, ListKind, RefKind, Exprs, end, also}
use Rattle.meaning.specs.Syntax as syntax
use Rattle.meaning.specs.Kinds.{Context}
use Rattle.script_syntax.specs.Trees as parsed
use Rattle.script_syntax.specs.Views.{tree_of, trees_of, parameter_of}
use Rattle.script_syntax.specs.declared.tree.Expr.{Expr}
use Rattle.script_syntax.specs.declared.tree.Parameter.{Parameter}
use Rattle.script_check.specs.Sizes.{size_of, size_of_all}
use Rattle.script_check.specs.Trees.{kind_named, expr_of, exprs_of}
use Rattle.script_check.specs.Typings.{joined, onto, onto_marked}
use Rattle.script_check.specs.Inference.{◌>>=◌, Typing, Marked, infer, infer_as, infer_each, infer_arguments, infer_marked, mark_for, count, callee, retries_within}
use Rattle.script_check.specs.declared.tree.CheckedExpr.{CheckedExpr}

-- Slices

pub here : {A : Type 0} (xs : List A) (i : ℕ) (x : A) → i < length xs → x ≡ get_or xs i x → drop i xs ≡ x ∷ drop (i + 1) xs
here xs i x h e = rw add-one (drop-cons xs i x h ∙ ap (λ y. y ∷ drop (suc i) xs) (sym e))

pub first : {A : Type 0} (xs : List A) (x : A) → 0 < length xs → x ≡ get_or xs 0 x → xs ≡ x ∷ drop 1 xs
first [] x h e = absurd (omega arith)
first (y ∷ xs) x h e = ap (λ z. z ∷ xs) (sym e)

pub drop_end : {A : Type 0} (xs : List A) (i : ℕ) → length xs ≤ i → drop i xs ≡ []
drop_end [] zero h = refl
drop_end [] (suc i) h = refl
drop_end (x ∷ xs) zero h = absurd (omega arith)
drop_end (x ∷ xs) (suc i) h = drop_end xs i (omega arith)

pub rest_is : {A : Type 0} (xs : List A) → take (length xs - 1) (drop 1 xs) ≡ drop 1 xs
rest_is xs = let l = length-drop 1 xs in take_all (length xs - 1) (drop 1 xs) (omega arith)

-- Sizes

member : (es : List Expr) (i : ℕ) (d : Expr) → i < length es → size_of (tree_of (get_or es i d)) < size_of_all (trees_of es)
member [] i d h = absurd (omega arith)
member (e ∷ es) zero d h = omega arith
member (e ∷ es) (suc i) d h = let r = member es i d (omega arith) in omega arith

pub within : (es : List Expr) (i : ℕ) (x : Expr) → i < length es → x ≡ get_or es i x → size_of (tree_of x) < size_of_all (trees_of es)
within es i x h e = let m = member es i x h in let s = ap (λ y. size_of (tree_of y)) e in omega arith

pub list_size : (t : parsed.Expr) (es : parsed.Exprs) → t ≡ parsed.ListOf es → size_of_all es + 2 < size_of t
list_size t es e = let a : size_of t ≡ size_of_all es + 3 = ap size_of e in omega arith

pub call_size : (t : parsed.Expr) (g : Name) (es : parsed.Exprs) → t ≡ parsed.Call g es → size_of_all es + 2 < size_of t
call_size t g es e = let a : size_of t ≡ size_of_all es + 3 = ap size_of e in omega arith

pub remote_size : (t : parsed.Expr) (r : Option ℕ) (g : Name) (es : parsed.Exprs) → t ≡ parsed.Remote r g es → size_of_all es + 2 < size_of t
remote_size t r g es e = let a : size_of t ≡ size_of_all es + 3 = ap size_of e in omega arith

pub count_trees : (es : List Expr) → count (trees_of es) ≡ length es
count_trees [] = refl
count_trees (e ∷ es) = let r = count_trees es in omega arith

-- What was checked so far

pub joined_end : (cs : List CheckedExpr) → joined cs end ≡ exprs_of cs
joined_end [] = refl
joined_end (c ∷ cs) = ap (also (expr_of c)) (joined_end cs)

joined_snoc : (cs : List CheckedExpr) (c : CheckedExpr) (xs : Exprs) → joined (cs ++ c ∷ []) xs ≡ joined cs (also (expr_of c) xs)
joined_snoc [] c xs = refl
joined_snoc (d ∷ cs) c xs = ap (also (expr_of d)) (joined_snoc cs c xs)

pub onto_none : (cs : List CheckedExpr) (o : Option Exprs) → onto cs o ≡ None → o ≡ None
onto_none cs None e = refl
onto_none cs (Some xs) e = cc

pub onto_more : (cs : List CheckedExpr) (c : CheckedExpr) (o : Option Exprs) → onto cs (o >>= λ xs. Some (also (expr_of c) xs)) ≡ onto (cs ++ c ∷ []) o
onto_more cs c None = refl
onto_more cs c (Some xs) = ap Some (sym (joined_snoc cs c xs))

onto_marked_more : (ms : List Bool) (cs : List CheckedExpr) (m : Bool) (c : CheckedExpr) (o : Option Marked) →
    onto_marked ms cs (o >>= λ x. Some (record { marks = m ∷ x.marks; exprs = also (expr_of c) x.exprs })) ≡ onto_marked (ms ++ m ∷ []) (cs ++ c ∷ []) o
onto_marked_more ms cs m c None = refl
onto_marked_more ms cs m c (Some x) =
    ap (λ bs. Some (record { marks = bs; exprs = joined cs (also (expr_of c) x.exprs) })) (sym (append_assoc ms (m ∷ []) x.marks))
    ∙ ap (λ es. Some (record { marks = (ms ++ m ∷ []) ++ x.marks; exprs = es })) (sym (joined_snoc cs c x.exprs))

pub both : {A B : Type 0} (o : Option A) (x : A) (f : A → Option B) (r : Option B) → o ≡ Some x → f x ≡ r → (o >>= f) ≡ r
both o x f r e h = ap (λ p. p >>= f) e ∙ h

pub neither : {A B : Type 0} (o : Option A) (f : A → Option B) → o ≡ None → (o >>= f) ≡ None
neither o f e = ap (λ p. p >>= f) e

abbrev list_typing : Kind → Exprs → Option Typing
list_typing k xs = Some (record { expr = syntax.ListOf xs; kind = ListKind k })

abbrev list_after : CheckedExpr → Kind → Exprs → Option Typing
list_after c k xs = list_typing k (also (expr_of c) xs)

listed : (c : CheckedExpr) (o : Option Exprs) (xs : Exprs) (k : Kind) → onto (c ∷ []) o ≡ Some xs → (o >>= list_after c k) ≡ list_typing k xs
listed c None xs k e = cc
listed c (Some cs) xs k e = let e' : also (expr_of c) cs ≡ xs = cc in ap (list_typing k) e'

module _ (program : parsed.Program) (context : Context) where
  -- further items

  pub each_fails : (t : Kind) (before cs : List CheckedExpr) (es : List Expr) (i : ℕ) (x : Expr) → i < length es → x ≡ get_or es i x →
      onto cs (infer_each program context t (trees_of (drop i es))) ≡ onto before (infer_each program context t (trees_of es)) →
      infer_as program context t (tree_of x) ≡ None → infer_each program context t (trees_of es) ≡ None
  each_fails t before cs es i x h e so none =
      let there = ap (λ ys. infer_each program context t (trees_of ys)) (here es i x h e) ∙ neither (infer_as program context t (tree_of x)) _ none in
      onto_none before (infer_each program context t (trees_of es)) (sym so ∙ ap (onto cs) there)

  pub each_steps : (t : Kind) (cs : List CheckedExpr) (c : CheckedExpr) (es : List Expr) (i : ℕ) (x : Expr) (whole : Option Exprs) → i < length es → x ≡ get_or es i x →
      onto cs (infer_each program context t (trees_of (drop i es))) ≡ whole →
      infer_as program context t (tree_of x) ≡ Some (expr_of c) → onto (cs ++ c ∷ []) (infer_each program context t (trees_of (drop (i + 1) es))) ≡ whole
  each_steps t cs c es i x whole h e so some =
      let there = ap (λ ys. infer_each program context t (trees_of ys)) (here es i x h e) ∙ both (infer_as program context t (tree_of x)) (expr_of c) _ _ some refl in
      sym (onto_more cs c (infer_each program context t (trees_of (drop (i + 1) es)))) ∙ sym (ap (onto cs) there) ∙ so

  pub each_ends : (t : Kind) (cs : List CheckedExpr) (es : List Expr) (i : ℕ) (whole : Option Exprs) → length es ≤ i →
      onto cs (infer_each program context t (trees_of (drop i es))) ≡ whole → whole ≡ Some (exprs_of cs)
  each_ends t cs es i whole h so =
      sym so ∙ ap (λ ys. onto cs (infer_each program context t (trees_of ys))) (drop_end es i h) ∙ ap Some (joined_end cs)

  -- lists

  pub list_fails_first : (es : List Expr) (x : Expr) → 0 < length es → x ≡ get_or es 0 x → infer program context (tree_of x) ≡ None → infer program context (parsed.ListOf (trees_of es)) ≡ None
  list_fails_first es x h e none = ap (λ ys. infer program context (parsed.ListOf (trees_of ys))) (first es x h e) ∙ neither (infer program context (tree_of x)) _ none

  pub list_fails_rest : (es : List Expr) (x : Expr) (y : Typing) → 0 < length es → x ≡ get_or es 0 x → infer program context (tree_of x) ≡ Some y →
      infer_each program context y.kind (trees_of (drop 1 es)) ≡ None → infer program context (parsed.ListOf (trees_of es)) ≡ None
  list_fails_rest es x y h e some none =
      ap (λ ys. infer program context (parsed.ListOf (trees_of ys))) (first es x h e) ∙ both (infer program context (tree_of x)) y _ None some (neither (infer_each program context y.kind (trees_of (drop 1 es))) _ none)

  pub list_gives : (es : List Expr) (x : Expr) (c : CheckedExpr) (k : Kind) (xs : Exprs) → 0 < length es → x ≡ get_or es 0 x → infer program context (tree_of x) ≡ Some (record { expr = expr_of c; kind = k }) →
      onto (c ∷ []) (infer_each program context k (trees_of (drop 1 es))) ≡ Some xs → infer program context (parsed.ListOf (trees_of es)) ≡ Some (record { expr = syntax.ListOf xs; kind = ListKind k })
  list_gives es x c k xs h e some rest =
      ap (λ ys. infer program context (parsed.ListOf (trees_of ys))) (first es x h e)
      ∙ both (infer program context (tree_of x)) (record { expr = expr_of c; kind = k }) _ _ some (listed c (infer_each program context k (trees_of (drop 1 es))) xs k rest)

  -- arguments

  unread : (t : parsed.Expr) (ts : parsed.Exprs) (ps : List parsed.Parameter) → infer program context t ≡ None → infer_arguments program context (parsed.also t ts) ps ≡ None
  unread t ts [] none = refl
  unread t ts (p ∷ ps) none = neither (infer_as program context (kind_named p.kind) t) _ (neither (infer program context t) _ none)

  pub arguments_fail : (cs : List CheckedExpr) (es : List Expr) (ps : List Parameter) (i : ℕ) (x : Expr) (whole : Option Exprs) → i < length es → x ≡ get_or es i x →
      onto cs (infer_arguments program context (trees_of (drop i es)) (map parameter_of (drop i ps))) ≡ whole →
      infer program context (tree_of x) ≡ None → whole ≡ None
  arguments_fail cs es ps i x whole h e so none =
      sym so ∙ ap (λ ys. onto cs (infer_arguments program context (trees_of ys) (map parameter_of (drop i ps)))) (here es i x h e)
      ∙ ap (onto cs) (unread (tree_of x) (trees_of (drop (i + 1) es)) (map parameter_of (drop i ps)) none)

  both_here : (es : List Expr) (ps : List Parameter) (i : ℕ) (x : Expr) (p : Parameter) → i < length es → x ≡ get_or es i x → i < length ps → p ≡ get_or ps i p →
      infer_arguments program context (trees_of (drop i es)) (map parameter_of (drop i ps)) ≡ infer_arguments program context (parsed.also (tree_of x) (trees_of (drop (i + 1) es))) (parameter_of p ∷ map parameter_of (drop (i + 1) ps))
  both_here es ps i x p h e hp ep =
      ap (λ ys. infer_arguments program context (trees_of ys) (map parameter_of (drop i ps))) (here es i x h e)
      ∙ ap (λ qs. infer_arguments program context (parsed.also (tree_of x) (trees_of (drop (i + 1) es))) (map parameter_of qs)) (here ps i p hp ep)

  pub arguments_misfit : (cs : List CheckedExpr) (es : List Expr) (ps : List Parameter) (i : ℕ) (x : Expr) (p : Parameter) (whole : Option Exprs) → i < length es → x ≡ get_or es i x → i < length ps → p ≡ get_or ps i p →
      onto cs (infer_arguments program context (trees_of (drop i es)) (map parameter_of (drop i ps))) ≡ whole →
      infer_as program context (kind_named (parameter_of p).kind) (tree_of x) ≡ None → whole ≡ None
  arguments_misfit cs es ps i x p whole h e hp ep so none =
      sym so ∙ ap (onto cs) (both_here es ps i x p h e hp ep ∙ neither (infer_as program context (kind_named (parameter_of p).kind) (tree_of x)) _ none)

  pub arguments_step : (cs : List CheckedExpr) (c : CheckedExpr) (es : List Expr) (ps : List Parameter) (i : ℕ) (x : Expr) (p : Parameter) (whole : Option Exprs) → i < length es → x ≡ get_or es i x → i < length ps → p ≡ get_or ps i p →
      onto cs (infer_arguments program context (trees_of (drop i es)) (map parameter_of (drop i ps))) ≡ whole →
      infer_as program context (kind_named (parameter_of p).kind) (tree_of x) ≡ Some (expr_of c) →
      onto (cs ++ c ∷ []) (infer_arguments program context (trees_of (drop (i + 1) es)) (map parameter_of (drop (i + 1) ps))) ≡ whole
  arguments_step cs c es ps i x p whole h e hp ep so some =
      sym (onto_more cs c (infer_arguments program context (trees_of (drop (i + 1) es)) (map parameter_of (drop (i + 1) ps))))
      ∙ sym (ap (onto cs) (both_here es ps i x p h e hp ep ∙ both (infer_as program context (kind_named (parameter_of p).kind) (tree_of x)) (expr_of c) _ _ some refl)) ∙ so

  pub arguments_end : (cs : List CheckedExpr) (es : List Expr) (ps : List Parameter) (i : ℕ) (whole : Option Exprs) → length ps ≡ length es → length es ≤ i →
      onto cs (infer_arguments program context (trees_of (drop i es)) (map parameter_of (drop i ps))) ≡ whole → whole ≡ Some (exprs_of cs)
  arguments_end cs es ps i whole l h so =
      sym so ∙ ap (λ ys. onto cs (infer_arguments program context (trees_of ys) (map parameter_of (drop i ps)))) (drop_end es i h)
      ∙ ap (λ qs. onto cs (infer_arguments program context parsed.no_expr (map parameter_of qs))) (drop_end ps i (omega arith)) ∙ ap Some (joined_end cs)

  -- marked arguments

  unmarked : (t : parsed.Expr) (ts : parsed.Exprs) (ps : List parsed.Parameter) → infer program context t ≡ None → infer_marked program context (parsed.also t ts) ps ≡ None
  unmarked t ts [] none = refl
  unmarked t ts (p ∷ ps) none = neither (infer program context t) _ none

  pub marked_fail : (ms : List Bool) (cs : List CheckedExpr) (es : List Expr) (ps : List Parameter) (i : ℕ) (x : Expr) (whole : Option Marked) → i < length es → x ≡ get_or es i x →
      onto_marked ms cs (infer_marked program context (trees_of (drop i es)) (map parameter_of (drop i ps))) ≡ whole →
      infer program context (tree_of x) ≡ None → whole ≡ None
  marked_fail ms cs es ps i x whole h e so none =
      sym so ∙ ap (λ ys. onto_marked ms cs (infer_marked program context (trees_of ys) (map parameter_of (drop i ps)))) (here es i x h e)
      ∙ ap (onto_marked ms cs) (unmarked (tree_of x) (trees_of (drop (i + 1) es)) (map parameter_of (drop i ps)) none)

  marked_here : (es : List Expr) (ps : List Parameter) (i : ℕ) (x : Expr) (p : Parameter) → i < length es → x ≡ get_or es i x → i < length ps → p ≡ get_or ps i p →
      infer_marked program context (trees_of (drop i es)) (map parameter_of (drop i ps)) ≡ infer_marked program context (parsed.also (tree_of x) (trees_of (drop (i + 1) es))) (parameter_of p ∷ map parameter_of (drop (i + 1) ps))
  marked_here es ps i x p h e hp ep =
      ap (λ ys. infer_marked program context (trees_of ys) (map parameter_of (drop i ps))) (here es i x h e)
      ∙ ap (λ qs. infer_marked program context (parsed.also (tree_of x) (trees_of (drop (i + 1) es))) (map parameter_of qs)) (here ps i p hp ep)

  pub marked_misfit : (ms : List Bool) (cs : List CheckedExpr) (es : List Expr) (ps : List Parameter) (i : ℕ) (x : Expr) (p : Parameter) (y : Typing) (whole : Option Marked) → i < length es → x ≡ get_or es i x → i < length ps → p ≡ get_or ps i p →
      onto_marked ms cs (infer_marked program context (trees_of (drop i es)) (map parameter_of (drop i ps))) ≡ whole →
      infer program context (tree_of x) ≡ Some y → mark_for y.kind (kind_named (parameter_of p).kind) ≡ None → whole ≡ None
  marked_misfit ms cs es ps i x p y whole h e hp ep so some none =
      sym so ∙ ap (onto_marked ms cs) (marked_here es ps i x p h e hp ep ∙ both (infer program context (tree_of x)) y _ None some (neither (mark_for y.kind (kind_named (parameter_of p).kind)) _ none))

  pub marked_step : (ms : List Bool) (cs : List CheckedExpr) (m : Bool) (c : CheckedExpr) (es : List Expr) (ps : List Parameter) (i : ℕ) (x : Expr) (p : Parameter) (k : Kind) (whole : Option Marked) → i < length es → x ≡ get_or es i x → i < length ps → p ≡ get_or ps i p →
      onto_marked ms cs (infer_marked program context (trees_of (drop i es)) (map parameter_of (drop i ps))) ≡ whole →
      infer program context (tree_of x) ≡ Some (record { expr = expr_of c; kind = k }) → mark_for k (kind_named (parameter_of p).kind) ≡ Some m →
      onto_marked (ms ++ m ∷ []) (cs ++ c ∷ []) (infer_marked program context (trees_of (drop (i + 1) es)) (map parameter_of (drop (i + 1) ps))) ≡ whole
  marked_step ms cs m c es ps i x p k whole h e hp ep so some mark =
      sym (onto_marked_more ms cs m c (infer_marked program context (trees_of (drop (i + 1) es)) (map parameter_of (drop (i + 1) ps))))
      ∙ sym (ap (onto_marked ms cs) (marked_here es ps i x p h e hp ep ∙ both (infer program context (tree_of x)) (record { expr = expr_of c; kind = k }) _ _ some (both (mark_for k (kind_named (parameter_of p).kind)) m _ _ mark refl))) ∙ so

  append_nil : (ms : List Bool) → ms ++ [] ≡ ms
  append_nil [] = refl
  append_nil (m ∷ ms) = ap (λ xs. m ∷ xs) (append_nil ms)

  pub marked_end : (ms : List Bool) (cs : List CheckedExpr) (es : List Expr) (ps : List Parameter) (i : ℕ) (whole : Option Marked) → length ps ≡ length es → length es ≤ i →
      onto_marked ms cs (infer_marked program context (trees_of (drop i es)) (map parameter_of (drop i ps))) ≡ whole → whole ≡ Some (record { marks = ms; exprs = exprs_of cs })
  marked_end ms cs es ps i whole l h so =
      sym so ∙ ap (λ ys. onto_marked ms cs (infer_marked program context (trees_of ys) (map parameter_of (drop i ps)))) (drop_end es i h)
      ∙ ap (λ qs. onto_marked ms cs (infer_marked program context parsed.no_expr (map parameter_of qs))) (drop_end ps i (omega arith))
      ∙ ap (λ bs. Some (record { marks = bs; exprs = joined cs end })) (append_nil ms)
      ∙ ap (λ xs. Some (record { marks = ms; exprs = xs })) (joined_end cs)

  -- calls

  pub call_fails : (g : Name) (es : parsed.Exprs) (n : ℕ) → count es ≡ n → callee program g 0 n ≡ None → infer program context (parsed.Call g es) ≡ None
  call_fails g es n e none = neither (callee program g 0 (count es)) _ (ap (callee program g 0) e ∙ none)

  pub call_gives : (g : Name) (es : parsed.Exprs) (n : ℕ) (f : parsed.Function) (xs : Exprs) → count es ≡ n → callee program g 0 n ≡ Some f → infer_arguments program context es f.parameters ≡ Some xs →
      infer program context (parsed.Call g es) ≡ Some (record { expr = syntax.Call g xs; kind = kind_named f.result })
  call_gives g es n f xs e found given =
      both (callee program g 0 (count es)) f _ _ (ap (callee program g 0) e ∙ found) (both (infer_arguments program context es f.parameters) xs _ _ given refl)

  pub remote_fails : (r : Option ℕ) (k : ℕ) (g : Name) (es : parsed.Exprs) (n : ℕ) → retries_within r ≡ Some k → count es ≡ n → callee program g 0 n ≡ None → infer program context (parsed.Remote r g es) ≡ None
  remote_fails r k g es n few e none = both (retries_within r) k _ None few (neither (callee program g 0 (count es)) _ (ap (callee program g 0) e ∙ none))

  pub remote_gives : (r : Option ℕ) (k : ℕ) (g : Name) (es : parsed.Exprs) (n : ℕ) (f : parsed.Function) (m : Marked) → retries_within r ≡ Some k → count es ≡ n → callee program g 0 n ≡ Some f → infer_marked program context es f.parameters ≡ Some m →
      infer program context (parsed.Remote r g es) ≡ Some (record { expr = syntax.Remote k g m.marks m.exprs; kind = RefKind (kind_named f.result) })
  remote_gives r k g es n f m few e found given =
      both (retries_within r) k _ _ few (both (callee program g 0 (count es)) f _ _ (ap (callee program g 0) e ∙ found) (both (infer_marked program context es f.parameters) m _ _ given refl))
