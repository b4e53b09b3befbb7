-- What is inferred is allowed.
use Rattle.std.proofs.Common.{◌≡◌, ℕ, ◌<◌, ◌≤◌, ◌^◌, Bool, true, false, List, [], ◌∷◌, length, refl, sym, ap, ◌∙◌, subst, arith, Option, Some, None}
use Rattle.std.specs.Prelude.{nat_lt, nat_le, nat_eq, ◌&&◌, if◌then◌else◌}
use Rattle.std.proofs.lemmas.Bool.Decides.{nat_tests}
use Rattle.meaning.specs.Values.{Name}
use Rattle.meaning.specs.Syntax.{Kind, Number, ListKind, RefKind, Expr, Exprs, end, also, Stmt, Block, done, step, Parameter, Function, Script}
use Rattle.meaning.specs.Syntax as syntax
use Rattle.meaning.specs.Meaning.{same_name}
use Rattle.meaning.specs.Kinds.{Context, kind_in, argument_kind}
use Rattle.meaning.proofs.Names.{same_name-refl}
use Rattle.script_syntax.specs.Trees as parsed
use Rattle.script_syntax.specs.declared.tree.Prefix.TheVariants as prefixes
use Rattle.script_check.specs.Trees.{kind_named}
use Rattle.script_check.specs.Rules.{function_in, IsCallee, retries_of, IsChecked, EachChecked, ArgumentsChecked, MarkedChecked, ResultsChecked}
use Rattle.meaning.specs.Values.{main_name}
use Rattle.script_check.specs.Inference.{◌>>=◌, when, same_kind, Typing, of_kind, items_of, referent_of, mark_for, retries_within, count, callee, Marked, infer, infer_as, infer_each, infer_arguments, infer_marked, infer_results}
use Rattle.script_check.proofs.Binds.{bind_some, some_is, when_some, and_true}

-- Tests

pub same_kind_is : (s t : Kind) → same_kind s t ≡ true → s ≡ t
same_kind_is Number Number h = refl
same_kind_is Number (ListKind t) h = absurd (cc)
same_kind_is Number (RefKind t) h = absurd (cc)
same_kind_is (ListKind s) Number h = absurd (cc)
same_kind_is (ListKind s) (ListKind t) h = ap ListKind (same_kind_is s t h)
same_kind_is (ListKind s) (RefKind t) h = absurd (cc)
same_kind_is (RefKind s) Number h = absurd (cc)
same_kind_is (RefKind s) (ListKind t) h = absurd (cc)
same_kind_is (RefKind s) (RefKind t) h = ap RefKind (same_kind_is s t h)

pub same_kind_itself : (t : Kind) → same_kind t t ≡ true
same_kind_itself Number = refl
same_kind_itself (ListKind t) = same_kind_itself t
same_kind_itself (RefKind t) = same_kind_itself t

pub lt_from : (m n : ℕ) → nat_lt m n ≡ true → m < n
lt_from m n h = grind (arith, nat_tests)

pub le_from : (m n : ℕ) → nat_le m n ≡ true → m ≤ n
le_from m n h = grind (arith, nat_tests)

pub eq_from : (m n : ℕ) → nat_eq m n ≡ true → m ≡ n
eq_from m n h = grind (arith, nat_tests)

pub lt_to : (m n : ℕ) → m < n → nat_lt m n ≡ true
lt_to m n h = grind (arith, nat_tests)

pub le_to : (m n : ℕ) → m ≤ n → nat_le m n ≡ true
le_to m n h = grind (arith, nat_tests)

pub eq_to : (m n : ℕ) → m ≡ n → nat_eq m n ≡ true
eq_to m n h = grind (arith, nat_tests)

-- a typing of a kind
typed : (P : Expr → Kind → Type 0) (x : Typing) (t : Kind) (c : Expr) → P x.expr x.kind → of_kind t x ≡ Some c → P c t
typed P x t c h e = let w = when_some (same_kind x.kind t) x.expr c e in subst (λ k. P c k) (same_kind_is x.kind t w.0) (subst (λ z. P z x.kind) w.1 h)

items_are : (k t : Kind) → items_of k ≡ Some t → k ≡ ListKind t
items_are Number t e = absurd (cc)
items_are (ListKind u) t e = ap ListKind (some_is u t e)
items_are (RefKind u) t e = absurd (cc)

referent_is : (k t : Kind) → referent_of k ≡ Some t → k ≡ RefKind t
referent_is Number t e = absurd (cc)
referent_is (ListKind u) t e = absurd (cc)
referent_is (RefKind u) t e = ap RefKind (some_is u t e)

mark_is : (k t : Kind) (m : Bool) → mark_for k t ≡ Some m → k ≡ argument_kind m t
mark_is k t m e = go (same_kind k t) refl e
  where
    other : (b : Bool) → same_kind k (RefKind t) ≡ b → when b true ≡ Some m → k ≡ argument_kind m t
    other true h f = let p : true ≡ m = some_is true m f in subst (λ z. k ≡ argument_kind z t) p (same_kind_is k (RefKind t) h)
    other false h f = absurd (cc)

    go : (b : Bool) → same_kind k t ≡ b → (if b then Some false else when (same_kind k (RefKind t)) true) ≡ Some m → k ≡ argument_kind m t
    go true h f = let p : false ≡ m = some_is false m f in subst (λ z. k ≡ argument_kind z t) p (same_kind_is k t h)
    go false h f = other (same_kind k (RefKind t)) refl f

pub callee_is : (program : parsed.Program) (g : Name) (others n : ℕ) (f : parsed.Function) → callee program g others n ≡ Some f → IsCallee program g others f
callee_is program g others n f e = go (same_name g main_name) refl e
  where
    go : (b : Bool) → same_name g main_name ≡ b → (if b then None else (function_in program g >>= λ f. when (nat_eq (length f.others) others && nat_eq (length f.parameters) n) f)) ≡ Some f → IsCallee program g others f
    go true h k = absurd (cc)
    go false h k =
        let i = bind_some (function_in program g) _ f k in let w = when_some (nat_eq (length i.0.others) others && nat_eq (length i.0.parameters) n) i.0 f i.2 in
        let a = and_true (nat_eq (length i.0.others) others) (nat_eq (length i.0.parameters) n) w.0 in
        record {
          found = i.1 ∙ ap Some w.1;
          not_main = λ same. let z = ap (λ y. same_name g y) (sym same) in let y = same_name-refl g in absurd (cc);
          results = ap (λ (y : parsed.Function). length y.others) (sym w.1) ∙ eq_from (length i.0.others) others a.0;
        }

pub few_are : (r : Option ℕ) (k : ℕ) → retries_within r ≡ Some k → (retries_of r ≤ 10) × (retries_of r ≡ k)
few_are r k e = let w = when_some (nat_le (retries_of r) 10) (retries_of r) k e in (le_from (retries_of r) 10 w.0, w.1)

module _ (program : parsed.Program) (context : Context) where
  abbrev Allowed : parsed.Expr → Typing → Type 0
  Allowed e x = IsChecked program context e x.expr x.kind

  mutual
    sound : (e : parsed.Expr) (x : Typing) → infer program context e ≡ Some x → Allowed e x
    sound (parsed.Number n) x h =
        let w = when_some (nat_lt n (2 ^ 63)) _ x h in
        (lt_from n (2 ^ 63) w.0, sym (ap (λ (y : Typing). y.expr) w.1), sym (ap (λ (y : Typing). y.kind) w.1))
    sound (parsed.Variable v) x h =
        let i = bind_some (kind_in context v) _ x h in let e = some_is _ x i.2 in
        (i.1 ∙ ap (λ (y : Typing). Some y.kind) e, sym (ap (λ (y : Typing). y.expr) e))
    sound (parsed.Prefixed prefixes.Negate a) x h =
        let i = bind_some (infer program context a) _ x h in let j = bind_some (of_kind Number i.0) _ x i.2 in let e = some_is _ x j.2 in
        (j.0, typed (IsChecked program context a) i.0 Number j.0 (sound a i.0 i.1) j.1, sym (ap (λ (y : Typing). y.expr) e), sym (ap (λ (y : Typing). y.kind) e))
    sound (parsed.Prefixed prefixes.Get a) x h =
        let i = bind_some (infer program context a) _ x h in let j = bind_some (referent_of i.0.kind) _ x i.2 in let e = some_is _ x j.2 in
        let k = referent_is i.0.kind j.0 j.1 ∙ ap RefKind (ap (λ (y : Typing). y.kind) e) in
        (i.0.expr, subst (λ t. IsChecked program context a i.0.expr t) k (sound a i.0 i.1), sym (ap (λ (y : Typing). y.expr) e) ∙ ap (λ t. syntax.GetOf t i.0.expr) (ap (λ (y : Typing). y.kind) e))
    sound (parsed.Prefixed prefixes.Put a) x h =
        let i = bind_some (infer program context a) _ x h in let e = some_is _ x i.2 in
        (i.0.expr, i.0.kind, sound a i.0 i.1, sym (ap (λ (y : Typing). y.expr) e), sym (ap (λ (y : Typing). y.kind) e))
    sound (parsed.Binary op a b) x h =
        let i = bind_some (infer_as program context Number a) _ x h in let j = bind_some (infer_as program context Number b) _ x i.2 in let e = some_is _ x j.2 in
        (i.0, j.0, (let z = bind_some (infer program context a) _ i.0 i.1 in typed (IsChecked program context a) z.0 Number i.0 (sound a z.0 z.1) z.2), (let z = bind_some (infer program context b) _ j.0 j.1 in typed (IsChecked program context b) z.0 Number j.0 (sound b z.0 z.1) z.2), sym (ap (λ (y : Typing). y.expr) e), sym (ap (λ (y : Typing). y.kind) e))
    sound (parsed.Item a i) x h =
        let p = bind_some (infer program context a) _ x h in let q = bind_some (items_of p.0.kind) _ x p.2 in let r = bind_some (infer_as program context Number i) _ x q.2 in let e = some_is _ x r.2 in
        let k = items_are p.0.kind q.0 q.1 ∙ ap ListKind (ap (λ (y : Typing). y.kind) e) in
        (p.0.expr, r.0, subst (λ t. IsChecked program context a p.0.expr t) k (sound a p.0 p.1), (let z = bind_some (infer program context i) _ r.0 r.1 in typed (IsChecked program context i) z.0 Number r.0 (sound i z.0 z.1) z.2), sym (ap (λ (y : Typing). y.expr) e))
    sound (parsed.ListOf parsed.no_expr) x h = absurd (cc)
    sound (parsed.ListOf (parsed.also a es)) x h =
        let i = bind_some (infer program context a) _ x h in let j = bind_some (infer_each program context i.0.kind es) _ x i.2 in let e = some_is _ x j.2 in
        (i.0.expr, j.0, i.0.kind, sound a i.0 i.1, sound_each i.0.kind es j.0 j.1, sym (ap (λ (y : Typing). y.expr) e), sym (ap (λ (y : Typing). y.kind) e))
    sound (parsed.Empty u) x h = let e = some_is _ x h in (sym (ap (λ (y : Typing). y.expr) e), sym (ap (λ (y : Typing). y.kind) e))
    sound (parsed.Call g args) x h =
        let f = bind_some (callee program g 0 (count args)) _ x h in let xs = bind_some (infer_arguments program context args f.0.parameters) _ x f.2 in let e = some_is _ x xs.2 in
        (f.0, xs.0, callee_is program g 0 (count args) f.0 f.1, sound_arguments args f.0.parameters xs.0 xs.1, sym (ap (λ (y : Typing). y.expr) e), sym (ap (λ (y : Typing). y.kind) e))
    sound (parsed.Remote r g args) x h =
        let k = bind_some (retries_within r) _ x h in let f = bind_some (callee program g 0 (count args)) _ x k.2 in let m = bind_some (infer_marked program context args f.0.parameters) _ x f.2 in let e = some_is _ x m.2 in
        let few = few_are r k.0 k.1 in
        (f.0, m.0.marks, m.0.exprs, few.0, callee_is program g 0 (count args) f.0 f.1, sound_marked args f.0.parameters m.0 m.1, sym (ap (λ (y : Typing). y.expr) e) ∙ ap (λ n. syntax.Remote n g m.0.marks m.0.exprs) (sym few.1), sym (ap (λ (y : Typing). y.kind) e))
    sound (parsed.Len a) x h =
        let i = bind_some (infer program context a) _ x h in let j = bind_some (items_of i.0.kind) _ x i.2 in let e = some_is _ x j.2 in
        (i.0.expr, j.0, subst (λ t. IsChecked program context a i.0.expr t) (items_are i.0.kind j.0 j.1) (sound a i.0 i.1), sym (ap (λ (y : Typing). y.expr) e), sym (ap (λ (y : Typing). y.kind) e))
    sound (parsed.Push a b) x h =
        let p = bind_some (infer program context a) _ x h in let q = bind_some (items_of p.0.kind) _ x p.2 in let r = bind_some (infer_as program context q.0 b) _ x q.2 in let e = some_is _ x r.2 in
        (p.0.expr, r.0, q.0, subst (λ t. IsChecked program context a p.0.expr t) (items_are p.0.kind q.0 q.1) (sound a p.0 p.1), (let z = bind_some (infer program context b) _ r.0 r.1 in typed (IsChecked program context b) z.0 q.0 r.0 (sound b z.0 z.1) z.2), sym (ap (λ (y : Typing). y.expr) e), sym (ap (λ (y : Typing). y.kind) e))

    sound_each : (t : Kind) (es : parsed.Exprs) (cs : Exprs) → infer_each program context t es ≡ Some cs → EachChecked program context es cs t
    sound_each t parsed.no_expr cs h = sym (some_is end cs h)
    sound_each t (parsed.also e es) cs h =
        let i = bind_some (infer_as program context t e) _ cs h in let j = bind_some (infer_each program context t es) _ cs i.2 in
        (i.0, j.0, (let z = bind_some (infer program context e) _ i.0 i.1 in typed (IsChecked program context e) z.0 t i.0 (sound e z.0 z.1) z.2), sound_each t es j.0 j.1, sym (some_is _ cs j.2))

    sound_arguments : (es : parsed.Exprs) (ps : List parsed.Parameter) (cs : Exprs) → infer_arguments program context es ps ≡ Some cs → ArgumentsChecked program context es cs ps
    sound_arguments parsed.no_expr [] cs h = sym (some_is end cs h)
    sound_arguments parsed.no_expr (p ∷ ps) cs h = absurd (cc)
    sound_arguments (parsed.also e es) [] cs h = absurd (cc)
    sound_arguments (parsed.also e es) (p ∷ ps) cs h =
        let i = bind_some (infer_as program context (kind_named p.kind) e) _ cs h in let j = bind_some (infer_arguments program context es ps) _ cs i.2 in
        (i.0, j.0, (let z = bind_some (infer program context e) _ i.0 i.1 in typed (IsChecked program context e) z.0 (kind_named p.kind) i.0 (sound e z.0 z.1) z.2), sound_arguments es ps j.0 j.1, sym (some_is _ cs j.2))

    sound_marked : (es : parsed.Exprs) (ps : List parsed.Parameter) (m : Marked) → infer_marked program context es ps ≡ Some m → MarkedChecked program context es m.marks m.exprs ps
    sound_marked parsed.no_expr [] m h = let e = some_is _ m h in (sym (ap (λ (y : Marked). y.marks) e), sym (ap (λ (y : Marked). y.exprs) e))
    sound_marked parsed.no_expr (p ∷ ps) m h = absurd (cc)
    sound_marked (parsed.also e es) [] m h = absurd (cc)
    sound_marked (parsed.also e es) (p ∷ ps) m h =
        let i = bind_some (infer program context e) _ m h in let k = bind_some (mark_for i.0.kind (kind_named p.kind)) _ m i.2 in let j = bind_some (infer_marked program context es ps) _ m k.2 in let q = some_is _ m j.2 in
        (i.0.expr, j.0.exprs, k.0, j.0.marks, subst (λ t. IsChecked program context e i.0.expr t) (mark_is i.0.kind (kind_named p.kind) k.0 k.1) (sound e i.0 i.1), sound_marked es ps j.0 j.1, sym (ap (λ (y : Marked). y.marks) q), sym (ap (λ (y : Marked). y.exprs) q))

  sound_results : (es : parsed.Exprs) (ts : List parsed.Kind) (cs : Exprs) → infer_results program context es ts ≡ Some cs → ResultsChecked program context es cs ts
  sound_results parsed.no_expr [] cs h = sym (some_is end cs h)
  sound_results parsed.no_expr (t ∷ ts) cs h = absurd (cc)
  sound_results (parsed.also e es) [] cs h = absurd (cc)
  sound_results (parsed.also e es) (t ∷ ts) cs h =
      let i = bind_some (infer_as program context (kind_named t) e) _ cs h in let j = bind_some (infer_results program context es ts) _ cs i.2 in
      (i.0, j.0, (let z = bind_some (infer program context e) _ i.0 i.1 in typed (IsChecked program context e) z.0 (kind_named t) i.0 (sound e z.0 z.1) z.2), sound_results es ts j.0 j.1, sym (some_is _ cs j.2))

pub is_sound : (program : parsed.Program) (context : Context) (e : parsed.Expr) (x : Typing) → infer program context e ≡ Some x → IsChecked program context e x.expr x.kind
is_sound program context = sound program context

pub is_sound_as : (program : parsed.Program) (context : Context) (t : Kind) (e : parsed.Expr) (c : Expr) → infer_as program context t e ≡ Some c → IsChecked program context e c t
is_sound_as program context t e c h = let z = bind_some (infer program context e) _ c h in typed (IsChecked program context e) z.0 t c (sound program context e z.0 z.1) z.2

pub are_sound_arguments : (program : parsed.Program) (context : Context) (es : parsed.Exprs) (ps : List parsed.Parameter) (cs : Exprs) → infer_arguments program context es ps ≡ Some cs → ArgumentsChecked program context es cs ps
are_sound_arguments program context = sound_arguments program context

pub are_sound_marked : (program : parsed.Program) (context : Context) (es : parsed.Exprs) (ps : List parsed.Parameter) (m : Marked) → infer_marked program context es ps ≡ Some m → MarkedChecked program context es m.marks m.exprs ps
are_sound_marked program context = sound_marked program context

pub are_sound_results : (program : parsed.Program) (context : Context) (es : parsed.Exprs) (ts : List parsed.Kind) (cs : Exprs) → infer_results program context es ts ≡ Some cs → ResultsChecked program context es cs ts
are_sound_results program context = sound_results program context
