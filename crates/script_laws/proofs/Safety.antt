-- A checked script never meets an operand of the wrong kind.
use Rattle.std.proofs.Common.{◌≡◌, ℕ, zero, suc, ◌-◌, Bool, true, false, List, [], ◌∷◌, ◌++◌, length, map, take, Option, Some, refl, sym, ap, ◌∙◌, subst, inl, inr, append_assoc, append-nil}
use Rattle.std.specs.Prelude.{ℤ, pos, negsuc, nat_lt, if◌then◌else◌, ◌+ℤ◌, ◌-ℤ◌, ◌*ℤ◌, neg_ℤ, int_div, int_rem}
use Rattle.meaning.specs.Values.{Name, Overflow, TooLong, Loop, Broken, Value, Int, Items, Named, Known, Values, none, more, Outcome, Val, Trapped, Returned, Aborted, Argument, Id, values_of, count, item_at, push_onto}
use Rattle.meaning.specs.Syntax.{Kind, Number, ListKind, RefKind, Operator, Add, Sub, Mul, Div, Rem, Equal, Unequal, Less, LessEqual, ItemAt, Push, Prefix, Negate, Len, Expr, Num, Var, Unary, Binary, ListOf, Empty, Call, Remote, PutOf, GetOf, Exprs, end, also, Stmt, Let, LetCall, LetRemote, Set, Print, Return, If, For, Block, done, step, Parameter, Function, results, Script}
use Rattle.meaning.specs.Runs.{Run, Ends, Prints, Bears, Gets, serial_end, serial_trace, known, piece, named, behind}
use Rattle.meaning.specs.Law.{prints_of}
use Rattle.meaning.specs.Meaning.{broken, Variable, Scope, same_name, value_in, set_in, bind, bind_each, bind_all, as_number, as_items, fits, in_range, quotient, remainder, found, index, push, on_numbers, apply, apply_one, is_zero, turn_count, proceed, mark, get_from, dereference, only, Calls, evaluate, evaluate_all, turns, turns_within, leave, execute, execute_all, find, parameters_of, enter, task_by, no_level, calls_below, call_at, run_task}
use Rattle.meaning.specs.Kinds.{IsOf, AreOf, EndsIn, Typed, Context, kind_in, OperatorChecks, PrefixChecks, argument_kind, Checks, EachChecks, ArgumentsCheck, MarkedCheck, StmtChecks, BlockChecks, Returns, BlockReturns, ScopeOf, ArgumentsOf, MarkedOf, context_of, FunctionChecks, ScriptChecks, has_reference, IsPlain, ArePlain, AllPlain, EachOf, CompletesIn, ResultsCheck, Binds, IsSafe, AnswersFit, StopIsSound, AreSafe}
use Rattle.meaning.proofs.ResultLaws.{known_are, named_are, outcomes_end}

-- Operators

number_ends : (v : Value) (f : ℤ → Outcome) (t : Kind) → IsOf v Number → ((n : ℤ) → EndsIn (f n) t) → EndsIn (as_number (Trapped Broken) v f) t
number_ends (Int n) f t h l = l n
number_ends (Items vs) f t h l = h
number_ends (Named o) f t h l = h
number_ends (Known c) f t h l = h

items_end : (v : Value) (f : Values → Outcome) (u t : Kind) → IsOf v (ListKind u) → ((vs : Values) → AreOf vs u → EndsIn (f vs) t) → EndsIn (as_items (Trapped Broken) v f) t
items_end (Int n) f u t h l = h
items_end (Items vs) f u t h l = l vs h
items_end (Named o) f u t h l = h
items_end (Known c) f u t h l = h

in_range_ends : (n : ℤ) → EndsIn (in_range n) Number
in_range_ends n = elim (fits n) as (λ b. EndsIn (if b then Val (Int n) else Trapped Overflow) Number) [ true ↦ tt | false ↦ tt ]

quotient_ends : (m n : ℤ) → EndsIn (quotient m n) Number
quotient_ends m (pos zero) = tt
quotient_ends m (pos (suc n)) = in_range_ends (int_div m (pos (suc n)))
quotient_ends m (negsuc n) = in_range_ends (int_div m (negsuc n))

remainder_ends : (m n : ℤ) → EndsIn (remainder m n) Number
remainder_ends m (pos zero) = tt
remainder_ends m (pos (suc n)) = tt
remainder_ends m (negsuc n) = elim (fits (int_div m (negsuc n))) as (λ b. EndsIn (if b then Val (Int (int_rem m (negsuc n))) else Trapped Overflow) Number) [ true ↦ tt | false ↦ tt ]

found_ends : (vs : Values) (i : ℕ) (t : Kind) → AreOf vs t → EndsIn (found (item_at vs i)) t
found_ends none i t h = tt
found_ends (more v vs) zero t h = h.0
found_ends (more v vs) (suc i) t h = found_ends vs i t h.1

index_ends : (vs : Values) (i : ℤ) (t : Kind) → AreOf vs t → EndsIn (index vs i) t
index_ends vs (pos n) t h = found_ends vs n t h
index_ends vs (negsuc n) t h = tt

pushed : (vs : Values) (w : Value) (t : Kind) → AreOf vs t → IsOf w t → AreOf (push_onto vs w) t
pushed none w t h k = (k, tt)
pushed (more v vs) w t h k = (h.0, pushed vs w t h.1 k)

push_ends : (vs : Values) (w : Value) (t : Kind) → AreOf vs t → IsOf w t → EndsIn (push vs w) (ListKind t)
push_ends vs w t h k = let p = pushed vs w t h k in elim (nat_lt (count vs) 4096) as (λ b. EndsIn (if b then Val (Items (push_onto vs w)) else Trapped TooLong) (ListKind t)) [ true ↦ p | false ↦ tt ]

two_end : (f : ℤ → ℤ → Outcome) (s u t : Kind) (v w : Value) → (s ≡ Number) × (u ≡ Number) × (t ≡ Number) → IsOf v s → IsOf w u → ((m n : ℤ) → EndsIn (f m n) Number) → EndsIn (on_numbers v w f) t
two_end f s u t v w e hv hw l =
    subst (λ k. EndsIn (on_numbers v w f) k) (sym e.2)
    (number_ends v (λ m. as_number (Trapped Broken) w (λ n. f m n)) Number (subst (λ k. IsOf v k) e.0 hv) (λ m. number_ends w (f m) Number (subst (λ k. IsOf w k) e.1 hw) (λ n. l m n)))

operator_ends : (op : Operator) (s u t : Kind) (v w : Value) → OperatorChecks op s u t → IsOf v s → IsOf w u → EndsIn (apply op v w) t
operator_ends Add s u t v w e hv hw = two_end _ s u t v w e hv hw (λ m n. in_range_ends (m +ℤ n))
operator_ends Sub s u t v w e hv hw = two_end _ s u t v w e hv hw (λ m n. in_range_ends (m -ℤ n))
operator_ends Mul s u t v w e hv hw = two_end _ s u t v w e hv hw (λ m n. in_range_ends (m *ℤ n))
operator_ends Div s u t v w e hv hw = two_end _ s u t v w e hv hw quotient_ends
operator_ends Rem s u t v w e hv hw = two_end _ s u t v w e hv hw remainder_ends
operator_ends Equal s u t v w e hv hw = two_end _ s u t v w e hv hw (λ m n. tt)
operator_ends Unequal s u t v w e hv hw = two_end _ s u t v w e hv hw (λ m n. tt)
operator_ends Less s u t v w e hv hw = two_end _ s u t v w e hv hw (λ m n. tt)
operator_ends LessEqual s u t v w e hv hw = two_end _ s u t v w e hv hw (λ m n. tt)
operator_ends ItemAt s u t v w e hv hw =
    items_end v _ t t (subst (λ k. IsOf v k) e.0 hv) (λ vs hs. number_ends w (λ n. index vs n) t (subst (λ k. IsOf w k) e.1 hw) (λ n. index_ends vs n t hs))
operator_ends Push s u t v w e hv hw =
    subst (λ k. EndsIn (as_items (Trapped Broken) v (λ vs. push vs w)) k) (sym e.1) (items_end v (λ vs. push vs w) u (ListKind u) (subst (λ k. IsOf v k) e.0 hv) (λ vs hs. push_ends vs w u hs hw))

prefix_ends : (op : Prefix) (s t : Kind) (v : Value) → PrefixChecks op s t → IsOf v s → EndsIn (apply_one op v) t
prefix_ends Negate s t v e hv = subst (λ k. EndsIn (as_number (Trapped Broken) v (λ n. in_range (neg_ℤ n))) k) (sym e.1) (number_ends v _ Number (subst (λ k. IsOf v k) e.0 hv) (λ n. in_range_ends (neg_ℤ n)))
prefix_ends Len s t v e hv = subst (λ k. EndsIn (as_items (Trapped Broken) v (λ vs. Val (Int (pos (count vs))))) k) (sym e.2) (items_end v _ e.0 Number (subst (λ k. IsOf v k) e.1 hv) (λ vs hs. tt))

-- a value of a kind without references has none
mutual
  plain : (v : Value) (t : Kind) → IsOf v t → has_reference t ≡ false → IsPlain v
  plain (Int n) t h e = tt
  plain (Items vs) Number h e = absurd h
  plain (Items vs) (ListKind t) h e = plain_items vs t h e
  plain (Items vs) (RefKind t) h e = absurd h
  plain (Named o) Number h e = absurd h
  plain (Named o) (ListKind t) h e = absurd h
  plain (Named o) (RefKind t) h e = absurd (cc)
  plain (Known c) Number h e = absurd h
  plain (Known c) (ListKind t) h e = absurd h
  plain (Known c) (RefKind t) h e = absurd (cc)

  plain_items : (vs : Values) (t : Kind) → AreOf vs t → has_reference t ≡ false → ArePlain vs
  plain_items none t h e = tt
  plain_items (more v vs) t h e = (plain v t h.0 e, plain_items vs t h.1 e)

-- Scopes

here_or_there : (b : Bool) (v : Value) (k u : Kind) (c : Outcome) (o : Option Kind) → IsOf v k → (o ≡ Some u → EndsIn c u) → (if b then Some k else o) ≡ Some u → EndsIn (if b then Val v else c) u
here_or_there true v k u c o hv hc e = let e' : k ≡ u = cc in subst (λ t. IsOf v t) e' hv
here_or_there false v k u c o hv hc e = hc e

var_ends : (scope : Scope) (context : Context) (x : Name) (u : Kind) → ScopeOf scope context → kind_in context x ≡ Some u → EndsIn (value_in scope x) u
var_ends [] [] x u so e = absurd (cc)
var_ends [] (k ∷ context) x u so e = absurd so
var_ends (w ∷ scope) [] x u so e = absurd so
var_ends (w ∷ scope) (k ∷ context) x u so e =
    let r = var_ends scope context x u so.2 in
    subst (λ n. EndsIn (if same_name n x then Val w.value else value_in scope x) u) (sym so.0) (here_or_there (same_name k.name x) w.value k.kind u (value_in scope x) (kind_in context x) so.1 r e)

bound_scope : (scope : Scope) (context : Context) (x : Name) (v : Value) (t : Kind) → ScopeOf scope context → IsOf v t → ScopeOf (bind scope x v) (context ++ record { name = x; kind = t } ∷ [])
bound_scope [] [] x v t so h = (refl, h, tt)
bound_scope [] (k ∷ context) x v t so h = absurd so
bound_scope (w ∷ scope) [] x v t so h = absurd so
bound_scope (w ∷ scope) (k ∷ context) x v t so h = (so.0, so.1, bound_scope scope context x v t so.2 h)

set_here : (b : Bool) (w : Variable) (scope : Scope) (rest : Scope) (k : Typed) (context : Context) (v : Value) (t : Kind) (o : Option Kind) → w.name ≡ k.name → IsOf w.value k.kind → ScopeOf scope context → IsOf v t → (o ≡ Some t → ScopeOf rest context) → (if b then Some k.kind else o) ≡ Some t → ScopeOf (if b then (record w { value = v }) ∷ scope else w ∷ rest) (k ∷ context)
set_here true w scope rest k context v t o n hw so h r e = let e' : t ≡ k.kind = cc in (n, subst (λ u. IsOf v u) e' h, so)
set_here false w scope rest k context v t o n hw so h r e = (n, hw, r e)

set_scope : (scope : Scope) (context : Context) (x : Name) (v : Value) (t : Kind) → ScopeOf scope context → kind_in context x ≡ Some t → IsOf v t → ScopeOf (set_in scope x v) context
set_scope [] [] x v t so e h = tt
set_scope [] (k ∷ context) x v t so e h = absurd so
set_scope (w ∷ scope) [] x v t so e h = absurd so
set_scope (w ∷ scope) (k ∷ context) x v t so e h =
    let r = λ (e' : kind_in context x ≡ Some t). set_scope scope context x v t so.2 e' h in
    subst (λ n. ScopeOf (if same_name n x then (record w { value = v }) ∷ scope else w ∷ set_in scope x v) (k ∷ context)) (sym so.0)
    (set_here (same_name k.name x) w scope (set_in scope x v) k context v t (kind_in context x) so.0 so.1 so.2 h r e)

-- Expressions

module _ (script : Script) where
  abbrev NextSafe : Kind → List Kind → (Value → Run) → Type 0
  NextSafe u t next = (v : Value) → IsOf v u → IsSafe script (next v) t

  abbrev AllSafe : List Kind → List Kind → (List Value → Run) → Type 0
  AllSafe us t next = (vs : List Value) → EachOf vs us → IsSafe script (next vs) t

  proceeds : (c : Outcome) (u : Kind) (t : List Kind) (next : Value → Run) → EndsIn c u → NextSafe u t next → IsSafe script (proceed c next) t
  proceeds (Val v) u t next h l = l v h
  proceeds (Trapped e) u t next h l = h

  gets : (u : Kind) (t : List Kind) (r : Value) (next : Value → Run) → IsOf r (RefKind u) → NextSafe u t next → IsSafe script (get_from u r next) t
  gets u t (Int n) next h l = absurd h
  gets u t (Items vs) next h l = absurd h
  gets u t (Named o) next h l = (h, l)
  gets u t (Known c) next h l = (h, l)

  -- a context and what was added to it
  abbrev Extends : Context → Context → Type 0
  Extends context after = (added : Context) × (after ≡ context ++ added)

  taken : (scope : Scope) (before : Scope) (context added : Context) → ScopeOf before context → ScopeOf scope (context ++ added) → ScopeOf (take (length before) scope) context
  taken scope [] [] added sb so = tt
  taken scope [] (k ∷ context) added sb so = absurd sb
  taken scope (b ∷ before) [] added sb so = absurd sb
  taken [] (b ∷ before) (k ∷ context) added sb so = absurd so
  taken (w ∷ scope) (b ∷ before) (k ∷ context) added sb so = (so.0, so.1, taken scope before context added sb.2 so.2)

  abbrev ScopeSafe : Context → List Kind → (Scope → Run) → Type 0
  ScopeSafe context t next = (scope : Scope) → ScopeOf scope context → IsSafe script (next scope) t

  -- safe after a block, whatever it added
  abbrev BlockSafe : Context → List Kind → (Scope → Run) → Type 0
  BlockSafe context t next = (scope : Scope) (after : Context) → Extends context after → ScopeOf scope after → IsSafe script (next scope) t

  extends_all : (a b c : Context) → Extends a b → Extends b c → Extends a c
  extends_all a b c e f = (e.0 ++ f.0, f.1 ∙ ap (λ x. x ++ f.0) e.1 ∙ append_assoc a e.0 f.0)

  extends_itself : (a : Context) → Extends a a
  extends_itself a = ([], sym (append-nil a))

  binding_extends : (xs : List Name) (ts : List Kind) (context after : Context) → Binds xs ts context after → Extends context after
  binding_extends [] [] context after h = subst (λ a. Extends context a) (sym h) (extends_itself context)
  binding_extends [] (t ∷ ts) context after h = absurd h
  binding_extends (x ∷ xs) [] context after h = absurd h
  binding_extends (x ∷ xs) (t ∷ ts) context after h =
      let with = context ++ record { name = x; kind = t } ∷ [] in
      extends_all context with after (record { name = x; kind = t } ∷ [], refl) (binding_extends xs ts with after h)

  stmt_extends : (s : Stmt) (result : List Kind) (context after : Context) → StmtChecks s script result context after → Extends context after
  stmt_extends (Let x e) result context after h = (record { name = x; kind = h.0 } ∷ [], h.2)
  stmt_extends (LetCall x xs g args) result context after h = binding_extends (x ∷ xs) (results h.0) context after h.3
  stmt_extends (LetRemote x xs k g marks args) result context after h = binding_extends (x ∷ xs) (map RefKind (results h.0)) context after h.3
  stmt_extends (Set x e) result context after h = subst (λ a. Extends context a) (sym h.3) (extends_itself context)
  stmt_extends (Print e) result context after h = subst (λ a. Extends context a) (sym h.3) (extends_itself context)
  stmt_extends (Return es) result context after h = subst (λ a. Extends context a) (sym h.1) (extends_itself context)
  stmt_extends (If e a b) result context after h = subst (λ a. Extends context a) (sym h.3) (extends_itself context)
  stmt_extends (For x from to body) result context after h = subst (λ a. Extends context a) (sym h.3) (extends_itself context)

  binds : (xs : List Name) (us : List Kind) (vs : List Value) (t : List Kind) (context after : Context) (scope : Scope) (next : Scope → Run) → Binds xs us context after → EachOf vs us → ScopeOf scope context → ScopeSafe after t next → IsSafe script (bind_each broken scope xs vs next) t
  binds [] [] [] t context after scope next h hvs so l = l scope (subst (λ a. ScopeOf scope a) (sym h) so)
  binds [] [] (v ∷ vs) t context after scope next h hvs so l = absurd hvs
  binds [] (u ∷ us) vs t context after scope next h hvs so l = absurd h
  binds (x ∷ xs) [] vs t context after scope next h hvs so l = absurd h
  binds (x ∷ xs) (u ∷ us) [] t context after scope next h hvs so l = absurd hvs
  binds (x ∷ xs) (u ∷ us) (v ∷ vs) t context after scope next h hvs so l =
      binds xs us vs t (context ++ record { name = x; kind = u } ∷ []) after (bind scope x v) next h hvs.1 (bound_scope scope context x v u so hvs.0) l

  takes_only : (us : List Kind) (u : Kind) (vs : List Value) (t : List Kind) (next : Value → Run) → us ≡ u ∷ [] → EachOf vs us → NextSafe u t next → IsSafe script (only vs next) t
  takes_only us u vs t next e h l = one vs (subst (λ ks. EachOf vs ks) e h)
    where
      one : (ws : List Value) → EachOf ws (u ∷ []) → IsSafe script (only ws next) t
      one [] k = absurd k
      one (v ∷ []) k = l v k.0
      one (v ∷ w ∷ ws) k = absurd k.1

  bound_all : (ps : List Parameter) (vs : List Value) (t : List Kind) (next : Scope → Run) → ArgumentsOf vs ps → ScopeSafe (context_of ps) t next → IsSafe script (bind_all broken ps vs next) t
  bound_all [] [] t next h l = l [] tt
  bound_all [] (v ∷ vs) t next h l = absurd h
  bound_all (p ∷ ps) [] t next h l = absurd h
  bound_all (p ∷ ps) (v ∷ vs) t next h l = bound_all ps vs t _ h.1 (λ scope so. l (record { name = p.name; value = v } ∷ scope) (refl, h.0, so))

  found_checks : (fs : Script) (g : Name) (f : Function) → ScriptChecks script fs → find fs g ≡ Some f → FunctionChecks script f
  found_checks [] g f h e = absurd (cc)
  found_checks (k ∷ fs) g f h e = go (same_name k.name g) e (found_checks fs g f h.1)
    where
      go : (b : Bool) → (if b then Some k else find fs g) ≡ Some f → (find fs g ≡ Some f → FunctionChecks script f) → FunctionChecks script f
      go true e' r = let e'' : k ≡ f = cc in subst (λ x. FunctionChecks script x) e'' h.0
      go false e' r = r e'

  number_runs : (v : Value) (t : List Kind) (f : ℤ → Run) → IsOf v Number → ((n : ℤ) → IsSafe script (f n) t) → IsSafe script (as_number broken v f) t
  number_runs (Int n) t f h l = l n
  number_runs (Items vs) t f h l = absurd h
  number_runs (Named o) t f h l = absurd h
  number_runs (Known c) t f h l = absurd h

  -- calls that never break
  record CallsSafe (calls : Calls) : Type 0 where
    plain : (g : Name) (f : Function) → find script g ≡ Some f → (vs : List Value) (t : List Kind) (next : List Value → Run) → ArgumentsOf vs f.parameters → AllSafe (results f) t next → IsSafe script (calls.plain g vs next) t
    task : (g : Name) (f : Function) → find script g ≡ Some f → (args : List Argument) → MarkedOf args f.parameters → IsSafe script (calls.task g args) (results f)

  module _ (calls : Calls) (safe : CallsSafe calls) where
    one_result : (f : Function) (u : Kind) → results f ≡ u ∷ [] → length f.others ≡ 0
    one_result f u e = let none : f.others ≡ [] = cc in ap (λ (ts : List Kind). length ts) none

    mutual
      evaluates : (e : Expr) (u : Kind) (t : List Kind) (context : Context) (scope : Scope) (next : Value → Run) → Checks script context e u → ScopeOf scope context → NextSafe u t next → IsSafe script (evaluate calls e scope next) t
      evaluates (Num n) u t context scope next h so l = l (Int n) (subst (λ k. IsOf (Int n) k) (sym h) tt)
      evaluates (Var x) u t context scope next h so l = proceeds (value_in scope x) u t next (var_ends scope context x u so h) l
      evaluates (Unary op a) u t context scope next h so l =
          evaluates a h.0 t context scope _ h.1 so (λ v hv. proceeds (apply_one op v) u t next (prefix_ends op h.0 u v h.2 hv) l)
      evaluates (Binary op a b) u t context scope next h so l =
          evaluates a h.0 t context scope _ h.2 so (λ v hv. evaluates b h.1 t context scope _ h.3 so (λ w hw. proceeds (apply op v w) u t next (operator_ends op h.0 h.1 u v w h.4 hv hw) l))
      evaluates (ListOf es) u t context scope next h so l =
          evaluates_each es h.0 t context scope _ h.1 so (λ vs hvs. l (Items (values_of vs)) (subst (λ k. IsOf (Items (values_of vs)) k) (sym h.2) hvs))
      evaluates (Empty k) u t context scope next h so l = l (Items none) (subst (λ k. IsOf (Items none) k) (sym h) tt)
      evaluates (Call g args) u t context scope next h so l =
          evaluates_args args h.0.parameters t context scope _ h.2 so (λ vs hvs. safe.plain g h.0 h.1 vs t _ hvs (λ ws hws. takes_only (results h.0) u ws t next h.3 hws l))
      evaluates (Remote k g marks args) u t context scope next h so l =
          evaluates_marked args marks h.0.parameters t context scope _ h.2 so (λ vs hvs. (
            results h.0,
            (h.0, h.1, hvs, refl, one_result h.0 h.3 h.4),
            safe.task g h.0 h.1 (mark vs marks) hvs,
            λ rs hrs. takes_only (map RefKind (results h.0)) u rs t next (ap (λ ks. map RefKind ks) h.4 ∙ ap (λ k'. k' ∷ []) (sym h.5)) hrs l,
          ))
      evaluates (PutOf a) u t context scope next h so l =
          evaluates a h.0 t context scope _ h.1 so (λ v hv.
          (h.0 ∷ [], (hv, tt), (hv, tt), λ rs hrs. takes_only (RefKind h.0 ∷ []) u rs t next (ap (λ k. k ∷ []) (sym h.2)) hrs l))
      evaluates (GetOf k a) u t context scope next h so l =
          evaluates a (RefKind k) t context scope _ h.0 so (λ r hr. gets k t r next hr (λ v hv. l v (subst (λ k. IsOf v k) (sym h.1) hv)))

      evaluates_each : (es : Exprs) (u : Kind) (t : List Kind) (context : Context) (scope : Scope) (next : List Value → Run) → EachChecks script context es u → ScopeOf scope context → ((vs : List Value) → AreOf (values_of vs) u → IsSafe script (next vs) t) → IsSafe script (evaluate_all calls es scope next) t
      evaluates_each end u t context scope next h so l = l [] tt
      evaluates_each (also e es) u t context scope next h so l =
          evaluates e u t context scope _ h.0 so (λ v hv. evaluates_each es u t context scope _ h.1 so (λ vs hvs. l (v ∷ vs) (hv, hvs)))

      evaluates_args : (es : Exprs) (ps : List Parameter) (t : List Kind) (context : Context) (scope : Scope) (next : List Value → Run) → ArgumentsCheck script context es ps → ScopeOf scope context → ((vs : List Value) → ArgumentsOf vs ps → IsSafe script (next vs) t) → IsSafe script (evaluate_all calls es scope next) t
      evaluates_args end [] t context scope next h so l = l [] tt
      evaluates_args end (p ∷ ps) t context scope next h so l = absurd h
      evaluates_args (also e es) [] t context scope next h so l = absurd h
      evaluates_args (also e es) (p ∷ ps) t context scope next h so l =
          evaluates e p.kind t context scope _ h.0 so (λ v hv. evaluates_args es ps t context scope _ h.1 so (λ vs hvs. l (v ∷ vs) (hv, hvs)))

      evaluates_marked : (es : Exprs) (ms : List Bool) (ps : List Parameter) (t : List Kind) (context : Context) (scope : Scope) (next : List Value → Run) → MarkedCheck script context es ms ps → ScopeOf scope context → ((vs : List Value) → MarkedOf (mark vs ms) ps → IsSafe script (next vs) t) → IsSafe script (evaluate_all calls es scope next) t
      evaluates_marked end [] [] t context scope next h so l = l [] tt
      evaluates_marked end [] (p ∷ ps) t context scope next h so l = absurd h
      evaluates_marked end (m ∷ ms) ps t context scope next h so l = absurd h
      evaluates_marked (also e es) [] ps t context scope next h so l = absurd h
      evaluates_marked (also e es) (m ∷ ms) [] t context scope next h so l = absurd h
      evaluates_marked (also e es) (m ∷ ms) (p ∷ ps) t context scope next h so l =
          evaluates e (argument_kind m p.kind) t context scope _ h.0 so (λ v hv. evaluates_marked es ms ps t context scope _ h.1 so (λ vs hvs. l (v ∷ vs) (hv, hvs)))

    evaluates_results : (es : Exprs) (us t : List Kind) (context : Context) (scope : Scope) (next : List Value → Run) → ResultsCheck script context es us → ScopeOf scope context → AllSafe us t next → IsSafe script (evaluate_all calls es scope next) t
    evaluates_results end [] t context scope next h so l = l [] tt
    evaluates_results end (u ∷ us) t context scope next h so l = absurd h
    evaluates_results (also e es) [] t context scope next h so l = absurd h
    evaluates_results (also e es) (u ∷ us) t context scope next h so l =
        evaluates e u t context scope _ h.0 so (λ v hv. evaluates_results es us t context scope _ h.1 so (λ vs hvs. l (v ∷ vs) (hv, hvs)))

    left : (before : Scope) (context : Context) (t : List Kind) (next : Scope → Run) → ScopeOf before context → ScopeSafe context t next → BlockSafe context t (leave calls before next)
    left before context t next sb l = λ scope after x so. l _ (taken scope before context x.0 sb (subst (λ a. ScopeOf scope a) x.1 so))

    choice : (n : ℤ) (t : List Kind) (a b : Run) → IsSafe script a t → IsSafe script b t → IsSafe script (if is_zero n then b else a) t
    choice n t a b ha hb = elim (is_zero n) as (λ z. IsSafe script (if z then b else a) t) [ true ↦ hb | false ↦ ha ]

    turn : (n : ℕ) (i : ℤ) (body : ℤ → Scope → (Scope → Run) → Run) (context : Context) (t : List Kind) (scope : Scope) (next : Scope → Run) →
        ((i : ℤ) (scope : Scope) (next : Scope → Run) → ScopeOf scope context → ScopeSafe context t next → IsSafe script (body i scope next) t) → ScopeOf scope context → ScopeSafe context t next → IsSafe script (turns calls n i body scope next) t
    turn zero i body context t scope next f so l = l scope so
    turn (suc n) i body context t scope next f so l = f i scope _ so (λ after sa. turn n (i +ℤ pos 1) body context t after next f sa l)

    loops : (from to : ℤ) (body : ℤ → Scope → (Scope → Run) → Run) (context : Context) (t : List Kind) (scope : Scope) (next : Scope → Run) →
        ((i : ℤ) (scope : Scope) (next : Scope → Run) → ScopeOf scope context → ScopeSafe context t next → IsSafe script (body i scope next) t) → ScopeOf scope context → ScopeSafe context t next → IsSafe script (turns_within calls from to body scope next) t
    loops from to body context t scope next f so l =
        let n = turn_count (to -ℤ from) in
        let run = turn n from body context t scope next f so l in
        elim (nat_lt 10000 n) as (λ b. IsSafe script (if b then Ends (Aborted Loop) else turns calls n from body scope next) t) [ true ↦ tt | false ↦ run ]

    as_many_names : (xs : List Name) (ts : List Kind) (context after : Context) → Binds xs (map RefKind ts) context after → length ts ≡ length xs
    as_many_names [] [] context after h = refl
    as_many_names [] (t ∷ ts) context after h = absurd h
    as_many_names (x ∷ xs) [] context after h = absurd h
    as_many_names (x ∷ xs) (t ∷ ts) context after h = ap (λ n. suc n) (as_many_names xs ts (context ++ record { name = x; kind = RefKind t } ∷ []) after h)

    mutual
      executes : (s : Stmt) (result t : List Kind) (context after : Context) (scope : Scope) (next : Scope → Run) (return : List Value → Run) → StmtChecks s script result context after → ScopeOf scope context → ScopeSafe after t next → AllSafe result t return → IsSafe script (execute calls s scope next return) t
      executes (Let x e) result t context after scope next return h so l r =
          evaluates e h.0 t context scope _ h.1 so (λ v hv. l _ (subst (λ a. ScopeOf (bind scope x v) a) (sym h.2) (bound_scope scope context x v h.0 so hv)))
      executes (LetCall x xs g args) result t context after scope next return h so l r =
          evaluates_args args h.0.parameters t context scope _ h.2 so (λ vs hvs.
          safe.plain g h.0 h.1 vs t _ hvs (λ ws hws. binds (x ∷ xs) (results h.0) ws t context after scope next h.3 hws so l))
      executes (LetRemote x xs k g marks args) result t context after scope next return h so l r =
          evaluates_marked args marks h.0.parameters t context scope _ h.2 so (λ vs hvs. (
            results h.0,
            (h.0, h.1, hvs, refl, as_many_names xs h.0.others (context ++ record { name = x; kind = RefKind h.0.result } ∷ []) after h.3),
            safe.task g h.0 h.1 (mark vs marks) hvs,
            λ rs hrs. binds (x ∷ xs) (map RefKind (results h.0)) rs t context after scope next h.3 hrs so l,
          ))
      executes (Set x e) result t context after scope next return h so l r =
          evaluates e h.0 t context scope _ h.2 so (λ v hv. l _ (subst (λ a. ScopeOf (set_in scope x v) a) (sym h.3) (set_scope scope context x v h.0 so h.1 hv)))
      executes (Print e) result t context after scope next return h so l r =
          evaluates e h.0 t context scope _ h.1 so (λ v hv. (plain v h.0 hv h.2, l scope (subst (λ a. ScopeOf scope a) (sym h.3) so)))
      executes (Return es) result t context after scope next return h so l r = evaluates_results es result t context scope return h.0 so r
      executes (If e a b) result t context after scope next return h so l r =
          let l' : ScopeSafe context t next = subst (λ a. ScopeSafe a t next) h.3 l in
          evaluates e Number t context scope _ h.0 so (λ v hv. number_runs v t _ hv (λ n. choice n t _ _
          (executes_all a result t context scope _ return h.1 so (left scope context t next so l') r)
          (executes_all b result t context scope _ return h.2 so (left scope context t next so l') r)))
      executes (For x from to body) result t context after scope next return h so l r =
          let l' : ScopeSafe context t next = subst (λ a. ScopeSafe a t next) h.3 l in
          evaluates from Number t context scope _ h.0 so (λ v hv. evaluates to Number t context scope _ h.1 so (λ w hw.
          number_runs v t _ hv (λ m. number_runs w t _ hw (λ n. loops m n _ context t scope next
          (λ i before k sb lk. executes_all body result t (context ++ record { name = x; kind = Number } ∷ []) (bind before x (Int i)) _ return h.2
          (bound_scope before context x (Int i) Number sb tt)
          (λ scope' after' x' so'. left before context t k sb lk scope' after' (extends_all context (context ++ record { name = x; kind = Number } ∷ []) after' (record { name = x; kind = Number } ∷ [], refl) x') so') r)
          so l'))))

      executes_all : (b : Block) (result t : List Kind) (context : Context) (scope : Scope) (next : Scope → Run) (return : List Value → Run) → BlockChecks b script result context → ScopeOf scope context → BlockSafe context t next → AllSafe result t return → IsSafe script (execute_all calls b scope next return) t
      executes_all done result t context scope next return h so l r = l scope context (extends_itself context) so
      executes_all (step s rest) result t context scope next return h so l r =
          executes s result t context h.0 scope _ return h.1 so
          (λ scope' so'. executes_all rest result t h.0 scope' next return h.2 so' (λ scope'' after x so''. l scope'' after (extends_all context h.0 after (stmt_extends s result context h.0 h.1) x) so'') r) r

    -- what returns never goes on
    mutual
      returns : (s : Stmt) (result t : List Kind) (context after : Context) (scope : Scope) (next : Scope → Run) (return : List Value → Run) → Returns s → StmtChecks s script result context after → ScopeOf scope context → AllSafe result t return → IsSafe script (execute calls s scope next return) t
      returns (Let x e) result t context after scope next return m h so r = absurd m
      returns (LetCall x xs g args) result t context after scope next return m h so r = absurd m
      returns (LetRemote x xs k g marks args) result t context after scope next return m h so r = absurd m
      returns (Set x e) result t context after scope next return m h so r = absurd m
      returns (Print e) result t context after scope next return m h so r = absurd m
      returns (Return es) result t context after scope next return m h so r = evaluates_results es result t context scope return h.0 so r
      returns (If e a b) result t context after scope next return m h so r =
          evaluates e Number t context scope _ h.0 so (λ v hv. number_runs v t _ hv (λ n. choice n t _ _
          (returns_all a result t context scope _ return m.0 h.1 so r) (returns_all b result t context scope _ return m.1 h.2 so r)))
      returns (For x from to body) result t context after scope next return m h so r = absurd m

      returns_all : (b : Block) (result t : List Kind) (context : Context) (scope : Scope) (next : Scope → Run) (return : List Value → Run) → BlockReturns b → BlockChecks b script result context → ScopeOf scope context → AllSafe result t return → IsSafe script (execute_all calls b scope next return) t
      returns_all done result t context scope next return m h so r = absurd m
      returns_all (step s rest) result t context scope next return (inl m) h so r = returns s result t context h.0 scope _ return m h.1 so r
      returns_all (step s rest) result t context scope next return (inr m) h so r =
          executes s result t context h.0 scope _ return h.1 so (λ scope' so'. returns_all rest result t h.0 scope' next return m h.2 so' r) r

    entered : (f : Function) (vs : List Value) (t : List Kind) (next : List Value → Run) → FunctionChecks script f → ArgumentsOf vs f.parameters → AllSafe (results f) t next → IsSafe script (enter calls (Some f) vs next) t
    entered f vs t next h hvs l = bound_all f.parameters vs t _ hvs (λ scope so. returns_all f.body (results f) t (context_of f.parameters) scope _ next h.returns h.body so l)

  dereferenced : (ps : List Parameter) (args : List Argument) (t : List Kind) (next : List Value → Run) → MarkedOf args ps → ((vs : List Value) → ArgumentsOf vs ps → IsSafe script (next vs) t) → IsSafe script (dereference ps args next) t
  dereferenced [] [] t next h l = l [] tt
  dereferenced (p ∷ ps) [] t next h l = absurd h
  dereferenced [] (a ∷ args) t next h l = absurd h
  dereferenced (p ∷ ps) (a ∷ args) t next h l =
      go a.marked h.0 (λ v hv. dereferenced ps args t _ h.1 (λ vs hvs. l (v ∷ vs) (hv, hvs)))
    where
      go : (m : Bool) → IsOf a.value (argument_kind m p.kind) → ((v : Value) → IsOf v p.kind → IsSafe script (dereference ps args (λ vs. next (v ∷ vs))) t) → IsSafe script (if m then get_from p.kind a.value (λ v. dereference ps args (λ vs. next (v ∷ vs))) else dereference ps args (λ vs. next (a.value ∷ vs))) t
      go true k rest = gets p.kind t a.value _ k rest
      go false k rest = rest a.value k

  tasks_safe : (b : Bool) (call : Name → List Value → (List Value → Run) → Run) → ((g : Name) (f : Function) → find script g ≡ Some f → (vs : List Value) (t : List Kind) (next : List Value → Run) → ArgumentsOf vs f.parameters → AllSafe (results f) t next → IsSafe script (call g vs next) t) → (g : Name) (f : Function) → find script g ≡ Some f → (args : List Argument) → MarkedOf args f.parameters → IsSafe script (task_by b (parameters_of (find script g)) (call g) args) (results f)
  tasks_safe true call l g f e args h = tt
  tasks_safe false call l g f e args h =
      subst (λ o. IsSafe script (dereference (parameters_of o) args (λ vs. call g vs (λ ws. Ends (Returned ws)))) (results f)) (sym e)
      (dereferenced f.parameters args (results f) _ h (λ vs hvs. l g f e vs (results f) _ hvs (λ ws hws. hws)))

  module _ (checks : ScriptChecks script script) where
    calls_safe : (n : ℕ) → (g : Name) (f : Function) → find script g ≡ Some f → (vs : List Value) (t : List Kind) (next : List Value → Run) → ArgumentsOf vs f.parameters → AllSafe (results f) t next → IsSafe script (call_at script n g vs next) t
    unfolding call_at
    calls_safe zero g f e vs t next hvs l = tt
    calls_safe (suc n) g f e vs t next hvs l =
        subst (λ o. IsSafe script (enter (calls_below script n) o vs next) t) (sym e)
        (entered (calls_below script n) (record { plain = calls_safe n; task = tasks_safe (no_level n) (call_at script n) (calls_safe n) }) f vs t next (found_checks script g f checks e) hvs l)

    -- a task with arguments of the kinds asked for is safe
    pub run_is_safe : (g : Name) (f : Function) (args : List Argument) (depth : ℕ) → find script g ≡ Some f → MarkedOf args f.parameters → IsSafe script (run_task script g args depth) (results f)
    run_is_safe g f args depth e h = tasks_safe (nat_lt 32 depth) (call_at script (33 - depth)) (calls_safe (33 - depth)) g f e args h

  -- a safe run ends serially with values of its kinds, or with a trap of the script
  pub serial_is_sound : (run : Run) (ts : List Kind) → IsSafe script run ts → CompletesIn (serial_end run) ts
  serial_is_sound (Ends e) ts h = h
  serial_is_sound (Prints v next) ts h = serial_is_sound next ts h.1
  serial_is_sound (Bears b made_by next) ts h =
      serial_is_sound (next (known b (serial_end made_by))) ts
      (h.3 (known b (serial_end made_by)) (known_are script b h.0 (serial_end made_by) h.1 (serial_is_sound made_by h.0 h.2)))
  serial_is_sound (Gets u (Int n) next) ts h = absurd h.0
  serial_is_sound (Gets u (Items vs) next) ts h = absurd h.0
  serial_is_sound (Gets u (Named o) next) ts h = tt
  serial_is_sound (Gets u (Known (Val v)) next) ts h = serial_is_sound (next v) ts (h.1 v h.0)
  serial_is_sound (Gets u (Known (Trapped e)) next) ts h = h.0

  -- and so does a piece, on such answers
  piece_is_sound : (run : Run) (ts : List Kind) (base : Id) (answers : List Outcome) → IsSafe script run ts → AnswersFit run base answers → StopIsSound (piece (length ts) run base answers).stop ts
  piece_is_sound (Ends e) ts base answers h f = outcomes_end ts e h
  piece_is_sound (Prints v next) ts base answers h f = piece_is_sound next ts base answers h.1 f
  piece_is_sound (Bears b made_by next) ts base answers h f =
      piece_is_sound (next (named base b)) ts (behind base b) answers (h.3 (named base b) (named_are script b h.0 base h.1)) f
  piece_is_sound (Gets u r next) ts base [] h f = tt
  piece_is_sound (Gets u r next) ts base (Val v ∷ answers) h f = piece_is_sound (next v) ts base answers (h.1 v f.0) f.1
  piece_is_sound (Gets u r next) ts base (Trapped e ∷ answers) h f = outcomes_end ts (Aborted e) f

  -- what it prints has no reference in it
  serial_prints_plain : (run : Run) (ts : List Kind) → IsSafe script run ts → AllPlain (prints_of (serial_trace run))
  serial_prints_plain (Ends e) ts h = tt
  serial_prints_plain (Prints v next) ts h = (h.0, serial_prints_plain next ts h.1)
  serial_prints_plain (Bears b made_by next) ts h =
      serial_prints_plain (next (known b (serial_end made_by))) ts
      (h.3 (known b (serial_end made_by)) (known_are script b h.0 (serial_end made_by) h.1 (serial_is_sound made_by h.0 h.2)))
  serial_prints_plain (Gets u (Int n) next) ts h = absurd h.0
  serial_prints_plain (Gets u (Items vs) next) ts h = absurd h.0
  serial_prints_plain (Gets u (Named o) next) ts h = tt
  serial_prints_plain (Gets u (Known (Val v)) next) ts h = serial_prints_plain (next v) ts (h.1 v h.0)
  serial_prints_plain (Gets u (Known (Trapped e)) next) ts h = tt

  prints_plain : (run : Run) (ts : List Kind) (base : Id) (answers : List Outcome) → IsSafe script run ts → AnswersFit run base answers → AllPlain (piece (length ts) run base answers).prints
  prints_plain (Ends e) ts base answers h f = tt
  prints_plain (Prints v next) ts base answers h f = (h.0, prints_plain next ts base answers h.1 f)
  prints_plain (Bears b made_by next) ts base answers h f =
      prints_plain (next (named base b)) ts (behind base b) answers (h.3 (named base b) (named_are script b h.0 base h.1)) f
  prints_plain (Gets u r next) ts base [] h f = tt
  prints_plain (Gets u r next) ts base (Val v ∷ answers) h f = prints_plain (next v) ts base answers (h.1 v f.0) f.1
  prints_plain (Gets u r next) ts base (Trapped e ∷ answers) h f = tt

pub are_safe : AreSafe
are_safe script checks g f args depth base answers e h fit =
    let run = run_task script g args depth in
    let safe = run_is_safe script checks g f args depth e h in
    record {
      serial = serial_is_sound script run (results f) safe;
      serial_prints = serial_prints_plain script run (results f) safe;
      stop = piece_is_sound script run (results f) base answers safe fit;
      prints = prints_plain script run (results f) base answers safe fit;
    }
