-- A run gives only what it is given: where the ids in values are of one set and the outcomes in them of another, all that it bears, prints, needs
-- and ends with is so too.
use Rattle.std.proofs.Common.{ℕ, zero, suc, ◌-◌, Bool, true, false, List, [], ◌∷◌, length, take, Option, Some, None, refl}
use Rattle.std.specs.Prelude.{ℤ, pos, negsuc, nat_lt, if◌then◌else◌, ◌+ℤ◌, ◌-ℤ◌, ◌*ℤ◌, neg_ℤ, int_div}
use Rattle.std.specs.List.{AllByRecursion}
use Rattle.meaning.specs.Values.{Name, Broken, Value, Int, Items, Named, Known, Values, none, more, Outcome, Val, Trapped, Argument, Birth, Put, Task, Id}
use Rattle.meaning.specs.Values.{Completion, Returned, Aborted, first_outcome, without_first, outcomes, values_of, count, item_at, push_onto}
use Rattle.meaning.specs.Syntax.{Kind, Operator, Add, Sub, Mul, Div, Rem, Equal, Unequal, Less, LessEqual, ItemAt, Push, Prefix, Negate, Len}
use Rattle.meaning.specs.Syntax.{Expr, Num, Var, Unary, Binary, ListOf, Empty, Call, Remote, PutOf, GetOf, Exprs, end, also}
use Rattle.meaning.specs.Syntax.{Stmt, Let, LetCall, LetRemote, Set, Print, Return, If, For, Block, done, step, Parameter, Function, Script}
use Rattle.meaning.specs.Runs.{Run, Ends, Prints, Bears, Gets}
use Rattle.meaning.specs.Meaning.{broken, Variable, Scope, same_name, value_in, set_in, bind, bind_each, bind_all, as_number, as_items, fits, in_range, quotient}
use Rattle.meaning.specs.Meaning.{remainder, found, index, push, on_numbers, apply, apply_one, is_zero, turn_count, proceed, mark, get_from, dereference, only}
use Rattle.meaning.specs.Meaning.{Calls, evaluate, evaluate_all, turns, turns_within, leave, execute, execute_all, find, parameters_of, enter, task_by}
use Rattle.meaning.specs.Meaning.{calls_below, call_at, run_birth}

-- whichever way a test goes
pub either : {A : Type 0} (T : A → Type 0) (b : Bool) (x y : A) → T x → T y → T (if b then x else y)
either T true x y h k = h
either T false x y h k = k

-- whatever is done with a number, where what is none is wrong
pub by_number : {A : Type 0} (T : A → Type 0) (wrong : A) (v : Value) (f : ℤ → A) → T wrong → ((n : ℤ) → T (f n)) → T (as_number wrong v f)
by_number T wrong (Int n) f w l = l n
by_number T wrong (Items vs) f w l = w
by_number T wrong (Named o) f w l = w
by_number T wrong (Known c) f w l = w

module _ (P : Id → Type 0) (Q : Outcome → Type 0) where
  abbrev mutual
    -- all ids in the value are of the first set, all outcomes in it of the second
    pub ValueWith : Value → Type 0
    ValueWith (Int n) = Unit {0}
    ValueWith (Items vs) = ItemsWith vs
    ValueWith (Named o) = P o
    ValueWith (Known c) = Q c

    pub ItemsWith : Values → Type 0
    ItemsWith none = Unit {0}
    ItemsWith (more v vs) = ValueWith v × ItemsWith vs

  -- such a value that is a reference
  abbrev pub ReferenceWith : Value → Type 0
  ReferenceWith (Int n) = ⊥
  ReferenceWith (Items vs) = ⊥
  ReferenceWith (Named o) = P o
  ReferenceWith (Known c) = Q c

  abbrev pub OutcomeWith : Outcome → Type 0
  OutcomeWith (Val v) = ValueWith v
  OutcomeWith (Trapped t) = Unit {0}

  abbrev ValuesWith : List Value → Type 0
  ValuesWith vs = AllByRecursion ValueWith vs

  abbrev ArgumentsWith : List Argument → Type 0
  ArgumentsWith args = AllByRecursion (λ (a : Argument). ValueWith a.value) args

  abbrev ScopeWith : Scope → Type 0
  ScopeWith scope = AllByRecursion (λ (w : Variable). ValueWith w.value) scope

  abbrev pub BirthWith : Birth → Type 0
  BirthWith (Put v) = ValueWith v
  BirthWith (Task g args depth retries others) = ArgumentsWith args

  abbrev pub CompletionWith : Completion → Type 0
  CompletionWith (Returned vs) = ValuesWith vs
  CompletionWith (Aborted t) = Unit {0}

  -- whatever such values it is given, it gives only such, and bears what has one result
  abbrev pub KeepsWith : Run → Type 0
  KeepsWith (Ends e) = CompletionWith e
  KeepsWith (Prints v next) = ValueWith v × KeepsWith next
  KeepsWith (Bears b made_by next) = BirthWith b × ((rs : List Value) → ValuesWith rs → KeepsWith (next rs))
  KeepsWith (Gets t r next) = ReferenceWith r × ((v : Value) → ValueWith v → KeepsWith (next v))

  first_with : (e : Completion) → CompletionWith e → OutcomeWith (first_outcome e)
  first_with (Returned []) h = tt
  first_with (Returned (v ∷ vs)) h = h.0
  first_with (Aborted t) h = tt

  others_with : (e : Completion) → CompletionWith e → CompletionWith (without_first e)
  others_with (Returned []) h = tt
  others_with (Returned (v ∷ vs)) h = h.1
  others_with (Aborted t) h = tt

  -- so are the outcomes of its results
  pub outcomes_with : (n : ℕ) (e : Completion) → CompletionWith e → AllByRecursion OutcomeWith (outcomes n e)
  outcomes_with zero e h = tt
  outcomes_with (suc n) e h = (first_with e h, outcomes_with n (without_first e) (others_with e h))

  abbrev NextKeeps : (Value → Run) → Type 0
  NextKeeps next = (v : Value) → ValueWith v → KeepsWith (next v)

  abbrev AllKeep : (List Value → Run) → Type 0
  AllKeep next = (vs : List Value) → ValuesWith vs → KeepsWith (next vs)

  abbrev ScopeKeeps : (Scope → Run) → Type 0
  ScopeKeeps next = (scope : Scope) → ScopeWith scope → KeepsWith (next scope)

  -- Operators

  items_in : (v : Value) (f : Values → Outcome) → ValueWith v → ((vs : Values) → ItemsWith vs → OutcomeWith (f vs)) →
      OutcomeWith (as_items (Trapped Broken) v f)
  items_in (Int n) f h l = tt
  items_in (Items vs) f h l = l vs h
  items_in (Named o) f h l = tt
  items_in (Known c) f h l = tt

  in_range_in : (n : ℤ) → OutcomeWith (in_range n)
  in_range_in n = either OutcomeWith (fits n) _ _ tt tt

  quotient_in : (m n : ℤ) → OutcomeWith (quotient m n)
  quotient_in m (pos zero) = tt
  quotient_in m (pos (suc n)) = in_range_in (int_div m (pos (suc n)))
  quotient_in m (negsuc n) = in_range_in (int_div m (negsuc n))

  remainder_in : (m n : ℤ) → OutcomeWith (remainder m n)
  remainder_in m (pos zero) = tt
  remainder_in m (pos (suc n)) = tt
  remainder_in m (negsuc n) = either OutcomeWith (fits (int_div m (negsuc n))) _ _ tt tt

  found_in : (vs : Values) (i : ℕ) → ItemsWith vs → OutcomeWith (found (item_at vs i))
  found_in none i h = tt
  found_in (more v vs) zero h = h.0
  found_in (more v vs) (suc i) h = found_in vs i h.1

  index_in : (vs : Values) (i : ℤ) → ItemsWith vs → OutcomeWith (index vs i)
  index_in vs (pos n) h = found_in vs n h
  index_in vs (negsuc n) h = tt

  pushed : (vs : Values) (w : Value) → ItemsWith vs → ValueWith w → ItemsWith (push_onto vs w)
  pushed none w h k = (k, tt)
  pushed (more v vs) w h k = (h.0, pushed vs w h.1 k)

  push_in : (vs : Values) (w : Value) → ItemsWith vs → ValueWith w → OutcomeWith (push vs w)
  push_in vs w h k = either OutcomeWith (nat_lt (count vs) 4096) _ _ (pushed vs w h k) tt

  number_in : (v : Value) (f : ℤ → Outcome) → ((n : ℤ) → OutcomeWith (f n)) → OutcomeWith (as_number (Trapped Broken) v f)
  number_in v f l = by_number OutcomeWith (Trapped Broken) v f tt l

  two_in : (f : ℤ → ℤ → Outcome) (v w : Value) → ((m n : ℤ) → OutcomeWith (f m n)) → OutcomeWith (on_numbers v w f)
  two_in f v w l = number_in v _ (λ m. number_in w (f m) (l m))

  operator_in : (op : Operator) (v w : Value) → ValueWith v → ValueWith w → OutcomeWith (apply op v w)
  operator_in Add v w h k = two_in _ v w (λ m n. in_range_in (m +ℤ n))
  operator_in Sub v w h k = two_in _ v w (λ m n. in_range_in (m -ℤ n))
  operator_in Mul v w h k = two_in _ v w (λ m n. in_range_in (m *ℤ n))
  operator_in Div v w h k = two_in _ v w quotient_in
  operator_in Rem v w h k = two_in _ v w remainder_in
  operator_in Equal v w h k = two_in _ v w (λ m n. tt)
  operator_in Unequal v w h k = two_in _ v w (λ m n. tt)
  operator_in Less v w h k = two_in _ v w (λ m n. tt)
  operator_in LessEqual v w h k = two_in _ v w (λ m n. tt)
  operator_in ItemAt v w h k = items_in v _ h (λ vs hs. number_in w (λ n. index vs n) (λ n. index_in vs n hs))
  operator_in Push v w h k = items_in v (λ vs. push vs w) h (λ vs hs. push_in vs w hs k)

  prefix_in : (op : Prefix) (v : Value) → ValueWith v → OutcomeWith (apply_one op v)
  prefix_in Negate v h = number_in v _ (λ n. in_range_in (neg_ℤ n))
  prefix_in Len v h = items_in v _ h (λ vs hs. tt)

  -- Scopes

  var_in : (scope : Scope) (x : Name) → ScopeWith scope → OutcomeWith (value_in scope x)
  var_in [] x h = tt
  var_in (w ∷ scope) x h = either OutcomeWith (same_name w.name x) _ _ h.0 (var_in scope x h.1)

  bound_in : (scope : Scope) (x : Name) (v : Value) → ScopeWith scope → ValueWith v → ScopeWith (bind scope x v)
  bound_in [] x v h k = (k, tt)
  bound_in (w ∷ scope) x v h k = (h.0, bound_in scope x v h.1 k)

  set_scope : (scope : Scope) (x : Name) (v : Value) → ScopeWith scope → ValueWith v → ScopeWith (set_in scope x v)
  set_scope [] x v h k = tt
  set_scope (w ∷ scope) x v h k = either ScopeWith (same_name w.name x) _ _ (k, h.1) (h.0, set_scope scope x v h.1 k)

  taken : (n : ℕ) (scope : Scope) → ScopeWith scope → ScopeWith (take n scope)
  taken zero scope h = tt
  taken (suc n) [] h = tt
  taken (suc n) (w ∷ scope) h = (h.0, taken n scope h.1)

  values_in : (vs : List Value) → ValuesWith vs → ItemsWith (values_of vs)
  values_in [] h = tt
  values_in (v ∷ vs) h = (h.0, values_in vs h.1)

  marked_in : (vs : List Value) (ms : List Bool) → ValuesWith vs → ArgumentsWith (mark vs ms)
  marked_in [] ms h = tt
  marked_in (v ∷ vs) [] h = (h.0, marked_in vs [] h.1)
  marked_in (v ∷ vs) (m ∷ ms) h = (h.0, marked_in vs ms h.1)

  -- Expressions

  proceeds : (c : Outcome) (next : Value → Run) → OutcomeWith c → NextKeeps next → KeepsWith (proceed c next)
  proceeds (Val v) next h l = l v h
  proceeds (Trapped e) next h l = tt

  gets : (u : Kind) (r : Value) (next : Value → Run) → ValueWith r → NextKeeps next → KeepsWith (get_from u r next)
  gets u (Int n) next h l = tt
  gets u (Items vs) next h l = tt
  gets u (Named o) next h l = (h, l)
  gets u (Known c) next h l = (h, l)

  bound_all : (ps : List Parameter) (vs : List Value) (next : Scope → Run) → ValuesWith vs → ScopeKeeps next → KeepsWith (bind_all broken ps vs next)
  bound_all [] [] next h l = l [] tt
  bound_all [] (v ∷ vs) next h l = tt
  bound_all (p ∷ ps) [] next h l = tt
  bound_all (p ∷ ps) (v ∷ vs) next h l = bound_all ps vs _ h.1 (λ scope so. l (record { name = p.name; value = v } ∷ scope) (h.0, so))

  binds_in : (xs : List Name) (vs : List Value) (scope : Scope) (next : Scope → Run) → ValuesWith vs → ScopeWith scope → ScopeKeeps next →
      KeepsWith (bind_each broken scope xs vs next)
  binds_in [] [] scope next h so l = l scope so
  binds_in [] (v ∷ vs) scope next h so l = tt
  binds_in (x ∷ xs) [] scope next h so l = tt
  binds_in (x ∷ xs) (v ∷ vs) scope next h so l = binds_in xs vs (bind scope x v) next h.1 (bound_in scope x v so h.0) l

  only_in : (vs : List Value) (next : Value → Run) → ValuesWith vs → NextKeeps next → KeepsWith (only vs next)
  only_in [] next h l = tt
  only_in (v ∷ []) next h l = l v h.0
  only_in (v ∷ w ∷ vs) next h l = tt

  dereferenced : (ps : List Parameter) (args : List Argument) (next : List Value → Run) → ArgumentsWith args → AllKeep next →
      KeepsWith (dereference ps args next)
  dereferenced ps [] next h l = l [] tt
  dereferenced [] (a ∷ args) next h l = tt
  dereferenced (p ∷ ps) (a ∷ args) next h l =
      let rest = λ (v : Value) (hv : ValueWith v). dereferenced ps args (λ vs. next (v ∷ vs)) h.1 (λ vs hvs. l (v ∷ vs) (hv, hvs)) in
      either KeepsWith a.marked _ _ (gets p.kind a.value _ h.0 rest) (rest a.value h.0)

  -- calls that keep so
  abbrev CallsKeep : Calls → Type 0
  CallsKeep calls = (g : Name) (vs : List Value) (next : List Value → Run) → ValuesWith vs → AllKeep next → KeepsWith (calls.plain g vs next)

  module _ (calls : Calls) (keep : CallsKeep calls) where
    mutual
      evaluates : (e : Expr) (scope : Scope) (next : Value → Run) → ScopeWith scope → NextKeeps next → KeepsWith (evaluate calls e scope next)
      evaluates (Num n) scope next so l = l (Int n) tt
      evaluates (Var x) scope next so l = proceeds (value_in scope x) next (var_in scope x so) l
      evaluates (Unary op a) scope next so l = evaluates a scope _ so (λ v hv. proceeds (apply_one op v) next (prefix_in op v hv) l)
      evaluates (Binary op a b) scope next so l =
          evaluates a scope _ so (λ v hv. evaluates b scope _ so (λ w hw. proceeds (apply op v w) next (operator_in op v w hv hw) l))
      evaluates (ListOf es) scope next so l = evaluates_all es scope _ so (λ vs hvs. l (Items (values_of vs)) (values_in vs hvs))
      evaluates (Empty k) scope next so l = l (Items none) tt
      evaluates (Call g args) scope next so l = evaluates_all args scope _ so (λ vs hvs. keep g vs _ hvs (λ ws hws. only_in ws next hws l))
      evaluates (Remote k g marks args) scope next so l =
          evaluates_all args scope _ so (λ vs hvs. (marked_in vs marks hvs, λ rs hrs. only_in rs next hrs l))
      evaluates (PutOf a) scope next so l = evaluates a scope _ so (λ v hv. (hv, λ rs hrs. only_in rs next hrs l))
      evaluates (GetOf k a) scope next so l = evaluates a scope _ so (λ r hr. gets k r next hr l)

      evaluates_all : (es : Exprs) (scope : Scope) (next : List Value → Run) → ScopeWith scope → AllKeep next → KeepsWith (evaluate_all calls es scope next)
      evaluates_all end scope next so l = l [] tt
      evaluates_all (also e es) scope next so l =
          evaluates e scope _ so (λ v hv. evaluates_all es scope _ so (λ vs hvs. l (v ∷ vs) (hv, hvs)))

    left : (before : Scope) (next : Scope → Run) → ScopeKeeps next → ScopeKeeps (leave calls before next)
    left before next l = λ scope so. l _ (taken (length before) scope so)

    abbrev TurnKeeps : (ℤ → Scope → (Scope → Run) → Run) → Type 0
    TurnKeeps body = (i : ℤ) (scope : Scope) (next : Scope → Run) → ScopeWith scope → ScopeKeeps next → KeepsWith (body i scope next)

    turn : (n : ℕ) (i : ℤ) (body : ℤ → Scope → (Scope → Run) → Run) (scope : Scope) (next : Scope → Run) → TurnKeeps body → ScopeWith scope →
        ScopeKeeps next → KeepsWith (turns calls n i body scope next)
    turn zero i body scope next f so l = l scope so
    turn (suc n) i body scope next f so l = f i scope _ so (λ after sa. turn n (i +ℤ pos 1) body after next f sa l)

    loops : (from to : ℤ) (body : ℤ → Scope → (Scope → Run) → Run) (scope : Scope) (next : Scope → Run) → TurnKeeps body → ScopeWith scope →
        ScopeKeeps next → KeepsWith (turns_within calls from to body scope next)
    loops from to body scope next f so l =
        let n = turn_count (to -ℤ from) in
        either KeepsWith (nat_lt 10000 n) _ _ tt (turn n from body scope next f so l)

    mutual
      executes : (s : Stmt) (scope : Scope) (next : Scope → Run) (return : List Value → Run) → ScopeWith scope → ScopeKeeps next → AllKeep return →
          KeepsWith (execute calls s scope next return)
      executes (Let x e) scope next return so l r = evaluates e scope _ so (λ v hv. l _ (bound_in scope x v so hv))
      executes (LetCall x xs g args) scope next return so l r =
          evaluates_all args scope _ so (λ vs hvs. keep g vs _ hvs (λ ws hws. binds_in (x ∷ xs) ws scope next hws so l))
      executes (LetRemote x xs k g marks args) scope next return so l r =
          evaluates_all args scope _ so (λ vs hvs. (marked_in vs marks hvs, λ rs hrs. binds_in (x ∷ xs) rs scope next hrs so l))
      executes (Set x e) scope next return so l r = evaluates e scope _ so (λ v hv. l _ (set_scope scope x v so hv))
      executes (Print e) scope next return so l r = evaluates e scope _ so (λ v hv. (hv, l scope so))
      executes (Return es) scope next return so l r = evaluates_all es scope return so r
      executes (If e a b) scope next return so l r =
          evaluates e scope _ so (λ v hv. by_number KeepsWith broken v _ tt (λ n. either KeepsWith (is_zero n) _ _
          (executes_all b scope _ return so (left scope next l) r)
          (executes_all a scope _ return so (left scope next l) r)))
      executes (For x from to body) scope next return so l r =
          evaluates from scope _ so (λ v hv. evaluates to scope _ so (λ w hw.
          by_number KeepsWith broken v _ tt (λ m. by_number KeepsWith broken w _ tt (λ n. loops m n _ scope next
          (λ i before k sb lk. executes_all body (bind before x (Int i)) _ return (bound_in before x (Int i) sb tt) (left before k lk) r)
          so l))))

      executes_all : (b : Block) (scope : Scope) (next : Scope → Run) (return : List Value → Run) → ScopeWith scope → ScopeKeeps next → AllKeep return →
          KeepsWith (execute_all calls b scope next return)
      executes_all done scope next return so l r = l scope so
      executes_all (step s rest) scope next return so l r =
          executes s scope _ return so (λ scope' so'. executes_all rest scope' next return so' l r) r

    entered : (f : Option Function) (vs : List Value) (next : List Value → Run) → ValuesWith vs → AllKeep next → KeepsWith (enter calls f vs next)
    entered None vs next h l = tt
    entered (Some f) vs next h l = bound_all f.parameters vs _ h (λ scope so. executes_all f.body scope _ next so (λ _ _. tt) l)

  module _ (script : Script) where
    calls_keep : (n : ℕ) (g : Name) (vs : List Value) (next : List Value → Run) → ValuesWith vs → AllKeep next → KeepsWith (call_at script n g vs next)
    unfolding call_at
    calls_keep zero g vs next h l = tt
    calls_keep (suc n) g vs next h l = entered (calls_below script n) (calls_keep n) (find script g) vs next h l

    tasks_keep : (b : Bool) (ps : List Parameter) (call : List Value → (List Value → Run) → Run) (args : List Argument) →
        ((vs : List Value) (next : List Value → Run) → ValuesWith vs → AllKeep next → KeepsWith (call vs next)) → ArgumentsWith args →
        KeepsWith (task_by b ps call args)
    tasks_keep true ps call args l h = tt
    tasks_keep false ps call args l h = dereferenced ps args _ h (λ vs hvs. l vs _ hvs (λ ws hws. hws))

    pub births_keep : (b : Birth) → BirthWith b → KeepsWith (run_birth script b)
    births_keep (Put v) h = (h, tt)
    births_keep (Task g args depth retries others) h =
        tasks_keep (nat_lt 32 depth) (parameters_of (find script g)) (call_at script (33 - depth) g) args (calls_keep (33 - depth) g) h
