-- Where main is apart, a run bears no task of main, and prints only in main.
use Rattle.std.proofs.Common.{◌≡◌, ℕ, zero, suc, ◌-◌, Bool, true, false, List, [], ◌∷◌, Some, refl, sym, ◌∙◌}
use Rattle.std.specs.Prelude.{ℤ, pos, nat_lt, if◌then◌else◌, ◌+ℤ◌, ◌-ℤ◌}
use Rattle.std.specs.List.{AllByRecursion}
use Rattle.meaning.specs.Values.{Name, Value, Int, Items, Named, Known, Outcome, Val, Trapped, Argument, Birth, Put, Task, results_of, Id, main_name}
use Rattle.meaning.specs.Syntax.{Kind, Expr, Num, Var, Unary, Binary, ListOf, Empty, Call, Remote, PutOf, GetOf, Exprs, end, also, Stmt, Let, LetCall, LetRemote, Set, Print, Return, If, For, Block, done, step, Parameter, Script}
use Rattle.meaning.specs.Runs.{Run, Ends, Prints, Bears, Gets, piece, named, behind}
use Rattle.meaning.specs.Meaning.{broken, Scope, same_name, value_in, bind, bind_each, bind_all, apply, apply_one, is_zero, turn_count, proceed, get_from, dereference, only, Calls, evaluate, evaluate_all, turns, turns_within, leave, execute, execute_all, find, parameters_of, enter, task_by, calls_below, call_at, run_birth}
use Rattle.meaning.proofs.BirthLaws.{at_test}
use Rattle.meaning.proofs.Names.{same_name-true}
use Rattle.script_laws.proofs.Keeping.{either, by_number}
use Rattle.meaning.specs.Mains.{CallsOthers, AllCallOthers, IsApart, BlockIsApart, KeepsMainApart, IsNotMains, MainStaysApart}

-- whether prints are allowed
module _ (prints : Bool) where
  -- it prints only where that is allowed, and bears no task of main, whatever it is given
  abbrev IsQuiet : Run → Type 0
  IsQuiet (Ends c) = Unit {0}
  IsQuiet (Prints v next) = (prints ≡ true) × IsQuiet next
  IsQuiet (Bears b made_by next) = IsNotMains b × ((vs : List Value) → IsQuiet (next vs))
  IsQuiet (Gets t r next) = (v : Value) → IsQuiet (next v)

  abbrev IsQuietNext : (Value → Run) → Type 0
  IsQuietNext next = (v : Value) → IsQuiet (next v)

  abbrev IsQuietAfter : (Scope → Run) → Type 0
  IsQuietAfter next = (scope : Scope) → IsQuiet (next scope)

  -- main may be run only where prints are allowed
  abbrev MayRun : Name → Type 0
  MayRun g = g ≡ main_name → prints ≡ true

  -- what makes the object may be run
  abbrev MayMake : Birth → Type 0
  MayMake (Put v) = Unit {0}
  MayMake (Task g args depth retries others) = MayRun g

  proceeds : (c : Outcome) (next : Value → Run) → IsQuietNext next → IsQuiet (proceed c next)
  proceeds (Val v) next l = l v
  proceeds (Trapped e) next l = tt

  gets : (u : Kind) (r : Value) (next : Value → Run) → IsQuietNext next → IsQuiet (get_from u r next)
  gets u (Int n) next l = tt
  gets u (Items vs) next l = tt
  gets u (Named o) next l = l
  gets u (Known c) next l = l

  bound_all : (ps : List Parameter) (vs : List Value) (next : Scope → Run) → IsQuietAfter next → IsQuiet (bind_all broken ps vs next)
  bound_all [] [] next l = l []
  bound_all [] (v ∷ vs) next l = tt
  bound_all (p ∷ ps) [] next l = tt
  bound_all (p ∷ ps) (v ∷ vs) next l = bound_all ps vs _ (λ scope. l (record { name = p.name; value = v } ∷ scope))

  abbrev IsQuietAll : (List Value → Run) → Type 0
  IsQuietAll next = (vs : List Value) → IsQuiet (next vs)

  binds : (xs : List Name) (vs : List Value) (scope : Scope) (next : Scope → Run) → IsQuietAfter next → IsQuiet (bind_each broken scope xs vs next)
  binds [] [] scope next l = l scope
  binds [] (v ∷ vs) scope next l = tt
  binds (x ∷ xs) [] scope next l = tt
  binds (x ∷ xs) (v ∷ vs) scope next l = binds xs vs (bind scope x v) next l

  takes_only : (vs : List Value) (next : Value → Run) → IsQuietNext next → IsQuiet (only vs next)
  takes_only [] next l = tt
  takes_only (v ∷ []) next l = l v
  takes_only (v ∷ w ∷ vs) next l = tt

  dereferenced : (ps : List Parameter) (args : List Argument) (next : List Value → Run) → IsQuietAll next → IsQuiet (dereference ps args next)
  dereferenced ps [] next l = l []
  dereferenced [] (a ∷ args) next l = tt
  dereferenced (p ∷ ps) (a ∷ args) next l =
      let rest = λ (v : Value). dereferenced ps args (λ vs. next (v ∷ vs)) (λ vs. l (v ∷ vs)) in
      either IsQuiet a.marked _ _ (gets p.kind a.value _ rest) (rest a.value)

  -- calls that may be made are quiet
  abbrev AreQuiet : (Name → List Value → (List Value → Run) → Run) → Type 0
  AreQuiet call = (g : Name) → MayRun g → (vs : List Value) (next : List Value → Run) → IsQuietAll next → IsQuiet (call g vs next)

  module _ (calls : Calls) (quiet : AreQuiet calls.plain) where
    mutual
      evaluates : (e : Expr) (scope : Scope) (next : Value → Run) → CallsOthers e → IsQuietNext next → IsQuiet (evaluate calls e scope next)
      evaluates (Num n) scope next h l = l (Int n)
      evaluates (Var x) scope next h l = proceeds (value_in scope x) next l
      evaluates (Unary op a) scope next h l = evaluates a scope _ h (λ v. proceeds (apply_one op v) next l)
      evaluates (Binary op a b) scope next h l = evaluates a scope _ h.0 (λ v. evaluates b scope _ h.1 (λ w. proceeds (apply op v w) next l))
      evaluates (ListOf es) scope next h l = evaluates_all es scope _ h (λ vs. l _)
      evaluates (Empty k) scope next h l = l _
      evaluates (Call g args) scope next h l = evaluates_all args scope _ h.1 (λ vs. quiet g (λ e. absurd (h.0 e)) vs _ (λ ws. takes_only ws next l))
      evaluates (Remote k g marks args) scope next h l = evaluates_all args scope _ h.1 (λ vs. (h.0, λ rs. takes_only rs next l))
      evaluates (PutOf a) scope next h l = evaluates a scope _ h (λ v. (tt, λ rs. takes_only rs next l))
      evaluates (GetOf k a) scope next h l = evaluates a scope _ h (λ r. gets k r next l)

      evaluates_all : (es : Exprs) (scope : Scope) (next : List Value → Run) → AllCallOthers es → IsQuietAll next → IsQuiet (evaluate_all calls es scope next)
      evaluates_all end scope next h l = l []
      evaluates_all (also e es) scope next h l = evaluates e scope _ h.0 (λ v. evaluates_all es scope _ h.1 (λ vs. l (v ∷ vs)))

    left : (before : Scope) (next : Scope → Run) → IsQuietAfter next → IsQuietAfter (leave calls before next)
    left before next l = λ scope. l _

    abbrev AreQuietTurns : (ℤ → Scope → (Scope → Run) → Run) → Type 0
    AreQuietTurns body = (i : ℤ) (scope : Scope) (next : Scope → Run) → IsQuietAfter next → IsQuiet (body i scope next)

    turn : (n : ℕ) (i : ℤ) (body : ℤ → Scope → (Scope → Run) → Run) (scope : Scope) (next : Scope → Run) → AreQuietTurns body → IsQuietAfter next → IsQuiet (turns calls n i body scope next)
    turn zero i body scope next f l = l scope
    turn (suc n) i body scope next f l = f i scope _ (λ after. turn n (i +ℤ pos 1) body after next f l)

    loops : (from to : ℤ) (body : ℤ → Scope → (Scope → Run) → Run) (scope : Scope) (next : Scope → Run) → AreQuietTurns body → IsQuietAfter next → IsQuiet (turns_within calls from to body scope next)
    loops from to body scope next f l =
        let n = turn_count (to -ℤ from) in
        either IsQuiet (nat_lt 10000 n) _ _ tt (turn n from body scope next f l)

    -- in a function that may be run
    module _ (function : Name) (may : MayRun function) where
      mutual
        executes : (s : Stmt) (scope : Scope) (next : Scope → Run) (return : List Value → Run) → IsApart function s → IsQuietAfter next → IsQuietAll return → IsQuiet (execute calls s scope next return)
        executes (Let x e) scope next return h l r = evaluates e scope _ h (λ v. l _)
        executes (LetCall x xs g args) scope next return h l r =
            evaluates_all args scope _ h.1 (λ vs. quiet g (λ e. absurd (h.0 e)) vs _ (λ ws. binds (x ∷ xs) ws scope next l))
        executes (LetRemote x xs k g marks args) scope next return h l r =
            evaluates_all args scope _ h.1 (λ vs. (h.0, λ rs. binds (x ∷ xs) rs scope next l))
        executes (Set x e) scope next return h l r = evaluates e scope _ h (λ v. l _)
        executes (Print e) scope next return h l r = evaluates e scope _ h.1 (λ v. (may h.0, l scope))
        executes (Return es) scope next return h l r = evaluates_all es scope return h r
        executes (If e a b) scope next return h l r =
            evaluates e scope _ h.0 (λ v. by_number IsQuiet broken v _ tt (λ n. either IsQuiet (is_zero n) _ _
            (executes_all b scope _ return h.2 (left scope next l) r)
            (executes_all a scope _ return h.1 (left scope next l) r)))
        executes (For x from to body) scope next return h l r =
            evaluates from scope _ h.0 (λ v. evaluates to scope _ h.1 (λ w.
            by_number IsQuiet broken v _ tt (λ m. by_number IsQuiet broken w _ tt (λ n. loops m n _ scope next
            (λ i before k lk. executes_all body (bind before x (Int i)) _ return h.2 (left before k lk) r)
            l))))

        executes_all : (b : Block) (scope : Scope) (next : Scope → Run) (return : List Value → Run) → BlockIsApart function b → IsQuietAfter next → IsQuietAll return → IsQuiet (execute_all calls b scope next return)
        executes_all done scope next return h l r = l scope
        executes_all (step s rest) scope next return h l r =
            executes s scope _ return h.0 (λ after. executes_all rest after next return h.1 l r) r

    entered : (fs : Script) → KeepsMainApart fs → (g : Name) → MayRun g → (vs : List Value) (next : List Value → Run) → IsQuietAll next → IsQuiet (enter calls (find fs g) vs next)
    entered [] h g may vs next l = tt
    entered (f ∷ fs) h g may vs next l =
        let others = entered fs h.1 g may vs next l in
        at_test (λ b. IsQuiet (enter calls (if b then Some f else find fs g) vs next)) (same_name f.name g)
        (λ e. bound_all f.parameters vs _ (λ scope. executes_all f.name (λ m. may (sym (same_name-true f.name g e) ∙ m)) f.body scope _ next h.0 (λ _. tt) l))
        (λ _. others)

  module _ (script : Script) (apart : KeepsMainApart script) where
    calls_quiet : (n : ℕ) → AreQuiet (call_at script n)
    unfolding call_at
    calls_quiet zero g may vs next l = tt
    calls_quiet (suc n) g may vs next l = entered (calls_below script n) (calls_quiet n) script apart g may vs next l

    tasks_quiet : (b : Bool) (ps : List Parameter) (call : List Value → (List Value → Run) → Run) (args : List Argument) →
        ((vs : List Value) (next : List Value → Run) → IsQuietAll next → IsQuiet (call vs next)) → IsQuiet (task_by b ps call args)
    tasks_quiet true ps call args l = tt
    tasks_quiet false ps call args l = dereferenced ps args _ (λ vs. l vs _ (λ ws. tt))

    births_quiet : (b : Birth) → MayMake b → IsQuiet (run_birth script b)
    births_quiet (Put v) may = tt
    births_quiet (Task g args depth retries others) may = tasks_quiet (nat_lt 32 depth) (parameters_of (find script g)) (call_at script (33 - depth) g) args (calls_quiet (33 - depth) g may)

  born : (n : ℕ) (run : Run) (base : Id) (answers : List Outcome) → IsQuiet run → AllByRecursion IsNotMains (piece n run base answers).births
  born n (Ends c) base answers h = tt
  born n (Prints v next) base answers h = born n next base answers h.1
  born n (Bears b made_by next) base answers h = (h.0, born n (next (named base b)) (behind base b) answers (h.1 (named base b)))
  born n (Gets t r next) base [] h = tt
  born n (Gets t r next) base (Val v ∷ answers) h = born n (next v) base answers (h v)
  born n (Gets t r next) base (Trapped e ∷ answers) h = tt

printed : (n : ℕ) (run : Run) (base : Id) (answers : List Outcome) → IsQuiet false run → (piece n run base answers).prints ≡ []
printed n (Ends c) base answers h = refl
printed n (Prints v next) base answers h = absurd (cc)
printed n (Bears b made_by next) base answers h = printed n (next (named base b)) (behind base b) answers (h.1 (named base b))
printed n (Gets t r next) base [] h = refl
printed n (Gets t r next) base (Val v ∷ answers) h = printed n (next v) base answers (h v)
printed n (Gets t r next) base (Trapped e ∷ answers) h = refl

where_prints_are_allowed : (b : Birth) → MayMake true b
where_prints_are_allowed (Put v) = tt
where_prints_are_allowed (Task g args depth retries others) = λ _. refl

where_none_are : (b : Birth) → IsNotMains b → MayMake false b
where_none_are (Put v) h = tt
where_none_are (Task g args depth retries others) h = λ e. absurd (h e)

pub main_stays_apart : MainStaysApart
main_stays_apart script apart spec base answers =
    record {
      births = born true (results_of spec) (run_birth script spec) base answers (births_quiet true script apart spec (where_prints_are_allowed spec));
      prints = λ n. printed (results_of spec) (run_birth script spec) base answers (births_quiet false script apart spec (where_none_are spec n));
    }
