-- The code of an expression does what the expression does.
use Rattle.std.proofs.Common.{
  ◌≡◌,
  ℕ,
  zero,
  suc,
  ◌+◌,
  ◌-◌,
  ◌≤◌,
  Bool,
  false,
  List,
  [],
  ◌∷◌,
  ◌++◌,
  length,
  take,
  Some,
  None,
  Option,
  refl,
  sym,
  ap,
  ◌∙◌,
  subst,
  arith,
  length-append,
  append_assoc,
  append-nil,
  rules,
}
use Rattle.std.specs.Prelude.{slice_get, if◌then◌else◌, nat_lt}
use Rattle.meaning.specs.Values.{Name, Trapped, Val, Broken, Value, Int, Items, Named, Known, Outcome, Returned, Aborted, Argument, Put, Task, values_of}
use Rattle.meaning.specs.Syntax.{Kind, Expr, Num, Var, Unary, Binary, ListOf, Empty, Call, Remote, PutOf, GetOf, Exprs, end, also, Script}
use Rattle.meaning.specs.Runs.{Run, Ends, Bears}
use Rattle.meaning.specs.Meaning.{
  Scope,
  value_in,
  proceed,
  apply,
  apply_one,
  get_from,
  is_reference,
  broken,
  only,
  mark,
  evaluate,
  evaluate_all,
  calls_below,
  call_at,
  run_task,
  task_by,
  no_level,
  parameters_of,
  find,
}
use Rattle.std.proofs.lemmas.Bool.Decides.{nat_tests}
use Rattle.frame_laws.specs.Instructions.{Operand, Slot, Const, Instruction, Load, One, Two, Collect, Enter, Spawn, PutIn, Fetch, Wrong}
use Rattle.frame_laws.specs.Compile.{
  Names,
  place_in,
  slot_or,
  wrong_unless,
  operand_code,
  operand_of,
  past,
  how_many,
  number_of,
  expr_code,
  exprs_code,
  whole_operand,
  operands_code,
  operands_of,
}
use Rattle.frame_laws.specs.Machine.{
  Caller,
  State,
  Code,
  Act,
  Asks,
  Bore,
  act_broken,
  put_at,
  put_all,
  operand_value,
  on_value,
  on_values,
  on_outcome,
  write,
  values_at,
  perform,
  Does,
}
use Rattle.frame_laws.proofs.Places.{HasAt, has_front, has_back, Holds, get_append, holds_less, holds_put}
use Rattle.frame_laws.proofs.Steps.{sooner, at_once, fetched}

-- what stands where a variable's name leads
abbrev pub FitsAt : ℕ → Option ℕ → List Value → Outcome → Type 0
FitsAt base None low c = c ≡ Trapped Broken
FitsAt base (Some i) low c = (v : Value) × (slice_get low (base + i) ≡ Some v) × (c ≡ Val v)

-- each variable stands in its register
abbrev pub Fits : ℕ → Names → List Value → Scope → Type 0
Fits base names low scope = (x : Name) → FitsAt base (place_in names x) low (value_in scope x)

fits_at_more : (base : ℕ) (o : Option ℕ) (low more : List Value) (c : Outcome) → FitsAt base o low c → FitsAt base o (low ++ more) c
fits_at_more base None low more c f = f
fits_at_more base (Some i) low more c f = (f.0, get_append low more (base + i) f.0 f.1, f.2)

pub fits_more : (base : ℕ) (names : Names) (low more : List Value) (scope : Scope) → Fits base names low scope → Fits base names (low ++ more) scope
fits_more base names low more scope f x = fits_at_more base (place_in names x) low more (value_in scope x) (f x)

pub get_last : {X : Type 0} (xs : List X) (x : X) (k : ℕ) → k ≡ length xs → slice_get (xs ++ x ∷ []) k ≡ Some x
get_last [] x zero e = refl
get_last [] x (suc k) e = absurd (omega arith)
get_last (y ∷ xs) x zero e = absurd (omega arith)
get_last (y ∷ xs) x (suc k) e = get_last xs x k (omega arith)

pub get_tail : (low : List Value) (v : Value) (vs : List Value) (k : ℕ) (w : Value) → slice_get vs k ≡ Some w →
    slice_get (low ++ v ∷ vs) (suc (length low + k)) ≡ Some w
get_tail [] v vs k w h = let e : zero + k ≡ k = omega arith in subst (λ j. slice_get vs j ≡ Some w) (sym e) h
get_tail (x ∷ low) v vs k w h =
    let e : length (x ∷ low) + k ≡ suc (length low + k) = omega arith in subst (λ j. slice_get (low ++ v ∷ vs) j ≡ Some w) (sym e) (get_tail low v vs k w h)

-- arguments that stand in the registers after others
front_held : (vs registers : List Value) → Holds vs registers → take (length vs) registers ≡ vs
front_held [] registers h = refl
front_held (v ∷ vs) [] h = absurd (let c = h zero v refl in cc)
front_held (v ∷ vs) (r ∷ registers) h =
    let same : r ≡ v = let c = h zero v refl in cc in
    ap (λ x. x ∷ take (length vs) registers) same ∙ ap (λ xs. v ∷ xs) (front_held vs registers (λ k u e. h (suc k) u e))

pub values_held : (low vs registers : List Value) (i : ℕ) → i ≡ length low → Holds (low ++ vs) registers → values_at registers i (length vs) ≡ vs
values_held [] vs registers zero e h = front_held vs registers h
values_held [] vs registers (suc i) e h = absurd (omega arith)
values_held (x ∷ low) vs registers zero e h = absurd (omega arith)
values_held (x ∷ low) vs [] (suc i) e h = absurd (let c = h zero x refl in cc)
values_held (x ∷ low) vs (r ∷ registers) (suc i) e h = values_held low vs registers i (omega arith) (λ k u f. h (suc k) u f)

-- the task that a remote call makes is the run of its birth
same_task : (script : Script) (n : ℕ) (g : Name) (args : List Argument) → n ≤ 32 →
    run_task script g args (33 - n) ≡ task_by (no_level n) (parameters_of (find script g)) (call_at script n g) args
same_task script zero g args h = refl
same_task script (suc n) g args h =
    let levels : 33 - (33 - suc n) ≡ suc n = omega arith in
    let shallow : nat_lt 32 (33 - suc n) ≡ false = search (rules, nat_tests) in
    ap (λ b. task_by b (parameters_of (find script g)) (call_at script (33 - (33 - suc n)) g) args) shallow
    ∙ ap (λ m. task_by false (parameters_of (find script g)) (call_at script m g) args) levels

module _ (script : Script) (code : Code) (limit n : ℕ) (few : n ≤ 32) where
  -- a return to the call
  abbrev pub returned : State → ℕ → List Value → List Value → State
  returned now to ws registers = record { pc = now.pc + 1; base = now.base; registers = put_all registers (now.base + to) ws; callers = now.callers }

  -- the machine does plain calls where that many levels are left; another number of results is wrong
  abbrev pub CallsDo : Type 0
  CallsDo =
      (g : Name) (vs : List Value) (next : List Value → Run) (now : State) (first to results : ℕ) (low : List Value) →
      slice_get code.instructions now.pc ≡ Some (Enter (number_of script g (length vs)) first to results) → length now.callers + n ≡ limit →
      length low ≡ now.base + first → Holds (low ++ vs) now.registers →
      ((ws registers : List Value) → length ws ≡ results → Holds low registers → Does code limit script (next ws) (returned now to ws registers)) →
      ((ws : List Value) → (length ws ≡ results → ⊥) → next ws ≡ broken) →
      Does code limit script (call_at script n g vs next) now

  module _ (calls : CallsDo) (base : ℕ) (callers : List Caller) (levels : length callers + n ≡ limit) (names : Names) where
    abbrev pub at : ℕ → List Value → State
    at pc registers = record { pc = pc; base = base; registers = registers; callers = callers }

    abbrev pub Goes : Run → ℕ → List Value → Type 0
    Goes run pc registers = Does code limit script run (at pc registers)

    abbrev pub IsAt : ℕ → Instruction → Type 0
    IsAt pc i = slice_get code.instructions pc ≡ Some i

    pub moved : (run : Run) (p q : ℕ) (registers : List Value) → p ≡ q → Goes run p registers → Goes run q registers
    moved run p q registers e g = subst (λ k. Goes run k registers) e g

    -- an instruction that only writes
    writes : (pc to : ℕ) (i : Instruction) (v : Value) (registers : List Value) (run : Run) → IsAt pc i →
        perform code limit (at pc registers) (Some i) ≡ write (at pc registers) to v → Goes run (pc + 1) (put_at registers (base + to) v) →
        Goes run pc registers
    writes pc to i v registers run h e g =
        sooner code limit (at pc registers) (at (pc + 1) (put_at registers (base + to) v)) (fetched code limit (at pc registers) i _ h e) g

    -- an instruction that writes, or ends in a trap
    writes_outcome : (pc to : ℕ) (i : Instruction) (c : Outcome) (registers : List Value) (next : Value → Run) → IsAt pc i →
        perform code limit (at pc registers) (Some i) ≡ on_outcome c (λ r. write (at pc registers) to r) →
        ((r : Value) → Goes (next r) (pc + 1) (put_at registers (base + to) r)) → Goes (proceed c next) pc registers
    writes_outcome pc to i (Val v) registers next h e g = writes pc to i v registers (next v) h e (g v)
    writes_outcome pc to i (Trapped t) registers next h e g = at_once code limit (at pc registers) (fetched code limit (at pc registers) i _ h e)

    goes_wrong : (pc : ℕ) (registers : List Value) → IsAt pc Wrong → Goes (Ends (Aborted Broken)) pc registers
    goes_wrong pc registers h = at_once code limit (at pc registers) (fetched code limit (at pc registers) Wrong _ h refl)

    -- what an expression's code does, into any register
    abbrev pub ExprDoes : Expr → Type 0
    ExprDoes e =
        (to d pc : ℕ) (low registers : List Value) (scope : Scope) (next : Value → Run) → HasAt code.instructions pc (expr_code script names e to d) →
        length low ≡ base + d → Fits base names low scope → Holds low registers →
        ((v : Value) (registers' : List Value) → Holds low registers' →
        Goes (next v) (pc + length (expr_code script names e to d)) (put_at registers' (base + to) v)) →
        Goes (evaluate (calls_below script n) e scope next) pc registers

    abbrev pub ExprsDo : Exprs → Type 0
    ExprsDo es =
        (d pc : ℕ) (low registers : List Value) (scope : Scope) (next : List Value → Run) → HasAt code.instructions pc (exprs_code script names es d) →
        length low ≡ base + d → Fits base names low scope → Holds low registers →
        ((vs registers' : List Value) → length vs ≡ how_many es → Holds (low ++ vs) registers' →
        Goes (next vs) (pc + length (exprs_code script names es d)) registers') →
        Goes (evaluate_all (calls_below script n) es scope next) pc registers

    -- the operand has the value, as long as these registers keep theirs
    abbrev pub Gives : Operand → List Value → Value → Type 0
    Gives a low v = (registers : List Value) → Holds low registers → operand_value registers base a ≡ Some v

    abbrev pub OperandDoes : Expr → Type 0
    OperandDoes e =
        (d pc : ℕ) (low registers : List Value) (scope : Scope) (next : Value → Run) →
        HasAt code.instructions pc (operand_code names e (expr_code script names e d d)) → length low ≡ base + d → Fits base names low scope →
        Holds low registers →
        ((v : Value) (more registers' : List Value) → length (low ++ more) ≡ base + past e d → Holds (low ++ more) registers' →
        Gives (operand_of names e d) (low ++ more) v →
        Goes (next v) (pc + length (operand_code names e (expr_code script names e d d))) registers') →
        Goes (evaluate (calls_below script n) e scope next) pc registers

    var_operand : (o : Option ℕ) (c : Outcome) (d pc : ℕ) (low registers : List Value) (next : Value → Run) → HasAt code.instructions pc (wrong_unless o) →
        FitsAt base o low c → length low ≡ base + d → Holds low registers →
        ((v : Value) (more registers' : List Value) → length (low ++ more) ≡ base + d → Holds (low ++ more) registers' →
        Gives (slot_or o (Slot d)) (low ++ more) v → Goes (next v) (pc + length (wrong_unless o)) registers') →
        Goes (proceed c next) pc registers
    var_operand None c d pc low registers next h f e held go =
        subst (λ x. Goes (proceed x next) pc registers) (sym f) (goes_wrong pc registers h.0)
    var_operand (Some i) c d pc low registers next h f e held go =
        let same = sym (append-nil low) in
        let there =
        go f.0 [] registers (ap length (append-nil low) ∙ e) (subst (λ l. Holds l registers) same held)
        (λ r hr. hr (base + i) f.0 (subst (λ l. slice_get l (base + i) ≡ Some f.0) same f.1)) in
        subst (λ x. Goes (proceed x next) pc registers) (sym f.2) (moved (next f.0) (pc + 0) pc registers (omega arith) there)

    -- an operand that is worked out into the next register
    temporary : (d len pc : ℕ) (low : List Value) (next : Value → Run) → length low ≡ base + d →
        ((v : Value) (more registers' : List Value) → length (low ++ more) ≡ base + (d + 1) → Holds (low ++ more) registers' →
        Gives (Slot d) (low ++ more) v → Goes (next v) (pc + len) registers') →
        (v : Value) (registers' : List Value) → Holds low registers' → Goes (next v) (pc + len) (put_at registers' (base + d) v)
    temporary d len pc low next e go v registers' held =
        go v (v ∷ []) (put_at registers' (base + d) v) (omega (arith, e, length-append low (v ∷ []))) (holds_put low registers' (base + d) v (sym e) held)
        (λ r hr. hr (base + d) v (get_last low v (base + d) (sym e)))

    pub operand_does : (e : Expr) → ExprDoes e → OperandDoes e
    operand_does (Num m) does d pc low registers scope next h e f held go =
        let same = sym (append-nil low) in
        moved (next (Int m)) (pc + 0) pc registers (omega arith) (go (Int m) [] registers (ap length (append-nil low) ∙ e)
        (subst (λ l. Holds l registers) same held) (λ r hr. refl))
    operand_does (Var x) does d pc low registers scope next h e f held go =
        var_operand (place_in names x) (value_in scope x) d pc low registers next h (f x) e held go
    operand_does (Unary op a) does d pc low registers scope next h e f held go =
        does d d pc low registers scope next h e f held (temporary d _ pc low next e go)
    operand_does (Binary op a b) does d pc low registers scope next h e f held go =
        does d d pc low registers scope next h e f held (temporary d _ pc low next e go)
    operand_does (ListOf items) does d pc low registers scope next h e f held go =
        does d d pc low registers scope next h e f held (temporary d _ pc low next e go)
    operand_does (Empty t) does d pc low registers scope next h e f held go = does d d pc low registers scope next h e f held (temporary d _ pc low next e go)
    operand_does (Call g args) does d pc low registers scope next h e f held go =
        does d d pc low registers scope next h e f held (temporary d _ pc low next e go)
    operand_does (Remote k g ms args) does d pc low registers scope next h e f held go =
        does d d pc low registers scope next h e f held (temporary d _ pc low next e go)
    operand_does (PutOf a) does d pc low registers scope next h e f held go = does d d pc low registers scope next h e f held (temporary d _ pc low next e go)
    operand_does (GetOf t a) does d pc low registers scope next h e f held go = does d d pc low registers scope next h e f held (temporary d _ pc low next e go)

    -- the operands have the values, as long as these registers keep theirs
    abbrev pub GiveAll : List Operand → List Value → List Value → Type 0
    GiveAll as' low vs = (registers : List Value) (go : List Value → Act) → Holds low registers → on_values registers base as' go ≡ go vs

    pub operands_do : ((e : Expr) → ExprDoes e) → (es : Exprs) (d pc : ℕ) (low registers : List Value) (scope : Scope) (next : List Value → Run) →
        HasAt code.instructions pc (operands_code script names es d) → length low ≡ base + d → Fits base names low scope → Holds low registers →
        ((vs more registers' : List Value) → Holds (low ++ more) registers' → GiveAll (operands_of script names es d) (low ++ more) vs →
        Goes (next vs) (pc + length (operands_code script names es d)) registers') →
        Goes (evaluate_all (calls_below script n) es scope next) pc registers
    operands_do does end d pc low registers scope next h e f held go =
        moved (next []) (pc + 0) pc registers (omega arith)
        (go [] [] registers (subst (λ l. Holds l registers) (sym (append-nil low)) held) (λ r g hr. refl))
    operands_do does (also x xs) d pc low registers scope next h e f held go =
        let c = whole_operand script names x d in
        let cs = operands_code script names xs (past x d) in
        operand_does x (does x) d pc low registers scope _ (has_front code.instructions pc c cs h) e f held
        (λ v more registers' l hs gives. operands_do does xs (past x d) (pc + length c) (low ++ more) registers' scope _
        (has_back code.instructions pc c cs h) l (fits_more base names low more scope f) hs
        (λ vs more2 registers2 hs2 give.
        let same : (low ++ more) ++ more2 ≡ low ++ (more ++ more2) = append_assoc low more more2 in
        moved (next (v ∷ vs)) _ _ registers2 (omega (arith, length-append c cs))
        (go (v ∷ vs) (more ++ more2) registers2 (subst (λ l'. Holds l' registers2) same hs2)
        (λ r g hr.
        let hr2 : Holds ((low ++ more) ++ more2) r = subst (λ l'. Holds l' r) (sym same) hr in
        ap (λ o. on_value o (λ w. on_values r base (operands_of script names xs (past x d)) (λ ws. g (w ∷ ws))))
        (gives r (holds_less (low ++ more) more2 r hr2))
        ∙ give r (λ ws. g (v ∷ ws)) hr2))))

    -- the last instruction of code
    pub last_at : (pc : ℕ) (a : List Instruction) (i : Instruction) → HasAt code.instructions pc (a ++ i ∷ []) → IsAt (pc + length a) i
    last_at pc a i h = (has_back code.instructions pc a (i ∷ []) h).0

    pub ends_at : (pc : ℕ) (a : List Instruction) (i : Instruction) → pc + length (a ++ i ∷ []) ≡ pc + length a + 1
    ends_at pc a i = omega (arith, length-append a (i ∷ []))

    load_var : (o : Option ℕ) (c : Outcome) (to d pc : ℕ) (low registers : List Value) (next : Value → Run) →
        HasAt code.instructions pc (wrong_unless o ++ Load to (slot_or o (Slot d)) ∷ []) → FitsAt base o low c → Holds low registers →
        ((v : Value) (registers' : List Value) → Holds low registers' →
        Goes (next v) (pc + length (wrong_unless o ++ Load to (slot_or o (Slot d)) ∷ [])) (put_at registers' (base + to) v)) →
        Goes (proceed c next) pc registers
    load_var None c to d pc low registers next h f held go = subst (λ x. Goes (proceed x next) pc registers) (sym f) (goes_wrong pc registers h.0)
    load_var (Some i) c to d pc low registers next h f held go =
        subst (λ x. Goes (proceed x next) pc registers) (sym f.2)
        (writes pc to (Load to (Slot i)) f.0 registers (next f.0) h.0 (ap (λ o. on_value o (λ v. write (at pc registers) to v)) (held (base + i) f.0 f.1))
        (go f.0 registers held))

    -- a get of a value
    abbrev asks : ℕ → Option Value → Act
    asks to o = on_value o (λ r. if is_reference r then Asks r (base + to) else act_broken)

    pub fetch_does : (t : Kind) (to pc : ℕ) (a : Operand) (r : Value) (registers : List Value) (next : Value → Run) →
        IsAt pc (Fetch to a) → operand_value registers base a ≡ Some r → ((v : Value) → Goes (next v) (pc + 1) (put_at registers (base + to) v)) →
        Goes (get_from t r next) pc registers
    fetch_does t to pc a (Int m) registers next h e go =
        at_once code limit (at pc registers) (fetched code limit (at pc registers) (Fetch to a) _ h (ap (asks to) e))
    fetch_does t to pc a (Items vs) registers next h e go =
        at_once code limit (at pc registers) (fetched code limit (at pc registers) (Fetch to a) _ h (ap (asks to) e))
    fetch_does t to pc a (Named o) registers next h e go =
        at_once code limit (at pc registers) (base + to, fetched code limit (at pc registers) (Fetch to a) _ h (ap (asks to) e), go)
    fetch_does t to pc a (Known c) registers next h e go =
        at_once code limit (at pc registers) (base + to, fetched code limit (at pc registers) (Fetch to a) _ h (ap (asks to) e), go)

    -- one result, or one reference
    takes_one : (next : Value → Run) (pc to : ℕ) (registers : List Value) → ((r : Value) → Goes (next r) pc (put_at registers (base + to) r)) →
        (rs : List Value) → length rs ≡ 1 → Goes (only rs next) pc (put_all registers (base + to) rs)
    takes_one next pc to registers go [] l = absurd (omega arith)
    takes_one next pc to registers go (r ∷ []) l = go r
    takes_one next pc to registers go (r ∷ q ∷ rs) l = absurd (omega arith)

    takes_no_other : (next : Value → Run) (ws : List Value) → (length ws ≡ 1 → ⊥) → only ws next ≡ broken
    takes_no_other next [] h = refl
    takes_no_other next (w ∷ []) h = absurd (h refl)
    takes_no_other next (w ∷ x ∷ ws) h = refl

    -- a birth
    put_does : (to pc : ℕ) (a : Operand) (v : Value) (registers : List Value) (next : Value → Run) → IsAt pc (PutIn to a) →
        operand_value registers base a ≡ Some v → ((r : Value) → Goes (next r) (pc + 1) (put_at registers (base + to) r)) →
        Goes (Bears (Put v) (Ends (Returned (v ∷ []))) (λ rs. only rs next)) pc registers
    put_does to pc a v registers next h e go =
        at_once code limit (at pc registers) (
          base + to,
          fetched code limit (at pc registers) (PutIn to a) _ h (ap (λ o. on_value o (λ w. Bore (Put w) (base + to))) e),
          refl,
          takes_one next (pc + 1) to registers go,
        )

    pub spawn_does : (k : ℕ) (g : Name) (marks : List Bool) (d count to others pc : ℕ) (vs low registers : List Value) (next : List Value → Run) →
        IsAt pc (Spawn k g marks d count to others) → length vs ≡ count → length low ≡ base + d → Holds (low ++ vs) registers →
        ((rs : List Value) → length rs ≡ suc others → Goes (next rs) (pc + 1) (put_all registers (base + to) rs)) →
        Goes (Bears (Task g (mark vs marks) (33 - n) k others) (task_by (no_level n) (parameters_of (find script g)) (call_at script n g) (mark vs marks)) next) pc
        registers
    spawn_does k g marks d count to others pc vs low registers next h c e held go =
        let left : limit - length callers ≡ n = omega (arith, levels) in
        let values : values_at registers (base + d) count ≡ vs =
        ap (λ m. values_at registers (base + d) m) (sym c) ∙ values_held low vs registers (base + d) (sym e) held in
        let same : perform code limit (at pc registers) (Some (Spawn k g marks d count to others)) ≡ Bore (Task g (mark vs marks) (33 - n) k others) (base + to) =
        ap (λ xs. Bore (Task g (mark xs marks) (33 - (limit - length callers)) k others) (base + to)) values
        ∙ ap (λ m. Bore (Task g (mark vs marks) (33 - m) k others) (base + to)) left in
        at_once code limit (at pc registers) (
          base + to,
          fetched code limit (at pc registers) (Spawn k g marks d count to others) _ h same,
          sym (same_task script n g (mark vs marks) few),
          go,
        )

    mutual
      pub expr_does : (e : Expr) → ExprDoes e
      expr_does (Num m) to d pc low registers scope next h e f held go =
          writes pc to (Load to (Const m)) (Int m) registers (next (Int m)) h.0 refl (go (Int m) registers held)
      expr_does (Var x) to d pc low registers scope next h e f held go =
          load_var (place_in names x) (value_in scope x) to d pc low registers next h (f x) held go
      expr_does (Unary op a) to d pc low registers scope next h e f held go =
          let c = operand_code names a (expr_code script names a d d) in
          let i = One op to (operand_of names a d) in
          operand_does a (expr_does a) d pc low registers scope _ (has_front code.instructions pc c (i ∷ []) h) e f held
          (λ v more registers' l hs gives. writes_outcome (pc + length c) to i (apply_one op v) registers' next (last_at pc c i h)
          (ap (λ o. on_value o (λ w. on_outcome (apply_one op w) (λ r. write (at (pc + length c) registers') to r))) (gives registers' hs))
          (λ r. moved (next r) _ _ _ (ends_at pc c i) (go r registers' (holds_less low more registers' hs))))
      expr_does (Binary op a b) to d pc low registers scope next h e f held go =
          let ca = operand_code names a (expr_code script names a d d) in
          let cb = operand_code names b (expr_code script names b (past a d) (past a d)) in
          let i = Two op to (operand_of names a d) (operand_of names b (past a d)) in
          let hb = has_back code.instructions pc ca (cb ++ i ∷ []) h in
          operand_does a (expr_does a) d pc low registers scope _ (has_front code.instructions pc ca (cb ++ i ∷ []) h) e f held
          (λ v more registers' l hs gives. operand_does b (expr_does b) (past a d) (pc + length ca) (low ++ more) registers' scope _
          (has_front code.instructions (pc + length ca) cb (i ∷ []) hb) l (fits_more base names low more scope f) hs
          (λ w more2 registers2 l2 hs2 gives2.
          let hs1 = holds_less (low ++ more) more2 registers2 hs2 in
          let pc2 = pc + length ca + length cb in
          writes_outcome pc2 to i (apply op v w) registers2 next (last_at (pc + length ca) cb i hb)
          (ap (λ o. on_value o (λ v'. on_value (operand_value registers2 base (operand_of names b (past a d)))
          (λ w'. on_outcome (apply op v' w') (λ r. write (at pc2 registers2) to r)))) (gives registers2 hs1)
          ∙ ap (λ o. on_value o (λ w'. on_outcome (apply op v w') (λ r. write (at pc2 registers2) to r))) (gives2 registers2 hs2))
          (λ r. moved (next r) _ _ _ (omega (arith, length-append ca (cb ++ i ∷ []), length-append cb (i ∷ [])))
          (go r registers2 (holds_less low more registers2 hs1)))))
      expr_does (ListOf items) to d pc low registers scope next h e f held go =
          let c = exprs_code script names items d in
          let i = Collect to d (how_many items) in
          exprs_do items d pc low registers scope _ (has_front code.instructions pc c (i ∷ []) h) e f held
          (λ vs registers' l hs. writes (pc + length c) to i (Items (values_of vs)) registers' (next (Items (values_of vs))) (last_at pc c i h)
          (ap (λ m. write (at (pc + length c) registers') to (Items (values_of (values_at registers' (base + d) m)))) (sym l)
          ∙ ap (λ xs. write (at (pc + length c) registers') to (Items (values_of xs))) (values_held low vs registers' (base + d) (sym e) hs))
          (moved (next (Items (values_of vs))) _ _ _ (ends_at pc c i) (go (Items (values_of vs)) registers' (holds_less low vs registers' hs))))
      expr_does (Empty t) to d pc low registers scope next h e f held go =
          writes pc to (Collect to d 0) (Items (values_of [])) registers (next (Items (values_of []))) h.0 refl (go (Items (values_of [])) registers held)
      expr_does (Call g args) to d pc low registers scope next h e f held go =
          let c = exprs_code script names args d in
          let i = Enter (number_of script g (how_many args)) d to 1 in
          exprs_do args d pc low registers scope _ (has_front code.instructions pc c (i ∷ []) h) e f held
          (λ vs registers' l hs. calls g vs (λ ws. only ws next) (at (pc + length c) registers') d to 1 low (last_at pc c i h
          ∙ ap (λ m. Some (Enter (number_of script g m) d to 1)) (sym l)) levels e hs
          (λ ws registers2 lw hs2. takes_one next (pc + length c + 1) to registers2
          (λ v. moved (next v) _ _ _ (ends_at pc c i) (go v registers2 hs2)) ws lw)
          (takes_no_other next))
      expr_does (Remote k g ms args) to d pc low registers scope next h e f held go =
          let c = exprs_code script names args d in
          let i = Spawn k g ms d (how_many args) to 0 in
          exprs_do args d pc low registers scope _ (has_front code.instructions pc c (i ∷ []) h) e f held
          (λ vs registers' l hs. spawn_does k g ms d (how_many args) to 0 (pc + length c) vs low registers' (λ rs. only rs next) (last_at pc c i h) l e hs
          (takes_one next (pc + length c + 1) to registers'
          (λ v. moved (next v) _ _ _ (ends_at pc c i) (go v registers' (holds_less low vs registers' hs)))))
      expr_does (PutOf a) to d pc low registers scope next h e f held go =
          let c = operand_code names a (expr_code script names a d d) in
          let i = PutIn to (operand_of names a d) in
          operand_does a (expr_does a) d pc low registers scope _ (has_front code.instructions pc c (i ∷ []) h) e f held
          (λ v more registers' l hs gives. put_does to (pc + length c) (operand_of names a d) v registers' next (last_at pc c i h) (gives registers' hs)
          (λ r. moved (next r) _ _ _ (ends_at pc c i) (go r registers' (holds_less low more registers' hs))))
      expr_does (GetOf t a) to d pc low registers scope next h e f held go =
          let c = operand_code names a (expr_code script names a d d) in
          let i = Fetch to (operand_of names a d) in
          operand_does a (expr_does a) d pc low registers scope _ (has_front code.instructions pc c (i ∷ []) h) e f held
          (λ v more registers' l hs gives. fetch_does t to (pc + length c) (operand_of names a d) v registers' next (last_at pc c i h) (gives registers' hs)
          (λ r. moved (next r) _ _ _ (ends_at pc c i) (go r registers' (holds_less low more registers' hs))))

      pub exprs_do : (es : Exprs) → ExprsDo es
      exprs_do end d pc low registers scope next h e f held go =
          moved (next []) (pc + 0) pc registers (omega arith) (go [] registers refl (subst (λ l. Holds l registers) (sym (append-nil low)) held))
      exprs_do (also x xs) d pc low registers scope next h e f held go =
          let c = expr_code script names x d d in
          let cs = exprs_code script names xs (d + 1) in
          expr_does x d d pc low registers scope _ (has_front code.instructions pc c cs h) e f held
          (λ v registers' hs. exprs_do xs (d + 1) (pc + length c) (low ++ v ∷ []) (put_at registers' (base + d) v) scope _
          (has_back code.instructions pc c cs h)
          (omega (arith, e, length-append low (v ∷ []))) (fits_more base names low (v ∷ []) scope f) (holds_put low registers' (base + d) v (sym e) hs)
          (λ vs registers2 l hs2. moved (next (v ∷ vs)) _ _ _ (omega (arith, length-append c cs)) (go (v ∷ vs) registers2 (omega (arith, l))
          (subst (λ xs'. Holds xs' registers2) (append_assoc low (v ∷ []) vs) hs2))))
