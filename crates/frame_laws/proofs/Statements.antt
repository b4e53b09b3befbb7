-- The code of statements does what the statements do.
use Rattle.std.proofs.Common.{
  ◌≡◌,
  ℕ,
  zero,
  suc,
  ◌+◌,
  ◌-◌,
  ◌<◌,
  ◌≤◌,
  Bool,
  true,
  false,
  List,
  [],
  ◌∷◌,
  ◌++◌,
  length,
  take,
  Some,
  None,
  Option,
  refl,
  sym,
  ap,
  ◌∙◌,
  subst,
  arith,
  length-append,
  append_assoc,
  append-nil,
}
use Rattle.std.specs.Prelude.{slice_get, slice_set, ℤ, pos, ◌+ℤ◌, ◌-ℤ◌, int_lt, nat_lt, if◌then◌else◌}
use Rattle.meaning.specs.Values.{Name, Loop, Value, Int, Items, Named, Known, Completion, Aborted}
use Rattle.meaning.specs.Syntax.{Expr, Stmt, Let, LetCall, LetRemote, Set, Print, Return, If, For, Block, done, step, Script}
use Rattle.meaning.specs.Runs.{Run, Ends, Prints}
use Rattle.meaning.specs.Meaning.{
  Scope,
  broken,
  as_number,
  is_zero,
  turn_count,
  turns,
  turns_within,
  leave,
  bind,
  bind_each,
  set_in,
  evaluate,
  execute,
  execute_all,
  calls_below,
}
use Rattle.frame_laws.specs.Instructions.{Operand, Instruction, Enter, Spawn, Show, Back, SkipZero, Skip, Begin, Again}
use Rattle.frame_laws.specs.Compile.{
  Names,
  place_in,
  place_or,
  names_after,
  names_of,
  how_many,
  number_of,
  exprs_code,
  operands_code,
  operands_of,
  loop_names,
  if_code,
  loop_code,
  operand_of,
  expr_code,
  whole_operand,
  stmt_code,
  block_code,
}
use Rattle.frame_laws.specs.Machine.{
  Caller,
  State,
  Code,
  Act,
  Silent,
  Over,
  Shows,
  put_at,
  operand_value,
  put_all,
  on_value,
  on_number,
  goes_to,
  go_back,
  turn_at,
  begin_loop,
  turn_again,
  perform,
  act,
  Does,
}
use Rattle.frame_laws.proofs.Places.{HasAt, has_front, has_back, Holds, holds_less, holds_put, holds_put_all, holds_set}
use Rattle.frame_laws.proofs.Steps.{sooner, at_once, fetched}
use Rattle.frame_laws.proofs.Expressions.{CallsDo, expr_does, exprs_do, operand_does, operands_do, fits_more, spawn_does}
use Rattle.frame_laws.proofs.Scopes.{
  scope_at,
  scope_fits,
  Keeps,
  keeps_all,
  keeps_on,
  keeps_append,
  keeps_front,
  keeps_take,
  scope_bind,
  scope_bind_all,
  bind_no_other,
  names_counted,
  scope_turn,
  scope_left,
  IsSetBy,
  scope_set,
  set_past,
  length_set,
  split_two,
  length_take,
  holds_front,
  one_turn_less,
  no_turn,
}

-- names are only added
names_grow : (names : Names) (s : Stmt) → (more : Names) × (names_after names s ≡ names ++ more)
names_grow names (Let x e) = (Some x ∷ [], refl)
names_grow names (LetCall x xs g args) = (names_of (x ∷ xs), refl)
names_grow names (LetRemote x xs retries g marks args) = (names_of (x ∷ xs), refl)
names_grow names (Set x e) = ([], sym (append-nil names))
names_grow names (Print e) = ([], sym (append-nil names))
names_grow names (Return e) = ([], sym (append-nil names))
names_grow names (If e a b) = ([], sym (append-nil names))
names_grow names (For x from to body) = ([], sym (append-nil names))

module _ (script : Script) (code : Code) (limit n : ℕ) (few : n ≤ 32) (calls : CallsDo script code limit n few) (base : ℕ) (callers : List Caller)
    (levels : length callers + n ≡ limit) (below : List Value) (eb : length below ≡ base) where
  abbrev pub at : ℕ → List Value → State
  at pc registers = record { pc = pc; base = base; registers = registers; callers = callers }

  abbrev pub Goes : Run → ℕ → List Value → Type 0
  Goes run pc registers = Does code limit script run (at pc registers)

  abbrev pub IsAt : ℕ → Instruction → Type 0
  IsAt pc i = slice_get code.instructions pc ≡ Some i

  moved : (run : Run) (p q : ℕ) (registers : List Value) → p ≡ q → Goes run p registers → Goes run q registers
  moved run p q registers e g = subst (λ k. Goes run k registers) e g

  same_run : (a b : Run) (p : ℕ) (registers : List Value) → a ≡ b → Goes a p registers → Goes b p registers
  same_run a b p registers e g = subst (λ r. Goes r p registers) e g

  -- a step with no effect
  silent : (pc : ℕ) (i : Instruction) (registers : List Value) (next : State) (run : Run) → IsAt pc i →
      perform code limit (at pc registers) (Some i) ≡ Silent next → Does code limit script run next → Goes run pc registers
  silent pc i registers next run h e g = sooner code limit (at pc registers) next (fetched code limit (at pc registers) i _ h e) g

  over : (pc : ℕ) (i : Instruction) (registers : List Value) (c : Completion) → IsAt pc i → perform code limit (at pc registers) (Some i) ≡ Over c →
      Goes (Ends c) pc registers
  over pc i registers c h e = at_once code limit (at pc registers) (fetched code limit (at pc registers) i _ h e)

  -- what follows a return
  abbrev pub Returns : (List Value → Run) → Type 0
  Returns return =
      (vs : List Value) (pc : ℕ) (registers : List Value) → Holds below registers → act code limit (at pc registers) ≡ go_back registers base callers vs →
      Goes (return vs) pc registers

  abbrev pub StmtDoes : Stmt → Type 0
  StmtDoes s =
      (names : Names) (pc : ℕ) (vals registers : List Value) (next : Scope → Run) (return : List Value → Run) →
      HasAt code.instructions pc (stmt_code script names s) → length vals ≡ length names → Holds (below ++ vals) registers →
      ((vals' registers' : List Value) → length vals' ≡ length (names_after names s) → Keeps names vals vals' → Holds (below ++ vals') registers' →
      Goes (next (scope_at (names_after names s) vals')) (pc + length (stmt_code script names s)) registers') →
      Returns return → Goes (execute (calls_below script n) s (scope_at names vals) next return) pc registers

  abbrev pub BlockDoes : Block → Type 0
  BlockDoes b =
      (names : Names) (pc : ℕ) (vals registers : List Value) (next : Scope → Run) (return : List Value → Run) →
      HasAt code.instructions pc (block_code script names b) → length vals ≡ length names → Holds (below ++ vals) registers →
      ((more : Names) (vals' registers' : List Value) → length vals' ≡ length (names ++ more) → Keeps names vals vals' → Holds (below ++ vals') registers' →
      Goes (next (scope_at (names ++ more) vals')) (pc + length (block_code script names b)) registers') →
      Returns return → Goes (execute_all (calls_below script n) b (scope_at names vals) next return) pc registers

  low_length : (names : Names) (vals : List Value) → length vals ≡ length names → length (below ++ vals) ≡ base + length names
  low_length names vals e = omega (arith, e, eb, length-append below vals)

  -- an expression into any register
  into : (e : Expr) (names : Names) (to pc : ℕ) (vals registers : List Value) (next : Value → Run) →
      HasAt code.instructions pc (expr_code script names e to (length names)) → length vals ≡ length names → Holds (below ++ vals) registers →
      ((v : Value) (registers' : List Value) → Holds (below ++ vals) registers' →
      Goes (next v) (pc + length (expr_code script names e to (length names))) (put_at registers' (base + to) v)) →
      Goes (evaluate (calls_below script n) e (scope_at names vals) next) pc registers
  into e names to pc vals registers next h l held go =
      expr_does script code limit n few calls base callers levels names e to (length names) pc (below ++ vals) registers (scope_at names vals) next h
      (low_length names vals l) (scope_fits names below vals base eb l) held go

  -- an operand, which the next instruction takes
  operand : (e : Expr) (names : Names) (pc : ℕ) (vals registers : List Value) (next : Value → Run) →
      HasAt code.instructions pc (whole_operand script names e (length names)) → length vals ≡ length names → Holds (below ++ vals) registers →
      ((v : Value) (registers' : List Value) → Holds (below ++ vals) registers' → operand_value registers' base (operand_of names e (length names)) ≡ Some v →
      Goes (next v) (pc + length (whole_operand script names e (length names))) registers') →
      Goes (evaluate (calls_below script n) e (scope_at names vals) next) pc registers
  operand e names pc vals registers next h l held go =
      operand_does script code limit n few calls base callers levels names e (expr_does script code limit n few calls base callers levels names e)
      (length names) pc (below ++ vals) registers (scope_at names vals) next h (low_length names vals l) (scope_fits names below vals base eb l) held
      (λ v more registers' el hs gives. go v registers' (holds_less (below ++ vals) more registers' hs) (gives registers' hs))

  -- a variable is set
  set_goes : (names : Names) (vals registers : List Value) (v : Value) (o : Option ℕ) (s : Scope) (next : Scope → Run) (pc : ℕ) → length vals ≡ length names →
      Holds (below ++ vals) registers → IsSetBy names vals v o s →
      ((vals' registers' : List Value) → length vals' ≡ length names → Keeps names vals vals' → Holds (below ++ vals') registers' →
      Goes (next (scope_at names vals')) pc registers') →
      Goes (next s) pc (put_at registers (base + place_or o (length names)) v)
  set_goes names vals registers v None s next pc l held f go =
      let hs = holds_put (below ++ vals) registers (base + length names) v (sym (low_length names vals l)) held in
      same_run _ _ pc _ (ap next (sym f)) (go vals (put_at registers (base + length names) v) l (keeps_all names vals)
      (holds_less (below ++ vals) (v ∷ []) _ hs))
  set_goes names vals registers v (Some i) s next pc l held f go =
      let hs = holds_set (below ++ vals) registers (base + i) v (omega (arith, l, eb, f.1, length-append below vals)) held in
      let same : slice_set (below ++ vals) (base + i) v ≡ below ++ slice_set vals i v =
      ap (λ b. slice_set (below ++ vals) (b + i) v) (sym eb) ∙ set_past below vals i v in
      same_run _ _ pc _ (ap next (sym f.0)) (go (slice_set vals i v) (put_at registers (base + i) v) (length_set vals i v ∙ l) f.2
      (subst (λ xs. Holds xs (put_at registers (base + i) v)) same hs))

  -- a choice between blocks
  choose : (names : Names) (a : Operand) (first second : List Instruction) (pc : ℕ) (v : Value) (registers : List Value) (that other : Run) →
      HasAt code.instructions pc (if_code a first second) → operand_value registers base a ≡ Some v →
      Goes that (pc + 1) registers → Goes other (pc + 1 + (length first + 1)) registers →
      Goes (as_number broken v (λ m. if is_zero m then other else that)) pc registers
  choose names a first second pc (Int m) registers that other h e y o =
      let i = SkipZero a (length first + 1) in
      silent pc i registers (goes_to (at pc registers) (if is_zero m then pc + 1 + (length first + 1) else pc + 1)) (if is_zero m then other else that) h.0
      (ap (λ o. on_number o (λ m. Silent (goes_to (at pc registers) (if is_zero m then pc + 1 + (length first + 1) else pc + 1)))) e)
      (elim (is_zero m) as (λ b. Goes (if b then other else that) (if b then pc + 1 + (length first + 1) else pc + 1) registers) [ true ↦ o | false ↦ y ])
  choose names a first second pc (Items vs) registers that other h e y o =
      over pc (SkipZero a (length first + 1)) registers _ h.0 (ap (λ o.
      on_number o (λ m. Silent (goes_to (at pc registers) (if is_zero m then pc + 1 + (length first + 1) else pc + 1)))) e)
  choose names a first second pc (Named r) registers that other h e y o =
      over pc (SkipZero a (length first + 1)) registers _ h.0 (ap (λ o.
      on_number o (λ m. Silent (goes_to (at pc registers) (if is_zero m then pc + 1 + (length first + 1) else pc + 1)))) e)
  choose names a first second pc (Known c) registers that other h e y o =
      over pc (SkipZero a (length first + 1)) registers _ h.0 (ap (λ o.
      on_number o (λ m. Silent (goes_to (at pc registers) (if is_zero m then pc + 1 + (length first + 1) else pc + 1)))) e)

  -- the end of a block leaves its variables
  left_goes : (names more : Names) (vals vals' registers : List Value) (next : Scope → Run) (pc : ℕ) → length vals ≡ length names →
      length vals' ≡ length (names ++ more) → Keeps names vals vals' → Holds (below ++ vals') registers →
      ((vals2 registers2 : List Value) → length vals2 ≡ length names → Keeps names vals vals2 → Holds (below ++ vals2) registers2 →
      Goes (next (scope_at names vals2)) pc registers2) →
      Goes (leave (calls_below script n) (scope_at names vals) next (scope_at (names ++ more) vals')) pc registers
  left_goes names more vals vals' registers next pc l l' k held go =
      let short : length names ≤ length vals' = omega (arith, l', length-append names more) in
      same_run _ _ pc registers (ap next (sym (scope_left names more vals vals' l l')))
      (go (take (length names) vals') registers (length_take vals' (length names) short) (keeps_take names vals vals' k)
      (holds_front below vals' registers (length names) held))

  -- the turns of a loop
  module _ (names : Names) (x : Name) (body : Block) (does : BlockDoes body) (start : ℕ) (has : HasAt code.instructions start
      (loop_code (length names) (block_code script (loop_names names x) body)))
      (first : List Value) (next : Scope → Run) (return : List Value → Run)
      (after : (vals registers : List Value) → length vals ≡ length names → Keeps names first vals → Holds (below ++ vals) registers →
      Goes (next (scope_at names vals)) (start + length (loop_code (length names) (block_code script (loop_names names x) body))) registers)
      (returns : Returns return) where
    abbrev inner : List Instruction
    inner = block_code script (loop_names names x) body

    abbrev a_turn : ℤ → Scope → (Scope → Run) → Run
    a_turn i before k = execute_all (calls_below script n) body (bind before x (Int i)) (leave (calls_below script n) before k) return

    -- the machine stands at the end of a turn, with the loop's number and bound behind the variables
    abbrev AgainDoes : ℕ → Type 0
    AgainDoes k =
        (i to : ℤ) (vals registers : List Value) → turn_count (to -ℤ i) ≡ k → length vals ≡ length names → Keeps names first vals →
        Holds ((below ++ vals) ++ Int i ∷ Int to ∷ []) registers →
        Goes (turns (calls_below script n) k i a_turn (scope_at names vals) next) (start + 1 + length inner) registers

    held_two : (low : List Value) (a b w : Value) (registers : List Value) (j : ℕ) → j ≡ length low → Holds (low ++ a ∷ b ∷ []) registers →
        Holds (low ++ w ∷ b ∷ []) (put_at registers j w)
    held_two low a b w registers j e h =
        let zero_more : length low + 0 ≡ length low = omega arith in
        let same : slice_set (low ++ a ∷ b ∷ []) j w ≡ low ++ w ∷ b ∷ [] =
        ap (λ m. slice_set (low ++ a ∷ b ∷ []) m w) (e ∙ sym zero_more) ∙ set_past low (a ∷ b ∷ []) 0 w in
        subst (λ xs. Holds xs (put_at registers j w)) same (holds_set (low ++ a ∷ b ∷ []) registers j w (omega (arith, e, length-append low (a ∷ b ∷ []))) h)

    turn_regs : (i : ℤ) (to v : Value) (vals registers : List Value) → length vals ≡ length names → Holds ((below ++ vals) ++ v ∷ to ∷ []) registers →
        Holds (below ++ (vals ++ Int (i +ℤ pos 1) ∷ to ∷ Int i ∷ [])) (put_at (put_at registers (base + length names) (Int (i +ℤ pos 1)))
        (base + length names + 2) (Int i))
    turn_regs i to v vals registers l held =
        let w = Int (i +ℤ pos 1) in
        let low = low_length names vals l in
        let h1 = held_two (below ++ vals) v to w registers (base + length names) (sym low) held in
        let h2 =
        holds_put ((below ++ vals) ++ w ∷ to ∷ []) (put_at registers (base + length names) w) (base + length names + 2) (Int i)
        (omega (arith, low, length-append (below ++ vals) (w ∷ to ∷ []))) h1 in
        let same : ((below ++ vals) ++ w ∷ to ∷ []) ++ Int i ∷ [] ≡ below ++ (vals ++ w ∷ to ∷ Int i ∷ []) =
        append_assoc (below ++ vals) (w ∷ to ∷ []) (Int i ∷ []) ∙ append_assoc below vals (w ∷ to ∷ Int i ∷ []) in
        subst (λ xs. Holds xs (put_at (put_at registers (base + length names) w) (base + length names + 2) (Int i))) same h2

    hidden : (i : ℕ) → i < 2 → slice_get (loop_names names x) (length names + i) ≡ Some None
    hidden zero h = let e : length names + zero ≡ length names = omega arith in
        subst (λ j. slice_get (loop_names names x) j ≡ Some None) (sym e) (get_at names)
      where
        get_at : (ns : Names) → slice_get (ns ++ None ∷ None ∷ Some x ∷ []) (length ns) ≡ Some None
        get_at [] = refl
        get_at (y ∷ ns) = get_at ns
    hidden (suc zero) h = let e : length names + suc zero ≡ suc (length names) = omega arith in
        subst (λ j. slice_get (loop_names names x) j ≡ Some None) (sym e) (get_at names)
      where
        get_at : (ns : Names) → slice_get (ns ++ None ∷ None ∷ Some x ∷ []) (suc (length ns)) ≡ Some None
        get_at [] = refl
        get_at (y ∷ ns) = get_at ns
    hidden (suc (suc k)) h = absurd (omega arith)

    vals_at : (vals : List Value) (a b c : Value) → length vals ≡ length names →
        (slice_get (vals ++ a ∷ b ∷ c ∷ []) (length names + 0) ≡ Some a) × (slice_get (vals ++ a ∷ b ∷ c ∷ []) (length names + 1) ≡ Some b)
    vals_at vals a b c l =
        let e0 : length names + 0 ≡ length vals = omega (arith, l) in
        let e1 : length names + 1 ≡ suc (length vals) = omega (arith, l) in (
          subst (λ j. slice_get (vals ++ a ∷ b ∷ c ∷ []) j ≡ Some a) (sym e0) (first_of_them vals),
          subst (λ j. slice_get (vals ++ a ∷ b ∷ c ∷ []) j ≡ Some b) (sym e1) (second_of_them vals),
        )
      where
        first_of_them : (vs : List Value) → slice_get (vs ++ a ∷ b ∷ c ∷ []) (length vs) ≡ Some a
        first_of_them [] = refl
        first_of_them (y ∷ vs) = first_of_them vs

        second_of_them : (vs : List Value) → slice_get (vs ++ a ∷ b ∷ c ∷ []) (suc (length vs)) ≡ Some b
        second_of_them [] = refl
        second_of_them (y ∷ vs) = second_of_them vs

    first_value : (vals : List Value) (i to : ℤ) → length vals ≡ length names →
        slice_get ((below ++ vals) ++ Int i ∷ Int to ∷ []) (base + length names) ≡ Some (Int i)
    first_value vals i to l = subst (λ j. slice_get ((below ++ vals) ++ Int i ∷ Int to ∷ []) j ≡ Some (Int i)) (low_length names vals l) (there (below ++ vals))
      where
        there : (vs : List Value) → slice_get (vs ++ Int i ∷ Int to ∷ []) (length vs) ≡ Some (Int i)
        there [] = refl
        there (y ∷ vs) = there vs

    second_value : (vals : List Value) (i to : ℤ) → length vals ≡ length names →
        slice_get ((below ++ vals) ++ Int i ∷ Int to ∷ []) (base + length names + 1) ≡ Some (Int to)
    second_value vals i to l =
        let low = low_length names vals l in
        let e : suc (length (below ++ vals)) ≡ base + length names + 1 = omega (arith, low) in
        subst (λ j. slice_get ((below ++ vals) ++ Int i ∷ Int to ∷ []) j ≡ Some (Int to)) e (there (below ++ vals))
      where
        there : (vs : List Value) → slice_get (vs ++ Int i ∷ Int to ∷ []) (suc (length vs)) ≡ Some (Int to)
        there [] = refl
        there (y ∷ vs) = there vs

    not_less : (i to : ℤ) → turn_count (to -ℤ i) ≡ zero → int_lt i to ≡ false
    not_less i to e = by_test (int_lt i to) refl
      where
        by_test : (b : Bool) → int_lt i to ≡ b → b ≡ false
        by_test false t = refl
        by_test true t = let s = one_turn_less i to t in absurd (omega (arith, e, s))

    less_still : (i to : ℤ) (k : ℕ) → turn_count (to -ℤ i) ≡ suc k → int_lt i to ≡ true
    less_still i to k e = by_test (int_lt i to) refl
      where
        by_test : (b : Bool) → int_lt i to ≡ b → b ≡ true
        by_test true t = refl
        by_test false t = let s = no_turn i to t in absurd (omega (arith, e, s))

    one_less : (i to : ℤ) (k : ℕ) → int_lt i to ≡ true → turn_count (to -ℤ i) ≡ suc k → turn_count (to -ℤ (i +ℤ pos 1)) ≡ k
    one_less i to k t e = let s = one_turn_less i to t in omega (arith, e, s)

    -- a turn, from its start
    turn_does : (k : ℕ) → AgainDoes k → (i to : ℤ) (v : Value) (vals registers : List Value) (pc : ℕ) → turn_count (to -ℤ (i +ℤ pos 1)) ≡ k →
        length vals ≡ length names → Keeps names first vals → Holds ((below ++ vals) ++ v ∷ Int to ∷ []) registers →
        Does code limit script (a_turn i (scope_at names vals) (λ after. turns (calls_below script n) k (i +ℤ pos 1) a_turn after next))
        (turn_at (at pc registers) (length names) i (start + 1))
    turn_does k again i to v vals registers pc ek l keeps held =
        let w = Int (i +ℤ pos 1) in
        let vals2 = vals ++ w ∷ Int to ∷ Int i ∷ [] in
        let registers2 = put_at (put_at registers (base + length names) w) (base + length names + 2) (Int i) in
        let l2 : length vals2 ≡ length (loop_names names x) =
        omega (arith, l, length-append vals (w ∷ Int to ∷ Int i ∷ []), length-append names (None ∷ None ∷ Some x ∷ [])) in
        let go_on : Scope → Run = λ after. turns (calls_below script n) k (i +ℤ pos 1) a_turn after next in
        let at_two = vals_at vals w (Int to) (Int i) l in
        let run = does (loop_names names x) (start + 1) vals2 registers2 (leave (calls_below script n) (scope_at names vals) go_on) return
        (has_front code.instructions (start + 1) inner (Again (length names) (length inner) ∷ []) has.1) l2 (turn_regs i (Int to) v vals registers l held)
        (λ more vals3 registers3 l3 k3 held3. turn_ends more vals3 registers3 l3 k3 held3)
        returns in
        subst (λ s. Goes (execute_all (calls_below script n) body s (leave (calls_below script n) (scope_at names vals) go_on) return) (start + 1) registers2)
        (scope_turn names vals x w (Int to) (Int i) l) run
      where
        turn_ends : (more : Names) (vals3 registers3 : List Value) → length vals3 ≡ length (loop_names names x ++ more) →
            Keeps (loop_names names x) (vals ++ Int (i +ℤ pos 1) ∷ Int to ∷ Int i ∷ []) vals3 → Holds (below ++ vals3) registers3 →
            Goes (leave (calls_below script n) (scope_at names vals) (λ after. turns (calls_below script n) k (i +ℤ pos 1) a_turn after next)
            (scope_at (loop_names names x ++ more) vals3)) (start + 1 + length inner) registers3
        turn_ends more vals3 registers3 l3 k3 held3 =
            let w = Int (i +ℤ pos 1) in
            let d = length names in
            let two = vals_at vals w (Int to) (Int i) l in
            let e0 : d + 0 ≡ d = omega arith in
            let e1 : d + 1 ≡ suc d = omega arith in
            let here0 = subst (λ j. slice_get vals3 j ≡ Some w) e0 (k3 (d + 0) (hidden 0 (omega arith)) ∙ two.0) in
            let here1 = subst (λ j. slice_get vals3 j ≡ Some (Int to)) e1 (k3 (d + 1) (hidden 1 (omega arith)) ∙ two.1) in
            let cut = split_two d vals3 w (Int to) here0 here1 in
            let assoc = append_assoc names (None ∷ None ∷ Some x ∷ []) more in
            let l4 : length vals3 ≡ length (names ++ (None ∷ None ∷ Some x ∷ more)) = l3 ∙ ap length assoc in
            let short : d ≤ length vals3 = omega (arith, l4, length-append names (None ∷ None ∷ Some x ∷ more)) in
            let t = take d vals3 in
            let whole : below ++ vals3 ≡ ((below ++ t) ++ w ∷ Int to ∷ []) ++ cut.0 =
            ap (λ xs. below ++ xs) cut.1 ∙ sym (append_assoc below t (w ∷ Int to ∷ cut.0)) ∙ sym (append_assoc (below ++ t) (w ∷ Int to ∷ []) cut.0) in
            let held4 = holds_less ((below ++ t) ++ w ∷ Int to ∷ []) cut.0 registers3 (subst (λ xs. Holds xs registers3) whole held3) in
            let keeps4 =
            keeps_on names first vals t keeps (keeps_take names vals vals3 (keeps_on names vals (vals ++ w ∷ Int to ∷ Int i ∷ []) vals3
            (keeps_append names vals _ l) (keeps_front names (None ∷ None ∷ Some x ∷ []) _ vals3 k3))) in
            let there = again (i +ℤ pos 1) to t registers3 ek (length_take vals3 d short) keeps4 held4 in
            let same =
            sym (ap (λ ns. take (length (scope_at names vals)) (scope_at ns vals3)) assoc
            ∙ scope_left names (None ∷ None ∷ Some x ∷ more) vals vals3 l l4) in
            same_run _ _ (start + 1 + length inner) registers3 (ap (λ s. turns (calls_below script n) k (i +ℤ pos 1) a_turn s next) same) there

    again_does : (k : ℕ) → AgainDoes k
    again_does zero i to vals registers ek l keeps held =
        let pc = start + 1 + length inner in
        let d = length names in
        let b = has_back code.instructions (start + 1) inner (Again d (length inner) ∷ []) has.1 in
        let v1 = held (base + d) (Int i) (first_value vals i to l) in
        let v2 = held (base + d + 1) (Int to) (second_value vals i to l) in
        let stays : int_lt i to ≡ false = not_less i to ek in
        let e =
        ap (λ o. on_number o (λ i'. on_number (slice_get registers (base + d + 1)) (λ to'.
        Silent (turn_again (at pc registers) d (length inner) i' to')))) v1
        ∙ ap (λ o. on_number o (λ to'. Silent (turn_again (at pc registers) d (length inner) i to'))) v2
        ∙ ap (λ t. Silent (if t then turn_at (at pc registers) d i (pc - length inner) else goes_to (at pc registers) (pc + 1))) stays in
        silent pc (Again d (length inner)) registers (goes_to (at pc registers) (pc + 1)) (next (scope_at names vals)) b.0 e
        (moved (next (scope_at names vals)) _ _ registers (omega (arith, length-append inner (Again d (length inner) ∷ [])))
        (after vals registers l keeps (holds_less (below ++ vals) (Int i ∷ Int to ∷ []) registers held)))
    again_does (suc k) i to vals registers ek l keeps held =
        let pc = start + 1 + length inner in
        let d = length names in
        let b = has_back code.instructions (start + 1) inner (Again d (length inner) ∷ []) has.1 in
        let v1 = held (base + d) (Int i) (first_value vals i to l) in
        let v2 = held (base + d + 1) (Int to) (second_value vals i to l) in
        let goes_round : int_lt i to ≡ true = less_still i to k ek in
        let back : pc - length inner ≡ start + 1 = omega arith in
        let e =
        ap (λ o. on_number o (λ i'. on_number (slice_get registers (base + d + 1)) (λ to'.
        Silent (turn_again (at pc registers) d (length inner) i' to')))) v1
        ∙ ap (λ o. on_number o (λ to'. Silent (turn_again (at pc registers) d (length inner) i to'))) v2
        ∙ ap (λ t. Silent (if t then turn_at (at pc registers) d i (pc - length inner) else goes_to (at pc registers) (pc + 1))) goes_round
        ∙ ap (λ p. Silent (turn_at (at pc registers) d i p)) back in
        silent pc (Again d (length inner)) registers (turn_at (at pc registers) d i (start + 1)) (turns (calls_below script n) (suc k) i a_turn
        (scope_at names vals) next) b.0 e
        (turn_does k (again_does k) i to (Int i) vals registers pc (one_less i to k goes_round ek) l keeps held)

    abbrev b_act : List Value → ℤ → ℤ → Act
    b_act registers m m2 = begin_loop (at start registers) (length names) (length inner + 1) m m2

    -- what the loop's first instruction makes of its bounds
    begins : (v w : Value) (registers : List Value) → length first ≡ length names → Holds ((below ++ first) ++ v ∷ w ∷ []) registers →
        act code limit (at start registers) ≡ on_number (Some v) (λ m. on_number (Some w) (λ m2. b_act registers m m2))
    begins v w registers l held =
        let low = low_length names first l in
        let e : suc (length (below ++ first)) ≡ base + length names + 1 = omega (arith, low) in
        let v1 = held (base + length names) v (subst (λ j. slice_get ((below ++ first) ++ v ∷ w ∷ []) j ≡ Some v) low (here (below ++ first))) in
        let v2 = held (base + length names + 1) w (subst (λ j. slice_get ((below ++ first) ++ v ∷ w ∷ []) j ≡ Some w) e (there (below ++ first))) in
        fetched code limit (at start registers) (Begin (length names) (length inner + 1)) _ has.0
        (ap (λ o. on_number o (λ m. on_number (slice_get registers (base + length names + 1)) (λ m2. b_act registers m m2))) v1
        ∙ ap (λ o. on_number (Some v) (λ m. on_number o (λ m2. b_act registers m m2))) v2)
      where
        here : (vs : List Value) → slice_get (vs ++ v ∷ w ∷ []) (length vs) ≡ Some v
        here [] = refl
        here (y ∷ vs) = here vs

        there : (vs : List Value) → slice_get (vs ++ v ∷ w ∷ []) (suc (length vs)) ≡ Some w
        there [] = refl
        there (y ∷ vs) = there vs

    turns_begin : (m m2 : ℤ) (registers : List Value) (t : Bool) → int_lt m m2 ≡ t → length first ≡ length names →
        Holds ((below ++ first) ++ Int m ∷ Int m2 ∷ []) registers →
        Does code limit script (turns (calls_below script n) (turn_count (m2 -ℤ m)) m a_turn (scope_at names first) next)
        (if t then turn_at (at start registers) (length names) m (start + 1) else goes_to (at start registers) (start + 1 + (length inner + 1)))
    turns_begin m m2 registers true t l held =
        let less = one_turn_less m m2 t in
        let k = turn_count (m2 -ℤ (m +ℤ pos 1)) in
        subst (λ c. Does code limit script (turns (calls_below script n) c m a_turn (scope_at names first) next)
        (turn_at (at start registers) (length names) m (start + 1))) (sym less)
        (turn_does k (again_does k) m m2 (Int m) first registers start refl l (keeps_all names first) held)
    turns_begin m m2 registers false t l held =
        subst (λ c. Goes (turns (calls_below script n) c m a_turn (scope_at names first) next) (start + 1 + (length inner + 1)) registers)
        (sym (no_turn m m2 t))
        (moved (next (scope_at names first)) _ _ registers (omega (arith, length-append inner (Again (length names) (length inner) ∷ [])))
        (after first registers l (keeps_all names first) (holds_less (below ++ first) (Int m ∷ Int m2 ∷ []) registers held)))

    within : (m m2 : ℤ) (registers : List Value) → length first ≡ length names → Holds ((below ++ first) ++ Int m ∷ Int m2 ∷ []) registers →
        act code limit (at start registers) ≡ b_act registers m m2 →
        Goes (turns_within (calls_below script n) m m2 a_turn (scope_at names first) next) start registers
    within m m2 registers l held e =
        let now : Bool → State =
        λ t. if t then turn_at (at start registers) (length names) m (start + 1) else goes_to (at start registers) (start + 1 + (length inner + 1)) in
        let run = turns (calls_below script n) (turn_count (m2 -ℤ m)) m a_turn (scope_at names first) next in
        by_test (nat_lt 10000 (turn_count (m2 -ℤ m))) e
      where
        by_test : (b : Bool) → act code limit (at start registers) ≡ (if b then Over (Aborted Loop) else Silent
            (if int_lt m m2 then turn_at (at start registers) (length names) m (start + 1) else goes_to (at start registers)
            (start + 1 + (length inner + 1)))) →
            Goes (if b then Ends (Aborted Loop) else turns (calls_below script n) (turn_count (m2 -ℤ m)) m a_turn (scope_at names first) next) start registers
        by_test true e = at_once code limit (at start registers) e
        by_test false e = sooner code limit (at start registers) _ e (turns_begin m m2 registers (int_lt m m2) refl l held)

    begin_number : (m : ℤ) (w : Value) (registers : List Value) → length first ≡ length names → Holds ((below ++ first) ++ Int m ∷ w ∷ []) registers →
        Goes (as_number broken w (λ m2. turns_within (calls_below script n) m m2 a_turn (scope_at names first) next)) start registers
    begin_number m (Int m2) registers l held = within m m2 registers l held (begins (Int m) (Int m2) registers l held)
    begin_number m (Items vs) registers l held = at_once code limit (at start registers) (begins (Int m) (Items vs) registers l held)
    begin_number m (Named o) registers l held = at_once code limit (at start registers) (begins (Int m) (Named o) registers l held)
    begin_number m (Known c) registers l held = at_once code limit (at start registers) (begins (Int m) (Known c) registers l held)

    begin_does : (v w : Value) (registers : List Value) → length first ≡ length names → Holds ((below ++ first) ++ v ∷ w ∷ []) registers →
        Goes (as_number broken v (λ m. as_number broken w (λ m2. turns_within (calls_below script n) m m2 a_turn (scope_at names first) next))) start registers
    begin_does (Int m) w registers l held = begin_number m w registers l held
    begin_does (Items vs) w registers l held = at_once code limit (at start registers) (begins (Items vs) w registers l held)
    begin_does (Named o) w registers l held = at_once code limit (at start registers) (begins (Named o) w registers l held)
    begin_does (Known c) w registers l held = at_once code limit (at start registers) (begins (Known c) w registers l held)

  -- two blocks, with a jump past the second behind the first
  show_goes : (pc : ℕ) (a : Operand) (v : Value) (registers : List Value) (next : Run) → IsAt pc (Show a) → operand_value registers base a ≡ Some v →
      Goes next (pc + 1) registers → Goes (Prints v next) pc registers
  show_goes pc a v registers next h e g =
      at_once code limit (at pc registers) (fetched code limit (at pc registers) (Show a) _ h (ap (λ o. on_value o (λ w. Shows w)) e), g)

  -- results into the registers of new variables
  bound_goes : (xs : List Name) (ws : List Value) (names : Names) (pc : ℕ) (vals registers : List Value) (next : Scope → Run) → length vals ≡ length names →
      length ws ≡ length xs → Holds (below ++ vals) registers →
      ((vals' registers' : List Value) → length vals' ≡ length (names ++ names_of xs) → Keeps names vals vals' → Holds (below ++ vals') registers' →
      Goes (next (scope_at (names ++ names_of xs) vals')) pc registers') →
      Goes (bind_each broken (scope_at names vals) xs ws next) pc (put_all registers (base + length names) ws)
  bound_goes xs ws names pc vals registers next l lw held go =
      let low = low_length names vals l in
      let counted = names_counted xs in
      let h2 = holds_put_all (below ++ vals) registers (base + length names) ws (sym low) held in
      same_run _ _ pc _ (sym (scope_bind_all xs ws names vals next l lw))
      (go (vals ++ ws) (put_all registers (base + length names) ws) (omega (arith, l, lw, counted, length-append vals ws, length-append names (names_of xs)))
      (keeps_append names vals ws l)
      (subst (λ ys. Holds ys (put_all registers (base + length names) ws)) (append_assoc below vals ws) h2))

  mutual
    pub stmt_does : (s : Stmt) → StmtDoes s
    stmt_does (LetCall x xs g args) names pc vals registers next return h l held go returns =
        let d = length names in
        let c = exprs_code script names args d in
        let i = Enter (number_of script g (how_many args)) d d (length (x ∷ xs)) in
        let low = low_length names vals l in
        exprs_do script code limit n few calls base callers levels names args d pc (below ++ vals) registers (scope_at names vals) _
        (has_front code.instructions pc c (i ∷ []) h) low (scope_fits names below vals base eb l) held
        (λ vs registers' l' hs. calls g vs (λ ws. bind_each broken (scope_at names vals) (x ∷ xs) ws next) (at (pc + length c) registers') d d (length (x ∷ xs))
        (below ++ vals)
        ((has_back code.instructions pc c (i ∷ []) h).0 ∙ ap (λ m. Some (Enter (number_of script g m) d d (length (x ∷ xs)))) (sym l')) levels low hs
        (λ ws registers2 lw hs2. bound_goes (x ∷ xs) ws names (pc + length c + 1) vals registers2 next l lw hs2
        (λ vals3 registers3 l3 k3 held3. moved (next (scope_at (names ++ names_of (x ∷ xs)) vals3)) _ _ registers3 (omega (arith, length-append c (i ∷ [])))
        (go vals3 registers3 l3 k3 held3)))
        (λ ws wrong. bind_no_other (x ∷ xs) ws (scope_at names vals) next wrong))
    stmt_does (LetRemote x xs k g marks args) names pc vals registers next return h l held go returns =
        let d = length names in
        let c = exprs_code script names args d in
        let i = Spawn k g marks d (how_many args) d (length xs) in
        let low = low_length names vals l in
        exprs_do script code limit n few calls base callers levels names args d pc (below ++ vals) registers (scope_at names vals) _
        (has_front code.instructions pc c (i ∷ []) h) low (scope_fits names below vals base eb l) held
        (λ vs registers' l' hs. spawn_does script code limit n few calls base callers levels names k g marks d (how_many args) d (length xs) (pc + length c) vs
        (below ++ vals) registers' (λ rs. bind_each broken (scope_at names vals) (x ∷ xs) rs next) (has_back code.instructions pc c (i ∷ []) h).0 l' low hs
        (λ rs lr. bound_goes (x ∷ xs) rs names (pc + length c + 1) vals registers' next l lr (holds_less (below ++ vals) vs registers' hs)
        (λ vals3 registers3 l3 k3 held3. moved (next (scope_at (names ++ names_of (x ∷ xs)) vals3)) _ _ registers3 (omega (arith, length-append c (i ∷ [])))
        (go vals3 registers3 l3 k3 held3))))
    stmt_does (Let x e) names pc vals registers next return h l held go returns =
        into e names (length names) pc vals registers _ h l held
        (λ v registers' hs.
        let low = low_length names vals l in
        let h2 = holds_put (below ++ vals) registers' (base + length names) v (sym low) hs in
        same_run _ _ _ _ (ap next (scope_bind names vals x v l))
        (go (vals ++ v ∷ []) (put_at registers' (base + length names) v) (omega (arith, l, length-append vals (v ∷ []), length-append names (Some x ∷ [])))
        (keeps_append names vals (v ∷ []) l)
        (subst (λ xs. Holds xs (put_at registers' (base + length names) v)) (append_assoc below vals (v ∷ [])) h2)))
    stmt_does (Set x e) names pc vals registers next return h l held go returns =
        into e names (place_or (place_in names x) (length names)) pc vals registers _ h l held
        (λ v registers' hs. set_goes names vals registers' v (place_in names x) (set_in (scope_at names vals) x v) next _ l hs (scope_set names vals x v l) go)
    stmt_does (Print e) names pc vals registers next return h l held go returns =
        let c = whole_operand script names e (length names) in
        let i = Show (operand_of names e (length names)) in
        operand e names pc vals registers _ (has_front code.instructions pc c (i ∷ []) h) l held
        (λ v registers' hs given. show_goes (pc + length c) (operand_of names e (length names)) v registers' _ (has_back code.instructions pc c (i ∷ []) h).0
        given
        (moved (next (scope_at names vals)) _ _ registers' (omega (arith, length-append c (i ∷ []))) (go vals registers' l (keeps_all names vals) hs)))
    stmt_does (Return es) names pc vals registers next return h l held go returns =
        let c = operands_code script names es (length names) in
        let i = Back (operands_of script names es (length names)) in
        operands_do script code limit n few calls base callers levels names (expr_does script code limit n few calls base callers levels names) es
        (length names) pc (below ++ vals) registers (scope_at names vals) return (has_front code.instructions pc c (i ∷ []) h) (low_length names vals l)
        (scope_fits names below vals base eb l) held
        (λ vs more registers' hs give. returns vs (pc + length c) registers'
        (holds_less below vals registers' (holds_less (below ++ vals) more registers' hs))
        (fetched code limit (at (pc + length c) registers') i _ (has_back code.instructions pc c (i ∷ []) h).0
        (give registers' (λ ws. go_back registers' base callers ws) hs)))
    stmt_does (If e a b) names pc vals registers next return h l held go returns =
        let c = whole_operand script names e (length names) in
        let o = operand_of names e (length names) in
        let ca = block_code script names a in
        let cb = block_code script names b in
        let hi = has_back code.instructions pc c (if_code o ca cb) h in
        let pci = pc + length c in
        let ha = has_front code.instructions (pci + 1) ca (Skip (length cb) ∷ cb) hi.1 in
        let hs = has_back code.instructions (pci + 1) ca (Skip (length cb) ∷ cb) hi.1 in
        let lens = length-append c (if_code o ca cb) in
        let lens2 = length-append ca (Skip (length cb) ∷ cb) in
        operand e names pc vals registers _ (has_front code.instructions pc c (if_code o ca cb) h) l held
        (λ v registers' held' given. choose names o ca cb pci v registers' _ _ hi given
        (block_does a names (pci + 1) vals registers' (leave (calls_below script n) (scope_at names vals) next) return ha l held'
        (λ more vals2 registers2 l2 k2 held2. left_goes names more vals vals2 registers2 next _ l l2 k2 held2
        (λ vals3 registers3 l3 k3 held3. silent (pci + 1 + length ca) (Skip (length cb)) registers3 _ (next (scope_at names vals3)) hs.0 refl
        (moved (next (scope_at names vals3)) _ _ registers3 (omega (arith, lens, lens2)) (go vals3 registers3 l3 k3 held3))))
        returns)
        (block_does b names (pci + 1 + (length ca + 1)) vals registers' (leave (calls_below script n) (scope_at names vals) next) return
        (subst (λ p. HasAt code.instructions p cb) (omega arith) hs.1) l held'
        (λ more vals2 registers2 l2 k2 held2. left_goes names more vals vals2 registers2 next _ l l2 k2 held2
        (λ vals3 registers3 l3 k3 held3. moved (next (scope_at names vals3)) _ _ registers3 (omega (arith, lens, lens2)) (go vals3 registers3 l3 k3 held3)))
        returns))
    stmt_does (For x from to body) names pc vals registers next return h l held go returns =
        let d = length names in
        let cf = expr_code script names from d d in
        let ct = expr_code script names to (d + 1) (d + 1) in
        let cl = loop_code d (block_code script (loop_names names x) body) in
        let hb = has_back code.instructions pc cf (ct ++ cl) h in
        let low = low_length names vals l in
        into from names d pc vals registers _ (has_front code.instructions pc cf (ct ++ cl) h) l held
        (λ v registers1 held1.
        let h2 = holds_put (below ++ vals) registers1 (base + d) v (sym low) held1 in
        let low2 : length ((below ++ vals) ++ v ∷ []) ≡ base + (d + 1) = omega (arith, low, length-append (below ++ vals) (v ∷ [])) in
        expr_does script code limit n few calls base callers levels names to (d + 1) (d + 1) (pc + length cf) ((below ++ vals) ++ v ∷ [])
        (put_at registers1 (base + d) v) (scope_at names vals) _ (has_front code.instructions (pc + length cf) ct cl hb) low2
        (fits_more base names (below ++ vals) (v ∷ []) (scope_at names vals) (scope_fits names below vals base eb l)) h2
        (λ w registers2 held2.
        let h3 = holds_put ((below ++ vals) ++ v ∷ []) registers2 (base + (d + 1)) w (sym low2) held2 in
        begin_does names x body (block_does body) (pc + length cf + length ct) (has_back code.instructions (pc + length cf) ct cl hb) vals next return
        (λ vals3 registers3 l3 k3 held3. moved (next (scope_at names vals3)) _ _ registers3 (omega (arith, length-append cf (ct ++ cl), length-append ct cl))
        (go vals3 registers3 l3 k3 held3))
        returns v w (put_at registers2 (base + (d + 1)) w) l (subst (λ xs. Holds xs (put_at registers2 (base + (d + 1)) w))
        (append_assoc (below ++ vals) (v ∷ []) (w ∷ [])) h3)))

    pub block_does : (b : Block) → BlockDoes b
    block_does done names pc vals registers next return h l held go returns =
        let same = sym (append-nil names) in
        let there = go [] vals registers (l ∙ ap length same) (keeps_all names vals) held in
        moved (next (scope_at names vals)) (pc + 0) pc registers (omega arith) (same_run _ _ (pc + 0) registers
        (ap (λ ns. next (scope_at ns vals)) (append-nil names)) there)
    block_does (step s rest) names pc vals registers next return h l held go returns =
        let c = stmt_code script names s in
        let cr = block_code script (names_after names s) rest in
        stmt_does s names pc vals registers _ return (has_front code.instructions pc c cr h) l held
        (λ vals2 registers2 l2 k2 held2. block_does rest (names_after names s) (pc + length c) vals2 registers2 next return
        (has_back code.instructions pc c cr h) l2 held2
        (λ more vals3 registers3 l3 k3 held3.
        let grown = names_grow names s in
        let same : names_after names s ++ more ≡ names ++ (grown.0 ++ more) = ap (λ ns. ns ++ more) grown.1 ∙ append_assoc names grown.0 more in
        moved (next (scope_at (names_after names s ++ more) vals3)) _ _ registers3 (omega (arith, length-append c cr))
        (same_run _ _ _ registers3 (ap (λ ns. next (scope_at ns vals3)) (sym same))
        (go (grown.0 ++ more) vals3 registers3 (l3
        ∙ ap length same) (keeps_on names vals vals2 vals3 k2 (keeps_front names grown.0 vals2 vals3 (subst (λ ns. Keeps ns vals2 vals3) grown.1 k3)))
        held3)))
        returns)
        returns
