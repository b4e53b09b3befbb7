-- Loops of the examples, for any number of turns.
use Rattle.std.proofs.Common.{◌≡◌, ℕ, zero, suc, ◌+◌, ◌<◌, ◌≤◌, true, false, List, [], ◌∷◌, refl, sym, ap, ◌∙◌, subst, arith}
use Rattle.std.proofs.lemmas.Bool.Decides.{nat_tests}
use Rattle.std.specs.Prelude.{ℤ, pos, codes, nat_lt, if◌then◌else◌, ◌+ℤ◌, ◌^◌}
use Rattle.meaning.specs.Values.{Value, Int, Items, Values, none, more, Outcome, Val, Trapped, Returned, Aborted, first_outcome, Overflow, TooLong, Loop, DivZero, count, push_onto}
use Rattle.meaning.specs.Syntax.{Add, Push, Var, Binary, Set}
use Rattle.meaning.specs.Runs.{Run, Ends, serial_end, serial_trace}
use Rattle.meaning.specs.Syntax.{Script}
use Rattle.meaning.specs.Meaning.{run_task, broken, value_in, calls_below, Scope, Calls, in_range, push, proceed, bind, leave, execute_all, turns, turns_within, call_at, serial_run}
use Rattle.meaning.specs.Law.{prints_of}
use Rattle.meaning.proofs.BirthLaws.{at_test}
use Rattle.meaning.specs.Examples.{MainGives, block, number, value, loop, first_trap}

fits_next : (m : ℕ) → m + 1 < 2 ^ 63 → in_range (pos m +ℤ pos 1) ≡ Val (Int (pos (m + 1)))
fits_next m h =
    let small : nat_lt (m + 1) (2 ^ 63) ≡ true = grind (arith, nat_tests) in
    ap (λ b. if b then Val (Int (pos (m + 1))) else Trapped Overflow) small

count-push : (vs : Values) (w : Value) → count (push_onto vs w) ≡ count vs + 1
count-push none w = refl
count-push (more v vs) w = let e = count-push vs w in omega arith

module _ (calls : Calls) (return : List Value → Run) (next : Scope → Run) where
  abbrev counted : ℕ → Scope
  counted m = record { name = codes "s"; value = Int (pos m) } ∷ []

  abbrev count_up : ℤ → Scope → (Scope → Run) → Run
  count_up i before k =
      execute_all calls (block (Set (codes "s") (Binary Add (Var (codes "s")) (number 1)) ∷ [])) (bind before (codes "i") (Int i)) (leave calls before k) return

  counts : (n m : ℕ) (i : ℤ) → m + n < 2 ^ 63 → turns calls n i count_up (counted m) next ≡ next (counted (m + n))
  counts zero m i h = ap (λ k. next (counted k)) (omega arith)
  counts (suc n) m i h =
      let then' : Outcome → Run = λ c. proceed c (λ v. turns calls n (i +ℤ pos 1) count_up (record { name = codes "s"; value = v } ∷ []) next) in
      let here : then' (in_range (pos m +ℤ pos 1)) ≡ turns calls n (i +ℤ pos 1) count_up (counted (m + 1)) next = ap then' (fits_next m (omega arith)) in
      here ∙ counts n (m + 1) (i +ℤ pos 1) (omega arith) ∙ ap (λ k. next (counted k)) (omega arith)

-- a loop of at most 10,000 turns, and returned of more
runs_turns : (calls : Calls) (n : ℕ) (body : ℤ → Scope → (Scope → Run) → Run) (scope : Scope) (next : Scope → Run) → n ≤ 10000 → turns_within calls (pos 0) (pos n) body scope next ≡ turns calls n (pos 0) body scope next
runs_turns calls n body scope next h =
    let few : nat_lt 10000 n ≡ false = grind (arith, nat_tests) in
    let size : n + 0 ≡ n = omega arith in
    subst (λ m. (if nat_lt 10000 m then Ends (Aborted Loop) else turns calls m (pos 0) body scope next) ≡ turns calls n (pos 0) body scope next) (sym size)
    (ap (λ b. if b then Ends (Aborted Loop) else turns calls n (pos 0) body scope next) few)

refuses_turns : (calls : Calls) (n : ℕ) (body : ℤ → Scope → (Scope → Run) → Run) (scope : Scope) (next : Scope → Run) → 10000 < n → turns_within calls (pos 0) (pos n) body scope next ≡ Ends (Aborted Loop)
refuses_turns calls n body scope next h =
    let many : nat_lt 10000 n ≡ true = grind (arith, nat_tests) in
    let size : n + 0 ≡ n = omega arith in
    subst (λ m. (if nat_lt 10000 m then Ends (Aborted Loop) else turns calls m (pos 0) body scope next) ≡ Ends (Aborted Loop)) (sym size)
    (ap (λ b. if b then Ends (Aborted Loop) else turns calls n (pos 0) body scope next) many)

module _ (calls : Calls) (return : List Value → Run) (next : Scope → Run) (n : ℕ) where
  abbrev listed : Values → Scope
  listed vs = record { name = codes "n"; value = Int (pos n) } ∷ record { name = codes "l"; value = Items vs } ∷ []

  abbrev push_turn : ℤ → Scope → (Scope → Run) → Run
  push_turn i before k =
      execute_all calls (block (Set (codes "l") (Binary Push (Var (codes "l")) (Var (codes "i"))) ∷ [])) (bind before (codes "i") (Int i)) (leave calls before k) return

  -- the list with the numbers from i on
  abbrev grown : ℕ → ℤ → Values → Values
  grown zero i vs = vs
  grown (suc k) i vs = grown k (i +ℤ pos 1) (push_onto vs (Int i))

  -- what follows a push
  abbrev after_push : ℕ → ℤ → Outcome → Run
  after_push k i c = proceed c (λ v. turns calls k (i +ℤ pos 1) push_turn (record { name = codes "n"; value = Int (pos n) } ∷ record { name = codes "l"; value = v } ∷ []) next)

  pushes : (k : ℕ) (i : ℤ) (vs : Values) → count vs + k ≤ 4096 → turns calls k i push_turn (listed vs) next ≡ next (listed (grown k i vs))
  pushes zero i vs h = refl
  pushes (suc k) i vs h =
      let room : nat_lt (count vs) 4096 ≡ true = grind (arith, nat_tests) in
      let here : after_push k i (push vs (Int i)) ≡ turns calls k (i +ℤ pos 1) push_turn (listed (push_onto vs (Int i))) next = ap (λ b. after_push k i (if b then Val (Items (push_onto vs (Int i))) else Trapped TooLong)) room in
      here ∙ pushes k (i +ℤ pos 1) (push_onto vs (Int i)) (let e = count-push vs (Int i) in omega arith)

  fills : (k : ℕ) (i : ℤ) (vs : Values) → count vs ≤ 4096 → 4096 < count vs + k → turns calls k i push_turn (listed vs) next ≡ Ends (Aborted TooLong)
  fills zero i vs h g = absurd (omega arith)
  fills (suc k) i vs h g =
      at_test (λ b. nat_lt (count vs) 4096 ≡ b → after_push k i (if b then Val (Items (push_onto vs (Int i))) else Trapped TooLong) ≡ Ends (Aborted TooLong)) (nat_lt (count vs) 4096)
      (λ _ room. fills k (i +ℤ pos 1) (push_onto vs (Int i)) (let e = count-push vs (Int i) in grind (arith, nat_tests)) (let e = count-push vs (Int i) in omega arith))
      (λ _ _. refl) refl

-- how a task goes on
abbrev returned : List Value → Run
returned vs = Ends (Returned vs)

-- ---- the loop's script

-- what follows the loop
abbrev sum_returned : Scope → Run
sum_returned scope = proceed (value_in scope (codes "s")) (λ v. Ends (Returned (v ∷ [])))

loop-run : (n : ℕ) → serial_run (loop n) ≡ turns_within (calls_below (loop n) 32) (pos 0) (pos n) (count_up (calls_below (loop n) 32) returned (λ _. broken)) (counted (calls_below (loop n) 32) returned (λ _. broken) 0) sum_returned
unfolding call_at
loop-run n = refl

main_gives : (script : Script) (run : Run) (prints : List Value) (c : Outcome) → serial_run script ≡ run → prints_of (serial_trace run) ≡ prints → first_outcome (serial_end run) ≡ c → MainGives script prints c
main_gives script run prints c e p r = record { printed = ap (λ (x : Run). prints_of (serial_trace x)) e ∙ p; ended = ap (λ (x : Run). first_outcome (serial_end x)) e ∙ r }

pub loop_counts : (n : ℕ) → n ≤ 10000 → MainGives (loop n) [] (value n)
loop_counts n h =
    let calls = calls_below (loop n) 32 in
    main_gives (loop n) (sum_returned (counted calls returned (λ _. broken) (0 + n))) [] (value n)
    (loop-run n ∙ runs_turns calls n (count_up calls returned (λ _. broken)) (counted calls returned (λ _. broken) 0) sum_returned h ∙ counts calls returned sum_returned n 0 (pos 0) (omega (arith, h)))
    refl (ap (λ k. Val (Int (pos k))) (omega arith))

pub loop_traps : (n : ℕ) → 10000 < n → MainGives (loop n) [] (Trapped Loop)
loop_traps n h =
    let calls = calls_below (loop n) 32 in
    main_gives (loop n) (Ends (Aborted Loop)) [] (Trapped Loop)
    (loop-run n ∙ refuses_turns calls n (count_up calls returned (λ _. broken)) (counted calls returned (λ _. broken) 0) sum_returned h)
    refl refl

-- ---- the list's script

abbrev list_returned : Scope → Run
list_returned scope = proceed (value_in scope (codes "l")) (λ v. Ends (Returned (v ∷ [])))

abbrev long_run : ℕ → Run
long_run n = run_task (first_trap n) (codes "long") (record { value = Int (pos n); marked = false } ∷ []) 1

long-run : (n : ℕ) → long_run n ≡ turns_within (calls_below (first_trap n) 31) (pos 0) (pos n) (push_turn (calls_below (first_trap n) 31) returned list_returned n) (listed (calls_below (first_trap n) 31) returned list_returned n none) list_returned
unfolding call_at
long-run n = refl

-- what main does with what the list's call makes
traps_second : (n : ℕ) (ws : Values) → serial_end (long_run n) ≡ Returned (Items ws ∷ []) → MainGives (first_trap n) [] (Trapped DivZero)
unfolding call_at
traps_second n ws e = record { printed = rw e refl; ended = rw e refl }

traps_first : (n : ℕ) → serial_end (long_run n) ≡ Aborted TooLong → MainGives (first_trap n) [] (Trapped TooLong)
unfolding call_at
traps_first n e = record { printed = rw e refl; ended = rw e refl }

pub full_list : (n : ℕ) → n ≤ 4096 → MainGives (first_trap n) [] (Trapped DivZero)
full_list n h =
    let calls = calls_below (first_trap n) 31 in
    let body = push_turn calls returned list_returned n in
    let start = listed calls returned list_returned n none in
    let runs = long-run n ∙ runs_turns calls n body start list_returned (omega (arith, h)) ∙ pushes calls returned list_returned n n (pos 0) none (omega (arith, h)) in
    traps_second n (grown calls returned list_returned n n (pos 0) none) (ap (λ (x : Run). serial_end x) runs)

pub too_long_list : (n : ℕ) → 4096 < n → n ≤ 10000 → MainGives (first_trap n) [] (Trapped TooLong)
too_long_list n h g =
    let calls = calls_below (first_trap n) 31 in
    let body = push_turn calls returned list_returned n in
    let start = listed calls returned list_returned n none in
    let runs = long-run n ∙ runs_turns calls n body start list_returned g ∙ fills calls returned list_returned n n (pos 0) none (omega arith) (omega (arith, h)) in
    traps_first n (ap (λ (x : Run). serial_end x) runs)
