-- Worked examples of code, and of what the machine does on it.
use Rattle.std.specs.Prelude.{ℕ, zero, suc, ◌+◌, true, false, List, [], ◌∷◌, ◌++◌, pos, codes, slice_get}
use Rattle.meaning.specs.Values.{Value, Int, Named, Outcome, Argument, Birth, Task, results_of, Returned, main_name, main_birth}
use Rattle.meaning.specs.Syntax.{Add, Mul, Div, Rem, ItemAt, Binary, Call, Script}
use Rattle.meaning.specs.Examples.{square, sq, parts, object, number, each, give, just, script_of}
use Rattle.frame_laws.specs.Instructions.{Instruction, Slot, Const, Load, Two, Collect, Enter, Spawn, Fetch, Show, Back, SkipZero, Wrong}
use Rattle.frame_laws.specs.Compile.{number_of}
use Rattle.frame_laws.specs.Machine.{State, Code, Act, Silent, Over, Asks, Bore, Shows, resume, resume_all, goes_to, act}
use Rattle.frame_laws.specs.Law.{code_of, entry_or, first_state}
use Rattle.frame_laws.specs.Steps.{HasSteps}

-- with the next of the given values in a register; with none left nothing more is seen
abbrev pub takes : (State → List Value → List Act) → State → ℕ → List Value → List Act
takes next now to [] = []
takes next now to (v ∷ given) = next (resume now to v) given

-- with so many more of them in registers from one on, behind those in order that were taken
abbrev pub takes_all : (State → List Value → List Act) → State → ℕ → ℕ → List Value → List Value → List Act
takes_all next now to zero taken given = next (resume_all now to taken) given
takes_all next now to (suc n) taken [] = []
takes_all next now to (suc n) taken (v ∷ given) = takes_all next now to n (taken ++ v ∷ []) given

-- an act that is seen, and what follows it
abbrev pub shown : (State → List Value → List Act) → State → Act → List Value → List Act
shown next now (Silent there) given = next there given
shown next now (Over e) given = Over e ∷ []
shown next now (Shows v) given = Shows v ∷ next (goes_to now (now.pc + 1)) given
shown next now (Bore b to) given = Bore b to ∷ takes_all next now to (results_of b) [] given
shown next now (Asks r to) given = Asks r to ∷ takes next now to given

-- what is seen of the machine in that many instructions, where each birth and each get takes the next of the given values
abbrev pub seen : Code → ℕ → ℕ → State → List Value → List Act
seen code limit zero now given = []
seen code limit (suc n) now given = shown (seen code limit n) now (act code limit now) given

-- a state with these registers at a place, and no call that waits
abbrev pub standing : ℕ → List Value → State
standing pc registers = record { pc = pc; base = 0; registers = registers; callers = [] }

-- where main begins, which has no arguments
abbrev pub main_state : Script → State
main_state script = standing (entry_or 0 (slice_get (code_of script).entries (number_of script main_name 0))) []

-- fn sq(x: int) -> int { return x * x; }: the first two instructions are a task's, which dereferences x where its mark is 1
abbrev pub sq_code : List Instruction
sq_code = SkipZero (Slot 1) 1 ∷ Fetch 0 (Slot 0) ∷ Two Mul 1 (Slot 0) (Slot 0) ∷ Back (Slot 1 ∷ []) ∷ Wrong ∷ []

-- let r = remote sq(7); print get r; return 0;
abbrev pub main_code : List Instruction
main_code =
    Load 0 (Const (pos 7)) ∷ Spawn 3 (codes "sq") (false ∷ []) 0 1 0 0 ∷ Fetch 1 (Slot 0) ∷ Show (Slot 1) ∷ Back (Const (pos 0) ∷ []) ∷ Wrong ∷ []

-- a reference that a run in pieces was given
abbrev pub reference : Value
reference = Named (object 1 1)

-- where main stands once it bore the task, and needs what it returns
abbrev pub at_the_get : State
at_the_get = standing 7 (reference ∷ [])

-- a task's one argument
abbrev pub plain : Value → List Argument
plain v = record { value = v; marked = false } ∷ []

abbrev pub dereferenced : Value → List Argument
dereferenced v = record { value = v; marked = true } ∷ []

-- the first state of a task of sq
abbrev pub squaring_state : List Argument → State
squaring_state args = first_state square (codes "sq") sq args

-- fn f(n: int) calls itself with n - 1, by turns plainly and remotely: the task of f(0) that f(1) bears, where f(2) called it plainly
abbrev pub third : Birth
third = Task (codes "f") (plain (Int (pos 0))) 3 3 0

-- an end with one number
abbrev pub gives : ℕ → Act
gives n = Over (Returned (Int (pos n) ∷ []))

-- Several results

-- fn parts(a: int, b: int) -> (int, int) { return a / b, a % b; }
abbrev pub parts_code : List Instruction
parts_code =
    SkipZero (Slot 2) 1 ∷ Fetch 0 (Slot 0) ∷ SkipZero (Slot 3) 1 ∷ Fetch 1 (Slot 1)
    ∷ Two Div 2 (Slot 0) (Slot 1) ∷ Two Rem 3 (Slot 0) (Slot 1) ∷ Back (Slot 2 ∷ Slot 3 ∷ []) ∷ Wrong ∷ []

-- let q, r = parts(17, 5); return q * 10 + r;
abbrev pub parts_called_code : List Instruction
parts_called_code =
    Load 0 (Const (pos 17)) ∷ Load 1 (Const (pos 5)) ∷ Enter 0 0 0 2
    ∷ Two Mul 2 (Slot 0) (Const (pos 10)) ∷ Two Add 2 (Slot 2) (Slot 1) ∷ Back (Slot 2 ∷ []) ∷ Wrong ∷ []

-- fn two(n: int) -> (int, [int]) { return n + 1, [n, n]; }
abbrev pub two_code : List Instruction
two_code =
    SkipZero (Slot 1) 1 ∷ Fetch 0 (Slot 0) ∷ Two Add 1 (Slot 0) (Const (pos 1)) ∷ Load 2 (Slot 0) ∷ Load 3 (Slot 0) ∷ Collect 2 2 2
    ∷ Back (Slot 1 ∷ Slot 2 ∷ []) ∷ Wrong ∷ []

-- fn mixed(n: int) -> (int, int, int, [int]) { let a, l = two(n); return a, n * 2, 1, l; }: only n * 2 is worked out for the return
abbrev pub mixed_code : List Instruction
mixed_code =
    SkipZero (Slot 1) 1 ∷ Fetch 0 (Slot 0) ∷ Load 1 (Slot 0) ∷ Enter 0 1 1 2 ∷ Two Mul 3 (Slot 0) (Const (pos 2))
    ∷ Back (Slot 1 ∷ Slot 3 ∷ Const (pos 1) ∷ Slot 2 ∷ []) ∷ Wrong ∷ []

-- let a, b, c, d = mixed(4); print b; return a + d[c];
abbrev pub mixed_called_code : List Instruction
mixed_called_code =
    Load 0 (Const (pos 4)) ∷ Enter 1 0 0 4 ∷ Show (Slot 1) ∷ Two ItemAt 4 (Slot 3) (Slot 2) ∷ Two Add 4 (Slot 0) (Slot 4)
    ∷ Back (Slot 4 ∷ []) ∷ Wrong ∷ []

-- return parts(17, 5);, where one result is taken: no checker allows it
abbrev pub one_of_two : Script
one_of_two = script_of (parts ∷ []) (give (Call (codes "parts") (each (number 17 ∷ number 5 ∷ []))) ∷ [])

-- Steps

-- on these answers main stops after so many steps since the last one
abbrev pub MainHas : Script → List Outcome → ℕ → Type 0
MainHas script answers steps = HasSteps script main_birth (object 1 1) answers steps

-- a task of sq does
abbrev pub SquaringHas : List Argument → List Outcome → ℕ → Type 0
SquaringHas args answers steps = HasSteps square (Task (codes "sq") args 1 3 0) (object 2 1) answers steps

-- return (1 / 0) + (2 + 3);
abbrev pub trap_before_sum : Script
trap_before_sum = just (Binary Add (Binary Div (number 1) (number 0)) (Binary Add (number 2) (number 3)))

-- return (2 + 3) + (1 / 0);
abbrev pub trap_behind_sum : Script
trap_behind_sum = just (Binary Add (Binary Add (number 2) (number 3)) (Binary Div (number 1) (number 0)))
