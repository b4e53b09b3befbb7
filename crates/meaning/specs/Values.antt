-- What a script computes with.
use Rattle.std.specs.Prelude.{ℕ, Bool, List, [], ◌∷◌, ℤ, zero, suc, ◌+◌, Option, Some, None}

-- a name is its bytes
abbrev pub Name : Type 0
Name = List ℕ

-- the id of an object: its owner and its number there
pub record Id : Type 0 where
  pub owner : ℕ
  pub serial : ℕ

pub data Trap : Type 0 where
  Overflow : Trap
  DivZero : Trap
  Index : Trap
  TooLong : Trap
  Loop : Trap
  TooDeep : Trap
  -- an operand of the wrong kind, which a checked script never meets
  Broken : Trap

-- a reference is an id while a script runs in pieces, and the outcome itself in the serial run
mutual
  pub data Value : Type 0 where
    Int : (n : ℤ) → Value
    Items : (vs : Values) → Value
    Named : (o : Id) → Value
    Known : (c : Outcome) → Value

  pub data Values : Type 0 where
    none : Values
    more : (v : Value) (vs : Values) → Values

  -- what a result of a call is
  pub data Outcome : Type 0 where
    Val : (v : Value) → Outcome
    Trapped : (t : Trap) → Outcome

-- an argument of a remote call, and whether it is dereferenced before the body
pub record Argument : Type 0 where
  pub value : Value
  pub marked : Bool

-- what makes objects: a value that is put, or a call, with how many results it has beside the first
pub data Birth : Type 0 where
  Put : (v : Value) → Birth
  Task : (g : Name) (args : List Argument) (depth retries others : ℕ) → Birth

-- how many results it has beside the first; a put has one
abbrev pub others_of : Birth → ℕ
others_of (Put v) = 0
others_of (Task g args depth retries others) = others

-- how many objects a birth makes
abbrev pub results_of : Birth → ℕ
results_of b = suc (others_of b)

-- how a run ends: with its results, or in a trap, which is the outcome of each result
pub data Completion : Type 0 where
  Returned : (vs : List Value) → Completion
  Aborted : (t : Trap) → Completion

-- the outcome of the first result; where there is none, a trap that a checked script never meets
abbrev pub first_outcome : Completion → Outcome
first_outcome (Returned []) = Trapped Broken
first_outcome (Returned (v ∷ vs)) = Val v
first_outcome (Aborted t) = Trapped t

-- the same without the first result
abbrev pub without_first : Completion → Completion
without_first (Returned []) = Returned []
without_first (Returned (v ∷ vs)) = Returned vs
without_first (Aborted t) = Aborted t

-- the outcomes of so many results; those of further values are dropped
abbrev pub outcomes : ℕ → Completion → List Outcome
outcomes zero e = []
outcomes (suc n) e = first_outcome e ∷ outcomes n (without_first e)

-- the outcome of one result, counted from 0
abbrev pub outcome_at : ℕ → Completion → Outcome
outcome_at zero e = first_outcome e
outcome_at (suc i) e = outcome_at i (without_first e)

-- `main`
abbrev pub main_name : Name
main_name = 109 ∷ 97 ∷ 105 ∷ 110 ∷ []

-- main is a task with no arguments, at depth 0, that is run once and has one result
abbrev pub main_birth : Birth
main_birth = Task main_name [] 0 0 0

-- the items of a list
abbrev pub list_of : Values → List Value
list_of none = []
list_of (more v vs) = v ∷ list_of vs

abbrev pub values_of : List Value → Values
values_of [] = none
values_of (v ∷ vs) = more v (values_of vs)

abbrev pub count : Values → ℕ
count none = 0
count (more v vs) = count vs + 1

abbrev pub item_at : Values → ℕ → Option Value
item_at none i = None
item_at (more v vs) zero = Some v
item_at (more v vs) (suc i) = item_at vs i

abbrev pub push_onto : Values → Value → Values
push_onto none w = more w none
push_onto (more v vs) w = more v (push_onto vs w)
