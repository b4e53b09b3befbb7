-- What ids stand for.
use Rattle.std.specs.Prelude.{◌≡◌, ◌-◌, true, pos, if◌then◌else◌, List, [], ◌∷◌, ◌++◌, map, Some, None}
use Rattle.meaning.specs.Values.{Value, Int, Items, Named, Known, Values, none, more, Outcome, Val, Trapped, Argument, Birth, Put, Task, results_of, Completion}
use Rattle.meaning.specs.Values.{Returned, Aborted, outcomes, outcome_at, Id}
use Rattle.meaning.specs.Syntax.{Script}
use Rattle.meaning.specs.Runs.{serial_end, ids_from, behind}
use Rattle.meaning.specs.Births.{Bearing, Part, is_made_by, part_at}
use Rattle.meaning.specs.Ids.{BirthIn}
use Rattle.meaning.specs.Meaning.{run_birth}

-- a reading gives each id an outcome
abbrev pub Reading : Type 0
Reading = Id → Outcome

-- a value is read by putting a reference to the outcome in the place of each id
module _ (reading : Reading) where
  abbrev mutual
    pub read : Value → Value
    read (Int n) = Int n
    read (Items vs) = Items (read_items vs)
    read (Named o) = Known (reading o)
    read (Known c) = Known c

    pub read_items : Values → Values
    read_items none = none
    read_items (more v vs) = more (read v) (read_items vs)

  abbrev pub read_outcome : Outcome → Outcome
  read_outcome (Val v) = Val (read v)
  read_outcome (Trapped t) = Trapped t

  abbrev pub read_completion : Completion → Completion
  read_completion (Returned vs) = Returned (map read vs)
  read_completion (Aborted t) = Aborted t

  abbrev pub read_argument : Argument → Argument
  read_argument a = record { value = read a.value; marked = a.marked }

  abbrev pub read_birth : Birth → Birth
  read_birth (Put v) = Put (read v)
  read_birth (Task g args depth retries others) = Task g (map read_argument args) depth retries others

  -- how the run of a birth as read ends
  abbrev pub end_under : Script → Birth → Completion
  end_under script b = serial_end (run_birth script (read_birth b))

  -- the births, which take ids from the base on, hold: the outcomes of the ids of each are those of what it makes as read
  abbrev pub BirthsHold : Script → Id → List Birth → Type 0
  BirthsHold script base [] = Unit {0}
  BirthsHold script base (b ∷ bs) =
      (map reading (ids_from base (results_of b)) ≡ outcomes (results_of b) (end_under script b)) × BirthsHold script (behind base b) bs

-- what one result of a birth as read is
abbrev pub outcome_under : Script → Reading → Part → Outcome
outcome_under script reading p = outcome_at p.place (end_under reading script p.born.birth)

-- all births of the list hold
abbrev pub AllHold : Script → Reading → List Bearing → Type 0
AllHold script reading xs = (o : Id) (p : Part) → part_at xs o ≡ Some p → reading o ≡ outcome_under script reading p

-- the object is a result of one of the births
abbrev pub IsBorn : List Bearing → Id → Type 0
IsBorn bs o = (p : Part) × (part_at bs o ≡ Some p)

-- each birth that comes is of new objects, and names only objects born before it
abbrev pub NameEarlier : List Bearing → List Bearing → Type 0
NameEarlier before [] = Unit {0}
NameEarlier before (x ∷ xs) =
    ((o : Id) → is_made_by x o ≡ true → part_at before o ≡ None) × BirthIn (IsBorn before) x.birth × NameEarlier (before ++ x ∷ []) xs

-- each object of the birth stands for its result
abbrev pub with_outcomes : Reading → Bearing → Completion → Reading
with_outcomes reading x e = λ o. if is_made_by x o then outcome_at (o.serial - x.object.serial) e else reading o

abbrev pub den_from : Script → Reading → List Bearing → Reading
den_from script reading [] = reading
den_from script reading (x ∷ xs) = den_from script (with_outcomes reading x (end_under reading script x.birth)) xs

-- the reading of births, oldest first; all other ids stand for 0
abbrev pub den : Script → List Bearing → Reading
den script xs = den_from script (λ o. Val (Int (pos 0))) xs

-- where births are of new objects and name only earlier ones, it is the one reading under which all hold and all other ids stand for 0
abbrev pub DenIsTheReading : Type 0
DenIsTheReading =
    (script : Script) (bs : List Bearing) → NameEarlier [] bs →
    AllHold script (den script bs) bs
    × ((o : Id) → part_at bs o ≡ None → den script bs o ≡ Val (Int (pos 0)))
    × ((r : Reading) → AllHold script r bs → ((o : Id) → part_at bs o ≡ None → r o ≡ Val (Int (pos 0))) → (o : Id) → r o ≡ den script bs o)
