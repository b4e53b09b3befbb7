-- The law of replay, and which ids a replay gives.
use Rattle.std.specs.Prelude.{◌≡◌, ℕ, zero, suc, List, [], ◌∷◌, ◌++◌, map, length, Option, Some, None, ◌⊎◌}
use Rattle.meaning.specs.Lists.{IsFirst}
use Rattle.meaning.specs.Values.{Value, Outcome, Completion, outcomes, results_of, Birth, Id}
use Rattle.meaning.specs.Syntax.{Script}
use Rattle.meaning.specs.Runs.{Run, Item, TraceBirth, TraceGet, TracePrint, serial_end, serial_trace, outcome_of, Stop, Needs, Over, Piece}
use Rattle.meaning.specs.Meaning.{run_birth, replay}
use Rattle.meaning.specs.Births.{Bearing, numbered}
use Rattle.meaning.specs.Ids.{BirthIn, StopIn, ValuesIn, StandsInBirth, IsObjectOf, StandsInOutcomes}
use Rattle.meaning.specs.Readings.{Reading, read, read_outcome, read_birth, BirthsHold}

-- what a trace got
abbrev pub gets_of : List Item → List Outcome
gets_of [] = []
gets_of (TraceBirth b ∷ items) = gets_of items
gets_of (TracePrint v ∷ items) = gets_of items
gets_of (TraceGet c ∷ items) = c ∷ gets_of items

-- the trace up to the get after n gets, or the whole where there is none
abbrev pub up_to : ℕ → List Item → List Item
up_to n [] = []
up_to n (TraceBirth b ∷ items) = TraceBirth b ∷ up_to n items
up_to n (TracePrint v ∷ items) = TracePrint v ∷ up_to n items
up_to zero (TraceGet d ∷ items) = []
up_to (suc n) (TraceGet d ∷ items) = TraceGet d ∷ up_to n items

-- what the get after n gets gets
abbrev pub get_after : ℕ → List Item → Option Outcome
get_after n [] = None
get_after n (TraceBirth b ∷ items) = get_after n items
get_after n (TracePrint v ∷ items) = get_after n items
get_after zero (TraceGet d ∷ items) = Some d
get_after (suc n) (TraceGet d ∷ items) = get_after n items

abbrev pub births_of : List Item → List Birth
births_of [] = []
births_of (TraceBirth b ∷ items) = b ∷ births_of items
births_of (TraceGet d ∷ items) = births_of items
births_of (TracePrint v ∷ items) = births_of items

abbrev pub prints_of : List Item → List Value
prints_of [] = []
prints_of (TraceBirth b ∷ items) = prints_of items
prints_of (TraceGet d ∷ items) = prints_of items
prints_of (TracePrint v ∷ items) = v ∷ prints_of items

-- how a piece of a run of so many results stops, beside what the run as read gets next, and how it ends
abbrev pub StopsAs : Reading → ℕ → Stop → Option Outcome → Completion → Type 0
StopsAs reading results (Needs r) next end = next ≡ Some (outcome_of (read reading r))
StopsAs reading results (Over cs) next end = (next ≡ None) × (outcomes results end ≡ map (read_outcome reading) cs)

-- the piece as read is a beginning of the run, which has so many results
pub record Begins (reading : Reading) (results : ℕ) (p : Piece) (n : ℕ) (run : Run) : Type 0 where
  pub births : map (read_birth reading) p.births ≡ births_of (up_to n (serial_trace run))
  pub prints : map (read reading) p.prints ≡ prints_of (up_to n (serial_trace run))
  pub stop : StopsAs reading results p.stop (get_after n (serial_trace run)) (serial_end run)

-- Under every reading under which the births hold and the answers begin what the run as read gets, what a task does on
-- the answers is a beginning of that run: all before its next get, or the whole.
abbrev pub LawOfReplay : Type 0
LawOfReplay =
    (script : Script) (reading : Reading) (spec : Birth) (base : Id) (answers : List Outcome) →
    let p = replay script spec base answers in
    let run = run_birth script (read_birth reading spec) in
    BirthsHold reading script base p.births →
    IsFirst (map (read_outcome reading) answers) (gets_of (serial_trace run)) →
    Begins reading (results_of spec) p (length answers) run

-- the id stands in what makes the task, is one of the objects, or stands in an answer
abbrev pub IsGiven : Birth → List Bearing → List Outcome → Id → Type 0
IsGiven spec objects answers z = StandsInBirth z spec ⊎ IsObjectOf z objects ⊎ StandsInOutcomes z answers

-- a replay gives only such ids: a birth those that it was given or bore before, what it prints, needs and ends with also its own
pub record GivesOnlyGiven (script : Script) (spec : Birth) (base : Id) (answers : List Outcome) : Type 0 where
  pub births : (earlier : List Bearing) (x : Bearing) → IsFirst (earlier ++ x ∷ []) (numbered base (replay script spec base answers).births) →
      BirthIn (IsGiven spec earlier answers) x.birth
  pub prints : ValuesIn (IsGiven spec (numbered base (replay script spec base answers).births) answers) (replay script spec base answers).prints
  pub stop : StopIn (IsGiven spec (numbered base (replay script spec base answers).births) answers) (replay script spec base answers).stop

abbrev pub LawOfIds : Type 0
LawOfIds = (script : Script) (spec : Birth) (base : Id) (answers : List Outcome) → GivesOnlyGiven script spec base answers
