-- Arguments, births and answers have the kinds that a checked script asks for.
use Rattle.std.specs.Prelude.{◌≡◌, List, [], ◌∷◌, ◌++◌, map}
use Rattle.meaning.specs.Lists.{IsFirst}
use Rattle.meaning.specs.Values.{Value, Birth, Outcome, Id}
use Rattle.meaning.specs.Syntax.{Kind, Script}
use Rattle.meaning.specs.Runs.{serial_trace, outcome_of, Needs}
use Rattle.meaning.specs.Meaning.{run_birth, replay}
use Rattle.meaning.specs.Kinds.{ScriptChecks, IsBirthOf, AnswersFit}
use Rattle.meaning.specs.Readings.{Reading, read, read_outcome, read_birth, BirthsHold}
use Rattle.meaning.specs.Law.{gets_of}

-- what a birth makes has the kinds, its answers are of the kinds that it asks for, and so is one more that is what it needs
pub record KeepsKinds (script : Script) (reading : Reading) (spec : Birth) (us : List Kind) (base : Id) (answers : List Outcome) : Type 0 where
  pub own : IsBirthOf script spec us
  pub fit : AnswersFit (run_birth script spec) base answers
  pub more :
      (r : Value) (c : Outcome) → (replay script spec base answers).stop ≡ Needs r → outcome_of (read reading r) ≡ read_outcome reading c →
      AnswersFit (run_birth script spec) base (answers ++ c ∷ [])

-- Under every reading under which a birth has kinds as read, and its answers begin what its run as read gets: what it bears
-- has kinds as read, if what it bore before holds; and where all that it bore holds, it keeps kinds.
pub record KindsOf (script : Script) (reading : Reading) (spec : Birth) (us : List Kind) (base : Id) (answers : List Outcome) : Type 0 where
  pub bears :
      (bs : List Birth) (b : Birth) → IsFirst (bs ++ b ∷ []) (replay script spec base answers).births → BirthsHold reading script base bs →
      (ks : List Kind) × IsBirthOf script (read_birth reading b) ks
  pub keeps : BirthsHold reading script base (replay script spec base answers).births → KeepsKinds script reading spec us base answers

abbrev pub LawOfKinds : Type 0
LawOfKinds =
    (script : Script) → ScriptChecks script script → (reading : Reading) (spec : Birth) (us : List Kind) (base : Id) (answers : List Outcome) →
    IsBirthOf script (read_birth reading spec) us →
    IsFirst (map (read_outcome reading) answers) (gets_of (serial_trace (run_birth script (read_birth reading spec)))) →
    KindsOf script reading spec us base answers
