-- What is handed to an attempt of a legal log is of the kinds asked for.
use Rattle.std.specs.Prelude.{◌≡◌, List, [], ◌∷◌, ◌++◌, Some}
use Rattle.meaning.specs.Values.{Named, Outcome, Birth, Id, main_birth}
use Rattle.meaning.specs.Syntax.{Kind, Number, Script}
use Rattle.meaning.specs.Runs.{Needs}
use Rattle.meaning.specs.Births.{birth_at}
use Rattle.meaning.specs.Meaning.{run_birth}
use Rattle.meaning.specs.Kinds.{ScriptChecks, IsBirthOf, AnswersFit}
use Rattle.meaning_laws.specs.of_event_log.Entries.{Attempt, Entry}
use Rattle.meaning_laws.specs.of_event_log.Words.{births, answers_of}
use Rattle.meaning_laws.specs.of_event_log.Rules.{Setting, Stops, HasContent}
use Rattle.meaning_laws.specs.of_event_log.Legal.{Legal}

-- the birth makes objects of some kinds
abbrev pub HasKinds : Script → Birth → Type 0
HasKinds script b = (us : List Kind) × IsBirthOf script b us

-- the births of a log have kinds, and with the content of the object that it needs an attempt has answers of the kinds that it
-- asks for
pub record KeepsKinds (s : Setting) (log : List Entry) : Type 0 where
  pub kinds : (o : Id) (b : Birth) → birth_at (births log) o ≡ Some b → HasKinds s.script b
  pub next : (a : Attempt) (y : Id) (c : Outcome) (h : Stops s log a (Needs (Named y))) → HasContent log y c →
      AnswersFit (run_birth s.script h.replays.spec) h.base (answers_of a log ++ c ∷ [])

-- every legal log of a script whose functions are allowed, and whose main has no parameters and gives a number
abbrev pub LegalLogsKeepKinds : Type 0
LegalLogsKeepKinds =
    (s : Setting) (log : List Entry) → ScriptChecks s.script s.script → IsBirthOf s.script main_birth (Number ∷ []) → Legal s log →
    KeepsKinds s log
