-- What an attempt of a legal log did so far begins what its task does on its answers.
use Rattle.std.specs.Prelude.{◌≡◌, List, [], ◌∷◌, Some}
use Rattle.event_log.specs.Entries.{Attempt, Entry}
use Rattle.event_log.specs.Legal.{Legal}
use Rattle.event_log.specs.Rules.{Setting}
use Rattle.event_log.specs.Words.{answers_of, births, own_births, printed_by}
use Rattle.meaning.specs.Births.{birth_at, numbered}
use Rattle.meaning.specs.Kinds.{AnswersFit, IsBirthOf, ScriptChecks}
use Rattle.meaning.specs.Lists.{IsFirst}
use Rattle.meaning.specs.Meaning.{replay, run_birth}
use Rattle.meaning.specs.Syntax.{Number, Script}
use Rattle.meaning.specs.Values.{Birth, Id, main_birth}

-- of an attempt of a task, whose births are numbered from the base on
pub record IsInStep (script : Script) (log : List Entry) (a : Attempt) (spec : Birth) (base : Id) (bs : List Birth) : Type 0 where
  -- what it bore and what it printed begin the replay on its answers
  pub births : IsFirst bs (replay script spec base (answers_of a log)).births
  pub prints : IsFirst (printed_by a log) (replay script spec base (answers_of a log)).prints
  -- its answers are of the kinds that its task asks for
  pub fit : AnswersFit (run_birth script spec) base (answers_of a log)

-- each attempt of a legal log is in step, where the script's functions are allowed, and main has no parameters and gives a number
abbrev pub KeepsPace : Type 0
KeepsPace =
    (s : Setting) (log : List Entry) → ScriptChecks s.script s.script → IsBirthOf s.script main_birth (Number ∷ []) → Legal s log →
    (a : Attempt) (spec : Birth) (base : Id) (bs : List Birth) →
    birth_at (births log) a.object ≡ Some spec → own_births a log ≡ numbered base bs → IsInStep s.script log a spec base bs
