-- What an attempt was answered, and what it means that it begins its serial run.
use Rattle.std.specs.Prelude.{◌≡◌, ℕ, List, [], ◌∷◌, ◌++◌, map, slice_get, Some}
use Rattle.script_laws.specs.of_meaning.Lists.{IsFirst}
use Rattle.script_laws.specs.of_meaning.Values.{Value, Outcome, outcomes, results_of, Birth}
use Rattle.script_laws.specs.of_meaning.Syntax.{Script}
use Rattle.script_laws.specs.of_meaning.Runs.{Run, serial_end, serial_trace}
use Rattle.script_laws.specs.of_meaning.Meaning.{run_birth, serial_run}
use Rattle.script_laws.specs.of_meaning.Births.{birth_at}
use Rattle.script_laws.specs.of_meaning.Readings.{Reading, read, read_outcome, read_birth, den, AllHold, NameEarlier}
use Rattle.script_laws.specs.of_meaning.Law.{gets_of, prints_of}
use Rattle.event_log.specs.Entries.{Attempt, Entry, Faulted, main_attempt}
use Rattle.event_log.specs.Words.{Lack, Received, Content, Lacking, births, answered_of, answers_of, printed_by, ends_of, faults_of}
use Rattle.event_log.specs.Breaks.{Cause}

-- the reading of a log: each id stands for the outcome of its result of the call that made it, or for what was put
abbrev pub reading_of : Script → List Entry → Reading
reading_of script log = den script (births log)

-- what an attempt was answered, in order, its fault last, and what it has printed
pub record Observed : Type 0 where
  pub answers : List Received
  pub prints : List Value

abbrev pub observed : Attempt → List Entry → Observed
observed a log = record { answers = answered_of a log; prints = printed_by a log }

-- the answers as read are a beginning of what the run gets; only a last one may differ, a fault for what the run gets there
abbrev pub AnswersBegin : Reading → List Received → List Outcome → Type 0
AnswersBegin reading [] ds = Unit {0}
AnswersBegin reading (x ∷ xs) [] = ⊥
AnswersBegin reading (Content c ∷ xs) (d ∷ ds) = (d ≡ read_outcome reading c) × AnswersBegin reading xs ds
AnswersBegin reading (Lacking x ∷ xs) (d ∷ ds) = (d ≡ reading x.object) × (xs ≡ [])

-- the attempt's answers and prints are all that the run gets and prints, and the contents are the outcomes of its results
pub record IsWhole (reading : Reading) (log : List Entry) (a : Attempt) (results : ℕ) (run : Run) (cs : List Outcome) : Type 0 where
  pub no_fault : (observed a log).answers ≡ map Content (answers_of a log)
  pub gets : gets_of (serial_trace run) ≡ map (read_outcome reading) (answers_of a log)
  pub prints : prints_of (serial_trace run) ≡ map (read reading) (observed a log).prints
  pub outcome : outcomes results (serial_end run) ≡ map (read_outcome reading) cs

-- what the attempt was answered and has printed, as read, is a beginning of what the run gets and prints, which has so many
-- results; where it ended, the whole
pub record BeginsRun (reading : Reading) (log : List Entry) (a : Attempt) (results : ℕ) (run : Run) : Type 0 where
  pub answers : AnswersBegin reading (observed a log).answers (gets_of (serial_trace run))
  pub prints : IsFirst (map (read reading) (observed a log).prints) (prints_of (serial_trace run))
  pub ended : (k : ℕ) (cs : List Outcome) → slice_get (ends_of a log) k ≡ Some cs → IsWhole reading log a results run cs

-- all births hold under the log's reading, and each attempt begins the run of its own birth as read; main's is the serial run
-- of the script
pub record ReadsAsSerial (script : Script) (log : List Entry) : Type 0 where
  pub earlier : NameEarlier [] (births log)
  pub hold : AllHold script (reading_of script log) (births log)
  pub each :
      (a : Attempt) (spec : Birth) → birth_at (births log) a.object ≡ Some spec →
      BeginsRun (reading_of script log) log a (results_of spec) (run_birth script (read_birth (reading_of script log) spec))
  pub main : BeginsRun (reading_of script log) log main_attempt 1 (serial_run script)

-- a get of main was answered with the fault, and its cause stands before that
pub record IsCaused (log : List Entry) (x : Lack) : Type 0 where
  pub before : List Entry
  pub after : List Entry
  pub parts : log ≡ before ++ Faulted main_attempt x.object x.fault ∷ after
  pub cause : Cause before x.fault

-- main begins the serial run of the script, and each fault that it has is caused
pub record MainBegins (script : Script) (log : List Entry) : Type 0 where
  pub begins : BeginsRun (reading_of script log) log main_attempt 1 (serial_run script)
  pub faults : (k : ℕ) (x : Lack) → slice_get (faults_of main_attempt log) k ≡ Some x → IsCaused log x
