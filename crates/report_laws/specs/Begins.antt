-- What it means that a text begins as what `raysim serial` writes of the script.
use Rattle.std.specs.Prelude.{◌≡◌, ◌⊎◌, ℕ, List, ◌++◌, Option, Some, None}
use Rattle.meaning.specs.Lists.{IsFirst}
use Rattle.meaning.specs.Values.{Value, Id}
use Rattle.meaning.specs.Syntax.{Script}
use Rattle.event_log.specs.Entries.{Fault, Entry}
use Rattle.event_log.specs.Serial.{IsCaused}
use Rattle.report.specs.MainLines.{print_lines}
use Rattle.report_text.specs.of_report_lines.Main.{unended_line}
use Rattle.report_laws.specs.Serial.{serial_prints, serial_report, serial_status}

-- Read aloud: A run's report begins as the output of `serial`. Where main ended, the report begins with the whole of that output, byte for
-- byte, and the status is the one of `serial`. Where it didn't, the report begins with the lines of some prints, which are the first
-- prints of the serial run, and then says `main open`, or `main fault` with a fault whose cause stands before it in the log; the status
-- is 2. There is no third case.

-- the text begins with these bytes
abbrev pub BeginsWith : List ℕ → List ℕ → Type 0
BeginsWith text first = (rest : List ℕ) × (text ≡ first ++ rest)

-- if main has a fault: a get of it was answered with that fault, and its cause stands before that in the log
abbrev pub HasCause : List Entry → Option Fault → Type 0
HasCause log None = Unit {0}
HasCause log (Some f) = (o : Id) × IsCaused log (record { object = o; fault = f })

-- main didn't end: first prints of the serial run, and its fault, if it has one, with its cause, are said so
pub record IsPart (IsSaid : List Value → Option Fault → Type 0) (script : Script) (log : List Entry) : Type 0 where
  pub prints : List Value
  pub fault : Option Fault
  pub said : IsSaid prints fault
  pub first : IsFirst prints (serial_prints script)
  pub cause : HasCause log fault

-- the whole of the serial run is said, with its status; or a part of it is said so, with status 2
abbrev pub IsAsSerial : Type 0 → (List Value → Option Fault → Type 0) → Script → List Entry → ℕ → Type 0
IsAsSerial IsWhole IsSaid script log status = (IsWhole × (status ≡ serial_status script)) ⊎ (IsPart IsSaid script log × (status ≡ 2))

-- the whole output of the serial run; or prints line by line, and then that main is open, or its fault
abbrev pub BeginsAsSerial : Script → List Entry → List ℕ → ℕ → Type 0
BeginsAsSerial script log text = IsAsSerial (BeginsWith text (serial_report script)) (λ p f. BeginsWith text (print_lines p ++ unended_line f)) script log
