-- The same of a report as JSON.
use Rattle.std.specs.Prelude.{◌≡◌, ℕ, List, ◌++◌, Option, Some, None, map, codes}
use Rattle.serde_json.specs.Data.{Data, array}
use Rattle.serde_json.specs.Find.{get}
use Rattle.serde_json.specs.View.{items_of}
use Rattle.serde_json.specs.Written.{compact_text}
use Rattle.meaning.specs.Values.{Value, Outcome}
use Rattle.meaning.specs.Syntax.{Script}
use Rattle.event_log.specs.Entries.{Fault, Entry}
use Rattle.report_json.specs.Values.{value_data}
use Rattle.report_json.specs.Main.{main_data}
use Rattle.report_laws.specs.Serial.{serial_prints, serial_outcome}
use Rattle.report_laws.specs.Begins.{IsAsSerial}

-- Read aloud: The line is a JSON document. Where main ended, its member `prints` has all that main prints in the serial run, its member
-- `main` says how main ends there, and the status is the one of `serial`. Where it didn't, `prints` has first prints of the serial run,
-- and `main` says that main is open, or its fault, whose cause stands before it in the log; the status is 2.

-- the text is a document, which says of main these prints, and this end, or this fault where there is no end
pub record SaysOfMain (text : List ℕ) (printed : List Value) (ended : Option Outcome) (fault : Option Fault) : Type 0 where
  pub document : Data
  pub written : text ≡ compact_text document ++ codes "\n"
  pub prints : get (codes "prints") document ≡ Some (array (items_of (map value_data printed)))
  pub main : get (codes "main") document ≡ Some (main_data ended fault)

-- all prints of the serial run and its end; or first prints, and that main is open, or its fault
abbrev pub SaysAsSerial : Script → List Entry → List ℕ → ℕ → Type 0
SaysAsSerial script log text = IsAsSerial (SaysOfMain text (serial_prints script) (Some (serial_outcome script)) None) (λ p. SaysOfMain text p None) script log
