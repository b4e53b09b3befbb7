-- The reports of legal logs begin as the serial run.
use Rattle.std.specs.Prelude.{List, ◌++◌, codes}
use Rattle.serde_json.specs.Written.{compact_text}
use Rattle.meaning.specs.Values.{Value}
use Rattle.meaning.specs.Lists.{IsFirst}
use Rattle.meaning.specs.Syntax.{Script}
use Rattle.event_log.specs.Entries.{Entry}
use Rattle.event_log.specs.Rules.{Setting}
use Rattle.event_log.specs.Legal.{Legal}
use Rattle.script_check.specs.Scripts.{IsWellTyped}
use Rattle.report.specs.MainLines.{print_lines}
use Rattle.report_text.specs.of_report_lines.Main.{status_of}
use Rattle.report_text.specs.Report.{report_text}
use Rattle.report_json.specs.Report.{report_data}
use Rattle.report_laws.specs.Begins.{BeginsWith, BeginsAsSerial}
use Rattle.report_laws.specs.Json.{SaysAsSerial}

-- the report of a log, as text and as JSON
pub record AreAsSerial (script : Script) (log : List Entry) : Type 0 where
  pub text : BeginsAsSerial script log (report_text log) (status_of log)
  pub json : SaysAsSerial script log (compact_text (report_data log) ++ codes "\n") (status_of log)

-- of every checked script, beside every cluster and network, of every legal log
abbrev pub ReportsBeginAsSerial : Type 0
ReportsBeginAsSerial = (s : Setting) (log : List Entry) → IsWellTyped s.script → Legal s log → AreAsSerial s.script log

-- the lines of first prints begin the lines of all of them, byte for byte
abbrev pub LinesBegin : Type 0
LinesBegin = (prints all : List Value) → IsFirst prints all → BeginsWith (print_lines all) (print_lines prints)
