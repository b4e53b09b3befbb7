-- A legal log reads as the serial run.
use Rattle.std.specs.Prelude.{List}
use Rattle.event_log.specs.Entries.{Entry}
use Rattle.event_log.specs.Rules.{Setting}
use Rattle.event_log.specs.Legal.{Legal}
use Rattle.event_log.specs.Serial.{ReadsAsSerial, MainBegins}

-- beside every script, cluster and network, of every legal log
abbrev pub LegalLogsReadAsSerial : Type 0
LegalLogsReadAsSerial = (s : Setting) (log : List Entry) → Legal s log → ReadsAsSerial s.script log

-- what main has been answered and has printed begins what it is answered and prints when every remote call is a plain call;
-- only a last answer may differ, a fault, whose cause stands earlier in the log; and where main ended, it is the whole
abbrev pub MainBeginsTheSerialRun : Type 0
MainBeginsTheSerialRun = (s : Setting) (log : List Entry) → Legal s log → MainBegins s.script log
