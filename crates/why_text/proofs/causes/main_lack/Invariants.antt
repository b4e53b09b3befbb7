use Rattle.std.proofs.Common.{◌≡◌, drop}
use Rattle.event_log.specs.Entries.{main_attempt}
use Rattle.event_log.specs.Words.{faults_of}
use Rattle.report_text.specs.of_report_lines.Main.{first}
use Rattle.why_text.proofs.causes.main_lack.Given as goal

abbrev pub invariant-loop-entry : goal.invariant-loop-entry
invariant-loop-entry l = first (faults_of main_attempt l.log) ≡ first (faults_of main_attempt (drop l.entry-index l.log))
