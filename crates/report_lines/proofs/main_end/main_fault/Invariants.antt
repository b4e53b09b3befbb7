use Rattle.std.proofs.Common.{◌≡◌, drop}
use Rattle.report_lines.specs.Main.{main_fault}
use Rattle.report_lines.proofs.main_end.main_fault.Given as goal

abbrev pub invariant-loop-entry : goal.invariant-loop-entry
invariant-loop-entry l = main_fault l.log ≡ main_fault (drop l.entry-index l.log)
