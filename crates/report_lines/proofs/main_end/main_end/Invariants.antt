use Rattle.std.proofs.Common.{◌≡◌, drop}
use Rattle.report_lines.specs.Main.{main_end}
use Rattle.report_lines.proofs.main_end.main_end.Given as goal

abbrev pub invariant-loop-entry : goal.invariant-loop-entry
invariant-loop-entry l = main_end l.log ≡ main_end (drop l.entry-index l.log)
