use Rattle.std.proofs.Common.{◌≡◌, take}
use Rattle.run_commands.specs.SimReports.{lines_in_file}
use Rattle.run_commands.proofs.event_lines.lines_in_file.Given as goal

abbrev pub invariant-loop-line : goal.invariant-loop-line
invariant-loop-line l = l.all ≡ lines_in_file l.numbers (take l.line-index l.lines)
