-- What `raysim serial` says of a script.
use Rattle.std.specs.Prelude.{ℕ, List, ◌++◌, Some}
use Rattle.meaning.specs.Values.{Value, Outcome, first_outcome}
use Rattle.meaning.specs.Syntax.{Script}
use Rattle.meaning.specs.Runs.{serial_end, serial_trace}
use Rattle.meaning.specs.Meaning.{serial_run}
use Rattle.meaning.specs.Law.{prints_of}
use Rattle.report.specs.MainLines.{print_lines, end_line}
use Rattle.report_text.specs.of_report_lines.Main.{status}

-- what main prints, where every remote call is a plain call
abbrev pub serial_prints : Script → List Value
serial_prints script = prints_of (serial_trace (serial_run script))

-- and how it ends: main has one result
abbrev pub serial_outcome : Script → Outcome
serial_outcome script = first_outcome (serial_end (serial_run script))

-- a line for each print, and the line of its end
abbrev pub serial_report : Script → List ℕ
serial_report script = print_lines (serial_prints script) ++ end_line (serial_outcome script)

-- 0 for a value, 1 for a trap
abbrev pub serial_status : Script → ℕ
serial_status script = status (Some (serial_outcome script))
