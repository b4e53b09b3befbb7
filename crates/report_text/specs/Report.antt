-- The report of a log, section by section.
use Rattle.std.specs.Prelude.{ℕ, List, None, ◌++◌}
use Rattle.std.specs.List.{flat_map}
use Rattle.report_lines.specs.of_event_log.Entries.{Entry}
use Rattle.report_lines.specs.Main.{print_in, main_line, main_end, main_fault}
use Rattle.report_lines.specs.Attempts.{attempt_in}
use Rattle.report_lines.specs.Objects.{resolve_in, release_in}
use Rattle.report_lines.specs.Refusals.{refused_lines}

-- six sections, each in the order of the log
abbrev pub report_text : List Entry → List ℕ
report_text log =
    flat_map print_in log
    ++ (main_line (main_end log) (main_fault log)
    ++ (flat_map (attempt_in log) log
    ++ (flat_map resolve_in log
    ++ (flat_map release_in log
    ++ refused_lines None log))))
