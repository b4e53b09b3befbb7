use Rattle.std.proofs.Common.{◌≡◌, string_bytes, take}
use Rattle.std.specs.List.{flat_map}
use Rattle.report_text.specs.of_report_lines.Main.{print_in}
use Rattle.run_watch.proofs.prints.prints_text.Given as goal

abbrev pub invariant-loop-entry : goal.invariant-loop-entry
invariant-loop-entry l = string_bytes l.text ≡ flat_map print_in (take l.entry-index l.log)
