use Rattle.std.proofs.Common.{◌≡◌, drop}
use Rattle.std.specs.List.{flat_map}
use Rattle.report_text.specs.of_report_lines.Main.{first}
use Rattle.why_text.specs.Ways.{lacked_in}
use Rattle.why_text.proofs.ways.lacked.Given as goal

abbrev pub invariant-loop-entry : goal.invariant-loop-entry
invariant-loop-entry l =
    first (flat_map (lacked_in l.cause l.task) l.log) ≡ first (flat_map (lacked_in l.cause l.task) (drop l.entry-index l.log))
