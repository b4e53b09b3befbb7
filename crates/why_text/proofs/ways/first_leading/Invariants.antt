use Rattle.std.proofs.Common.{◌≡◌, drop}
use Rattle.std.specs.List.{filter}
use Rattle.report_text.specs.of_report_lines.Main.{first}
use Rattle.why_text.specs.Ways.{leads}
use Rattle.why_text.proofs.ways.first_leading.Given as goal

abbrev pub invariant-loop-object : goal.invariant-loop-object
invariant-loop-object l =
    first (filter (leads l.cause l.found) l.objects) ≡ first (filter (leads l.cause l.found) (drop l.object-index l.objects))
