use Rattle.std.proofs.Common.{◌≡◌, drop}
use Rattle.std.specs.List.{flat_map}
use Rattle.report_text.specs.of_report_lines.Main.{first}
use Rattle.main_text.specs.Traps.{trap_in_outcome}
use Rattle.main_text.proofs.traps.trap_among.Given as goal

abbrev pub invariant-loop-content : goal.invariant-loop-content
invariant-loop-content l = first (flat_map trap_in_outcome l.contents) ≡ first (flat_map trap_in_outcome (drop l.content-index l.contents))
