use Rattle.std.proofs.Common.{◌≡◌, drop}
use Rattle.std.specs.List.{filter}
use Rattle.report_text.specs.of_report_lines.Main.{first}
use Rattle.why_text.specs.Holders.{is_gone}
use Rattle.why_text.proofs.holders.first_gone.Given as goal

abbrev pub invariant-loop-holder : goal.invariant-loop-holder
invariant-loop-holder l =
    first (filter (is_gone l.lines l.before) l.holders) ≡ first (filter (is_gone l.lines l.before) (drop l.holder-index l.holders))
