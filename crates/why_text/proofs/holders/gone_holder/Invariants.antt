use Rattle.std.proofs.Common.{◌≡◌, drop}
use Rattle.std.specs.List.{flat_map}
use Rattle.event_log.specs.Words.{births}
use Rattle.report_text.specs.of_report_lines.Main.{first}
use Rattle.log_words.specs.Index.{IsIndexOf}
use Rattle.why_text.specs.Holders.{gone_in}
use Rattle.why_text.proofs.holders.gone_holder.Given as goal

abbrev pub invariant-loop-entry : goal.invariant-loop-entry
invariant-loop-entry l =
    IsIndexOf l.index l.log →
    first (flat_map (gone_in (births l.log) l.lines l.before l.object) l.before)
    ≡ first (flat_map (gone_in (births l.log) l.lines l.before l.object) (drop l.entry-index l.before))
