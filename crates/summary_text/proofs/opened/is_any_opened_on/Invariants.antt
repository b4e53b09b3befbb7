use Rattle.std.proofs.Common.{◌≡◌, drop}
use Rattle.std.specs.List.{list_any}
use Rattle.summary_text.specs.Opened.{is_opened_on}
use Rattle.summary_text.proofs.opened.is_any_opened_on.Given as goal

abbrev pub invariant-loop-entry : goal.invariant-loop-entry
invariant-loop-entry l = list_any (is_opened_on l.node) l.entries ≡ list_any (is_opened_on l.node) (drop l.entry-index l.entries)
