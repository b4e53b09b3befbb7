use Rattle.std.proofs.Common.{◌≡◌, drop}
use Rattle.std.specs.List.{list_any}
use Rattle.summary_text.specs.Columns.{born_in}
use Rattle.summary_text.proofs.functions.is_named_among.Given as goal

abbrev pub invariant-loop-entry : goal.invariant-loop-entry
invariant-loop-entry l = list_any (born_in l.function) l.entries ≡ list_any (born_in l.function) (drop l.entry-index l.entries)
