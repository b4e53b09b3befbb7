use Rattle.std.proofs.Common.{◌≡◌, ◌++◌, string_bytes, take}
use Rattle.std.specs.List.{flat_map}
use Rattle.lineage_text.specs.Entries.{lineage_in}
use Rattle.lineage_text.proofs.text.write_each.Given as goal

abbrev pub invariant-loop-entry : goal.invariant-loop-entry
invariant-loop-entry l = string_bytes l.text ≡ string_bytes l.fn.text ++ flat_map (lineage_in l.contents l.log) (take l.entry-index l.log)
