use Rattle.std.proofs.Common.{◌≡◌, ◌++◌, string_bytes, take}
use Rattle.std.specs.List.{flat_map}
use Rattle.log_words.specs.Index.{IsIndexOf}
use Rattle.endpoint_text.specs.Nodes.{broken_in, seen_of}
use Rattle.endpoint_text.proofs.nodes.write_broken_lines.Given as goal

abbrev pub invariant-loop-entry : goal.invariant-loop-entry
invariant-loop-entry l =
    IsIndexOf l.index l.log → string_bytes l.text ≡ string_bytes l.fn.text ++ flat_map (broken_in l.log (seen_of l.site)) (take l.entry-index l.log)
