use Rattle.std.proofs.Common.{◌≡◌, ◌++◌, string_bytes, take}
use Rattle.std.specs.List.{flat_map}
use Rattle.lineage_text.specs.Edges.{named_edge}
use Rattle.lineage_text.proofs.edges.write_named_edges.Given as goal

abbrev pub invariant-loop-object : goal.invariant-loop-object
invariant-loop-object l = string_bytes l.text ≡ string_bytes l.fn.text ++ flat_map (named_edge l.from) (take l.object-index l.to)
