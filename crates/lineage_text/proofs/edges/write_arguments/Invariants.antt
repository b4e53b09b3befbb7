use Rattle.std.proofs.Common.{◌≡◌, ◌++◌, string_bytes, take, map}
use Rattle.std.specs.List.{flat_map}
use Rattle.task_spec.specs.Births.{argument_of}
use Rattle.lineage_text.specs.Edges.{argument_edges}
use Rattle.lineage_text.proofs.edges.write_arguments.Given as goal

abbrev pub invariant-loop-argument : goal.invariant-loop-argument
invariant-loop-argument l =
    string_bytes l.text ≡ string_bytes l.fn.text ++ flat_map (argument_edges l.to) (map argument_of (take l.argument-index l.arguments))
