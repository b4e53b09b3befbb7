use Rattle.std.proofs.Common.{◌≡◌, ◌++◌, string_bytes, take}
use Rattle.std.specs.List.{flat_map}
use Rattle.lineage_text.specs.Attempts.{fault_edge}
use Rattle.lineage_text.proofs.attempts.write_fault_edges.Given as goal

abbrev pub invariant-loop-object : goal.invariant-loop-object
invariant-loop-object l = string_bytes l.text ≡ string_bytes l.fn.text ++ flat_map (fault_edge l.attempt l.fault) (take l.object-index l.objects)
