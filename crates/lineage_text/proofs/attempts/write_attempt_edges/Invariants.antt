use Rattle.std.proofs.Common.{◌≡◌, ◌++◌, string_bytes, take}
use Rattle.std.specs.List.{flat_map}
use Rattle.lineage_text.specs.Attempts.{attempt_edge}
use Rattle.lineage_text.proofs.attempts.write_attempt_edges.Given as goal

abbrev pub invariant-loop-object : goal.invariant-loop-object
invariant-loop-object l = string_bytes l.text ≡ string_bytes l.fn.text ++ flat_map (attempt_edge l.attempt) (take l.object-index l.objects)
