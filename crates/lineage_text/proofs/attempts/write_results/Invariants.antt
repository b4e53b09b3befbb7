use Rattle.std.proofs.Common.{◌≡◌, ◌++◌, string_bytes, take}
use Rattle.std.specs.List.{flat_map}
use Rattle.lineage_text.specs.Attempts.{result_edges}
use Rattle.lineage_text.proofs.attempts.write_results.Given as goal

abbrev pub invariant-loop-object : goal.invariant-loop-object
invariant-loop-object l =
    string_bytes l.text ≡ string_bytes l.fn.text ++ flat_map (result_edges l.contents l.attempt l.results) (take l.object-index l.objects)
