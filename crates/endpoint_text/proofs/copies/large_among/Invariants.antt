use Rattle.std.proofs.Common.{◌≡◌, take}
use Rattle.std.specs.List.{filter}
use Rattle.endpoint_text.specs.Nodes.{is_large_result}
use Rattle.endpoint_text.proofs.copies.large_among.Given as goal

abbrev pub invariant-loop-object : goal.invariant-loop-object
invariant-loop-object l = l.large.items ≡ filter (is_large_result l.attempt l.results) (take l.object-index l.objects)
