use Rattle.std.proofs.Common.{◌≡◌, not, take}
use Rattle.std.specs.List.{filter}
use Rattle.meaning.specs.Births.{same_id}
use Rattle.endpoint_text.proofs.copies.without.Given as goal

abbrev pub invariant-loop-item : goal.invariant-loop-item
invariant-loop-item l = l.kept.items ≡ filter (λ p. not (same_id p l.object)) (take l.item-index l.objects)
