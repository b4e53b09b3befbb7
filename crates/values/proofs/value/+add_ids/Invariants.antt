use Rattle.std.proofs.Common.{◌≡◌, take}
use Rattle.values.specs.Listed.{adding}
use Rattle.values.proofs.ListedLaws.{ids_of_items}
use Rattle.values.proofs.value.+add_ids.Given as goal

abbrev pub invariant-loop-item : goal.invariant-loop-item
invariant-loop-item l = l.found.items ≡ adding l.initial.found.items (ids_of_items (take l.item-index l.item-items))
