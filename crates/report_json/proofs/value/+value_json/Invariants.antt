use Rattle.std.proofs.Common.{◌≡◌, map, take}
use Rattle.serde_json.specs.View.{view}
use Rattle.values.specs.Values.{value_of}
use Rattle.report_json.specs.Values.{value_data}
use Rattle.report_json.proofs.value.+value_json.Given as goal

abbrev pub invariant-loop-item : goal.invariant-loop-item
invariant-loop-item l = map view l.all.items ≡ map (λ v. value_data (value_of v)) (take l.item-index l.item-items)
