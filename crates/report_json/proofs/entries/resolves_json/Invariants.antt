use Rattle.std.proofs.Common.{◌≡◌, map, take}
use Rattle.std.specs.List.{flat_map}
use Rattle.serde_json.specs.View.{view}
use Rattle.report_json.specs.Objects.{resolve_in}
use Rattle.report_json.proofs.entries.resolves_json.Given as goal

abbrev pub invariant-loop-entry : goal.invariant-loop-entry
invariant-loop-entry l = map view l.all.items ≡ flat_map resolve_in (take l.entry-index l.log)
