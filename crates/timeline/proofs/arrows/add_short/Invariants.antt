use Rattle.std.proofs.Common.{◌≡◌, ◌++◌, map, take}
use Rattle.serde_json.specs.View.{view}
use Rattle.timeline.specs.Arrows.{short_data}
use Rattle.timeline.proofs.arrows.add_short.Given as goal

abbrev pub invariant-loop-endpoint : goal.invariant-loop-endpoint
invariant-loop-endpoint l = map view l.all.items ≡ map view l.fn.all.items ++ map (short_data l.name l.rows l.clock) (take l.endpoint-index l.endpoints)
