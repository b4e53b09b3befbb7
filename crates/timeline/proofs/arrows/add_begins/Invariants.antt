use Rattle.std.proofs.Common.{◌≡◌, ◌+◌, ◌++◌, map, drop}
use Rattle.serde_json.specs.View.{view}
use Rattle.timeline.specs.Arrows.{arrow_begins}
use Rattle.timeline.proofs.arrows.add_begins.Given as goal

-- the arrows so far with those of the messages that are left, numbered on
abbrev pub invariant-loop-place : goal.invariant-loop-place
invariant-loop-place l =
    map view l.all.items ++ arrow_begins l.arrivals l.rows l.clock (l.before + l.place) (drop l.place l.own)
    ≡ map view l.fn.all.items ++ arrow_begins l.arrivals l.rows l.clock l.before l.own
