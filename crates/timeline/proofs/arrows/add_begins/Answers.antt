use Rattle.std.proofs.Common.{map}
use Rattle.serde_json.specs.View.{view}
use Rattle.timeline.proofs.Beginning.{next_begin}
use Rattle.timeline.proofs.arrows.add_begins.Goals as goal

pub loop-place-preserved : goal.loop-place-preserved
loop-place-preserved c =
    next_begin (map view c.loop-place.all.items) (map view c.add_begin.new.all.items) _ c.args.arrivals.now c.args.rows.now c.args.clock
    c.args.before c.loop-place.place c.args.own.now c.index-own-place.result c.loop-place-test.true c.index-own-place.is c.loop-place.invariant
    c.in_ok-add_begin.ensures
