use Rattle.std.proofs.Common.{arith, sym}
use Rattle.indexmap.specs.IndexMap.{values}
use Rattle.protocol_data.proofs.Searches.{both_stay, none_behind, one_more_stays}
use Rattle.protocol_data.proofs.Serials.{length_of_values}
use Rattle.protocol_data.proofs.search.first_to_go.Goals as goal

pub loop-turn-preserved : goal.loop-turn-preserved
loop-turn-preserved c = (
  one_more_stays _ _ _ _ _ _ c.loop-turn.invariant.0 (c.next_unsure-next.ensures.stay _ c.requires) c.index.ensures (sym c.if-not-stays.ensures),
  omega (arith, c.loop-turn.invariant.1, c.next_unsure-next.ensures.on),
  omega (arith, c.loop-turn.invariant.2, c.next_unsure-next.ensures.on),
)

pub returns-clause-goes : goal.returns-clause-goes
returns-clause-goes c =
    none_behind (values c.args.rows.now) c.loop-turn.place c.args.going_on.now
    (omega (arith, c.loop-turn.invariant.2, c.loop-turn-test.false, c.len-count.ensures.len, length_of_values c.args.rows.now))

pub returns-then-not-stays-clause-stay : goal.returns-then-not-stays-clause-stay
returns-then-not-stays-clause-stay c =
    both_stay (values c.args.rows.now) _ _ _ _ c.loop-turn.invariant.0 (c.next_unsure-next.ensures.stay _ c.requires)
