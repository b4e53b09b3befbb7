use Rattle.std.proofs.Common.{ap, arith, sym, ◌∙◌}
use Rattle.protocol_data.specs.Going.{may_go}
use Rattle.protocol_data.proofs.Going.{none_further, none_so, there_within}
use Rattle.protocol_data.proofs.workers.next_going.Goals as goal

pub loop-turn-init : goal.loop-turn-init
loop-turn-init c = (
  c.next-place.ensures.on,
  c.next-place.ensures.on,
  none_so may_go c.args.marks.now c.args.rows.now c.args.from c.next-place.result c.requires c.next-place.ensures.down,
)

pub returns-then-place-len-clause-goes : goal.returns-then-place-len-clause-goes
returns-then-place-len-clause-goes c x g =
    absurd (omega (arith, there_within c.args.rows.now c.loop-turn.place x g, c.if-place-len.true, c.len.ensures))

pub loop-turn-preserved : goal.loop-turn-preserved
loop-turn-preserved c =
    let on = c.next-place-in-loop-turn.ensures.on in (
      omega (arith, c.loop-turn.invariant.0, on),
      omega (arith, c.loop-turn.invariant.1, on),
      none_further may_go c.args.marks.now c.args.rows.now c.args.from c.loop-turn.place c.next-place-in-loop-turn.result c.get.result.now c.requires
          c.loop-turn.invariant.2 c.get.ensures (sym (c.may_go.ensures ∙ ap may_go c.deref.ensures) ∙ c.if-may_go.false) c.next-place-in-loop-turn.ensures.down,
    )

pub returns-clause-goes : goal.returns-clause-goes
returns-clause-goes c x g =
    absurd (omega (arith, there_within c.args.rows.now c.loop-turn.place x g, c.loop-turn.invariant.1, c.loop-turn-test.false, c.len-turn-end.ensures))
