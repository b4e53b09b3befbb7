use Rattle.std.proofs.Common.{Some, ap, sym, ◌∙◌, arith}
use Rattle.settling.proofs.Places.{none_ready_further, none_ready_there, readies_on, ready_there}
use Rattle.settling.proofs.claims.first_ready.Goals as goal

pub returns-then-next-count : goal.returns-then-next-count
returns-then-next-count c =
    let whole = c.args.whole.now in
    sym
    (sym c.loop-turn.invariant.0
    ∙ readies_on whole c.args.but.now whole.workers c.loop-turn.place c.next-next.result c.next-next.ensures.on c.next-next.ensures.rest
    ∙ none_ready_further whole c.args.but.now c.next-next.result whole.workers (omega arith))

pub returns-in-Some : goal.returns-in-Some
returns-in-Some c =
    let whole = c.args.whole.now in
    ap Some c.in-Some.ensures.found.0
    ∙ sym (ready_there whole c.args.but.now c.next-next.result whole.workers c.deref.result.now (c.get.ensures ∙ ap Some (sym c.deref.ensures)) c.in-Some.ensures.found.1)
    ∙ sym (readies_on whole c.args.but.now whole.workers c.loop-turn.place c.next-next.result c.next-next.ensures.on c.next-next.ensures.rest)
    ∙ c.loop-turn.invariant.0

pub loop-turn-preserved : goal.loop-turn-preserved
loop-turn-preserved c =
    let whole = c.args.whole.now in (
      sym (none_ready_there whole c.args.but.now c.next-next.result whole.workers c.deref.result.now (c.get.ensures ∙ ap Some (sym c.deref.ensures)) c.in_default.ensures.none)
          ∙ sym (readies_on whole c.args.but.now whole.workers c.loop-turn.place c.next-next.result c.next-next.ensures.on c.next-next.ensures.rest)
          ∙ c.loop-turn.invariant.0,
      omega arith,
    )
