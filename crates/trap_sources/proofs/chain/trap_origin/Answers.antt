use Rattle.std.proofs.Common.{◌-◌, ◌∙◌, sym, arith}
use Rattle.trap_sources.proofs.Following.{next_trapped, none_left, nothing_trapped, own_trapped}
use Rattle.trap_sources.proofs.chain.trap_origin.Goals as goal

pub returns-in_default : goal.returns-in_default
returns-in_default c =
    nothing_trapped c.args.log.now c.loop-left.left (c.loop-left.left - 1) c.loop-left.at _ (omega (arith, c.loop-left-test.true))
    (sym c.in_default.is ∙ c.trapped_of.ensures) c.loop-left.invariant

pub returns-in_default-trap_got : goal.returns-in_default-trap_got
returns-in_default-trap_got c =
    own_trapped c.args.log.now c.loop-left.left (c.loop-left.left - 1) c.loop-left.at c.in-Some.attempt _ (omega (arith, c.loop-left-test.true))
    (sym c.in-Some.is ∙ c.trapped_of.ensures) (sym c.in_default-trap_got.is ∙ c.trap_got.ensures) c.loop-left.invariant

pub loop-left-preserved : goal.loop-left-preserved
loop-left-preserved c =
    next_trapped c.args.log.now c.loop-left.left (c.loop-left.left - 1) c.loop-left.at c.in-Some.attempt c.in-Some-trap_got.next _
    (omega (arith, c.loop-left-test.true)) (sym c.in-Some.is ∙ c.trapped_of.ensures) (sym c.in-Some-trap_got.is ∙ c.trap_got.ensures)
    c.loop-left.invariant

pub returns : goal.returns
returns c = none_left c.args.log.now c.loop-left.left c.loop-left.at _ (omega (arith, c.loop-left-test.false)) c.loop-left.invariant
