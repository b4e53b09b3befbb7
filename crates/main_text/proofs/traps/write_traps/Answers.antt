use Rattle.std.proofs.Common.{◌-◌, ◌∙◌, sym, arith, string_bytes}
use Rattle.main_text.proofs.Trapping.{got_written, next_written, none_left, own_written}
use Rattle.main_text.proofs.traps.write_traps.Goals as goal

pub returns-in_default : goal.returns-in_default
returns-in_default c =
    own_written c.args.contents c.args.whole.now.jobs c.args.log.now c.args.lines.now c.loop-left.attempt c.loop-left.left (c.loop-left.left - 1)
    (string_bytes c.loop-left.text) (string_bytes c.write_own.new.text) _ (omega (arith, c.loop-left-test.true))
    (sym c.trap_got.ensures ∙ c.in_default.is) c.loop-left.invariant (c.in_ok-write_own.ensures.done c.requires)

pub returns-in_default-trapped_of : goal.returns-in_default-trapped_of
returns-in_default-trapped_of c =
    got_written c.args.contents c.args.whole.now.jobs c.args.log.now c.args.lines.now c.loop-left.attempt c.in-Some.object c.loop-left.left (c.loop-left.left - 1)
    (string_bytes c.loop-left.text) (string_bytes c.write_trap.new.text) _ (omega (arith, c.loop-left-test.true))
    (sym c.trap_got.ensures ∙ c.in-Some.is) (sym c.trapped_of.ensures ∙ c.in_default-trapped_of.is) c.loop-left.invariant
    (c.in_ok-write_trap.ensures c.requires)

pub loop-left-preserved : goal.loop-left-preserved
loop-left-preserved c =
    next_written c.args.contents c.args.whole.now.jobs c.args.log.now c.args.lines.now c.loop-left.attempt c.in-Some-trapped_of.next c.in-Some.object c.loop-left.left
    (c.loop-left.left - 1) (string_bytes c.loop-left.text) (string_bytes c.write_trap.new.text) (string_bytes c.write_run.new.text) _
    (omega (arith, c.loop-left-test.true)) (sym c.trap_got.ensures ∙ c.in-Some.is) (sym c.trapped_of.ensures ∙ c.in-Some-trapped_of.is)
    c.loop-left.invariant (c.in_ok-write_trap.ensures c.requires) (c.in_ok-write_run.ensures c.requires)

pub returns : goal.returns
returns c =
    none_left c.args.contents c.args.whole.now.jobs c.args.log.now c.args.lines.now c.loop-left.attempt c.loop-left.left (string_bytes c.loop-left.text) _
    (omega (arith, c.loop-left-test.false)) c.loop-left.invariant
