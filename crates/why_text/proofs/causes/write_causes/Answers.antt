use Rattle.std.proofs.Common.{◌-◌, ◌∙◌, sym, arith, string_bytes}
use Rattle.why_text.proofs.Chaining.{last_text, next_text, none_left}
use Rattle.why_text.proofs.causes.write_causes.Goals as goal

pub returns-then-is : goal.returns-then-is
returns-then-is c =
    last_text c.args.contents c.args.log.now c.args.lines.now c.args.cause c.loop-left.object c.loop-left.left (c.loop-left.left - 1) (string_bytes c.loop-left.text)
    (string_bytes c.write_account.new.text) _ (omega (arith, c.loop-left-test.true)) (sym c.is.ensures ∙ c.if-is.true) c.loop-left.invariant
    c.in_ok-write_account.ensures

pub loop-left-preserved : goal.loop-left-preserved
loop-left-preserved c =
    next_text c.args.contents c.args.log.now c.args.lines.now c.args.cause c.loop-left.object c.in_ok-next.next c.loop-left.left (c.loop-left.left - 1)
    (string_bytes c.loop-left.text) (string_bytes c.write_account.new.text) (string_bytes c.push_str.new.self) _ (omega (arith, c.loop-left-test.true))
    (sym c.is.ensures ∙ c.if-is.false) c.in_ok-next.ensures c.loop-left.invariant c.in_ok-write_account.ensures c.in_ok-push_str.ensures.bytes

pub returns : goal.returns
returns c =
    none_left c.args.contents c.args.log.now c.args.lines.now c.args.cause c.loop-left.object c.loop-left.left (string_bytes c.loop-left.text) _
    (omega (arith, c.loop-left-test.false)) c.loop-left.invariant
