use Rattle.std.proofs.Common.{arith}
use Rattle.frames.proofs.Shown.{calls_are}
use Rattle.frames.proofs.registers.State.calls.Goals as goal

pub returns : goal.returns
returns c =
    calls_are c.args.self.now.callers.items c.loop-caller.caller-index c.loop-caller.calls.items c.reverse.new.self.items
    (omega (arith, c.loop-caller-test.false, c.args.self.now.callers.ok.0)) c.loop-caller.invariant c.reverse.ensures.items
