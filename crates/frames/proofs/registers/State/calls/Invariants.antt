use Rattle.std.proofs.Common.{◌≡◌, map, take}
use Rattle.frames.specs.Machines.{caller_of}
use Rattle.frames.specs.OwnTraps.{call_of}
use Rattle.frames.proofs.registers.State.calls.Given as goal

-- the calls so far, in the order of the callers
abbrev pub invariant-loop-caller : goal.invariant-loop-caller
invariant-loop-caller l = l.calls.items ≡ map call_of (map caller_of (take l.caller-index l.self.callers.items))
