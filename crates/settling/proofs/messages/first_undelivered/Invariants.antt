use Rattle.std.proofs.Common.{◌≡◌, ◌+◌, drop}
use Rattle.protocol.specs.Settling.{first_false}
use Rattle.settling.proofs.messages.first_undelivered.Given as goal

-- the messages from the first place to before this one were delivered
abbrev pub invariant-loop-place : goal.invariant-loop-place
invariant-loop-place l = first_false (l.place + 1) (drop l.place l.delivered) ≡ first_false (l.from + 1) (drop l.from l.delivered)
