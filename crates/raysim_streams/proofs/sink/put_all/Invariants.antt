use Rattle.std.proofs.Common.{◌≡◌, ◌-◌, ◌≤◌, length, take}
use Rattle.std.specs.Io.KnownBytes.{Appends}
use Rattle.raysim_streams.proofs.sink.put_all.Given as goal

-- the bytes before the place are written, behind what was there, and no write failed
abbrev pub invariant-loop-at : goal.invariant-loop-at
invariant-loop-at g l = (l.at ≤ length l.bytes) × Appends (g.W.Sink.held l.initial.writer) (g.W.Sink.held l.writer) (take l.at l.bytes)
    × (g.W.Sink.failures l.writer ≡ g.W.Sink.failures l.initial.writer)

abbrev pub decreases-loop-at : goal.decreases-loop-at
decreases-loop-at g l = length l.bytes - l.at
