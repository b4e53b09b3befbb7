use Rattle.std.proofs.Common.{◌≡◌, ◌≤◌, ◌-◌, vec_len}
use Rattle.std.specs.Io.KnownBytes.{Consumes}
use Rattle.raysim_streams.proofs.source.read_at_most.Given as goal

-- what was read is all that was taken from the reader, it isn't too long, and no read failed
abbrev pub invariant-loop-chunk : goal.invariant-loop-chunk
invariant-loop-chunk g l = (vec_len l.all ≤ l.most) × Consumes (g.R.Source.left l.initial.reader) (g.R.Source.left l.reader) l.all.items
    × (g.R.Source.failures l.reader ≡ g.R.Source.failures l.initial.reader)

abbrev pub decreases-loop-chunk : goal.decreases-loop-chunk
decreases-loop-chunk g l = l.most - vec_len l.all
