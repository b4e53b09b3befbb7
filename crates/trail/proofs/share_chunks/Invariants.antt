use Rattle.std.proofs.Common.{◌≡◌, take}
use Rattle.trail.specs.Chunks.{AreFull, items_in}
use Rattle.trail.proofs.share_chunks.Given as goal

-- the chunks so far have the same items, and are full where all are
abbrev pub invariant-loop-chunk : goal.invariant-loop-chunk
invariant-loop-chunk g l = (items_in l.shared.items ≡ items_in (take l.chunk-index l.chunks)) × (AreFull l.chunks → AreFull l.shared.items)
