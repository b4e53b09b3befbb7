use Rattle.std.proofs.Common.{◌≡◌, ◌++◌, map, take}
use Rattle.std.specs.Arc.{arc_value}
use Rattle.trail.specs.Chunks.{items_in}
use Rattle.trail.proofs.add_items.Given as goal

abbrev pub invariant-loop-chunk : goal.invariant-loop-chunk
invariant-loop-chunk g l = map arc_value l.shared.items ≡ map arc_value l.fn.shared.items ++ items_in (take l.chunk-index l.chunks)
