use Rattle.std.proofs.Common.{◌≡◌, None, length}
use Rattle.protocol_data.specs.Recent.{copies_of}
use Rattle.protocol_data.specs.Shelves.{without}
use Rattle.protocol_data.proofs.secondaries.take_all.Given as goal

-- no copy of another object went
abbrev pub invariant-loop-key : goal.invariant-loop-key
invariant-loop-key l =
    (l.cache.cap ≡ l.initial.cache.cap) × (without l.object None (copies_of l.cache.entries) ≡ without l.object None (copies_of l.initial.cache.entries))

abbrev pub decreases-loop-key : goal.decreases-loop-key
decreases-loop-key l = length l.cache.entries
