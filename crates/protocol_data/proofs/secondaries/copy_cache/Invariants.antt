use Rattle.std.proofs.Common.{◌≡◌, ◌++◌, length}
use Rattle.protocol_data.proofs.secondaries.copy_cache.Given as goal

-- the copies so far and those that are left are the cache's, in its order
abbrev pub invariant-loop-key : goal.invariant-loop-key
invariant-loop-key l = (l.again.cap ≡ l.cache.cap) × (l.rest ++ l.again.entries ≡ l.cache.entries)

abbrev pub decreases-loop-key : goal.decreases-loop-key
decreases-loop-key l = length l.rest
