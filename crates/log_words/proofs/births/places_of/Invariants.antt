use Rattle.std.proofs.Common.{◌≤◌, length}
use Rattle.log_words.specs.Index.{AreIndexed}
use Rattle.log_words.proofs.births.places_of.Given as goal

-- each birth before the place stands in the index
abbrev pub invariant-loop-place : goal.invariant-loop-place
invariant-loop-place l = record { within : l.place ≤ length l.log; indexed : AreIndexed l.places l.log l.place }

abbrev pub decreases-loop-place : goal.decreases-loop-place
decreases-loop-place l = l.place
