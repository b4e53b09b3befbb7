use Rattle.std.proofs.Common.{◌≡◌, ◌-◌, ◌++◌, map}
use Rattle.meaning.specs.Values.{Known, Aborted, Broken, outcomes}
use Rattle.frames.specs.Values.{value_of}
use Rattle.frames.proofs.ending.to_broken.Given as goal

-- the references so far, and those that are left
abbrev pub invariant-loop : goal.invariant-loop
invariant-loop l = map value_of l.references.items ++ map Known (outcomes (l.count - l.counter) (Aborted Broken)) ≡ map Known (outcomes l.count (Aborted Broken))
