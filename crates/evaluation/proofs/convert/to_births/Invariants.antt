use Rattle.std.proofs.Common.{◌≡◌, ◌++◌, map}
use Rattle.frames.specs.Machines.{made_of}
use Rattle.evaluation.proofs.convert.to_births.Given as goal

-- what was converted, and what is left
abbrev pub invariant-loop-made : goal.invariant-loop-made
invariant-loop-made l = l.copies ++ map made_of l.made-iterator.rest.items ≡ map made_of l.fn.births.items
