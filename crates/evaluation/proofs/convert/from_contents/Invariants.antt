use Rattle.std.proofs.Common.{◌≡◌, map, take}
use Rattle.values.specs.Values.{content_of}
use Rattle.frames.specs.Values.{outcome_of}
use Rattle.evaluation.proofs.convert.from_contents.Given as goal

abbrev pub invariant-loop-content : goal.invariant-loop-content
invariant-loop-content l = map outcome_of l.outcomes.items ≡ map content_of (take l.content-index l.contents)
