use Rattle.std.proofs.Common.{◌≡◌, ◌++◌, map, take}
use Rattle.values.specs.Values.{content_of}
use Rattle.kept_frames.proofs.known.add_answers.Given as goal

abbrev pub invariant-loop-answer : goal.invariant-loop-answer
invariant-loop-answer l = map content_of l.to.items ≡ map content_of l.fn.to.items ++ map content_of (take l.answer-index l.more)
