use Rattle.std.proofs.Common.{◌≡◌, map, take}
use Rattle.values.specs.Values.{content_of}
use Rattle.values.proofs.content.copy_contents.Given as goal

abbrev pub invariant-loop-content : goal.invariant-loop-content
invariant-loop-content l = map content_of l.copies.items ≡ map content_of (take l.content-index l.contents)
