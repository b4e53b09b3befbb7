use Rattle.std.proofs.Common.{◌≡◌, map, take}
use Rattle.values.specs.Values.{content_of}
use Rattle.values.proofs.same.are_same_contents.Given as goal

abbrev pub invariant-loop-i : goal.invariant-loop-i
invariant-loop-i l = map content_of (take l.i l.a) ≡ map content_of (take l.i l.b)
