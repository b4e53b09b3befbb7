use Rattle.std.proofs.Common.{◌≡◌, take, false}
use Rattle.ids.specs.Texts.{has_dot}
use Rattle.ids.proofs.number.split_at_dot.Given as goal

abbrev pub invariant-loop-dot : goal.invariant-loop-dot
invariant-loop-dot l = has_dot (take l.dot l.text) ≡ false
