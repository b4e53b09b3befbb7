use Rattle.std.proofs.Common.{◌≡◌, length}
use Rattle.raysim_explain.specs.Hints.{byte_behind}
use Rattle.raysim_explain.proofs.hint.byte_behind.Given as goal

-- the first byte of the rest that is no blank is the whole text's
abbrev pub invariant-loop-rest : goal.invariant-loop-rest
invariant-loop-rest l = byte_behind l.rest ≡ byte_behind l.text

abbrev pub decreases-loop-rest : goal.decreases-loop-rest
decreases-loop-rest l = length l.rest
