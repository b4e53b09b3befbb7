use Rattle.std.proofs.Common.{◌≡◌, fold, take}
use Rattle.raysim_explain.specs.Hints.{before_step}
use Rattle.raysim_explain.proofs.hint.byte_before.Given as goal

abbrev pub invariant-loop-byte : goal.invariant-loop-byte
invariant-loop-byte l = l.last ≡ fold before_step 0 (take l.byte-index l.text)
