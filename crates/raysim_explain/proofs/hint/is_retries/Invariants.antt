use Rattle.std.proofs.Common.{◌≡◌, fold, take}
use Rattle.raysim_explain.specs.Hints.{retry_step}
use Rattle.raysim_explain.proofs.hint.is_retries.Given as goal

abbrev pub invariant-loop-byte : goal.invariant-loop-byte
invariant-loop-byte l = l.count ≡ fold retry_step 0 (take l.byte-index l.text)
