use Rattle.std.proofs.Common.{◌≡◌, fold, take}
use Rattle.raysim_explain.specs.Hints.{has_step}
use Rattle.raysim_explain.proofs.hint.has_word.Given as goal

abbrev pub invariant-loop-byte : goal.invariant-loop-byte
invariant-loop-byte l = l.count ≡ fold (has_step l.word) 0 (take l.byte-index l.text)
