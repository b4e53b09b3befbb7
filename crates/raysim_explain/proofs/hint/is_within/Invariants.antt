use Rattle.std.proofs.Common.{◌≡◌, fold, take}
use Rattle.raysim_explain.specs.Hints.{open_step}
use Rattle.raysim_explain.proofs.hint.is_within.Given as goal

abbrev pub invariant-loop-byte : goal.invariant-loop-byte
invariant-loop-byte l = l.count ≡ fold (open_step l.opens l.closes) 0 (take l.byte-index l.text)
