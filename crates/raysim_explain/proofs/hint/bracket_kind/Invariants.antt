use Rattle.std.proofs.Common.{◌≡◌, take}
use Rattle.raysim_explain.specs.Hints.{bracket_kind}
use Rattle.raysim_explain.proofs.hint.bracket_kind.Given as goal

abbrev pub invariant-loop-byte : goal.invariant-loop-byte
invariant-loop-byte l = l.kind ≡ bracket_kind (take l.byte-index l.text)
