use Rattle.std.proofs.Common.{◌≡◌, length}
use Rattle.script_tokens.specs.Bytes.{in_line}
use Rattle.script_tokens.specs.Bytes.{past}
use Rattle.script_tokens.proofs.bytes.past_line.Given as goal

abbrev pub invariant-loop-rest : goal.invariant-loop-rest
invariant-loop-rest l = past in_line l.rest ≡ past in_line l.text

abbrev pub decreases-loop-rest : goal.decreases-loop-rest
decreases-loop-rest l = length l.rest
