use Rattle.std.proofs.Common.{◌≡◌, length}
use Rattle.script_tokens.specs.Bytes.{all, is_digit}
use Rattle.script_tokens.proofs.numbers.all_digits.Given as goal

abbrev pub invariant-loop-rest : goal.invariant-loop-rest
invariant-loop-rest l = all is_digit l.rest ≡ all is_digit l.text

abbrev pub decreases-loop-rest : goal.decreases-loop-rest
decreases-loop-rest l = length l.rest
