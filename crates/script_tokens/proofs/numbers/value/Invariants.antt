use Rattle.std.proofs.Common.{◌≡◌, ◌≤◌, true, length}
use Rattle.script_tokens.specs.Bytes.{all, is_digit}
use Rattle.script_tokens.specs.Lexing.{value_from}
use Rattle.script_tokens.proofs.numbers.value.Given as goal

-- digits alone are left, and the number so far with them is that of the whole text, within its type
abbrev pub invariant-loop-rest : goal.invariant-loop-rest
invariant-loop-rest l = record { digits : all is_digit l.rest ≡ true; same : value_from l.n l.rest ≡ value_from 0 l.text; few : l.n ≤ 9223372036854775807 }

abbrev pub decreases-loop-rest : goal.decreases-loop-rest
decreases-loop-rest l = length l.rest
