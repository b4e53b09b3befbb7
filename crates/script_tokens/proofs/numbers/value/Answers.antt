use Rattle.std.proofs.Common.{arith}
use Rattle.script_tokens.proofs.Digits.{value_long}
use Rattle.script_tokens.proofs.numbers.value.Goals as goal

pub returns-then-n-gt922337203685477580 : goal.returns-then-n-gt922337203685477580
returns-then-n-gt922337203685477580 c =
    omega (arith, value_long c.loop-rest.n c.loop-rest.rest.now c.in-len1-up.len_at_least, c.loop-rest.invariant.same, c.if-n-gt922337203685477580.true)

pub returns-then-n-gt-GREATEST : goal.returns-then-n-gt-GREATEST
returns-then-n-gt-GREATEST c =
    let h = c.if-n-gt-GREATEST.true in
    omega (arith, value_long c.loop-rest.n c.loop-rest.rest.now c.in-len1-up.len_at_least, c.loop-rest.invariant.same, h)
