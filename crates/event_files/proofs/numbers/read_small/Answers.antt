use Rattle.std.proofs.Common.{sym, arith}
use Rattle.event_files.proofs.Decimals.{is_number, no_number, same_number}
use Rattle.event_files.proofs.numbers.read_small.Goals as goal

pub returns-in_default : goal.returns-in_default
returns-in_default c = sym (no_number 32 c.args.text.now (λ n h e. c.in_default.not-Some n (c.read_number.ensures.only n (omega arith) e)))

pub returns-then-number-gt4294967295 : goal.returns-then-number-gt4294967295
returns-then-number-gt4294967295 c =
    sym (no_number 32 c.args.text.now (λ n h e.
    let same = same_number n c.in-Some.number c.args.text.now (omega arith) (omega arith) e c.in-Some.ensures.found in omega arith))

pub returns : goal.returns
returns c = sym (is_number 32 c.in-Some.number c.args.text.now (omega arith) (omega arith) c.in-Some.ensures.found)
