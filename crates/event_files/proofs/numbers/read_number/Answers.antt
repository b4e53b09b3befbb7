use Rattle.std.proofs.Common.{sym, arith}
use Rattle.event_files.proofs.Decimals.{is_number, no_number}
use Rattle.event_files.proofs.numbers.read_number.Goals as goal

pub returns-in_default : goal.returns-in_default
returns-in_default c = sym (no_number 64 c.args.text.now (λ n h e. c.in_default.not-Some n (c.read_number.ensures.only n h e)))

pub returns : goal.returns
returns c = sym (is_number 64 c.in-Some.number c.args.text.now (omega arith) (omega arith) c.in-Some.ensures.found)
