use Rattle.std.proofs.Common.{sym, arith}
use Rattle.event_files.proofs.Objects.{is_object, no_object}
use Rattle.event_files.proofs.numbers.read_object.Goals as goal

pub returns-in_default : goal.returns-in_default
returns-in_default c = sym (no_object c.args.text.now (λ o h e. c.in_default.not-Some o (c.read.ensures.only o h e)))

pub returns : goal.returns
returns c = sym (is_object c.in-Some.object c.args.text.now (omega arith, omega arith) c.in-Some.ensures.found)
