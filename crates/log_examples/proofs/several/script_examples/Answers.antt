use Rattle.std.proofs.Common.{refl}
use Rattle.meaning.specs.Meaning.{call_at}
use Rattle.log_examples.proofs.several.script_examples.Goals as goal

pub returns-clause-stops_at_second : goal.returns-clause-stops_at_second
unfolding call_at
returns-clause-stops_at_second c = refl

pub returns-clause-stops_at_first : goal.returns-clause-stops_at_first
unfolding call_at
returns-clause-stops_at_first c = refl

pub returns-clause-ends : goal.returns-clause-ends
unfolding call_at
returns-clause-ends c = refl

pub returns-clause-serial : goal.returns-clause-serial
unfolding call_at
returns-clause-serial c = record { printed = refl; ended = refl }

pub returns-clause-serial_trap : goal.returns-clause-serial_trap
unfolding call_at
returns-clause-serial_trap c = record { printed = refl; ended = refl }
