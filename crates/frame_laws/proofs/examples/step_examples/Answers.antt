use Rattle.std.proofs.Common.{refl}
use Rattle.frame_laws.proofs.examples.step_examples.Goals as goal

-- each by computing so many steps of a small script's code
pub returns-clause-up_to_the_get : goal.returns-clause-up_to_the_get
returns-clause-up_to_the_get c = (40, refl)

pub returns-clause-behind_the_get : goal.returns-clause-behind_the_get
returns-clause-behind_the_get c = (40, refl)

pub returns-clause-trap_got : goal.returns-clause-trap_got
returns-clause-trap_got c = (40, refl)

pub returns-clause-square_of_seven : goal.returns-clause-square_of_seven
returns-clause-square_of_seven c = (40, refl)

pub returns-clause-argument_needed : goal.returns-clause-argument_needed
returns-clause-argument_needed c = (40, refl)

pub returns-clause-argument_got : goal.returns-clause-argument_got
returns-clause-argument_got c = (40, refl)

pub returns-clause-trap_on_the_left : goal.returns-clause-trap_on_the_left
returns-clause-trap_on_the_left c = (40, refl)

pub returns-clause-trap_on_the_right : goal.returns-clause-trap_on_the_right
returns-clause-trap_on_the_right c = (40, refl)

pub returns-clause-loop_of_three : goal.returns-clause-loop_of_three
returns-clause-loop_of_three c = (40, refl)

pub returns-clause-loop_too_long : goal.returns-clause-loop_too_long
returns-clause-loop_too_long c = (40, refl)

pub returns-clause-call : goal.returns-clause-call
returns-clause-call c = (40, refl)

pub returns-clause-call_that_waits : goal.returns-clause-call_that_waits
returns-clause-call_that_waits c = (40, refl)

pub returns-clause-call_goes_on : goal.returns-clause-call_goes_on
returns-clause-call_goes_on c = (40, refl)
