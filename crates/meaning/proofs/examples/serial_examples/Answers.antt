use Rattle.std.proofs.Common.{refl}
use Rattle.meaning.specs.Meaning.{call_at}
use Rattle.meaning.proofs.examples.serial_examples.Goals as goal

-- each by computing the serial run of a small script
pub returns-clause-square : goal.returns-clause-square
unfolding call_at
returns-clause-square c = record { printed = refl; ended = refl }

pub returns-clause-sum_of_squares : goal.returns-clause-sum_of_squares
unfolding call_at
returns-clause-sum_of_squares c = record { printed = refl; ended = refl }

pub returns-clause-trap_not_got : goal.returns-clause-trap_not_got
unfolding call_at
returns-clause-trap_not_got c = record { printed = refl; ended = refl }

pub returns-clause-trap_got : goal.returns-clause-trap_got
unfolding call_at
returns-clause-trap_got c = record { printed = refl; ended = refl }

pub returns-clause-not_too_deep : goal.returns-clause-not_too_deep
unfolding call_at
returns-clause-not_too_deep c = record { printed = refl; ended = refl }

pub returns-clause-too_deep : goal.returns-clause-too_deep
unfolding call_at
returns-clause-too_deep c = record { printed = refl; ended = refl }

pub returns-clause-reference_got : goal.returns-clause-reference_got
unfolding call_at
returns-clause-reference_got c = record { printed = refl; ended = refl }

pub returns-clause-reference_passed : goal.returns-clause-reference_passed
unfolding call_at
returns-clause-reference_passed c = record { printed = refl; ended = refl }

pub returns-clause-loop_name_set : goal.returns-clause-loop_name_set
unfolding call_at
returns-clause-loop_name_set c = record { printed = refl; ended = refl }

pub returns-clause-least_by_minus_one : goal.returns-clause-least_by_minus_one
unfolding call_at
returns-clause-least_by_minus_one c = record { printed = refl; ended = refl }

pub returns-clause-rest_of_least : goal.returns-clause-rest_of_least
unfolding call_at
returns-clause-rest_of_least c = record { printed = refl; ended = refl }

pub returns-clause-division_rounds_to_zero : goal.returns-clause-division_rounds_to_zero
unfolding call_at
returns-clause-division_rounds_to_zero c = record { printed = refl; ended = refl }

pub returns-clause-remainder_of_negative : goal.returns-clause-remainder_of_negative
unfolding call_at
returns-clause-remainder_of_negative c = record { printed = refl; ended = refl }

pub returns-clause-remainder_by_negative : goal.returns-clause-remainder_by_negative
unfolding call_at
returns-clause-remainder_by_negative c = record { printed = refl; ended = refl }
