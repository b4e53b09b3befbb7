use Rattle.std.proofs.Common.{refl}
use Rattle.meaning.specs.Meaning.{call_at}
use Rattle.meaning.proofs.examples.several_examples.Goals as goal

pub returns-clause-two_bound : goal.returns-clause-two_bound
unfolding call_at
returns-clause-two_bound c = record { printed = refl; ended = refl }

pub returns-clause-trap_on_the_way : goal.returns-clause-trap_on_the_way
unfolding call_at
returns-clause-trap_on_the_way c = record { printed = refl; ended = refl }

pub returns-clause-four_bound : goal.returns-clause-four_bound
unfolding call_at
returns-clause-four_bound c = record { printed = refl; ended = refl }

pub returns-clause-bound_before_a_get : goal.returns-clause-bound_before_a_get
unfolding call_at
returns-clause-bound_before_a_get c = refl

pub returns-clause-bound_after_a_get : goal.returns-clause-bound_after_a_get
unfolding call_at
returns-clause-bound_after_a_get c = refl

pub returns-clause-two_results : goal.returns-clause-two_results
unfolding call_at
returns-clause-two_results c = refl

pub returns-clause-a_trap_is_each : goal.returns-clause-a_trap_is_each
unfolding call_at
returns-clause-a_trap_is_each c = refl
