use Rattle.run_examples.proofs.Ruled.{books_are_true, limits_are_true, opening_is_not_over, over_is_true, seats_are_true}
use Rattle.run_examples.proofs.Planned.{plans_are_true}
use Rattle.run_examples.proofs.examples.examples.Goals as goal

pub returns-clause-over : goal.returns-clause-over
returns-clause-over c = opening_is_not_over

pub returns-clause-limits : goal.returns-clause-limits
returns-clause-limits c = limits_are_true

pub returns-clause-ends : goal.returns-clause-ends
returns-clause-ends c = over_is_true

pub returns-clause-seats : goal.returns-clause-seats
returns-clause-seats c = seats_are_true

pub returns-clause-books : goal.returns-clause-books
returns-clause-books c = books_are_true

pub returns-clause-plans : goal.returns-clause-plans
returns-clause-plans c = plans_are_true
