use Rattle.std.proofs.Common.{refl}
use Rattle.frame_laws.proofs.examples.several_examples.Goals as goal

pub returns-clause-steps : goal.returns-clause-steps
returns-clause-steps c = (40, refl)

pub returns-clause-steps_of_four : goal.returns-clause-steps_of_four
returns-clause-steps_of_four c = (40, refl)
