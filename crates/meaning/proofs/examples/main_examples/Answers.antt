use Rattle.std.proofs.Common.{refl}
use Rattle.std.specs.Prelude.{codes}
use Rattle.meaning.specs.Values.{main_name}
use Rattle.meaning.specs.Meaning.{call_at}
use Rattle.meaning.proofs.Names.{same_name-false}
use Rattle.meaning.proofs.examples.main_examples.Goals as goal

pub returns-clause-apart : goal.returns-clause-apart
returns-clause-apart c = ((((tt, tt), tt), tt), (((same_name-false (codes "sq") main_name refl, (tt, tt)), ((refl, tt), ((tt, tt), tt))), tt))

pub returns-clause-another_prints : goal.returns-clause-another_prints
returns-clause-another_prints c h = same_name-false (codes "loud") main_name refl h.0.0.0

pub returns-clause-main_is_called : goal.returns-clause-main_is_called
returns-clause-main_is_called c h = h.0.0.0.0 refl

pub returns-clause-main_is_born : goal.returns-clause-main_is_born
returns-clause-main_is_born c h = h.0.0.0.0 refl

pub returns-clause-another_task_prints : goal.returns-clause-another_task_prints
unfolding call_at
returns-clause-another_task_prints c = refl
