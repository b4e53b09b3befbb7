use Rattle.run_paths.proofs.Handing.{examples, is_tested}
use Rattle.run_paths.proofs.law.handing_is_tested.Goals as goal

pub returns-clause-tested : goal.returns-clause-tested
returns-clause-tested c = is_tested

pub returns-clause-examples : goal.returns-clause-examples
returns-clause-examples c = examples
