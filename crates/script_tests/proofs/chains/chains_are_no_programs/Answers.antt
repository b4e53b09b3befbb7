use Rattle.script_tests.proofs.Comparisons.{chained_is_none, grouped_is_one}
use Rattle.script_tests.proofs.chains.chains_are_no_programs.Goals as goal

pub returns-clause-chained : goal.returns-clause-chained
returns-clause-chained c = chained_is_none

pub returns-clause-grouped : goal.returns-clause-grouped
returns-clause-grouped c = grouped_is_one
