use Rattle.meaning.proofs.LoopExamples.{full_list, too_long_list, loop_counts, loop_traps}
use Rattle.meaning.proofs.examples.limit_examples.Goals as goal

pub returns-clause-full_list : goal.returns-clause-full_list
returns-clause-full_list c = full_list

pub returns-clause-too_long_list : goal.returns-clause-too_long_list
returns-clause-too_long_list c = too_long_list

pub returns-clause-long_loop : goal.returns-clause-long_loop
returns-clause-long_loop c = loop_counts

pub returns-clause-too_long_loop : goal.returns-clause-too_long_loop
returns-clause-too_long_loop c = loop_traps
