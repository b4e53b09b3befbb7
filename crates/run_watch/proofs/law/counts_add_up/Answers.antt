use Rattle.run_watch.proofs.Adding.{events_add_up, results_add_up, tasks_add_up}
use Rattle.run_watch.proofs.law.counts_add_up.Goals as goal

pub returns-clause-events : goal.returns-clause-events
returns-clause-events c front back = events_add_up front back

pub returns-clause-tasks : goal.returns-clause-tasks
returns-clause-tasks c front back = tasks_add_up front back

pub returns-clause-results : goal.returns-clause-results
returns-clause-results c front back = results_add_up front back
