use Rattle.count_laws.proofs.Laws.{events_are_limited, runs_are_counted, runs_are_within}
use Rattle.count_laws.proofs.law.runs_are_limited.Goals as goal

pub returns-clause-counted : goal.returns-clause-counted
returns-clause-counted c = runs_are_counted

pub returns-clause-within : goal.returns-clause-within
returns-clause-within c = runs_are_within

pub returns-clause-limited : goal.returns-clause-limited
returns-clause-limited c = events_are_limited
