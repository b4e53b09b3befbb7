-- Where a job stopped, as its task's replay has it.
use Rattle.task_spec.specs.of_meaning.Runs.{Needs, Over, Stop}
use Rattle.task_spec.specs.of_meaning.Values.{Named}
use Rattle.held.specs.declared.outcomes.Stopped.{Stopped}
use Rattle.held.specs.declared.outcomes.Stopped.TheVariants.{AtGet, AtEnd}

-- at a need, or over
abbrev pub stop_of : Stopped → Stop
stop_of (AtGet y) = Needs (Named y)
stop_of (AtEnd cs) = Over cs
