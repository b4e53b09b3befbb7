-- Jobs that are a run's own.
use Rattle.std.specs.Prelude.{◌≡◌, ℕ, true, List, Option, Some, None}
use Rattle.event_log.specs.Entries.{Entry}
use Rattle.protocol_core.specs.SameJobs.{HasItsAnswers}
use Rattle.protocol.specs.Tables.{Execution, Worker}
use Rattle.protocol.specs.Cluster.{ClusterState, worker_at}
use Rattle.protocol_core.specs.Steps.{Reply, GivesJob, Accepts, Refuses}
use Rattle.protocol_laws.specs.Given.{IsOfLog}
use Rattle.segment.specs.Jobs.{JobParts, Done}

-- the answers of the job on which it was done begin what the log has of answers to its attempt
abbrev pub IsOwn : List Entry → Option Done → Type 0
IsOwn log None = Unit {0}
IsOwn log (Some d) = IsOfLog log d.job

-- so do those of the job that is given out
abbrev pub GivesOwn : List Entry → Reply → Type 0
GivesOwn log (GivesJob j) = IsOfLog log j
GivesOwn log Accepts = Unit {0}
GivesOwn log (Refuses refusal) = Unit {0}

-- as many answers of the job are those of each live worker's attempt, where the job is of that attempt
abbrev pub HasAnswersIn : ClusterState → JobParts → Type 0
HasAnswersIn c j = (w : ℕ) (x : Worker) (run : Execution) → worker_at c w ≡ Some x → x.is_live ≡ true → x.run ≡ Some run → HasItsAnswers j run

-- so it is with the job on which it was done
abbrev pub HaveAnswersIn : ClusterState → Option Done → Type 0
HaveAnswersIn c None = Unit {0}
HaveAnswersIn c (Some d) = HasAnswersIn c d.job
