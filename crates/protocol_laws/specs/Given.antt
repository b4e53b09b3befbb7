-- The jobs that claims give out.
use Rattle.std.specs.Prelude.{◌≡◌, ◌++◌, ◌∷◌, List, [], None, Option, Some, true, ℕ}
use Rattle.event_log.specs.Entries.{Claim, Entry}
use Rattle.event_log.specs.Rules.{Setting}
use Rattle.event_log.specs.Words.{answers_of}
use Rattle.protocol_legal.specs.of_kind_laws.Law.{HasKinds}
use Rattle.meaning.specs.Kinds.{AnswersFit, IsBirthOf, ScriptChecks}
use Rattle.meaning.specs.Lists.{IsFirst}
use Rattle.meaning.specs.Meaning.{replay, run_birth}
use Rattle.meaning.specs.Syntax.{Number, Script}
use Rattle.meaning.specs.Values.{main_birth}
use Rattle.holding_steps.specs.of_protocol.Answers.{Answer, Refuses, Takes, answer, job_of}
use Rattle.holding_steps.specs.of_protocol.Jobs.{CommitInput, Job}
use Rattle.holding_steps.specs.of_protocol.Tables.{Execution, Worker}
use Rattle.holding_steps.specs.of_protocol.Cluster.{ClusterState, worker_at}
use Rattle.protocol_legal.specs.Knows.{IsTask}
use Rattle.protocol_laws.specs.Sound.{IsSound}

-- a job that may be run
pub record IsGood (script : Script) (job : Job) : Type 0 where
  -- its attempt is of a task, which makes objects of some kinds
  pub task : IsTask job.spec
  pub kind : HasKinds script job.spec
  -- its answers are of the kinds that the task asks for
  pub answers : AnswersFit (run_birth script job.spec) job.base job.answers
  -- what it bore and printed so far begins what the task does on them
  pub births : IsFirst job.births (replay script job.spec job.base job.answers).births
  pub prints : IsFirst job.prints (replay script job.spec job.base job.answers).prints

abbrev pub IsGoodIfGiven : Script → Option Job → Type 0
IsGoodIfGiven script None = Unit {0}
IsGoodIfGiven script (Some job) = IsGood script job

abbrev pub GivesGood : Script → Answer → Type 0
GivesGood script (Takes step) = IsGoodIfGiven script step.given
GivesGood script (Refuses code) = Unit {0}

-- each claim of a sound run gives a job that may be run, where the script's functions are allowed, and main has no parameters and gives a
-- number
abbrev pub ClaimsGiveGoodJobs : Type 0
ClaimsGiveGoodJobs =
    (s : Setting) → ScriptChecks s.script s.script → IsBirthOf s.script main_birth (Number ∷ []) →
    (log : List Entry) (c : ClusterState) → IsSound s log c → (w : ℕ) (handed : CommitInput) → GivesGood s.script (answer c (Claim w) handed)

-- each attempt of a live worker of a sound run is one whose job may be run, whatever its number, where the script's functions are allowed, and
-- main has no parameters and gives a number
abbrev pub RunsAreGood : Type 0
RunsAreGood =
    (s : Setting) → ScriptChecks s.script s.script → IsBirthOf s.script main_birth (Number ∷ []) →
    (log : List Entry) (c : ClusterState) → IsSound s log c → (number w : ℕ) (x : Worker) (run : Execution) → worker_at c w ≡ Some x → x.is_live ≡ true →
    x.run ≡ Some run → IsGood s.script (job_of number run)

-- the job's answers begin what the log has of answers to its attempt
abbrev pub IsOfLog : List Entry → Job → Type 0
IsOfLog log job = IsFirst job.answers (answers_of job.attempt log)

abbrev pub IsOfLogIfGiven : List Entry → Option Job → Type 0
IsOfLogIfGiven log None = Unit {0}
IsOfLogIfGiven log (Some job) = IsOfLog log job

abbrev pub GivesOfLog : List Entry → Answer → Type 0
GivesOfLog log (Takes step) = IsOfLogIfGiven log step.given
GivesOfLog log (Refuses code) = Unit {0}

-- each claim of a sound run gives a job whose answers the log has
abbrev pub ClaimsGiveJobsOfTheLog : Type 0
ClaimsGiveJobsOfTheLog = (s : Setting) (log : List Entry) (c : ClusterState) → IsSound s log c → (w : ℕ) (handed : CommitInput) →
    GivesOfLog log (answer c (Claim w) handed)

-- each attempt of a live worker of a sound run has the answers that the log has of answers to it
abbrev pub RunsHaveTheLogsAnswers : Type 0
RunsHaveTheLogsAnswers =
    (s : Setting) (log : List Entry) (c : ClusterState) → IsSound s log c → (w : ℕ) (x : Worker) (run : Execution) → worker_at c w ≡ Some x → x.is_live ≡ true →
    x.run ≡ Some run → answers_of run.attempt log ≡ run.answers

-- a job whose answers the log has is such a job when the log has grown
abbrev pub JobsStayOfTheLog : Type 0
JobsStayOfTheLog = (log more : List Entry) (job : Job) → IsOfLog log job → IsOfLog (log ++ more) job
