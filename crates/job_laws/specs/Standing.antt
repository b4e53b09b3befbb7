-- An attempt that is out as a job is as that job says until a commit of the job comes.
use Rattle.std.specs.Prelude.{◌≡◌, ◌≢◌, ℕ, ◌+◌, List, length, Some}
use Rattle.event_log.specs.Entries.{Claim, Commit, Entry, Event}
use Rattle.event_log.specs.Rules.{Setting}
use Rattle.protocol.specs.Answers.{Step, Takes, answer, whole_after}
use Rattle.protocol.specs.Jobs.{CommitInput, Job}
use Rattle.protocol.specs.Cluster.{ClusterState}
use Rattle.protocol_core.specs.Steps.{IsOut}
use Rattle.protocol_laws.specs.Sound.{IsSound}

-- what is out with a number is out with it after every event but a commit of that number, and the same: so is what it bore, printed and was answered
abbrev pub JobsStand : Type 0
JobsStand =
    (s : Setting) (log : List Entry) (c : ClusterState) → IsSound s log c → (e : Event) (handed : CommitInput) (j : ℕ) (job : Job) → e ≢ Commit j →
    IsOut c j job →
    IsOut (whole_after c (answer c e handed)) j job

-- of one number at most one job is out
abbrev pub OneIsOut : Type 0
OneIsOut = (c : ClusterState) (j : ℕ) (job other : Job) → IsOut c j job → IsOut c j other → job ≡ other

-- the job that a claim gives out is out with the next number
abbrev pub ClaimsGiveJobsOut : Type 0
ClaimsGiveJobsOut =
    (c : ClusterState) (w : ℕ) (handed : CommitInput) (step : Step) (job : Job) → answer c (Claim w) handed ≡ Takes step → step.given ≡ Some job →
    IsOut step.whole (length c.jobs + 1) job
