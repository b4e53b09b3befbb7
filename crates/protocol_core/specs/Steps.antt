-- What an event makes of the state, and what is answered to it.
use Rattle.std.specs.Prelude.{◌≡◌, ◌⊎◌, ℕ, true, false, ◌++◌, Option, Some, None}
use Rattle.meaning.specs.Syntax.{Script}
use Rattle.segment.specs.Jobs.{JobParts, Done}
use Rattle.event_log.specs.Causes.{shown}
use Rattle.event_log.specs.Entries.{Commit, Event}
use Rattle.log_entries.specs.declared.refusal.Refusal.{Refusal}
use Rattle.log_entries.specs.declared.refusal.Refusal.TheVariants as refusals
use Rattle.segment.specs.Pieces.{outcomes_in}
use Rattle.protocol.specs.Answers.{Answer, answer, job_of, logged, whole_after}
use Rattle.protocol.specs.Answers as answers
use Rattle.protocol.specs.Jobs.{JobRecord, CommitInput, Job, Nothing, OfAnother, OfJob}
use Rattle.protocol.specs.Numbered.{item_at}
use Rattle.protocol.specs.Refusals.{is_of_job}
use Rattle.protocol.specs.Tables.{Out, Execution, Worker}
use Rattle.protocol.specs.Cluster.{ClusterState, worker_at}
use Rattle.protocol_laws.specs.Shown.{IsAsShown}
use Rattle.protocol_core.specs.declared.reply.Reply as coded
use Rattle.protocol_core.specs.declared.reply.Reply.TheVariants as replies
use Rattle.protocol_core.specs.States.{RunState, beside}
use Rattle.worker_steps.specs.of_contexts.Emptied.{nothing_left}

-- the attempt is out as the job of that number
pub record IsOutAs (c : ClusterState) (j : ℕ) (run : Execution) : Type 0 where
  pub given : JobRecord
  pub worker : Worker
  pub was_given : item_at c.jobs j ≡ Some given
  pub of_worker : worker_at c given.worker ≡ Some worker
  pub runs : worker.run ≡ Some run
  pub is_out : run.phase ≡ Out j

-- the job is the one that is out with that number
abbrev pub IsOut : ClusterState → ℕ → Job → Type 0
IsOut c j job = (run : Execution) × IsOutAs c j run × (job ≡ job_of j run)

-- what is handed in with the commit of a job: nothing, what was done on the job that is out with that number, or on another
abbrev pub IsHandedFor : ClusterState → ℕ → Option Done → CommitInput → Type 0
IsHandedFor c j None handed = handed ≡ Nothing
IsHandedFor c j (Some d) handed =
    ((handed ≡ OfJob (outcomes_in d)) × IsOut c j d.job) ⊎ ((handed ≡ OfAnother) × (IsOut c j d.job → ⊥))

-- what is handed in with an event: with any but a commit nothing
abbrev pub IsHanded : ClusterState → Event → Option Done → CommitInput → Type 0
IsHanded c (Commit j) d handed = IsHandedFor c j d handed
IsHanded c _ d handed = handed ≡ Nothing

-- what is answered: the job that is given out, that the event is accepted, or why it is refused
pub data Reply : Type 0 where
  GivesJob : (j : JobParts) → Reply
  Accepts : Reply
  Refuses : (refusal : Refusal) → Reply

abbrev pub GivesThat : Option Job → Reply → Type 0
GivesThat None told = told ≡ Accepts
GivesThat (Some job) told = told ≡ GivesJob job

-- it tells of the pure step's answer
abbrev pub Tells : Answer → Reply → Type 0
Tells (answers.Takes s) told = GivesThat s.given told
Tells (answers.Refuses refusal) told = told ≡ Refuses refusal

abbrev pub reply_of : {X : Type 0} → coded.Reply X → Reply
reply_of (replies.Job j) = GivesJob j
reply_of replies.Ok = Accepts
reply_of (replies.Refused refusal) = Refuses refusal

-- the event found no memory: it is refused 39, no later one is accepted, the log is as it was, and nothing is left of all else
pub record RunsOut (before after : RunState) (told : Reply) : Type 0 where
  pub told_so : told ≡ Refuses refusals.NoMemory
  pub halted : after.is_halted ≡ true
  pub nodes : after.first_nodes ≡ before.first_nodes
  pub same : after.log ≡ before.log
  pub left : after.whole ≡ nothing_left

-- the event, with its seat and what was handed in, was taken or refused as the pure step says, and stands in the log with what came of it
pub record IsApplied (before after : RunState) (e : Event) (seat : ℕ) (handed : CommitInput) (told : Reply) : Type 0 where
  pub log : after.log ≡ before.log ++ logged e seat (answer before.whole e handed)
  pub whole : after.whole ≡ whole_after before.whole (answer before.whole e handed)
  pub nodes : after.first_nodes ≡ before.first_nodes
  pub goes_on : after.is_halted ≡ false
  pub told_so : Tells (answer before.whole e handed) told

-- what an event may make of a state that isn't halted, where nothing wants memory
abbrev pub Applies : RunState → Event → ℕ → Option Done → RunState → Reply → Type 0
Applies before e seat done after told = (handed : CommitInput) × IsHanded before.whole e done handed × IsApplied before after e seat handed told

-- what an event may make of a state that isn't halted
abbrev pub Follows : RunState → Event → ℕ → Option Done → RunState → Reply → Type 0
Follows before e seat done after told = RunsOut before after told ⊎ Applies before e seat done after told

-- what an event makes of a state, and what is answered: once halted nothing changes, and every event is refused 38
pub record Answers (before : RunState) (e : Event) (seat : ℕ) (done : Option Done) (after : RunState) (told : Reply) : Type 0 where
  pub halted : before.is_halted ≡ true → (after ≡ before) × (told ≡ Refuses refusals.Halted)
  pub follows : before.is_halted ≡ false → Follows before e seat done after told

-- why it is refused, if it is
abbrev pub refusal_in : Reply → Option Refusal
refusal_in (GivesJob j) = None
refusal_in Accepts = None
refusal_in (Refuses refusal) = Some refusal

-- it is answered as the log shows, beside the messages that the run sent and what is handed in
abbrev pub IsShown : Script → RunState → Event → Option Done → Reply → Type 0
IsShown script before e done told =
    (handed : CommitInput) × IsHanded before.whole e done handed
    × IsAsShown e (shown (beside script before.first_nodes before.whole.network) before.log (is_of_job handed) e) (refusal_in told)

-- so every event is, unless it finds no memory or one before found none
abbrev pub AnswersAsShown : Script → RunState → Event → Option Done → RunState → Reply → Type 0
AnswersAsShown script before e done after told = before.is_halted ≡ false → after.is_halted ≡ false → IsShown script before e done told
