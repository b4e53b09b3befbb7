-- A run that is driven: turn by turn the event that the settle rule names is applied, and a job that it gives out is run and committed at once.
use Rattle.std.specs.Prelude.{◌≡◌, ◌⊎◌, ℕ, zero, suc, List, [], ◌∷◌, ◌++◌, length, Option, Some, None}
use Rattle.meaning.specs.Syntax.{Script}
use Rattle.segment.specs.Jobs.{JobParts, Done, IsTrueOf}
use Rattle.event_log.specs.Entries.{Commit, Event}
use Rattle.log_entries.specs.declared.refusal.Refusal.{Refusal}
use Rattle.log_entries.specs.declared.refusal.Refusal.TheVariants as refusals
use Rattle.protocol.specs.Settling.{next}
use Rattle.protocol_core.specs.States.{RunState}
use Rattle.protocol_core.specs.Steps.{Answers, Reply, GivesJob, Accepts, Refuses}

-- a run, and behind each event how many messages had been sent
pub record Course : Type 0 where
  pub run : RunState
  pub sent : List ℕ

-- what an event makes of it, from seat 0, and what is answered
pub record Goes (before : Course) (e : Event) (done : Option Done) (after : Course) (told : Reply) : Type 0 where
  pub answers : Answers before.run e 0 done after.run told
  pub sent : after.sent ≡ before.sent ++ length after.run.whole.network ∷ []

-- the event isn't refused
abbrev pub IsTaken : Reply → Type 0
IsTaken (Refuses refusal) = ⊥
IsTaken (GivesJob job) = Unit {0}
IsTaken Accepts = Unit {0}

-- the job is run, and what was done on it is committed
pub record Commits (script : Script) (before : Course) (job : JobParts) (after : Course) : Type 0 where
  pub work : Done
  pub own : work.job ≡ job
  pub is_true : IsTrueOf script work
  pub told : Reply
  pub goes : Goes before (Commit job.number) (Some work) after told
  pub taken : IsTaken told

-- the event is taken; where it gives out a job, that is run and committed
abbrev pub Turn : Script → Course → Event → Course → Type 0
Turn script before e after =
    Goes before e None after Accepts ⊎ ((claimed : Course) × (job : JobParts) × Goes before e None claimed (GivesJob job) ×
    Commits script claimed job after)

-- behind an event that gave out a job: no memory while it ran, or its commit is refused
abbrev pub BreaksAfter : Script → Course → JobParts → Course → Refusal → Type 0
BreaksAfter script claimed job after refusal =
    ((after ≡ claimed) × (refusal ≡ refusals.NoMemory))
    ⊎ ((work : Done) × (work.job ≡ job) × IsTrueOf script work × Goes claimed (Commit job.number) (Some work) after (Refuses refusal))

-- a turn that breaks off: there is no memory to note what its event sends, or the event is refused, or what comes behind it
abbrev pub BreaksOff : Script → Course → Event → Course → Refusal → Type 0
BreaksOff script before e after refusal =
    ((after ≡ before) × (refusal ≡ refusals.NoMemory))
    ⊎ (Goes before e None after (Refuses refusal)
    ⊎ ((claimed : Course) × (job : JobParts) × Goes before e None claimed (GivesJob job) × BreaksAfter script claimed job after refusal))

-- the settle rule names the event, and nobody is left out
abbrev pub IsNext : Course → Event → Type 0
IsNext c e = next c.run.whole [] ≡ Some e

-- so many turns, one after the other
unfoldable pub Turns : Script → ℕ → Course → Course → Type 0
Turns script zero before after = after ≡ before
Turns script (suc n) before after = (between : Course) × (e : Event) × Turns script n before between × IsNext between e × Turn script between e after

-- turns until the rule names no event
abbrev pub EndsSo : Script → Course → Course → Type 0
EndsSo script before after = (n : ℕ) × Turns script n before after × (next after.run.whole [] ≡ None)

-- turns up to one that breaks off
abbrev pub StopsSo : Script → Course → Course → Refusal → Type 0
StopsSo script before after refusal =
    (n : ℕ) × (between : Course) × (e : Event) × Turns script n before between × IsNext between e × BreaksOff script between e after refusal
