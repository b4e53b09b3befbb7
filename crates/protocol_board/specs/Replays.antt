-- The replay of an event file: the run that comes of the events that its lines stand for, one after the other.
use Rattle.std.specs.Prelude.{◌≡◌, ◌≢◌, ◌<◌, ◌≤◌, ◌⊎◌, ◌+◌, ℕ, zero, suc, Bool, true, false, List, [], ◌∷◌, ◌++◌, take, slice_get, length, Option, Some, None}
use Rattle.std.specs.Option.{option_flatten}
use Rattle.meaning.specs.Syntax.{Script}
use Rattle.segment.specs.Jobs.{JobParts, Done, IsTrueOf}
use Rattle.event_log.specs.Entries.{Claim, Commit, Event}
use Rattle.log_entries.specs.declared.refusal.Refusal.{Refusal}
use Rattle.log_entries.specs.declared.refusal.Refusal.TheVariants as refusals
use Rattle.event_files.specs.declared.line.Line.{Line}
use Rattle.event_files.specs.declared.line.Line.TheVariants as lines
use Rattle.event_files.specs.declared.event_file.EventFile.{EventFile}
use Rattle.event_files.specs.declared.event_file.EventFile.TheVariants as files
use Rattle.event_files.specs.declared.recorded.RecordedEvent.{RecordedEvent}
use Rattle.protocol.specs.Numbered.{item_at, changed_at}
use Rattle.protocol.specs.Settling.{next}
use Rattle.protocol_core.specs.States.{RunState}
use Rattle.protocol_core.specs.Steps.{Answers, Reply, GivesJob, Accepts, Refuses}
use Rattle.protocol_board.specs.declared.stopped.ReplayStop.{ReplayStop}
use Rattle.protocol_board.specs.declared.stopped.ReplayStop.TheVariants as stops

-- the run; the jobs that were given out, one after the other, where None stands for one that was handed in; how many events were applied; behind
-- each event how many messages had been sent; how many lines were begun; and of each event the number of its line
pub record Play : Type 0 where
  pub run : RunState
  pub jobs : List (Option JobParts)
  pub applied : ℕ
  pub sent : List ℕ
  pub begun : ℕ
  pub lines : List ℕ

-- no line is begun yet
abbrev pub from_first : Play → Play
from_first p = record p { begun = 0 }

-- one more line is begun
abbrev pub next_line : Play → Play
next_line p = record p { begun = p.begun + 1 }

-- the job of that number, counted from 1, unless it was handed in
abbrev pub job_at : List (Option JobParts) → ℕ → Option JobParts
job_at jobs j = option_flatten (item_at jobs j)

abbrev pub handed_in : List (Option JobParts) → ℕ → List (Option JobParts)
handed_in jobs j = changed_at jobs j (λ job. None)

-- the job that an event hands in: a commit's, the first time
abbrev pub job_for : Event → List (Option JobParts) → Option JobParts
job_for (Commit j) jobs = job_at jobs j
job_for e jobs = None

abbrev pub left_by : Event → List (Option JobParts) → List (Option JobParts)
left_by (Commit j) jobs = handed_in jobs j
left_by e jobs = jobs

-- what was done on the job, and nothing where there is none
abbrev pub IsDoneOn : Script → Option JobParts → Option Done → Type 0
IsDoneOn script None done = done ≡ None
IsDoneOn script (Some job) None = ⊥
IsDoneOn script (Some job) (Some d) = (d.job ≡ job) × IsTrueOf script d

-- with the job that is given out
abbrev pub with_given : Reply → List (Option JobParts) → List (Option JobParts)
with_given (GivesJob job) jobs = jobs ++ Some job ∷ []
with_given Accepts jobs = jobs
with_given (Refuses refusal) jobs = jobs

abbrev pub is_no_memory : Refusal → Bool
is_no_memory refusals.NoMemory = true
is_no_memory refusal = false

-- the event is refused 39
abbrev pub found_no_memory : Reply → Bool
found_no_memory (GivesJob job) = false
found_no_memory Accepts = false
found_no_memory (Refuses refusal) = is_no_memory refusal

-- what an event makes of the run, and what is answered, where it comes from the seat with what was done on the job that it hands in
abbrev pub IsAnswered : Script → Play → Event → ℕ → RunState → Reply → Type 0
IsAnswered script before e seat after told = (done : Option Done) × IsDoneOn script (job_for e before.jobs) done × Answers before.run e seat done after told

-- an event is applied, and finds memory
pub record Step (script : Script) (before : Play) (e : Event) (seat : ℕ) (after : Play) : Type 0 where
  pub within : before.applied < 100000
  pub told : Reply
  pub answered : IsAnswered script before e seat after.run told
  pub goes_on : found_no_memory told ≡ false
  pub jobs : after.jobs ≡ with_given told (left_by e before.jobs)
  pub counted : after.applied ≡ before.applied + 1
  pub sent : after.sent ≡ before.sent ++ length after.run.whole.network ∷ []
  pub same_line : after.begun ≡ before.begun
  pub lines : after.lines ≡ before.lines ++ before.begun ∷ []

-- what stays where there is no memory for what is done on the event's job, for its answer, or for what is kept of it: all that was told of the events before
pub record FindsNoMemory (script : Script) (before : Play) (e : Event) (seat : ℕ) (after : Play) : Type 0 where
  pub run : (after.run ≡ before.run) ⊎ ((told : Reply) × IsAnswered script before e seat after.run told)
  -- the job that the event hands in is gone, and one that is given out may be
  pub jobs : (after.jobs ≡ left_by e before.jobs) ⊎ ((told : Reply) × (after.jobs ≡ with_given told (left_by e before.jobs)))
  pub counted : before.applied ≤ after.applied
  pub sent : (after.sent ≡ before.sent) ⊎ (after.sent ≡ before.sent ++ length after.run.whole.network ∷ [])
  pub same_line : after.begun ≡ before.begun
  pub lines : after.lines ≡ before.lines

-- an event at which a replay stops: there is no memory, or 100,000 events were applied
abbrev pub StopsAt : Script → Play → Event → ℕ → Play → ReplayStop → Type 0
StopsAt script before e seat after stops.NoMemory = FindsNoMemory script before e seat after
StopsAt script before e seat after stops.TooLong = (after ≡ before) × (100000 ≤ before.applied)
StopsAt script before e seat after stops.WrongJob = ⊥

-- the number of the job that a claim gave, 0 where it was refused; of another event none
abbrev pub given_by : Event → Reply → Option ℕ
given_by (Claim w) (GivesJob job) = Some job.number
given_by (Claim w) Accepts = Some 0
given_by (Claim w) (Refuses refusal) = Some 0
given_by e told = None

-- an event is applied, and gives that
abbrev pub Gives : Script → Play → Event → ℕ → Play → Option ℕ → Type 0
Gives script before e seat after given = (step : Step script before e seat after) × (given ≡ given_by e step.told)

-- so many events, each the one that comes next without these workers
unfoldable pub Settles : Script → List ℕ → ℕ → Play → Play → Type 0
Settles script but zero before after = after ≡ before
Settles script but (suc n) before after =
    (between : Play) × (e : Event) × Settles script but n before between × (next between.run.whole but ≡ Some e) × Step script between e 0 after

-- a settle: such events until none comes next
abbrev pub ComesToRest : Script → List ℕ → Play → Play → Type 0
ComesToRest script but before after = (n : ℕ) × Settles script but n before after × (next after.run.whole but ≡ None)

abbrev pub SettleStops : Script → List ℕ → Play → Play → ReplayStop → Type 0
SettleStops script but before after stopped =
    (n : ℕ) × (between : Play) × (e : Event)
    × Settles script but n before between × (next between.run.whole but ≡ Some e) × StopsAt script between e 0 after stopped

-- the line is begun, and is its event or a settle
abbrev pub LinePlays : Script → Line → Play → Play → Type 0
LinePlays script (lines.Event e) before after = Step script (next_line before) e 0 after
LinePlays script (lines.Settle workers) before after = ComesToRest script workers (next_line before) after

abbrev pub LineStops : Script → Line → Play → Play → ReplayStop → Type 0
LineStops script (lines.Event e) before after stopped = StopsAt script (next_line before) e 0 after stopped
LineStops script (lines.Settle workers) before after stopped =
    SettleStops script workers (next_line before) after stopped

-- all items, one after the other, where each takes a play to a play so
unfoldable pub AllPlay : {A : Type 0} → (A → Play → Play → Type 0) → List A → Play → Play → Type 0
AllPlay plays [] before after = after ≡ before
AllPlay plays (x ∷ rest) before after = (between : Play) × plays x before between × AllPlay plays rest between after

-- items up to the one at which the replay stops
abbrev pub OneStops : {A : Type 0} → (A → Play → Play → Type 0) → (A → Play → Play → ReplayStop → Type 0) → List A → Play → Play → ReplayStop → Type 0
OneStops {A} plays stops all before after stopped =
    (n : ℕ) × (x : A) × (between : Play) × (slice_get all n ≡ Some x) × AllPlay plays (take n all) before between × stops x between after stopped

-- all lines, one after the other
abbrev pub Plays : Script → List Line → Play → Play → Type 0
Plays script lines before after = AllPlay (LinePlays script) lines before after

-- lines up to the one at which the replay stops
abbrev pub PlayStops : Script → List Line → Play → Play → ReplayStop → Type 0
PlayStops script lines before after stopped = OneStops (LinePlays script) (LineStops script) lines before after stopped

-- ---- a recorded history

-- the line is begun, and its event comes from its seat and gives the job that stands there
abbrev pub EventPlays : Script → RecordedEvent → Play → Play → Type 0
EventPlays script r before after = Gives script (next_line before) r.event r.seat after r.given

-- the event can't be applied, or it gives another job
abbrev pub EventStops : Script → RecordedEvent → Play → Play → ReplayStop → Type 0
EventStops script r before after stops.WrongJob =
    (given : Option ℕ) × Gives script (next_line before) r.event r.seat after given × (given ≢ r.given)
EventStops script r before after stopped = StopsAt script (next_line before) r.event r.seat after stopped

abbrev pub PlaysHistory : Script → List RecordedEvent → Play → Play → Type 0
PlaysHistory script events before after = AllPlay (EventPlays script) events before after

-- events up to the first at which the replay stops
abbrev pub HistoryStops : Script → List RecordedEvent → Play → Play → ReplayStop → Type 0
HistoryStops script events before after stopped = OneStops (EventPlays script) (EventStops script) events before after stopped

-- ---- a file of either format

abbrev pub PlaysFile : Script → EventFile → Play → Play → Type 0
PlaysFile script (files.Lines lines) before after = Plays script lines before after
PlaysFile script (files.Recorded events) before after = PlaysHistory script events before after

abbrev pub FileStops : Script → EventFile → Play → Play → ReplayStop → Type 0
FileStops script (files.Lines lines) before after stopped = PlayStops script lines before after stopped
FileStops script (files.Recorded events) before after stopped = HistoryStops script events before after stopped
