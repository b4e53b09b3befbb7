-- Whose turn it is in a run on threads, beside a plan: the least message that was never delivered; else the plan's next line, if so many commits
-- were accepted; else the least ready worker claims; else, where a job is out, none; else the plan's next line; else the run is at its end.
use Rattle.std.specs.Prelude.{◌≡◌, ◌⊎◌, ◌||◌, ℕ, ◌+◌, ◌==◌, Bool, is_some, not, nat_lt, true, false, if◌then◌else◌, List, [], ◌∷◌, ◌++◌, length, map, slice_get, Option, Some, None}
use Rattle.std.specs.List.{filter}
use Rattle.event_log.specs.Entries.{Entry, Event, Claim, Commit, Deliver}
use Rattle.event_log.specs.Books.{Totals, totals_of}
use Rattle.event_log.specs.Laws.{nothing}
use Rattle.log_entries.specs.declared.refusal.Refusal.{Refusal}
use Rattle.log_entries.specs.declared.refusal.Refusal.TheVariants as refusals
use Rattle.event_files.specs.declared.plan.PlanLine.{PlanLine}
use Rattle.protocol.specs.Settling.{next}
use Rattle.segment.specs.Jobs.{JobParts}
use Rattle.run_paths.specs.of_protocol_board.Cores.{RunState, Answers, IsOfLog, Reply, GivesJob, Accepts, Refuses}
use Rattle.seats.specs.Counted.{one_event, refused_totals}
use Rattle.seats.specs.declared.outs.JobOut.{JobOut}

-- the run; the plan, and how many of its lines were taken; the jobs that were given out and not handed in; and why the run was given up, if it was
pub record TurnState : Type 0 where
  pub run : RunState
  pub plan : List PlanLine
  pub taken : ℕ
  pub out : List JobOut
  pub given_up : Option Refusal

-- what a turn is to do: apply an event of the run's own, or the plan's next, or nothing yet, or nothing any more
pub data Choice : Type 0 where
  Does : (e : Event) → Choice
  Plans : (e : Event) → Choice
  Waits : Choice
  Ends : Choice

-- the line, if so many commits were accepted
abbrev pub due : ℕ → Option PlanLine → Option PlanLine
due commits None = None
due commits (Some line) = if nat_lt commits line.commits then None else Some line

abbrev pub or_message : Option Event → Choice → Choice
or_message (Some (Deliver k)) other = Does (Deliver k)
or_message _ other = other

abbrev pub or_plan : Option PlanLine → Choice → Choice
or_plan None other = other
or_plan (Some line) other = Plans line.event

abbrev pub or_claim : Option Event → Choice → Choice
or_claim (Some (Claim w)) other = Does (Claim w)
or_claim _ other = other

abbrev pub or_wait : Option Event → Choice → Choice
or_wait (Some (Commit j)) other = Waits
or_wait _ other = other

-- the workers that claimed jobs that are out
abbrev pub busy : List JobOut → List ℕ
busy out = map (λ x. x.worker) out

-- where the settle rule names a commit, a job of a live worker is out
abbrev pub choice : TurnState → Choice
choice t =
    or_message (next t.run.whole [])
    (or_plan (due (totals_of t.run.log).commits (slice_get t.plan t.taken))
    (or_claim (next t.run.whole (busy t.out))
    (or_wait (next t.run.whole [])
    (or_plan (slice_get t.plan t.taken) Ends))))

-- the turn applies an event
abbrev pub is_event : Choice → Bool
is_event (Does e) = true
is_event (Plans e) = true
is_event Waits = false
is_event Ends = false

-- whether the run is at its end: it is given up, or nothing is left to do, nor of the plan, and no job is out
abbrev pub is_at_end : TurnState → Bool
is_at_end t = is_some t.given_up || not (nat_lt t.taken (length t.plan) || nat_lt 0 (length t.out) || is_some (next t.run.whole []))

-- the jobs but that one
abbrev pub without : ℕ → List JobOut → List JobOut
without j out = filter (λ x. not (x.job == j)) out

-- the jobs that are out behind an answer: one whose commit is refused since its worker is dead was handed in too
abbrev pub out_behind : Event → Reply → List JobOut → List JobOut
out_behind (Claim w) (GivesJob job) out = out ++ record { job = job.number; worker = w } ∷ []
out_behind (Commit j) Accepts out = without j out
out_behind (Commit j) (Refuses refusals.Stale) out = without j out
out_behind e told out = out

-- what a turn comes to: the job that it gives out, an event, its refusal, a wait, or the end
pub data Told : Type 0 where
  GaveJob : (job : JobParts) → Told
  Did : Told
  WasRefused : (refusal : Refusal) → Told
  MustWait : Told
  IsOver : Told

abbrev pub told_by : Reply → Told
told_by (GivesJob job) = GaveJob job
told_by Accepts = Did
told_by (Refuses refusal) = WasRefused refusal

-- what the attempt of the job that it gives out was answered begins what the log has of answers to it
abbrev pub TurnGivesOwn : List Entry → Told → Type 0
TurnGivesOwn log (GaveJob job) = IsOfLog log job
TurnGivesOwn log Did = Unit {0}
TurnGivesOwn log (WasRefused refusal) = Unit {0}
TurnGivesOwn log MustWait = Unit {0}
TurnGivesOwn log IsOver = Unit {0}

-- what it counts in a book
abbrev pub turn_counted : Told → Totals
turn_counted (GaveJob job) = record one_event { given = job.number }
turn_counted Did = one_event
turn_counted (WasRefused refusal) = refused_totals refusal
turn_counted MustWait = nothing
turn_counted IsOver = nothing

-- the first refusal for which the run is given up stands
abbrev pub or_first : Option Refusal → Refusal → Option Refusal
or_first None refusal = Some refusal
or_first (Some first) refusal = Some first

-- an event that is refused 37, 38 or 39 gives the run up
abbrev pub given_up_by : Reply → Option Refusal → Option Refusal
given_up_by (Refuses refusals.Limit) given_up = or_first given_up refusals.Limit
given_up_by (Refuses refusals.Halted) given_up = or_first given_up refusals.Halted
given_up_by (Refuses refusals.NoMemory) given_up = or_first given_up refusals.NoMemory
given_up_by told given_up = given_up

-- the jobs that are out, and why the run is given up, before and behind an answer: where there is no memory to keep that a job is out, it is given up
abbrev pub KeepsOut : Event → Reply → List JobOut → Option Refusal → List JobOut → Option Refusal → Type 0
KeepsOut e told out given_up out_now given_up_now =
    ((out_now ≡ out_behind e told out) × (given_up_now ≡ given_up_by told given_up))
    ⊎ ((out_now ≡ out) × (given_up_now ≡ or_first (given_up_by told given_up) refusals.NoMemory))

-- the run behind an event with its answer
pub record Follows (before : TurnState) (e : Event) (told : Reply) (after : TurnState) : Type 0 where
  pub plan : after.plan ≡ before.plan
  pub taken : after.taken ≡ before.taken
  pub kept : KeepsOut e told before.out before.given_up after.out after.given_up

-- the event comes from the seat, with nothing done on a job
pub record Takes (before : TurnState) (e : Event) (seat : ℕ) (after : TurnState) (told : Told) : Type 0 where
  pub reply : Reply
  pub answers : Answers before.run e seat None after.run reply
  pub follows : Follows before e reply after
  pub told_so : told ≡ told_by reply

-- past the plan's next line, if there is one
abbrev pub past_line : List PlanLine → ℕ → ℕ
past_line plan taken = if nat_lt taken (length plan) then taken + 1 else taken

-- what is chosen is done
abbrev pub IsDone : TurnState → Choice → ℕ → TurnState → Told → Type 0
IsDone before (Does e) seat after told = Takes before e seat after told
IsDone before (Plans e) seat after told = Takes (record before { taken = past_line before.plan before.taken }) e seat after told
IsDone before Waits seat after told = (after ≡ before) × (told ≡ MustWait)
IsDone before Ends seat after told = (after ≡ before) × (told ≡ IsOver)

-- a turn: once the run is given up nothing is done; what is chosen is done, unless there is no memory for the choice, for which the run is given up
abbrev pub TurnedBy : Option Refusal → TurnState → ℕ → TurnState → Told → Type 0
TurnedBy (Some refusal) before seat after told = (after ≡ before) × (told ≡ IsOver)
TurnedBy None before seat after told =
    IsDone before (choice before) seat after told ⊎ ((after ≡ record before { given_up = Some refusals.NoMemory }) × (told ≡ IsOver))

abbrev pub Turned : TurnState → ℕ → TurnState → Told → Type 0
Turned before seat after told = TurnedBy before.given_up before seat after told
