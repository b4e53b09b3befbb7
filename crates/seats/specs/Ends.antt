-- How a run on threads ends, and what is known of it on the way.
use Rattle.std.specs.Prelude.{◌≡◌, ℕ, Bool, false, List, [], ◌∷◌, ◌++◌, map, take, Option, Some, None, IfSome}
use Rattle.event_files.specs.declared.plan.PlanLine.{PlanLine}
use Rattle.event_log.specs.Books.{totals_of}
use Rattle.event_log.specs.Breaks.{Among}
use Rattle.event_log.specs.Entries.{Entry, Event, In, Refused}
use Rattle.event_log.specs.Entries.{Limit}
use Rattle.log_entries.specs.declared.refusal.Refusal.{Refusal}
use Rattle.log_entries.specs.declared.refusal.Refusal.TheVariants as refusals
use Rattle.protocol.specs.Settling.{next}
use Rattle.meaning.specs.Syntax.{Script}
use Rattle.run_paths.specs.of_protocol_board.Cores.{RunState, Size, first_state}
use Rattle.run_paths.specs.Handing.{AllHandedIn, HandsInOnce}
use Rattle.run_paths.specs.Paths.{Comes}
use Rattle.books.specs.SeatTotals.{seat_totals}
use Rattle.seat_books.specs.Seats.{SeatOf, book_of, sums}
use Rattle.seats.specs.Held.{AreOutside}
use Rattle.seats.specs.Outside.{HasNoOther}
use Rattle.seats.specs.Ruled.{IsRuledRun}
use Rattle.seats.specs.Seated.{AreFrom}
use Rattle.seats.specs.declared.end.Ended.{Ended}
use Rattle.seats.specs.declared.end.Ended.TheVariants as ends

-- the books of the seats add up to the totals of the log, and the watched one's is what came from that seat
abbrev pub AddUp : ℕ → List SeatOf → List Entry → Type 0
AddUp watched seats log = (totals_of log ≡ sums seats) × (book_of watched seats ≡ Some (seat_totals watched log))

-- an event of the log was refused since it would have made an object, worker or node past its limit
abbrev pub WasLimited : List Entry → Type 0
WasLimited log = Among (Refused Limit) log

-- the events stand in the log in their order, whatever stands between them
unfoldable pub AreIn : List Event → List Entry → Type 0
AreIn [] log = Unit {0}
AreIn (e ∷ es) log = (before : List Entry) × (seat : ℕ) × (after : List Entry) × (log ≡ before ++ In e seat ∷ after) × AreIn es after

-- the events of a plan's lines
abbrev pub events_of : List PlanLine → List Event
events_of lines = map (λ l. l.event) lines

-- and of the first lines
abbrev pub first_events : ℕ → List PlanLine → List Event
first_events n plan = events_of (take n plan)

-- the cluster on which a run began
abbrev pub size_of : RunState → Size
size_of r = record { nodes = r.first_nodes; slots = r.whole.slots }

-- the events stand in the log in their order, and no others from outside do, unless the run is open
abbrev pub ArePlanned : Bool → List Event → List Entry → Type 0
ArePlanned is_open es log = AreIn es log × HasNoOther is_open es log

-- a run of the script beside the plan on such a cluster is over: the settle rule names no event, each job that was given out was handed in, and of the events
-- from outside the plan's, and, unless the run is open, no others, stand in the log
pub record IsOverBeside (script : Script) (is_open : Bool) (plan : List PlanLine) (size : Size) (r : RunState) : Type 0 where
  pub settled : next r.whole [] ≡ None
  pub handed_in : AllHandedIn r.log
  -- and, unless the run is open or the plan has events of the run's own, once
  pub once : is_open ≡ false → AreOutside plan → HandsInOnce r.log
  pub planned : ArePlanned is_open (events_of plan) r.log
  pub on_cluster : size_of r ≡ size
  -- each event found memory, so that these are the workers, nodes and messages to which the log led
  pub goes_on : r.is_halted ≡ false
  -- and none was refused at a limit
  pub within_limits : WasLimited r.log → ⊥
  -- and that came of events, one after the other, each with what was handed in, true of its job
  pub came : Comes script (first_state size.nodes size.slots) r
  -- each of which, unless the run is open, was the one that a turn named, or handed in what was done on a job, and none gave the run up
  pub ruled : IsRuledRun script is_open plan size None r

-- and no others
abbrev pub IsOver : Script → List PlanLine → Size → RunState → Type 0
IsOver script plan size r = IsOverBeside script false plan size r

-- a run of the script beside the plan on such a cluster is at a limit: an event was refused for that, and of the events from outside those of the plan's
-- first lines, as far as they were taken, and, unless the run is open, no others, stand in the log
pub record IsAtLimit (script : Script) (is_open : Bool) (plan : List PlanLine) (size : Size) (r : RunState) : Type 0 where
  pub limited : WasLimited r.log
  pub taken : ℕ
  pub planned : ArePlanned is_open (first_events taken plan) r.log
  pub on_nodes : r.first_nodes ≡ size.nodes
  -- and it came of events, one after the other, each with what was handed in, true of its job
  pub came : Comes script (first_state size.nodes size.slots) r
  -- each of which, unless the run is open, was the one that a turn named, or handed in what was done on a job, and for the limit the run was given up
  pub ruled : IsRuledRun script is_open plan size (Some refusals.Limit) r

-- how a run of the script beside the plan on such a cluster ends
abbrev pub HasEnded : {X : Type 0} → Script → Bool → List PlanLine → Size → Ended X → Type 0
HasEnded script is_open plan size (ends.Over board) = IsOverBeside script is_open plan size board
HasEnded script is_open plan size (ends.AtLimit board) = IsAtLimit script is_open plan size board
HasEnded script is_open plan size ends.NoMemory = Unit {0}

-- a run is given up for want of memory: an event found none (39), or came behind one that did (38), or there was none for something else
abbrev pub IsForMemory : Option Refusal → Type 0
IsForMemory None = ⊥
IsForMemory (Some refusals.NoMemory) = Unit {0}
IsForMemory (Some refusals.Halted) = Unit {0}
IsForMemory (Some refusal) = ⊥

-- it ends for want of memory only where it was given up for that
abbrev pub EndsFor : {X : Type 0} → Option Refusal → Ended X → Type 0
EndsFor given_up (ends.Over board) = Unit {0}
EndsFor given_up (ends.AtLimit board) = Unit {0}
EndsFor given_up ends.NoMemory = IsForMemory given_up

-- the log of a run that ended, unless there was no memory
abbrev pub log_at : {X : Type 0} → Ended X → Option (List Entry)
log_at (ends.Over board) = Some board.log
log_at (ends.AtLimit board) = Some board.log
log_at ends.NoMemory = None

-- and the books of these seats, which are all, so many, add up; and each event came from one of so many
abbrev pub IsEndBeside : {X : Type 0} → Script → Bool → List SeatOf → ℕ → ℕ → List PlanLine → Size → Ended X → Type 0
IsEndBeside script is_open seats n watched plan size end =
    HasEnded script is_open plan size end × IfSome (log_at end) (λ log. AddUp watched seats log × AreFrom n log)

-- so, where each event came from one of so many seats
abbrev pub IsEndAt : {X : Type 0} → Script → Bool → ℕ → List PlanLine → Size → Ended X → Type 0
IsEndAt script is_open seats plan size end = HasEnded script is_open plan size end × IfSome (log_at end) (AreFrom seats)

-- of a run that isn't open
abbrev pub IsEnd : {X : Type 0} → Script → ℕ → List PlanLine → Size → Ended X → Type 0
IsEnd script seats plan size end = IsEndAt script false seats plan size end

-- what a log has of a plan's events that were taken, unless there was no memory, and of why the run is given up, if it is: an event of it was refused at a
-- limit
abbrev pub Stands : List Event → List Entry → Option Refusal → Type 0
Stands es log None = AreIn es log
Stands es log (Some refusals.Limit) = AreIn es log × WasLimited log
Stands es log (Some refusals.Halted) = Unit {0}
Stands es log (Some refusals.NoMemory) = Unit {0}
Stands es log (Some refusal) = ⊥

-- unless the run is given up, a node has so many slots, and each event found memory
abbrev pub GoesOn : ℕ → RunState → Option Refusal → Type 0
GoesOn slots r None = (r.whole.slots ≡ slots) × (r.is_halted ≡ false)
GoesOn slots r (Some refusal) = Unit {0}

-- unless the run is given up, no event was refused at a limit
abbrev pub IsWithinLimits : List Entry → Option Refusal → Type 0
IsWithinLimits log None = WasLimited log → ⊥
IsWithinLimits log (Some refusal) = Unit {0}
