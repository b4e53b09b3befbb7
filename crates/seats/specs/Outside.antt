-- Events from outside: those that a plan may have.
use Rattle.std.specs.Prelude.{◌≡◌, ◌⊎◌, ℕ, Bool, true, false, List, Option, Some, None}
use Rattle.std.specs.List.{filter}
use Rattle.event_log.specs.Entries.{Entry, Event}
use Rattle.event_log.specs.Words.{events}
use Rattle.log_entries.specs.declared.refusal.Refusal.{Refusal}
use Rattle.log_entries.specs.declared.refusal.Refusal.TheVariants as refusals
use Rattle.segment.specs.Jobs.{Done}
use Rattle.seats.specs.Held.{IsStillOut}
pub use Rattle.event_files.specs.Plans.{is_outside}
use Rattle.seats.specs.Ruled.{HandsIn, IsRuled}
use Rattle.seats.specs.Turns.{TurnState}

-- those of the events that come from outside
abbrev pub outside : List Event → List Event
outside es = filter is_outside es

-- the log's events from outside, refused ones among them, are those of these events, in their order; of an open run nothing is said
abbrev pub HasNoOther : Bool → List Event → List Entry → Type 0
HasNoOther is_open es log = is_open ≡ false → outside (events log) ≡ outside es

-- nor of one that is given up for want of memory
abbrev pub KeepsToThem : Bool → List Event → List Entry → Option Refusal → Type 0
KeepsToThem is_open es log None = HasNoOther is_open es log
KeepsToThem is_open es log (Some refusals.Limit) = HasNoOther is_open es log
KeepsToThem is_open es log (Some refusal) = Unit {0}

-- a call may apply the event with what is handed in, if anything is: it commits what was done on a job that is still out, or the run is open
abbrev pub MayApply : Bool → TurnState → Event → Option Done → Type 0
MayApply is_open t e done = (HandsIn e done × IsStillOut t done) ⊎ (is_open ≡ true)

-- behind the event so many of the plan's lines are taken: as a turn or a job that is handed in has it, or the run is open and a call applies it
abbrev pub Passes : Bool → TurnState → Event → Option Done → ℕ → Type 0
Passes is_open t e done taken = IsRuled t e done taken ⊎ ((is_open ≡ true) × (taken ≡ t.taken))
