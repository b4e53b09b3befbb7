-- Jobs that are out as they were given out, and logs in which each was handed in once.
use Rattle.std.specs.Prelude.{◌≡◌, ◌≤◌, ℕ, Bool, true, false, List, [], ◌∷◌, ◌++◌, length, Option, Some, None, slice_get}
use Rattle.event_files.specs.Plans.{is_outside}
use Rattle.event_files.specs.declared.plan.PlanLine.{PlanLine}
use Rattle.job_tickets.specs.declared.law.Claim.{Claim as Ticket}
use Rattle.event_log.specs.Entries.{Entry}
use Rattle.event_log.specs.Events.{claims}
use Rattle.log_entries.specs.declared.refusal.Refusal.{Refusal}
use Rattle.run_paths.specs.Handing.{HandsInOnce, has_commit}
use Rattle.run_paths.specs.of_protocol_board.Cores.{IsOut}
use Rattle.segment.specs.Jobs.{Done, JobParts}
use Rattle.seats.specs.Owed.{has_job}
use Rattle.seats.specs.Turns.{Did, GaveJob, IsOver, MustWait, Told, TurnState, WasRefused}
use Rattle.seats.specs.declared.outs.JobOut.{JobOut}

-- each of a plan's lines is an event from outside
abbrev pub AreOutside : List PlanLine → Type 0
AreOutside plan = (k : ℕ) (line : PlanLine) → slice_get plan k ≡ Some line → is_outside line.event ≡ true

-- each job was handed in once; each that was handed in was given out; and those that are out were not handed in
pub record AreHeld (out : List JobOut) (log : List Entry) : Type 0 where
  pub once : HandsInOnce log
  pub given : (j : ℕ) → has_commit j log ≡ true → j ≤ length (claims log)
  pub unhanded : (j : ℕ) → has_job j out ≡ true → (1 ≤ j) × (j ≤ length (claims log)) × (has_commit j log ≡ false)

-- so it is of a run that isn't open, beside a plan of events from outside, unless it is given up
abbrev pub StayHeld : Bool → List PlanLine → List JobOut → List Entry → Option Refusal → Type 0
StayHeld is_open plan out log None = is_open ≡ false → AreOutside plan → AreHeld out log
StayHeld is_open plan out log (Some refusal) = Unit {0}

-- the job is out, as it was given out
abbrev pub IsHeld : TurnState → JobParts → Type 0
IsHeld t job = (has_job job.number t.out ≡ true) × IsOut t.run.whole job.number job

-- so is the one on which it was done, beside a plan of events from outside, unless the run is given up
abbrev pub IsStillOut : TurnState → Option Done → Type 0
IsStillOut t None = Unit {0}
IsStillOut t (Some d) = AreOutside t.plan → t.given_up ≡ None → IsHeld t d.job

-- each of these is out, as it was given out, and no two have the same number
pub record AllHeld (t : TurnState) (given : List (Option JobParts)) : Type 0 where
  pub out : (n : ℕ) (job : JobParts) → slice_get given n ≡ Some (Some job) → IsHeld t job
  pub apart : (n m : ℕ) (job other : JobParts) → slice_get given n ≡ Some (Some job) → slice_get given m ≡ Some (Some other) → job.number ≡ other.number → n ≡ m

-- so it is of a run that isn't open, beside a plan of events from outside, unless it is given up
abbrev pub StayOut : Bool → List PlanLine → TurnState → Option Refusal → List (Option JobParts) → Type 0
StayOut is_open plan t None given = is_open ≡ false → AreOutside plan → AllHeld t given
StayOut is_open plan t (Some refusal) given = Unit {0}

-- the ticket is the job's
abbrev pub IsFor : JobParts → Option (Ticket JobParts) → Type 0
IsFor job ticket = (place : ℕ) × (ticket ≡ Some (record { place = place; of = job }))

-- what was given out, behind what a turn told
abbrev pub given_behind : Told → List (Option JobParts) → List (Option JobParts)
given_behind (GaveJob job) given = given ++ Some job ∷ []
given_behind Did given = given
given_behind (WasRefused refusal) given = given
given_behind MustWait given = given
given_behind IsOver given = given
