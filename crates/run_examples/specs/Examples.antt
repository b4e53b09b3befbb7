-- Logs that no run on threads ends with.
use Rattle.std.specs.Prelude.{◌≡◌, ◌<◌, ◌≤◌, ℕ, Bool, false, List, [], ◌∷◌, ◌++◌}
use Rattle.meaning.specs.Syntax.{Script}
use Rattle.event_files.specs.declared.plan.PlanLine.{PlanLine}
use Rattle.script_check.specs.Scripts.{IsWellTyped}
use Rattle.event_log.specs.Entries.{Claim, Entry, In, Join, Kill, Refused, Tick}
use Rattle.event_log.specs.Entries.{Limit}
use Rattle.event_log.specs.Legal.{opening}
use Rattle.seats.specs.of_protocol_board.Cores.{IsCluster, Size}
use Rattle.seats.specs.of_protocol_board.Cores.{RunState}
use Rattle.seats.specs.of_protocol_board.Cores.{IsSoundLog}
use Rattle.seat_books.specs.Seats.{new_seats}
use Rattle.seats.specs.Ends.{AddUp, IsAtLimit, IsOverBeside, WasLimited}
use Rattle.seats.specs.Seated.{AreFrom}

-- where the log is still the opening, the run isn't over, whatever the plan: main has its first job to do
abbrev pub OpeningIsNotOver : Type 0
OpeningIsNotOver =
    (script : Script) (is_open : Bool) (plan : List PlanLine) (size : Size) → IsCluster size →
    (r : RunState) → IsSoundLog script r → IsOverBeside script is_open plan size r → r.log ≡ opening → ⊥

-- main's first job is given out, and its worker dies before it is handed in
abbrev pub dropped_job : List Entry
dropped_job = opening ++ In (Claim 1) 1 ∷ In (Kill 1) 1 ∷ []

-- worker 1 ticks as the run opens, and is refused for a limit
abbrev pub early_limit : List Entry
early_limit = opening ++ In (Tick 1) 1 ∷ Refused Limit ∷ []

pub record LimitsAreTrue : Type 0 where
  -- an event of it was refused for that
  pub says_so : WasLimited early_limit
  -- and it is the log of no run: there are one worker and one object
  pub is_of_none : (script : Script) → IsWellTyped script → (r : RunState) → 0 < r.first_nodes → r.first_nodes ≤ 64 →
      IsSoundLog script r → r.log ≡ early_limit → ⊥
  -- beside a plan with no lines nothing joins on the way to a limit, however many joins there would be to it
  pub unplanned : (script : Script) (size : Size) (r : RunState) → IsAtLimit script false [] size r →
      (before after : List Entry) (seat : ℕ) → r.log ≡ before ++ In Join seat ∷ after → ⊥

-- of no run that is over, whatever the plan and the cluster
pub record OverIsTrue : Type 0 where
  -- is the log such that a job was given out and not handed in
  pub dropped : (script : Script) (is_open : Bool) (plan : List PlanLine) (size : Size) (r : RunState) → IsOverBeside script is_open plan size r →
      r.log ≡ dropped_job → ⊥
  -- nor such that an event was refused at a limit
  pub limited : (script : Script) (is_open : Bool) (plan : List PlanLine) (size : Size) (r : RunState) → IsOverBeside script is_open plan size r →
      r.log ≡ early_limit → ⊥

-- a plan with one line: behind the first commit a node joins
abbrev pub late_join : List PlanLine
late_join = record { commits = 1; event = Join } ∷ []

-- a run that is over beside it doesn't begin with the join, though it has that one event from outside: main's first job is given out before
abbrev pub PlansAreTrue : Type 0
PlansAreTrue =
    (script : Script) (size : Size) → IsCluster size → (r : RunState) → IsOverBeside script false late_join size r →
    (seat : ℕ) (after : List Entry) → r.log ≡ opening ++ In Join seat ∷ after → ⊥

-- a tick from a third seat
abbrev pub from_third : List Entry
from_third = opening ++ In (Tick 1) 3 ∷ Refused Limit ∷ []

-- it stands in the log of no run on two threads
abbrev pub SeatsAreTrue : Type 0
SeatsAreTrue = AreFrom 2 from_third → ⊥

-- the empty books of two seats don't add up to a log with an event
abbrev pub BooksAreTrue : Type 0
BooksAreTrue = AddUp 1 (new_seats 1 2) (opening ++ In (Tick 1) 1 ∷ []) → ⊥
