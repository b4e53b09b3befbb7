-- How far a worker is with its attempt by its tables, and that the log's account of it says the same.
use Rattle.std.specs.Prelude.{◌≡◌, Option, None, Some}
use Rattle.smallest_steps.specs.of_event_log.Entries.{Attempt}
use Rattle.smallest_steps.specs.of_protocol.Sets.{first_item}
use Rattle.smallest_steps.specs.of_protocol.Tables.{HasEnded, HasFaulted, Out, Phase, Ready, Execution, Waits, Worker}
use Rattle.protocol_owed.specs.Courses.{Course, GoesOn, HasStopped, IsOut, Pace, Rests, has_begun}

-- how far an attempt is, by its phase
abbrev pub pace_in : Phase → Pace
pace_in Ready = GoesOn
pace_in (Out j) = IsOut j
pace_in (Waits y f) = Rests
pace_in (HasEnded cs) = HasStopped
pace_in (HasFaulted f) = HasStopped

abbrev pub pace_by : Option Execution → Pace
pace_by None = HasStopped
pace_by (Some run) = pace_in run.phase

abbrev pub attempt_by : Option Execution → Option Attempt
attempt_by None = None
attempt_by (Some run) = Some run.attempt

-- the log's account of a worker is what its tables say: which attempts it began, the last of them, and how far it is with that
pub record IsAsTold (k : Course) (x : Worker) : Type 0 where
  pub began : (a : Attempt) → has_begun a k.began ≡ has_begun a x.began
  pub last : first_item k.began ≡ attempt_by x.run
  pub pace : k.pace ≡ pace_by x.run
