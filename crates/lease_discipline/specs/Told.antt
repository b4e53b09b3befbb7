-- What the log tells of each worker is what its tables say.
use Rattle.std.specs.Prelude.{◌≡◌, ◌++◌, ◌∷◌, ℕ, true, List, [], length, None, Some}
use Rattle.event_log.specs.Entries.{Entry, Refused}
use Rattle.event_log.specs.Rules.{Setting}
use Rattle.protocol_laws.specs.of_protocol.Answers.{Answer, Refuses, Takes}
use Rattle.protocol_laws.specs.of_protocol.Messages.{Envelope}
use Rattle.protocol_laws.specs.of_protocol.Tables.{Worker, new_worker}
use Rattle.protocol_laws.specs.of_protocol.Cluster.{ClusterState, worker_at}
use Rattle.protocol_laws.specs.Sound.{IsSound}
use Rattle.protocol_laws.specs.of_protocol_owed.Courses.{Course, course_from, opening_course}
use Rattle.protocol_laws.specs.of_protocol_owed.Told.{IsAsTold}
use Rattle.lease_discipline.specs.Discipline.{KeepsLeases}

-- so of a live worker; of one that isn't there yet the log tells as of a new one
pub record IsToldOf (k : Course) (c : ClusterState) (w : ℕ) : Type 0 where
  pub there : (x : Worker) → worker_at c w ≡ Some x → x.is_live ≡ true → IsAsTold k x
  pub absent : worker_at c w ≡ None → (n : ℕ) → IsAsTold k (new_worker n)

-- whatever is sent later, the course of each worker over this log is what its tables say, and counts the jobs
pub record TellsCourses (log : List Entry) (c : ClusterState) : Type 0 where
  pub told : (later : List Envelope) (w : ℕ) → IsToldOf (course_from (c.network ++ later) w (opening_course w) log) c w
  pub given : (later : List Envelope) (w : ℕ) → (course_from (c.network ++ later) w (opening_course w) log).given ≡ length c.jobs

-- between two events: the run is sound, its leases are in order, and the log tells what the tables say
pub record IsInStep (s : Setting) (log : List Entry) (c : ClusterState) : Type 0 where
  pub sound : IsSound s log c
  pub leases : KeepsLeases c
  pub courses : TellsCourses log c

-- what an event logs behind itself
abbrev pub entries_of : Answer → List Entry
entries_of (Takes step) = step.entries
entries_of (Refuses code) = Refused code ∷ []
