-- What a run in step owes, and pays.
use Rattle.std.specs.Prelude.{◌≡◌, ◌<◌, ◌++◌, ℕ, true, List, Some}
use Rattle.event_log.specs.Entries.{Attempt, Entry, Event}
use Rattle.event_log.specs.Legal.{opening}
use Rattle.event_log.specs.Rules.{Setting}
use Rattle.meaning.specs.Mains.{KeepsMainApart}
use Rattle.protocol_laws.specs.of_protocol.Answers.{answer, logged, whole_after}
use Rattle.protocol_laws.specs.of_protocol.Jobs.{CommitInput}
use Rattle.protocol_laws.specs.of_protocol.Tables.{Worker}
use Rattle.protocol_laws.specs.of_protocol.Cluster.{ClusterState, first_whole, worker_at}
use Rattle.protocol_laws.specs.Coming.{IsRight}
use Rattle.protocol_laws.specs.of_protocol_owed.Courses.{course, has_begun}
use Rattle.protocol_laws.specs.of_protocol_owed.Runs.{Running, seen}
use Rattle.protocol_laws.specs.of_protocol_owed.Turns.{ClaimIsAnswered}
use Rattle.protocol_laws.specs.of_protocol_owed.Told.{IsAsTold}
use Rattle.lease_discipline.specs.Told.{IsInStep, entries_of}

abbrev pub running : ClusterState → List Entry → Running
running c log = record { whole = c; log = log }

-- in a cluster that has a node a run begins in step
abbrev pub OpeningIsInStep : Type 0
OpeningIsInStep = (s : Setting) (slots : ℕ) → 0 < s.nodes → IsInStep s opening (first_whole s.nodes slots)

-- every event keeps it so, where what is handed in with a commit is what the attempt's replay does
abbrev pub EventsStayInStep : Type 0
EventsStayInStep =
    (s : Setting) → KeepsMainApart s.script → (log : List Entry) (c : ClusterState) (e : Event) (seat : ℕ) (handed : CommitInput) →
    IsInStep s log c → IsRight s c e handed → IsInStep s (log ++ logged e seat (answer c e handed)) (whole_after c (answer c e handed))

-- log and network tell of each live worker what its tables say
abbrev pub LogsTell : Type 0
LogsTell =
    (s : Setting) (log : List Entry) (c : ClusterState) → IsInStep s log c → (w : ℕ) (x : Worker) → worker_at c w ≡ Some x → x.is_live ≡ true →
    IsAsTold (course (seen s (running c log)) w) x

-- an attempt was begun by one worker at most
abbrev pub AttemptsRunOnce : Type 0
AttemptsRunOnce =
    (s : Setting) (log : List Entry) (c : ClusterState) → IsInStep s log c → (a : Attempt) (v w : ℕ) (x y : Worker) →
    worker_at c v ≡ Some x → worker_at c w ≡ Some y → has_begun a x.began ≡ true → has_begun a y.began ≡ true → v ≡ w

-- 31 is answered exactly to live workers that aren't ready
abbrev pub ClaimsAreAnswered : Type 0
ClaimsAreAnswered =
    (s : Setting) (log : List Entry) (c : ClusterState) → IsInStep s log c → (e : Event) (handed : CommitInput) →
    ClaimIsAnswered (seen s (running c log)) e (entries_of (answer c e handed))
