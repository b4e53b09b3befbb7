-- The laws of the lease discipline.
use Rattle.std.specs.Prelude.{◌≡◌, ◌<◌, ℕ, false, true, Some}
use Rattle.meaning.specs.Values.{Birth}
use Rattle.event_log.specs.Entries.{Attempt, Deliver, Event}
use Rattle.protocol_laws.specs.of_protocol.Answers.{Step, Takes, answer, whole_after}
use Rattle.protocol_laws.specs.of_protocol.Jobs.{CommitInput}
use Rattle.protocol_laws.specs.of_protocol.Messages.{Endpoint, Push, TheWorker, envelope}
use Rattle.protocol_laws.specs.of_protocol.Numbered.{item_at}
use Rattle.protocol_laws.specs.of_protocol.Runs.{is_free}
use Rattle.protocol_laws.specs.of_protocol.Tables.{Worker}
use Rattle.protocol_laws.specs.of_protocol.Cluster.{ClusterState, first_whole, worker_at}
use Rattle.protocol_laws.specs.of_protocol_owed.Courses.{has_begun}
use Rattle.lease_discipline.specs.Discipline.{KeepsLeases}

-- in a cluster that has a node a run begins with its leases in order
abbrev pub OpeningKeepsLeases : Type 0
OpeningKeepsLeases = (nodes slots : ℕ) → 0 < nodes → KeepsLeases (first_whole nodes slots)

-- every event keeps the discipline, accepted or refused, whatever is handed in with it
abbrev pub EventsKeepLeases : Type 0
EventsKeepLeases = (c : ClusterState) (e : Event) (handed : CommitInput) → KeepsLeases c → KeepsLeases (whole_after c (answer c e handed))

-- a Push of an attempt that a live worker never began finds it free
abbrev pub PushesFindFree : Type 0
PushesFindFree =
    (c : ClusterState) → KeepsLeases c → (k w : ℕ) (from : Endpoint) (a : Attempt) (spec : Birth) (x : Worker) →
    item_at c.network k ≡ Some (envelope from (TheWorker w) (Push a spec)) → worker_at c w ≡ Some x → x.is_live ≡ true → has_begun a x.began ≡ false →
    is_free x.run ≡ true

-- a Push that reaches a live worker begins its attempt there, unless that began before: none is passed over
abbrev pub PushesBegin : Type 0
PushesBegin =
    (c : ClusterState) → KeepsLeases c → (k w u : ℕ) (a : Attempt) (spec : Birth) (x : Worker) (handed : CommitInput) (step : Step) →
    item_at c.network k ≡ Some (envelope (TheWorker u) (TheWorker w) (Push a spec)) → worker_at c w ≡ Some x → x.is_live ≡ true →
    answer c (Deliver k) handed ≡ Takes step → (y : Worker) × (worker_at step.whole w ≡ Some y) × (has_begun a y.began ≡ true)
