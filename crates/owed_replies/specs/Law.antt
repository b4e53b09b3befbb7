-- The laws of replies, event by event.
use Rattle.std.specs.Prelude.{◌≡◌, ◌<◌, ◌⊎◌, ◌++◌, ◌∷◌, ℕ, false, List, [], Some}
use Rattle.meaning.specs.Mains.{KeepsMainApart}
use Rattle.meaning.specs.Values.{Outcome}
use Rattle.event_log.specs.Breaks.{Among}
use Rattle.event_log.specs.Entries.{Attempt, Ended, Entry, Event, In, main_attempt}
use Rattle.event_log.specs.Legal.{opening}
use Rattle.event_log.specs.Rules.{Setting}
use Rattle.event_log.specs.Words.{same_attempt}
use Rattle.protocol.specs.Answers.{Step, Takes, answer, logged, whole_after}
use Rattle.protocol.specs.Jobs.{CommitInput}
use Rattle.protocol.specs.Tables.{Execution, Worker}
use Rattle.protocol.specs.Cluster.{ClusterState, first_whole, worker_at}
use Rattle.lease_discipline.specs.of_protocol_laws.Coming.{IsRight}
use Rattle.protocol_owed.specs.Replies.{AcceptedIsTold, AcceptedIsUsed, AtIsUsed, FinishIsAcknowledged, Happening, HoldIsAcknowledged, RequestIsTold}
use Rattle.protocol_owed.specs.Runs.{Handing, Running, after_events, answer_to, opening_run, seen}
use Rattle.protocol_owed.specs.Seen.{IsCalm}
use Rattle.lease_discipline.specs.Owing.{running}
use Rattle.lease_discipline.specs.Slots.{AreRight}
use Rattle.lease_discipline.specs.Told.{IsInStep}
use Rattle.owed_replies.specs.Kept.{IsReported, KeepsReplies}

-- a run begins so
abbrev pub OpeningKeepsReplies : Type 0
OpeningKeepsReplies = (nodes slots : ℕ) → KeepsReplies opening (first_whole nodes slots)

-- every event of a run in step keeps it so, accepted or refused, where what is handed in with a commit is what the attempt's replay does
abbrev pub EventsKeepReplies : Type 0
EventsKeepReplies =
    (s : Setting) → KeepsMainApart s.script → (log : List Entry) (c : ClusterState) (e : Event) (seat : ℕ) (handed : CommitInput) →
    IsInStep s log c → IsRight s c e handed → KeepsReplies log c → KeepsReplies (log ++ logged e seat (answer c e handed)) (whole_after c (answer c e handed))

-- ---- ends

-- the attempt is its worker's present one, and some of its Holds wait
pub record AwaitsAcks (c : ClusterState) (a : Attempt) : Type 0 where
  pub number : ℕ
  pub worker : Worker
  pub run : Execution
  pub there : worker_at c number ≡ Some worker
  pub at : worker.run ≡ Some run
  pub present : run.attempt ≡ a
  pub waits : run.holds ≡ [] → ⊥

-- in every run in which nothing was killed or lost: an attempt that ended was reported to its owner, or some of its Holds wait
abbrev pub LawOfEnds : Type 0
LawOfEnds =
    (s : Setting) (slots : ℕ) → 0 < s.nodes → KeepsMainApart s.script → (gs : List Handing) → AreRight s (opening_run s.nodes slots) gs →
    let r : Running = after_events (opening_run s.nodes slots) gs in
    IsCalm r.log → (a : Attempt) (cs : List Outcome) → Among (Ended a cs) r.log → same_attempt a main_attempt ≡ false →
    ((w : ℕ) × IsReported r.whole.network w a) ⊎ AwaitsAcks r.whole a

-- ---- replies

-- an event that is taken, beside a log
abbrev pub happening : Setting → Running → Event → ℕ → Step → Happening
happening s r e seat step =
    record {
      before = seen s r;
      event = e;
      entries = step.entries;
      envelopes = step.envelopes;
      after = seen s (running step.whole (r.log ++ In e seat ∷ step.entries));
    }

-- of what an event owes, this is paid
pub record IsPaid (h : Happening) : Type 0 where
  pub requests : RequestIsTold h
  pub accepted : AcceptedIsTold h
  pub owner : AcceptedIsUsed h
  pub locations : AtIsUsed h
  pub holds : HoldIsAcknowledged h
  pub finishes : FinishIsAcknowledged h

-- in every run in which nothing was killed or lost, by the event that is taken next
abbrev pub LawOfReplies : Type 0
LawOfReplies =
    (s : Setting) (slots : ℕ) → 0 < s.nodes → KeepsMainApart s.script → (gs : List Handing) → AreRight s (opening_run s.nodes slots) gs →
    let r : Running = after_events (opening_run s.nodes slots) gs in
    IsCalm r.log → (g : Handing) → IsRight s r.whole g.event g.handed → (step : Step) → answer_to r g ≡ Takes step → IsPaid (happening s r g.event g.seat step)
