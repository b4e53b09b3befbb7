-- What is owed of asks and slots, in every run.
use Rattle.std.specs.Prelude.{◌≡◌, ◌≢◌, ◌<◌, ◌≤◌, ℕ, List, length, Some}
use Rattle.event_log.specs.Entries.{Attempt}
use Rattle.event_log.specs.Rules.{Setting}
use Rattle.meaning.specs.Mains.{KeepsMainApart}
use Rattle.meaning.specs.Values.{Id}
use Rattle.protocol.specs.Answers.{Step, Takes}
use Rattle.protocol.specs.Messages.{TheWorker, Where}
use Rattle.protocol.specs.Numbered.{item_at}
use Rattle.protocol.specs.Tables.{AskedAt, OwnTask, Worker, task_of}
use Rattle.protocol.specs.Cluster.{ClusterState, worker_at}
use Rattle.lease_discipline.specs.of_protocol_laws.Coming.{IsRight}
use Rattle.protocol_owed.specs.Replies.{BirthIsAsked, CopyIsGot, ElsewhereIsAsked, GiveIsBegun, Happening, NewlyWaits, Says}
use Rattle.protocol_owed.specs.Runs.{Handing, Running, after_event, after_events, answer_to, opening_run, seen}
use Rattle.protocol_owed.specs.Seen.{IsCalm}
use Rattle.protocol_owed.specs.Turns.{AllSlotsAreRight}
use Rattle.lease_discipline.specs.Asks.{Asked}
use Rattle.lease_discipline.specs.Slots.{AreRight}

-- the event as it was accepted: what was so before, what it logged and sent, and what is so after it
abbrev pub happening : Setting → Running → Handing → Step → Happening
happening s r g step =
    record {
      before = seen s r;
      event = g.event;
      entries = step.entries;
      envelopes = step.envelopes;
      after = seen s (after_event r g);
    }

-- in every run each accepted event pays it, as long as nothing was killed or lost; where what is handed in with commits is what replays do
abbrev pub EveryEvent : (Happening → Type 0) → Type 0
EveryEvent Pays =
    (s : Setting) (slots : ℕ) → 0 < s.nodes → 1 ≤ slots → KeepsMainApart s.script → (gs : List Handing) → AreRight s (opening_run s.nodes slots) gs →
    (g : Handing) (step : Step) →
    let r : Running = after_events (opening_run s.nodes slots) gs in
    IsRight s r.whole g.event g.handed → answer_to r g ≡ Takes step → IsCalm (after_event r g).log → Pays (happening s r g step)

-- a task that is born is asked for at its owner's own node
abbrev pub BirthsAreAsked : Type 0
BirthsAreAsked = EveryEvent BirthIsAsked

-- the node that an Elsewhere names is asked next
abbrev pub ElsewheresAreAsked : Type 0
ElsewheresAreAsked = EveryEvent ElsewhereIsAsked

-- the attempt of a Give is begun, and pushed to the worker that was given
abbrev pub GivesAreBegun : Type 0
GivesAreBegun = EveryEvent GiveIsBegun

-- a copy that reaches a worker that waits for it answers its attempt
abbrev pub CopiesAreGot : Type 0
CopiesAreGot = EveryEvent CopyIsGot

-- the owner of another worker's object is asked where it is, as soon as a commit leaves an attempt to wait for it
abbrev pub NewForeignWaitIsAsked : Happening → Type 0
NewForeignWaitIsAsked h = (w : ℕ) (a : Attempt) (y : Id) → NewlyWaits h w a y → y.owner ≢ w → Says h (TheWorker w) (TheWorker y.owner) (Where y)

abbrev pub NewForeignWaitsAreAsked : Type 0
NewForeignWaitsAreAsked = EveryEvent NewForeignWaitIsAsked

-- ---- slots

-- whatever events come, killed or lost: on each live node a worker has a slot only where it was given, is busy or may go on; whoever was given
-- or is busy has one; and none is free while something stands in the queue
abbrev pub SlotsAreAllRight : Type 0
SlotsAreAllRight =
    (s : Setting) (slots : ℕ) → 0 < s.nodes → 1 ≤ slots → KeepsMainApart s.script → (gs : List Handing) → AreRight s (opening_run s.nodes slots) gs →
    AllSlotsAreRight (seen s (after_events (opening_run s.nodes slots) gs))

-- ---- numbers of asks

-- the number of each ask that was sent, and of each that stands, is less than how many messages were sent
pub record AsksAreNumberedLow (c : ClusterState) : Type 0 where
  pub sent : (a : Attempt) (t n : ℕ) → Asked c.network a t n → t < length c.network
  pub standing : (v k : ℕ) (x : Worker) (task : OwnTask) (t n : ℕ) → worker_at c v ≡ Some x → task_of (item_at x.objects k) ≡ Some task →
      task.progress ≡ AskedAt t n → t < length c.network

-- whatever events come
abbrev pub AskNumbersAreLow : Type 0
AskNumbersAreLow =
    (s : Setting) (slots : ℕ) → 0 < s.nodes → 1 ≤ slots → KeepsMainApart s.script → (gs : List Handing) → AreRight s (opening_run s.nodes slots) gs →
    AsksAreNumberedLow (after_events (opening_run s.nodes slots) gs).whole
