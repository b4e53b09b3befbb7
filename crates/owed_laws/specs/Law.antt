-- What is owed by an accepted event, as every event of every run is proved to pay it. The whole of what is owed is `Owed` of protocol_owed.
use Rattle.std.specs.Prelude.{◌≡◌, ◌<◌, ◌≤◌, ℕ, true, List}
use Rattle.event_log.specs.Events.{node_lives}
use Rattle.event_log.specs.Rules.{Setting}
use Rattle.meaning.specs.Mains.{KeepsMainApart}
use Rattle.meaning.specs.Values.{Id}
use Rattle.protocol.specs.Answers.{Step, Takes}
use Rattle.protocol.specs.Messages.{Fetch, TheNode, TheWorker}
use Rattle.owed_asks.specs.of_protocol_laws.Coming.{IsRight}
use Rattle.protocol_owed.specs.Ends.{EndsAreReported}
use Rattle.protocol_owed.specs.Owed.{Owed}
use Rattle.protocol_owed.specs.Replies.{AcknowledgedGoesBack, BirthIsAsked, Brings, CopyIsGot, ElsewhereIsAsked, FetchIsAnswered, GiveIsBegun, Happening}
use Rattle.protocol_owed.specs.Replies.{MissingIsHandedOn, NewWaitsAreTended}
use Rattle.protocol_owed.specs.Runs.{Handing, Running, after_event, after_events, answer_to, opening_run, seen}
use Rattle.protocol_owed.specs.Seen.{IsCalm}
use Rattle.protocol_owed.specs.Turns.{AllSlotsAreRight, AsksAreAnswered, ClaimIsAnswered}
use Rattle.owed_asks.specs.of_lease_discipline.Slots.{AreRight}
use Rattle.owed_asks.specs.of_lease_discipline.Told.{entries_of}
use Rattle.owed_asks.specs.Law.{happening}
use Rattle.owed_replies.specs.Law.{IsPaid}

-- a Fetch that reaches a live node is answered: by a copy where the node has a first one, by log and network, or another; else by Missing
abbrev pub FetchesAreMet : Happening → Type 0
FetchesAreMet h =
    (n w number : ℕ) (y : Id) → Brings h (TheWorker w) (TheNode n) (Fetch y number) → node_lives h.before.setting.nodes n h.before.log ≡ true →
    FetchIsAnswered h n w y number

-- as long as nothing was killed or lost
pub record RepliesArePaid (h : Happening) : Type 0 where
  -- a task that is born is asked for, at its owner's own node
  pub births : BirthIsAsked h
  -- in the commit that leaves an attempt to wait for an object, another worker's is asked for, an own accepted one fetched; an own put is there
  pub waits : NewWaitsAreTended h
  -- an Elsewhere is followed, and a Give begins its attempt
  pub elsewhere : ElsewhereIsAsked h
  pub gives : GiveIsBegun h
  -- a copy answers the attempt that waits for it
  pub copies : CopyIsGot h
  -- what a worker's node lacks of another's object is handed on to the owner
  pub missing : MissingIsHandedOn h
  -- a FinishedAck goes back to the worker's node
  pub acknowledged : AcknowledgedGoesBack h
  -- ends and answers to whoever asks
  pub replies : IsPaid h
  -- after it each attempt that ended is reported, once its Holds are acknowledged
  pub ends : EndsAreReported h.after

-- what an accepted event owes, by log, network and slots before and after it
pub record EventIsPaid (h : Happening) : Type 0 where
  -- a live node answers asks and Fetches
  pub asks : AsksAreAnswered h.before h.event h.envelopes
  pub fetches : FetchesAreMet h
  -- who has a slot has a use for it, who was given or is busy has one, and none is free while something stands in the queue
  pub slots : AllSlotsAreRight h.after
  pub replies : IsCalm h.after.log → RepliesArePaid h

pub record AnswerPays (s : Setting) (r : Running) (g : Handing) : Type 0 where
  -- accepted or refused: 31 to a live worker's claim exactly where it isn't ready
  pub claims : ClaimIsAnswered (seen s r) g.event (entries_of (answer_to r g))
  pub accepted : (step : Step) → answer_to r g ≡ Takes step → EventIsPaid (happening s r g step)

-- in every run, of each event; where what is handed in with commits is what replays do
abbrev pub EventsArePaid : Type 0
EventsArePaid =
    (s : Setting) (slots : ℕ) → 0 < s.nodes → 1 ≤ slots → KeepsMainApart s.script →
    (gs : List Handing) → AreRight s (opening_run s.nodes slots) gs → (g : Handing) →
    let r : Running = after_events (opening_run s.nodes slots) gs in
    IsRight s r.whole g.event g.handed → AnswerPays s r g

-- ---- the whole

-- the Fetch that the event brings, if it brings one, goes to a live node
abbrev pub FetchesReachNodes : Happening → Type 0
FetchesReachNodes h =
    (n w number : ℕ) (y : Id) → Brings h (TheWorker w) (TheNode n) (Fetch y number) → node_lives h.before.setting.nodes n h.before.log ≡ true

-- in every run, by each event that is accepted, the whole of what is owed is paid
abbrev pub AllIsPaid : Type 0
AllIsPaid =
    (s : Setting) (slots : ℕ) → 0 < s.nodes → 1 ≤ slots → KeepsMainApart s.script →
    (gs : List Handing) → AreRight s (opening_run s.nodes slots) gs → (g : Handing) →
    let r : Running = after_events (opening_run s.nodes slots) gs in
    IsRight s r.whole g.event g.handed → (step : Step) → answer_to r g ≡ Takes step → FetchesReachNodes (happening s r g step) →
    Owed (happening s r g step)

-- ---- from one event to the next

-- the opening leads to the run by handings that are right: what was handed in with each commit is what replays do
pub record IsReached (s : Setting) (slots : ℕ) (r : Running) : Type 0 where
  pub handings : List Handing
  pub right : AreRight s (opening_run s.nodes slots) handings
  pub leads : after_events (opening_run s.nodes slots) handings ≡ r

-- the opening is reached, and so is what comes of one more event
pub record ReachedGoesOn : Type 0 where
  pub opening : (s : Setting) (slots : ℕ) → IsReached s slots (opening_run s.nodes slots)
  pub next : (s : Setting) (slots : ℕ) (r : Running) (g : Handing) → IsReached s slots r → IsRight s r.whole g.event g.handed →
      IsReached s slots (after_event r g)

-- of a run that was reached, each event is paid
abbrev pub ReachedPays : Type 0
ReachedPays =
    (s : Setting) (slots : ℕ) → 0 < s.nodes → 1 ≤ slots → KeepsMainApart s.script →
    (r : Running) → IsReached s slots r → (g : Handing) → IsRight s r.whole g.event g.handed → AnswerPays s r g
