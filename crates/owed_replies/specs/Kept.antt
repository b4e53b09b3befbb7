-- What is true of messages and attempts between two events, so that each message gets its reply.
use Rattle.std.specs.Prelude.{◌≡◌, ◌==◌, ◌&&◌, ◌⊎◌, ℕ, true, false, List, [], Some, is_none, is_some}
use Rattle.std.specs.List.{flat_map}
use Rattle.meaning.specs.Births.{is_made_by}
use Rattle.meaning.specs.Readings.{IsBorn}
use Rattle.meaning.specs.Values.{Birth, Id, Outcome}
use Rattle.event_log.specs.Breaks.{Among}
use Rattle.event_log.specs.Entries.{Attempt, Born, Deliver, Ended, Entry, main_attempt}
use Rattle.event_log.specs.Events.{accepted_events}
use Rattle.event_log.specs.Words.{births, same_attempt}
use Rattle.protocol.specs.Messages.{EndedResult}
use Rattle.protocol.specs.Messages.{At, Finished, Hold, Envelope, Message, Missing, Endpoint, TheNode, TheWorker, Where, envelope}
use Rattle.protocol.specs.Numbered.{item_at}
use Rattle.protocol.specs.Sets.{has, is_empty}
use Rattle.protocol.specs.Tables.{HasEnded, Holding, Object, Execution, Worker, has_stopped, object_needed}
use Rattle.protocol.specs.Cluster.{ClusterState, worker_at}
use Rattle.protocol_owed.specs.Replies.{IsRequest}
use Rattle.protocol_owed.specs.Seen.{Sends, delivered_in}

-- an attempt bore the object
abbrev pub IsBornIn : List Entry → Id → Type 0
IsBornIn log o = (p : Id) × (a : Attempt) × (b : Birth) × Among (Born p a b) log × (is_made_by (record { object = p; birth = b }) o ≡ true)

-- what worker v says to worker w: of objects that were born, to their owners, who are others; the end of an attempt to its owner; and of locations
-- there is one at least, or the content comes along
abbrev pub IsSaidRight : List Entry → ℕ → ℕ → Message → Type 0
IsSaidRight log v w (Where y) = (w ≡ y.owner) × ((y.owner == v) ≡ false) × IsBorn (births log) y
IsSaidRight log v w (Missing y number n) = (w ≡ y.owner) × ((y.owner == v) ≡ false)
IsSaidRight log v w (Hold e o) = (w ≡ o.owner) × IsBornIn log o
IsSaidRight log v w (Finished a n rs) = (w ≡ a.object.owner) × (same_attempt a main_attempt ≡ false)
IsSaidRight log v w (At y number ns kept) = (is_empty ns && is_none kept) ≡ false
IsSaidRight log v w m = Unit {0}

abbrev pub IsRightBetween : List Entry → Endpoint → Endpoint → Message → Type 0
IsRightBetween log (TheWorker v) (TheWorker w) m = IsSaidRight log v w m
IsRightBetween log (TheWorker v) (TheNode n) m = Unit {0}
IsRightBetween log (TheNode n) to m = Unit {0}

abbrev pub IsRightEnvelope : List Entry → Envelope → Type 0
IsRightEnvelope log l = IsRightBetween log l.sender l.receiver l.message

-- the worker told the attempt's owner that it ended
abbrev pub IsReported : List Envelope → ℕ → Attempt → Type 0
IsReported sent w a = (n : ℕ) × (rs : List EndedResult) × Sends sent (TheWorker w) (TheWorker a.object.owner) (Finished a n rs)

-- a worker's attempt
pub record RunIsRight (log : List Entry) (sent : List Envelope) (w : ℕ) (run : Execution) : Type 0 where
  -- what it waits for, of another owner, was born, and what its Holds name
  pub needs : (y : Id) → object_needed run.phase ≡ Some y → (y.owner == w) ≡ false → IsBorn (births log) y
  pub holds : (k : Holding) → Among k run.holds → IsBornIn log k.object
  -- once it is over, its owner was told that it ended; main's needs no word
  pub told : (cs : List Outcome) → run.phase ≡ HasEnded cs → run.is_over ≡ true → same_attempt run.attempt main_attempt ≡ false → IsReported sent w run.attempt
  pub main : same_attempt run.attempt main_attempt ≡ true → run.is_over ≡ true → run.is_acknowledged ≡ true

-- a stopped attempt is over as soon as none of its Holds waits
abbrev pub IsOverInTime : Execution → Type 0
IsOverInTime run = has_stopped run.phase ≡ true → run.is_over ≡ false → run.holds ≡ [] → ⊥

-- ---- between two events

-- it has a content or a fault: nobody waits for it
abbrev pub IsAnswered : Object → Type 0
IsAnswered x = (is_some x.settled ≡ true) ⊎ (is_some x.fault ≡ true)

-- worker v waits for the object, if it isn't answered
abbrev pub IsAwaitedBy : ℕ → Object → Type 0
IsAwaitedBy v x = (has x.askers v ≡ true) ⊎ IsAnswered x

-- what accepted deliveries brought
abbrev pub came_by : List Envelope → List Entry → List Envelope
came_by network log = flat_map (delivered_in network) (accepted_events log)

-- the attempt is its worker's present one, and isn't over
pub record IsGoingOn (c : ClusterState) (a : Attempt) : Type 0 where
  pub number : ℕ
  pub worker : Worker
  pub run : Execution
  pub there : worker_at c number ≡ Some worker
  pub at : worker.run ≡ Some run
  pub present : run.attempt ≡ a
  pub going : run.is_over ≡ false

pub record KeepsReplies (log : List Entry) (c : ClusterState) : Type 0 where
  -- what was sent went where it should, and speaks of what was born
  pub envelopes : (l : Envelope) → Among l c.network → IsRightEnvelope log l
  pub runs : (w : ℕ) (x : Worker) (run : Execution) → worker_at c w ≡ Some x → x.run ≡ Some run → RunIsRight log c.network w run
  -- a stopped attempt is over as soon as none of its Holds waits
  pub in_time : (w : ℕ) (x : Worker) (run : Execution) → worker_at c w ≡ Some x → x.run ≡ Some run → IsOverInTime run
  -- what was delivered was sent
  pub delivered : (k : ℕ) → Among (Deliver k) (accepted_events log) → (l : Envelope) × (item_at c.network k ≡ Some l)
  -- whoever asked a live owner for an object that isn't answered is kept in mind
  pub askers : (v : ℕ) (y : Id) (m : Message) → Among (envelope (TheWorker v) (TheWorker y.owner) m) (came_by c.network log) → IsRequest y m →
      (x : Worker) (z : Object) → worker_at c y.owner ≡ Some x → x.is_live ≡ true → item_at x.objects y.serial ≡ Some z → IsAwaitedBy v z
  -- an attempt that ended is going on, or was reported
  pub ends : (a : Attempt) (cs : List Outcome) → Among (Ended a cs) log → same_attempt a main_attempt ≡ false →
      ((w : ℕ) × IsReported c.network w a) ⊎ IsGoingOn c a
