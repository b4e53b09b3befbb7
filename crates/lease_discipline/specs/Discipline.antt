-- What is true of tables and messages between two events, so that a worker runs one attempt at a time.
-- A worker comes to an attempt so: its node, which gives new workers and idle ones alone, leases it to the attempt, with a slot, and tells the
-- attempt's owner; the owner pushes the attempt to it; it begins. It keeps the slot until it begins, and is idle again only once it is free.
use Rattle.std.specs.Prelude.{◌≡◌, ℕ, true, false, List, Option, Some, ◌⊎◌}
use Rattle.meaning.specs.Values.{Birth}
use Rattle.event_log.specs.Entries.{Attempt, main_attempt}
use Rattle.event_log.specs.Words.{attempt}
use Rattle.event_log.specs.Breaks.{Among}
use Rattle.protocol_laws.specs.of_protocol.Numbered.{item_at}
use Rattle.protocol_laws.specs.of_protocol.Sets.{has, object_id}
use Rattle.protocol_laws.specs.of_protocol.Messages.{Envelope, Message, Endpoint, TheWorker, TheNode, Give, Back, Push, Finished, FinishedAck, Failed}
use Rattle.protocol_laws.specs.of_protocol.Jobs.{JobRecord}
use Rattle.protocol_laws.specs.of_protocol.Nodes.{AskKey, Leased, Node, Scheduler}
use Rattle.protocol_laws.specs.of_protocol.Slots.{is_latest_lease, reply_to}
use Rattle.protocol_laws.specs.of_protocol.Runs.{is_free}
use Rattle.protocol_laws.specs.of_protocol.Tables.{OwnTask, Out, Execution, RunsOn, Worker, has_stopped, task_of}
use Rattle.protocol_laws.specs.of_protocol.Cluster.{ClusterState, node_at, worker_at}
use Rattle.protocol_laws.specs.of_protocol_owed.Seen.{Sends}
use Rattle.protocol_laws.specs.of_protocol_owed.Courses.{has_begun}

-- ---- words

-- who is there: the worker of each number
abbrev pub Look : Type 0
Look = ℕ → Option Worker

-- the node told the attempt's owner that it gave the worker for it
abbrev pub Gave : List Envelope → ℕ → Attempt → ℕ → Type 0
Gave sent n a w = (t : ℕ) × Sends sent (TheNode n) (TheWorker a.object.owner) (Give a t w)

-- a worker pushed the attempt to the worker
abbrev pub Pushed : List Envelope → Attempt → ℕ → Type 0
Pushed sent a w = (u : ℕ) × (spec : Birth) × Sends sent (TheWorker u) (TheWorker w) (Push a spec)

-- the worker began the attempt, and if it is the present one, it is over; so it stays for good
pub record IsDoneAt (a : Attempt) (x : Worker) : Type 0 where
  pub listed : has_begun a x.began ≡ true
  pub over : (run : Execution) → x.run ≡ Some run → run.attempt ≡ a → run.is_over ≡ true

-- so of the worker of that number
pub record IsDone (look : Look) (w : ℕ) (a : Attempt) : Type 0 where
  pub worker : Worker
  pub there : look w ≡ Some worker
  pub done : IsDoneAt a worker

-- ---- a node

-- its latest lease, if it has one, is the attempt's
abbrev pub IsLeasedFor : Scheduler → ℕ → Attempt → Type 0
IsLeasedFor s w a = (b : Attempt) → is_latest_lease s w b ≡ true → b ≡ a

-- an idle worker is the node's, is free, and neither has a slot nor asks for one
pub record IsIdle (look : Look) (n : ℕ) (s : Scheduler) (w : ℕ) : Type 0 where
  pub worker : Worker
  pub there : look w ≡ Some worker
  pub home : worker.node ≡ n
  pub free : is_free worker.run ≡ true
  pub slotless : has s.slot_holders w ≡ false
  pub unanswered : has s.answered w ≡ false

-- a worker that was given for an attempt which it never began is free, and has its lease and a slot for it
pub record IsPromised (s : Scheduler) (w : ℕ) (x : Worker) (a : Attempt) : Type 0 where
  pub free : is_free x.run ≡ true
  pub leased : is_latest_lease s w a ≡ true
  pub sole : IsLeasedFor s w a
  pub slot : has s.slot_holders w ≡ true

pub record NodeKeeps (look : Look) (sent : List Envelope) (n : ℕ) (s : Scheduler) : Type 0 where
  pub idle : (w : ℕ) → has s.idle w ≡ true → IsIdle look n s w
  pub promised : (w : ℕ) (x : Worker) (a : Attempt) → look w ≡ Some x → x.is_live ≡ true → Gave sent n a w → has_begun a x.began ≡ false → IsPromised s w x a
  -- a worker whose attempt isn't over is leased for that, or not at all
  pub busy : (w : ℕ) (x : Worker) (run : Execution) → look w ≡ Some x → x.node ≡ n → x.run ≡ Some run → run.is_over ≡ false → IsLeasedFor s w run.attempt
  -- whoever was answered to an ask was given to its owner
  pub replied : (k : AskKey) (w : ℕ) → reply_to s k ≡ Some (Leased w) → Gave sent n k.attempt w

-- ---- messages

abbrev pub SaysDone : Look → Endpoint → Attempt → Type 0
SaysDone look (TheWorker w) a = IsDone look w a
SaysDone look (TheNode n) a = Unit {0}

-- it is said to the worker's own node
pub record IsBack (look : Look) (n w : ℕ) (a : Attempt) : Type 0 where
  pub done : IsDone look w a
  pub home : done.worker.node ≡ n

abbrev pub SaysBack : Look → Endpoint → Endpoint → Attempt → Type 0
SaysBack look (TheWorker w) (TheNode n) a = IsBack look n w a
SaysBack look from to a = Unit {0}

-- a node gives its own workers
pub record IsOfNode (look : Look) (n w : ℕ) : Type 0 where
  pub worker : Worker
  pub there : look w ≡ Some worker
  pub home : worker.node ≡ n

abbrev pub SaysGiven : Look → Endpoint → ℕ → Type 0
SaysGiven look (TheWorker v) w = Unit {0}
SaysGiven look (TheNode n) w = IsOfNode look n w

-- it comes from a worker, and goes to one that a node gave for the attempt
pub record IsPushed (sent : List Envelope) (from : Endpoint) (w : ℕ) (a : Attempt) : Type 0 where
  pub owner : ℕ
  pub from_worker : from ≡ TheWorker owner
  pub node : ℕ
  pub given : Gave sent node a w

abbrev pub SaysPushed : List Envelope → Endpoint → Endpoint → Attempt → Type 0
SaysPushed sent from (TheWorker w) a = IsPushed sent from w a
SaysPushed sent from (TheNode n) a = Unit {0}

-- that an attempt stopped is said only once it is done at its worker; a worker is given by its node, and pushed to only once it was given
abbrev pub IsTrueBetween : Look → List Envelope → Endpoint → Endpoint → Message → Type 0
IsTrueBetween look sent from to (Finished a n rs) = SaysDone look from a
IsTrueBetween look sent from to (Failed a f) = SaysDone look from a
IsTrueBetween look sent from to (Back a) = SaysBack look from to a
IsTrueBetween look sent from to (FinishedAck a) = SaysDone look to a
IsTrueBetween look sent from to (Give a t w) = SaysGiven look from w
IsTrueBetween look sent from to (Push a spec) = SaysPushed sent from to a
IsTrueBetween look sent from to m = Unit {0}

abbrev pub IsTrue : Look → List Envelope → Envelope → Type 0
IsTrue look sent l = IsTrueBetween look sent l.sender l.receiver l.message

-- ---- a worker

-- it was pushed to the worker, or is main, on worker 1
abbrev pub IsBegunBy : List Envelope → ℕ → Attempt → Type 0
IsBegunBy sent w a = ((a ≡ main_attempt) × (w ≡ 1)) ⊎ Pushed sent a w

abbrev pub IsJobOf : List JobRecord → ℕ → ℕ → Type 0
IsJobOf jobs w j = (g : JobRecord) × (item_at jobs j ≡ Some g) × (g.worker ≡ w)

pub record WorkerKeeps (jobs : List JobRecord) (sent : List Envelope) (w : ℕ) (x : Worker) : Type 0 where
  pub began : (a : Attempt) → has_begun a x.began ≡ true → IsBegunBy sent w a
  -- of its attempt: it began it, it is over only where it stopped, and a job that is out was given to it
  pub present : (run : Execution) → x.run ≡ Some run → has_begun run.attempt x.began ≡ true
  pub stopped : (run : Execution) → x.run ≡ Some run → run.is_over ≡ true → has_stopped run.phase ≡ true
  pub out : (run : Execution) (j : ℕ) → x.run ≡ Some run → run.phase ≡ Out j → IsJobOf jobs w j
  -- as an owner: the worker on which a present attempt runs was given for it by that node
  pub runs : (k : ℕ) (task : OwnTask) (v n : ℕ) → task_of (item_at x.objects k) ≡ Some task → task.progress ≡ RunsOn v n →
      Gave sent n (attempt (object_id w k) task.number) v

pub record WorkersKeep (jobs : List JobRecord) (look : Look) (sent : List Envelope) : Type 0 where
  pub each : (w : ℕ) (x : Worker) → look w ≡ Some x → WorkerKeeps jobs sent w x
  -- whatever was sent is true, and stays so
  pub envelopes : (l : Envelope) → Among l sent → IsTrue look sent l

-- ---- the whole

pub record KeepsLeases (c : ClusterState) : Type 0 where
  pub workers : WorkersKeep c.jobs (worker_at c) c.network
  pub nodes : (n : ℕ) (node : Node) → node_at c n ≡ Some node → NodeKeeps (worker_at c) c.network n node.scheduler
  -- each worker's node is there
  pub homes : (w : ℕ) (x : Worker) → worker_at c w ≡ Some x → (node : Node) × (node_at c x.node ≡ Some node)
