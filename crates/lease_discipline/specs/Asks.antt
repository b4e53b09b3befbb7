-- Asks for attempts, by tables and network: each attempt was asked for last at one node, and whatever was pushed was given by that node.
use Rattle.std.specs.Prelude.{◌≡◌, ◌<◌, ◌≤◌, ℕ, false, List, [], None, Some, ◌⊎◌}
use Rattle.meaning.specs.Values.{Birth}
use Rattle.event_log.specs.Entries.{Attempt}
use Rattle.event_log.specs.Words.{attempt}
use Rattle.protocol_laws.specs.of_protocol.Messages.{Ask, Elsewhere, Give, Envelope, TheNode, TheWorker}
use Rattle.protocol_laws.specs.of_protocol.Nodes.{AskKey, AskReply, Node}
use Rattle.protocol_laws.specs.of_protocol.Numbered.{item_at}
use Rattle.protocol_laws.specs.of_protocol.Sets.{object_id}
use Rattle.protocol_laws.specs.of_protocol.Slots.{reply_to}
use Rattle.protocol_laws.specs.of_protocol.Tables.{AskedAt, OwnTask, RunsOn, Worker, new_task, task_of}
use Rattle.protocol_laws.specs.of_protocol.Cluster.{ClusterState, node_at, worker_at}
use Rattle.protocol_laws.specs.of_protocol_owed.Runs.{Handing, after_events, opening_run}
use Rattle.protocol_laws.specs.of_protocol_owed.Seen.{Sends}
use Rattle.lease_discipline.specs.Discipline.{Pushed}

-- ---- words

-- ask t for the attempt went to the node
abbrev pub Asked : List Envelope → Attempt → ℕ → ℕ → Type 0
Asked sent a t n = (u : ℕ) × Sends sent (TheWorker u) (TheNode n) (Ask a t)

-- the attempt was asked for, or pushed
abbrev pub Touched : List Envelope → Attempt → Type 0
Touched sent a = ((t : ℕ) × (n : ℕ) × Asked sent a t n) ⊎ ((w : ℕ) × Pushed sent a w)

-- the node sent the ask on
abbrev pub IsSentOn : List Envelope → Attempt → ℕ → ℕ → Type 0
IsSentOn sent a t n = (m : ℕ) × Sends sent (TheNode n) (TheWorker a.object.owner) (Elsewhere a t m)

-- it did, or is dead
abbrev pub IsPassed : (ℕ → Type 0) → List Envelope → Attempt → ℕ → ℕ → Type 0
IsPassed dead sent a t n = IsSentOn sent a t n ⊎ dead n

abbrev pub IsDeadNode : ClusterState → ℕ → Type 0
IsDeadNode c n = (node : Node) × (node_at c n ≡ Some node) × (node.is_live ≡ false)

-- ask t went to that node alone; no later one was sent, and each earlier one was passed
abbrev pub IsLast : (ℕ → Type 0) → List Envelope → Attempt → ℕ → ℕ → Type 0
IsLast dead sent a t n = (i m : ℕ) → Asked sent a i m → ((i ≡ t) × (m ≡ n)) ⊎ ((i < t) × IsPassed dead sent a i m)

-- the worker was given for the last ask of the attempt
pub record IsClosed (dead : ℕ → Type 0) (sent : List Envelope) (a : Attempt) (w : ℕ) : Type 0 where
  pub hops : ℕ
  pub node : ℕ
  pub given : Sends sent (TheNode node) (TheWorker a.object.owner) (Give a hops w)
  pub last : IsLast dead sent a hops node

-- ---- owners

pub record OwnsAsks (dead : ℕ → Type 0) (sent : List Envelope) (v : ℕ) (x : Worker) : Type 0 where
  -- what is no task of the table, was never asked for or pushed, nor was a later attempt, nor one of a new task
  pub none : (k i : ℕ) → task_of (item_at x.objects k) ≡ None → Touched sent (attempt (object_id v k) i) → ⊥
  pub later : (k i : ℕ) (task : OwnTask) → task_of (item_at x.objects k) ≡ Some task → task.number < i → Touched sent (attempt (object_id v k) i) → ⊥
  pub newborn : (k : ℕ) (spec : Birth) → task_of (item_at x.objects k) ≡ Some (new_task spec) → Touched sent (attempt (object_id v k) 0) → ⊥
  -- the ask that stands is the last one, of an attempt that wasn't pushed
  pub stands : (k : ℕ) (task : OwnTask) (t n : ℕ) → task_of (item_at x.objects k) ≡ Some task → task.progress ≡ AskedAt t n →
      IsLast dead sent (attempt (object_id v k) task.number) t n
  pub unpushed : (k : ℕ) (task : OwnTask) (t n w : ℕ) → task_of (item_at x.objects k) ≡ Some task → task.progress ≡ AskedAt t n →
      Pushed sent (attempt (object_id v k) task.number) w → ⊥
  -- a task that runs was pushed to its worker, and begun
  pub runs : (k : ℕ) (task : OwnTask) (w n : ℕ) → task_of (item_at x.objects k) ≡ Some task → task.progress ≡ RunsOn w n →
      Pushed sent (attempt (object_id v k) task.number) w
  pub begun : (k : ℕ) (task : OwnTask) (w n : ℕ) → task_of (item_at x.objects k) ≡ Some task → task.progress ≡ RunsOn w n → task.begun ≡ [] → ⊥

-- ---- the whole

pub record KeepsAsks (c : ClusterState) : Type 0 where
  -- a node answers what it was asked
  pub nodes : (n : ℕ) (node : Node) (k : AskKey) (x : AskReply) → node_at c n ≡ Some node → reply_to node.scheduler k ≡ Some x →
      Asked c.network k.attempt k.hops n
  pub owners : (v : ℕ) (x : Worker) → worker_at c v ≡ Some x → OwnsAsks (IsDeadNode c) c.network v x
  pub closed : (a : Attempt) (w : ℕ) → Pushed c.network a w → IsClosed (IsDeadNode c) c.network a w
  -- only the attempts of workers that are there were asked for or pushed
  pub owned : (a : Attempt) → Touched c.network a → (x : Worker) × (worker_at c a.object.owner ≡ Some x)

-- whatever events come
abbrev pub LawOfLastAsks : Type 0
LawOfLastAsks = (nodes slots : ℕ) → 0 < nodes → 1 ≤ slots → (gs : List Handing) → KeepsAsks (after_events (opening_run nodes slots) gs).whole
