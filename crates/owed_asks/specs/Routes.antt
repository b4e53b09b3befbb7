-- Where asks and their answers go, by tables and network: an owner asks for its own attempts, first at its own node, then one ask after the
-- other, and is answered.
use Rattle.std.specs.Prelude.{◌≡◌, ◌+◌, ℕ, Bool, ◌&&◌, false, true, List, Some}
use Rattle.event_log.specs.Entries.{Attempt}
use Rattle.event_log.specs.Words.{attempt}
use Rattle.event_log.specs.Breaks.{Among}
use Rattle.protocol.specs.Messages.{Ask, Elsewhere, Give, Envelope, Message, Endpoint, TheNode, TheWorker}
use Rattle.protocol.specs.Numbered.{item_at}
use Rattle.protocol.specs.Sets.{is_empty, object_id}
use Rattle.protocol.specs.Tables.{AskedAt, AtRest, OwnTask, Progress, Worker, task_of}
use Rattle.protocol.specs.Cluster.{ClusterState, worker_at}
use Rattle.lease_discipline.specs.Asks.{Asked}

-- what a node says of an attempt goes to the owner of the attempt's object
abbrev pub GoesHome : Endpoint → Endpoint → Attempt → Type 0
GoesHome (TheNode n) to a = to ≡ TheWorker a.object.owner
GoesHome (TheWorker w) to a = Unit {0}

-- the owner alone asks for an attempt, and is answered
abbrev pub IsRoutedBetween : Endpoint → Endpoint → Message → Type 0
IsRoutedBetween from to (Ask a t) = from ≡ TheWorker a.object.owner
IsRoutedBetween from to (Give a t w) = GoesHome from to a
IsRoutedBetween from to (Elsewhere a t n) = GoesHome from to a
IsRoutedBetween from to m = Unit {0}

abbrev pub IsRouted : Envelope → Type 0
IsRouted l = IsRoutedBetween l.sender l.receiver l.message

-- each ask but the first follows another
abbrev pub AsksFollow : List Envelope → Type 0
AsksFollow sent = (a : Attempt) (t n : ℕ) → Asked sent a (t + 1) n → (m : ℕ) × Asked sent a t m

abbrev pub rests_now : Progress → Bool
rests_now AtRest = true
rests_now _ = false

-- no attempt of the task was asked for
abbrev pub is_new : OwnTask → Bool
is_new task = rests_now task.progress && is_empty task.begun

pub record OwnerAsks (sent : List Envelope) (v : ℕ) (x : Worker) : Type 0 where
  -- the ask that stands was sent
  pub standing : (k : ℕ) (task : OwnTask) (t n : ℕ) → task_of (item_at x.objects k) ≡ Some task → task.progress ≡ AskedAt t n →
      Asked sent (attempt (object_id v k) task.number) t n
  -- the first attempt was asked for at the owner's own node
  pub first : (k : ℕ) (task : OwnTask) → task_of (item_at x.objects k) ≡ Some task → task.number ≡ 0 → is_new task ≡ false →
      Asked sent (attempt (object_id v k) 0) 0 x.node

pub record KeepsRoutes (c : ClusterState) : Type 0 where
  pub envelopes : (l : Envelope) → Among l c.network → IsRouted l
  pub follow : AsksFollow c.network
  pub owners : (v : ℕ) (x : Worker) → worker_at c v ≡ Some x → OwnerAsks c.network v x
