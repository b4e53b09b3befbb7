-- Who has a slot of its node.
use Rattle.std.specs.Prelude.{◌≡◌, ◌≤◌, ◌<◌, ℕ, true, length, List, [], ◌∷◌, Some, ◌⊎◌}
use Rattle.event_log.specs.Rules.{Setting}
use Rattle.meaning.specs.Mains.{KeepsMainApart}
use Rattle.protocol_laws.specs.of_protocol.Nodes.{Node, Scheduler}
use Rattle.protocol_laws.specs.of_protocol.Sets.{has}
use Rattle.protocol_laws.specs.of_protocol.Tables.{Worker}
use Rattle.protocol_laws.specs.of_protocol.Cluster.{ClusterState, node_at, worker_at}
use Rattle.protocol_laws.specs.Coming.{IsRight}
use Rattle.protocol_laws.specs.of_protocol_owed.Courses.{GoesOn, IsLeased, IsOut, LivesOn}
use Rattle.protocol_laws.specs.of_protocol_owed.Runs.{Handing, Running, after_event, after_events, opening_run, seen}
use Rattle.protocol_laws.specs.of_protocol_owed.Seen.{Scene}
use Rattle.protocol_laws.specs.of_protocol_owed.Turns.{AreDistinct, AskStands, IsBusy, RunnerStands}
use Rattle.protocol_laws.specs.of_protocol_owed.Told.{pace_by}
use Rattle.lease_discipline.specs.Discipline.{Look}

-- ---- by the tables

-- of the node's live workers each whose job is out has a slot, and each whose attempt may go on has one or asks for it
pub record HasTurn (look : Look) (n : ℕ) (s : Scheduler) : Type 0 where
  pub out : (w : ℕ) (x : Worker) (j : ℕ) → look w ≡ Some x → x.node ≡ n → x.is_live ≡ true → pace_by x.run ≡ IsOut j → has s.slot_holders w ≡ true
  pub ready : (w : ℕ) (x : Worker) → look w ≡ Some x → x.node ≡ n → x.is_live ≡ true → pace_by x.run ≡ GoesOn →
      (has s.slot_holders w ≡ true) ⊎ (has s.answered w ≡ true)

abbrev pub KeepsSlots : ClusterState → Type 0
KeepsSlots c = (n : ℕ) (node : Node) → node_at c n ≡ Some node → HasTurn (worker_at c) n node.scheduler

-- ---- by log and network

-- what is owed of slots, but for one clause: that a worker with a slot was given, is busy or may go on
pub record SlotsAreKept (s : Scene) (n : ℕ) : Type 0 where
  -- the slots in use are never more than there are
  pub distinct : AreDistinct (s.slot_holders n)
  pub within : length (s.slot_holders n) ≤ s.slots
  -- whoever was given or is busy keeps the slot
  pub kept : (w : ℕ) → LivesOn s w n → (IsLeased s w ⊎ IsBusy s w) → has (s.slot_holders n) w ≡ true
  -- no slot is free while an ask or an answered attempt stands in the queue
  pub none_free : (AskStands s n ⊎ RunnerStands s n) → length (s.slot_holders n) ≡ s.slots

-- what is handed in with each commit of these is what its attempt's replay does
abbrev pub AreRight : Setting → Running → List Handing → Type 0
AreRight s r [] = Unit {0}
AreRight s r (g ∷ gs) = IsRight s r.whole g.event g.handed × AreRight s (after_event r g) gs

-- whatever events come, of each node that there is
abbrev pub LawOfKeptSlots : Type 0
LawOfKeptSlots =
    (s : Setting) (slots : ℕ) → 0 < s.nodes → 1 ≤ slots → KeepsMainApart s.script → (gs : List Handing) → AreRight s (opening_run s.nodes slots) gs →
    (n : ℕ) (node : Node) → node_at (after_events (opening_run s.nodes slots) gs).whole n ≡ Some node →
    SlotsAreKept (seen s (after_events (opening_run s.nodes slots) gs)) n
