-- What a plan asks of the tables, as every sound run has it.
use Rattle.std.specs.Prelude.{◌≡◌, ◌≤◌, ℕ, List, Some, true}
use Rattle.event_log.specs.Entries.{Entry}
use Rattle.event_log.specs.Rules.{Setting}
use Rattle.holding_steps.specs.of_protocol.Laws.{AreOlder}
use Rattle.holding_steps.specs.of_protocol.Nodes.{Node}
use Rattle.holding_steps.specs.of_protocol.Numbered.{item_at}
use Rattle.holding_steps.specs.of_protocol.Steps.{WorkerContext}
use Rattle.holding_steps.specs.of_protocol.Tables.{Object, Worker}
use Rattle.holding_steps.specs.of_protocol.Cluster.{ClusterState, here, worker_at}
use Rattle.protocol_laws.specs.Sound.{IsSound}

-- what an object is made from and is lost is older than it, and objects are counted from 1
pub record HasPremises (h : WorkerContext) : Type 0 where
  pub older : AreOlder h
  pub counted : (k : ℕ) (z : Object) → item_at h.worker.objects k ≡ Some z → 1 ≤ k

-- of each live worker of a sound run
abbrev pub PlansHavePremises : Type 0
PlansHavePremises =
    (s : Setting) (log : List Entry) (c : ClusterState) → IsSound s log c → (w : ℕ) (x : Worker) (node : Node) → worker_at c w ≡ Some x → x.is_live ≡ true →
    HasPremises (here c w x node)
