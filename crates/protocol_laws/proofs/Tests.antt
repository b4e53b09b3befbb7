-- What follows of it that an event isn't refused.
use Rattle.std.proofs.Common.{◌≡◌, ℕ, Bool, true, false, Option, Some, None, refl, ap}
use Rattle.std.proofs.lemmas.Bool.{eqb-true, not-true}
use Rattle.holding_steps.specs.of_protocol.Nodes.{Node}
use Rattle.holding_steps.specs.of_protocol.Tables.{Execution, Worker, Ready, Out, Phase, Waits, HasEnded, HasFaulted}
use Rattle.holding_steps.specs.of_protocol.Cluster.{ClusterState, node_at, worker_at}
use Rattle.holding_steps.specs.of_protocol.Events.{is_live_node, is_live_worker}
use Rattle.holding_steps.specs.of_protocol.Refusals.{is_dead_node, is_dead_worker, is_job, is_ready_phase, is_ready_run, job_in_phase, job_in_run, or_refusal, unless}
use Rattle.event_log.specs.Entries.{Refusal}

pub or_none : (a b : Option Refusal) → or_refusal a b ≡ None → (a ≡ None) × (b ≡ None)
or_none None b h = (refl, h)
or_none (Some a) b h = absurd (cc)

pub unless_none : (t : Bool) (code : Refusal) → unless t code ≡ None → t ≡ true
unless_none true code h = refl
unless_none false code h = absurd (cc)

-- ---- the living and the dead

pub record WorkerThere (c : ClusterState) (w : ℕ) (life : Bool) : Type 0 where
  pub worker : Worker
  pub at : worker_at c w ≡ Some worker
  pub lives : worker.is_live ≡ life

pub record NodeThere (c : ClusterState) (n : ℕ) (life : Bool) : Type 0 where
  pub node : Node
  pub at : node_at c n ≡ Some node
  pub lives : node.is_live ≡ life

module _ (c : ClusterState) where
  pub live_worker : (w : ℕ) → is_live_worker (worker_at c w) ≡ true → WorkerThere c w true
  live_worker w h = go (worker_at c w) refl h
    where
      go : (o : Option Worker) → worker_at c w ≡ o → is_live_worker o ≡ true → WorkerThere c w true
      go None e l = absurd (cc)
      go (Some x) e l = record { worker = x; at = e; lives = l }

  pub dead_worker : (w : ℕ) → is_dead_worker (worker_at c w) ≡ true → WorkerThere c w false
  dead_worker w h = go (worker_at c w) refl h
    where
      go : (o : Option Worker) → worker_at c w ≡ o → is_dead_worker o ≡ true → WorkerThere c w false
      go None e l = absurd (cc)
      go (Some x) e l = record { worker = x; at = e; lives = not-true x.is_live l }

  pub live_node : (n : ℕ) → is_live_node (node_at c n) ≡ true → NodeThere c n true
  live_node n h = go (node_at c n) refl h
    where
      go : (o : Option Node) → node_at c n ≡ o → is_live_node o ≡ true → NodeThere c n true
      go None e l = absurd (cc)
      go (Some x) e l = record { node = x; at = e; lives = l }

  pub dead_node : (n : ℕ) → is_dead_node (node_at c n) ≡ true → NodeThere c n false
  dead_node n h = go (node_at c n) refl h
    where
      go : (o : Option Node) → node_at c n ≡ o → is_dead_node o ≡ true → NodeThere c n false
      go None e l = absurd (cc)
      go (Some x) e l = record { node = x; at = e; lives = not-true x.is_live l }

-- ---- attempts

pub ready_run : (o : Option Execution) → is_ready_run o ≡ true → (run : Execution) × (o ≡ Some run) × (run.phase ≡ Ready)
ready_run None h = absurd (cc)
ready_run (Some run) h = (run, refl, phase run.phase h)
  where
    phase : (p : Phase) → is_ready_phase p ≡ true → p ≡ Ready
    phase Ready g = refl
    phase (Out j) g = absurd (cc)
    phase (Waits y k) g = absurd (cc)
    phase (HasEnded d) g = absurd (cc)
    phase (HasFaulted d) g = absurd (cc)

pub out_run : (o : Option Execution) (j : ℕ) → is_job (job_in_run o) j ≡ true → (run : Execution) × (o ≡ Some run) × (run.phase ≡ Out j)
out_run None j h = absurd (cc)
out_run (Some run) j h = (run, refl, phase run.phase h)
  where
    phase : (p : Phase) → is_job (job_in_phase p) j ≡ true → p ≡ Out j
    phase Ready g = absurd (cc)
    phase (Out i) g = ap Out (eqb-true i j g)
    phase (Waits y k) g = absurd (cc)
    phase (HasEnded k) g = absurd (cc)
    phase (HasFaulted k) g = absurd (cc)
