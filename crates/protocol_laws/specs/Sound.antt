-- What is true of a run between two events.
use Rattle.std.specs.Prelude.{◌≡◌, ◌<◌, ℕ, ◌+◌, false, List, Some, length}
use Rattle.event_log.specs.Entries.{Entry}
use Rattle.event_log.specs.Rules.{Setting}
use Rattle.holding_steps.specs.of_holding.Past.{Fact}
use Rattle.holding_steps.specs.Whole.{WholeTrue}
use Rattle.holding_steps.specs.of_protocol.Jobs.{JobRecord}
use Rattle.holding_steps.specs.of_protocol.Numbered.{item_at}
use Rattle.holding_steps.specs.of_protocol.Tables.{Out, Execution, Worker}
use Rattle.holding_steps.specs.of_protocol.Cluster.{ClusterState, worker_at}
use Rattle.protocol_legal.specs.Whole.{Between}

-- the worker's attempt is out as that job
abbrev pub IsOutAs : ℕ → Worker → Type 0
IsOutAs j x = (run : Execution) × (x.run ≡ Some run) × (run.phase ≡ Out j)

pub record JobsAreOut (c : ClusterState) : Type 0 where
  -- each job was given to a worker that is there, counted from 1
  pub given : (j : ℕ) (g : JobRecord) → item_at c.jobs j ≡ Some g → g.worker < length c.workers + 1
  pub named : (j : ℕ) (g : JobRecord) → item_at c.jobs j ≡ Some g → 0 < g.worker
  -- a job that isn't committed is out, also that of a dead worker
  pub out : (j : ℕ) (g : JobRecord) (x : Worker) → item_at c.jobs j ≡ Some g → g.is_committed ≡ false → worker_at c g.worker ≡ Some x → IsOutAs j x

pub record IsSound (s : Setting) (log : List Entry) (c : ClusterState) : Type 0 where
  -- the log is legal, and tables, stores and messages say of it what is true
  pub between : Between s log c
  -- what happened so far: the facts of the log, and who came to hold what and let go of it
  pub past : List Fact
  -- nobody holds or lets go of anything but as that says
  pub held : WholeTrue log past c
  -- who has a job is busy with it
  pub jobs : JobsAreOut c
