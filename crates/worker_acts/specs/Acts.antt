-- What a worker does in an event.
use Rattle.std.specs.Prelude.{List, Option, Some, None}
use Rattle.protocol.specs.Messages.{Envelope}
use Rattle.protocol.specs.Numbered.{item_at}
use Rattle.protocol.specs.Steps.{WorkerContext}
use Rattle.protocol.specs.Commits.{claim_step, commit_step}
use Rattle.protocol.specs.Deliveries.{reached}
use Rattle.protocol.specs.Notices.{notice_node_step, notice_step}
use Rattle.protocol.specs.Ticks.{tick_step}
use Rattle.worker_acts.specs.declared.part.Act.{Act}
use Rattle.worker_acts.specs.declared.part.Act.TheVariants.{Claim, Commit, Receive, LearnNodeDied, LearnWorkerDied, Tick}

-- a message, if there is one, reaches it
abbrev pub received : WorkerContext → Option Envelope → WorkerContext
received h None = h
received h (Some l) = reached h l.sender l.message

-- its step where these messages were sent so far, before what no one can reach is released
abbrev pub act_step : List Envelope → Act → WorkerContext → WorkerContext
act_step sent (Claim j) h = claim_step h j
act_step sent (Commit d) h = commit_step h d
act_step sent (Receive k) h = received h (item_at sent k)
act_step sent Tick h = tick_step h
act_step sent (LearnWorkerDied v) h = notice_step h v
act_step sent (LearnNodeDied n) h = notice_node_step h n
