-- What a worker's event may yet open. A slot is given back only as an attempt stops to wait, so that a waiting attempt counts as one worker.
use Rattle.std.specs.Prelude.{None, Option, Some, ℕ, ◌+◌, ◌≤◌}
use Rattle.protocol.specs.Tables.{Phase, Execution, Waits}
use Rattle.protocol.specs.Steps.{WorkerContext}

-- 1 for an attempt that waits
abbrev pub waits_in : Phase → ℕ
waits_in (Waits y f) = 1
waits_in _ = 0

abbrev pub waits_of : Option Execution → ℕ
waits_of None = 0
waits_of (Some run) = waits_in run.phase

-- the workers that were opened, and the one that a waiting attempt may yet open
abbrev pub may_open : WorkerContext → ℕ
may_open h = h.there.opened + waits_of h.worker.run

-- what comes of a step may open no more than what it began with
pub record Spends (h g : WorkerContext) : Type 0 where
  pub least : may_open g ≤ may_open h
