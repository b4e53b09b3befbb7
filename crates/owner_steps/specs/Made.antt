-- Which objects can be asked for again.
use Rattle.std.specs.Prelude.{List, Some, false, true, ℕ, ◌≡◌}
use Rattle.std.specs.List.{AllByRecursion}
use Rattle.protocol.specs.Tables.{OwnTask, is_pending_task, may_try_again}
use Rattle.protocol.specs.Steps.{WorkerContext, own_object}
use Rattle.protocol.specs.Recovery.{task_for}

-- the task that makes the own object of that serial may be tried again, unless an attempt of it is under way
abbrev pub MayBeMade : WorkerContext → ℕ → Type 0
MayBeMade h k = (task : OwnTask) → task_for h (own_object h k) ≡ Some task → is_pending_task task ≡ false → may_try_again task ≡ true

-- so of each of these
abbrev pub AllMayBeMade : WorkerContext → List ℕ → Type 0
AllMayBeMade h ks = AllByRecursion (MayBeMade h) ks
