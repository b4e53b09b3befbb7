-- Which workers may have something to claim or to commit.
use Rattle.std.specs.Prelude.{Bool, List, None, Option, Some, false, length, slice_get, true, ℕ, ◌&&◌, ◌<◌, ◌≡◌, ◌≤◌}
use Rattle.protocol_data.specs.declared.tables.Execution.{Execution}
use Rattle.protocol_data.specs.declared.tables.Phase.{Phase}
use Rattle.protocol_data.specs.declared.tables.Phase.TheVariants.{HasEnded, HasFaulted, Out, Ready, Waits}
use Rattle.protocol_data.specs.declared.tables.Worker.{Worker}

-- the attempt may be given out, or its job is out
abbrev pub is_going : Phase → Bool
is_going Ready = true
is_going (Out j) = true
is_going (Waits o f) = false
is_going (HasEnded cs) = false
is_going (HasFaulted f) = false

-- there is an attempt, and it may be given out, or its job is out
abbrev pub has_going : Option Execution → Bool
has_going None = false
has_going (Some run) = is_going run.phase

-- the worker lives, and may have something to claim or to commit
abbrev pub may_go : Worker → Bool
may_go x = x.is_live && has_going x.run

-- the attempt's job is out
abbrev pub is_out : Phase → Bool
is_out (Out j) = true
is_out Ready = false
is_out (Waits o f) = false
is_out (HasEnded cs) = false
is_out (HasFaulted f) = false

-- there is an attempt, and its job is out
abbrev pub has_out : Option Execution → Bool
has_out None = false
has_out (Some run) = is_out run.phase

-- the worker lives, and its job is out
abbrev pub may_commit : Worker → Bool
may_commit x = x.is_live && has_out x.run

-- no worker from the one place to before the other has anything to claim or to commit
abbrev pub AreAtRest : List Worker → ℕ → ℕ → Type 0
AreAtRest xs from to = (i : ℕ) (x : Worker) → from ≤ i → i < to → slice_get xs i ≡ Some x → may_go x ≡ false

-- of no worker from the one place to before the other is the job out
abbrev pub HaveNoneOut : List Worker → ℕ → ℕ → Type 0
HaveNoneOut xs from to = (i : ℕ) (x : Worker) → from ≤ i → i < to → slice_get xs i ≡ Some x → may_commit x ≡ false

-- each worker that is so has a mark, and so may others have
pub record AreMarked (f : Worker → Bool) (marks : List Bool) (xs : List Worker) : Type 0 where
  pub marked : (i : ℕ) (x : Worker) → slice_get xs i ≡ Some x → f x ≡ true → slice_get marks i ≡ Some true
  pub len : length marks ≡ length xs
