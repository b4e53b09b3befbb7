-- Whether an ask stands.
use Rattle.std.specs.Prelude.{ℕ, Bool, false, Option, Some, None}
use Rattle.event_log.specs.Entries.{Attempt}
use Rattle.protocol.specs.Asking.{if_asked}
use Rattle.protocol.specs.Tables.{OwnTask}

-- ask t of the attempt is the one that stands of the task, if there is one
abbrev pub has_ask : ℕ → Attempt → Option OwnTask → Bool
has_ask t a None = false
has_ask t a (Some task) = if_asked t a task
