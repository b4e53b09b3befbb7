-- The task that makes an object and further results stands with the first of them.
use Rattle.std.specs.Prelude.{Bool, List, None, Option, Some, false, true, ℕ}
use Rattle.event_log.specs.Events.{from_one}
use Rattle.protocol_data.specs.declared.tables.ObjectSource.{ObjectSource}
use Rattle.protocol_data.specs.declared.tables.ObjectSource.TheVariants.{ByTask}
use Rattle.protocol_data.specs.declared.tables.Object.{Object}
use Rattle.protocol_data.specs.declared.tables.Progress.{Progress}
use Rattle.protocol_data.specs.declared.tables.Progress.TheVariants.{AskedAt, AtRest, RunsOn}

-- the number of the present attempt
abbrev pub number_by : ObjectSource → Option ℕ
number_by (ByTask task) = Some task.number
number_by _ = None

abbrev pub number_of : Option Object → Option ℕ
number_of None = None
number_of (Some x) = number_by x.source

-- of the task that stands with the object of that serial
abbrev pub number_at : List Object → ℕ → Option ℕ
number_at objects serial = number_of (from_one objects serial)

abbrev pub is_under_way : Progress → Bool
is_under_way AtRest = false
is_under_way (AskedAt t n) = true
is_under_way (RunsOn v n) = true

-- an attempt is asked for, or under way
abbrev pub is_pending_by : ObjectSource → Bool
is_pending_by (ByTask task) = is_under_way task.progress
is_pending_by _ = false

abbrev pub is_pending_of : Option Object → Bool
is_pending_of None = false
is_pending_of (Some x) = is_pending_by x.source

abbrev pub is_pending_at : List Object → ℕ → Bool
is_pending_at objects serial = is_pending_of (from_one objects serial)
