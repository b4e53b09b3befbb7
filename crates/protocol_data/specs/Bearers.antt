-- Attempts that are compared.
use Rattle.std.specs.Prelude.{Bool, None, Option, Some, false, true}
use Rattle.event_log.specs.Entries.{Attempt}
use Rattle.event_log.specs.Words.{same_attempt}

-- both are the same attempt, or none
abbrev pub is_same_bearer : Option Attempt → Option Attempt → Bool
is_same_bearer None None = true
is_same_bearer None (Some b) = false
is_same_bearer (Some a) None = false
is_same_bearer (Some a) (Some b) = same_attempt a b
