-- Which events of a run are refused for a limit, and that its log passes none.
use Rattle.std.specs.Prelude.{◌≡◌, ℕ, true, false, [], Option}
use Rattle.meaning.specs.Syntax.{Script}
use Rattle.segment.specs.Jobs.{Done}
use Rattle.event_log.specs.Entries.{Event}
use Rattle.protocol.specs.Jobs.{CommitInput}
use Rattle.count_laws.specs.Counts.{counted, is_within}
use Rattle.count_laws.specs.Law.{IsLimited}
use Rattle.protocol_core.specs.States.{RunState, beside, run_of}
use Rattle.protocol_core.specs.Steps.{IsApplied, IsHanded, Reply}

-- it was applied with what was handed in, and refused 37 exactly where it would have passed a limit by the counts of the log
pub record EventIsLimited (script : Script) (before : RunState) (e : Event) (seat : ℕ) (done : Option Done) (after : RunState) (told : Reply) : Type 0 where
  pub handed : CommitInput
  pub is_handed : IsHanded before.whole e done handed
  pub applied : IsApplied before after e seat handed told
  pub limited : IsLimited (beside script before.first_nodes []) (run_of before) (record { event = e; seat = seat; handed = handed })

-- so is every event, unless it finds no memory or one before found none
abbrev pub Limits : Script → RunState → Event → ℕ → Option Done → RunState → Reply → Type 0
Limits script before e seat done after told = before.is_halted ≡ false → after.is_halted ≡ false → EventIsLimited script before e seat done after told

-- the log has at most 64 nodes, 1,024 workers and 1,000,000 objects
abbrev pub IsWithin : Script → RunState → Type 0
IsWithin script c = is_within (counted (beside script c.first_nodes []) c.log) ≡ true
