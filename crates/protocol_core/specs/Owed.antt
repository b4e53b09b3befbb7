-- What an event of a run owes and pays.
use Rattle.std.specs.Prelude.{◌≡◌, ℕ, false, [], Option}
use Rattle.meaning.specs.Syntax.{Script}
use Rattle.segment.specs.Jobs.{Done}
use Rattle.event_log.specs.Entries.{Event}
use Rattle.protocol.specs.Jobs.{CommitInput}
use Rattle.count_laws.specs.Law.{AnswerPays}
use Rattle.protocol_core.specs.States.{RunState, beside, run_of}
use Rattle.protocol_core.specs.Steps.{IsApplied, IsHanded, Reply}

-- it was applied with what was handed in, and pays what it owes, by log, network and slots before and after it
pub record EventPays (script : Script) (before : RunState) (e : Event) (seat : ℕ) (done : Option Done) (after : RunState) (told : Reply) : Type 0 where
  pub handed : CommitInput
  pub is_handed : IsHanded before.whole e done handed
  pub applied : IsApplied before after e seat handed told
  pub pays : AnswerPays (beside script before.first_nodes []) (run_of before) (record { event = e; seat = seat; handed = handed })

-- so does every event, unless it finds no memory or one before found none
abbrev pub Pays : Script → RunState → Event → ℕ → Option Done → RunState → Reply → Type 0
Pays script before e seat done after told = before.is_halted ≡ false → after.is_halted ≡ false → EventPays script before e seat done after told
