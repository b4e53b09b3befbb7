-- The number that the refusal of an event file has.
use Rattle.std.specs.Prelude.{ℕ}
use Rattle.event_files.specs.declared.error.EventError.{EventError}
use Rattle.event_files.specs.declared.error.EventError.TheVariants as errors

abbrev pub refusal_number : EventError → ℕ
refusal_number (errors.BadLine n) = 40
refusal_number errors.NoMemory = 39
