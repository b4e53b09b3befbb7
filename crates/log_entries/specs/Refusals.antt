-- The number that each refusal of an event has in reports.
use Rattle.std.specs.Prelude.{ℕ}
use Rattle.log_entries.specs.declared.refusal.Refusal.{Refusal}
use Rattle.log_entries.specs.declared.refusal.Refusal.TheVariants as refusals

-- the number of a refusal
abbrev pub code_of : Refusal → ℕ
code_of refusals.Pinned = 20
code_of refusals.NoCopy = 21
code_of refusals.NoWorker = 30
code_of refusals.NotReady = 31
code_of refusals.NoJob = 32
code_of refusals.Stale = 33
code_of refusals.NoMessage = 34
code_of refusals.NotDead = 35
code_of refusals.NoNode = 36
code_of refusals.Limit = 37
code_of refusals.Halted = 38
code_of refusals.NoMemory = 39
