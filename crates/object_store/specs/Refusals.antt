-- What an evict or a loss answers.
use Rattle.std.specs.Prelude.{Err, None, Ok, Option, Result, Some}
use Rattle.log_entries.specs.declared.refusal.Refusal.{Refusal}

-- the refusal, if it is one
abbrev pub refused : Result (Unit {0}) Refusal → Option Refusal
refused (Ok done) = None
refused (Err r) = Some r
