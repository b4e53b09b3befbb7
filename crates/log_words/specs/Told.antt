-- What has been told when an entry comes.
use Rattle.std.specs.Prelude.{ℕ, ◌+◌, Bool, if◌then◌else◌, List, [], ◌++◌}
use Rattle.report_text.specs.of_event_log.Entries.{Entry, In}
use Rattle.report_text.specs.of_event_log.Events.{claim_in}
use Rattle.log_words.specs.declared.told.Told.{Told as CodeTold}

-- how many events came, and the workers to which jobs were given, by job
pub record Told : Type 0 where
  pub events : ℕ
  pub jobs : List ℕ

abbrev pub told_of : CodeTold → Told
told_of t = record { events = t.events; jobs = t.jobs.items }

abbrev pub nothing_told : Told
nothing_told = record { events = 0; jobs = [] }

-- after one more entry; `refused` says of an event that it is refused
abbrev pub told_after : Told → Entry → Bool → Told
told_after t (In e seat) refused = record { events = t.events + 1; jobs = t.jobs ++ (if refused then [] else claim_in e) }
told_after t _ refused = t
