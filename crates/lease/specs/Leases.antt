-- What a scheduler notes where it gives a worker to an attempt.
use Rattle.std.specs.Prelude.{[], ℕ, ◌++◌, ◌∷◌}
use Rattle.event_log.specs.Entries.{Attempt}
use Rattle.number_lists.specs.of_protocol.Nodes.{Scheduler}
use Rattle.number_lists.specs.of_protocol.Sets.{without_number}
use Rattle.number_lists.specs.of_protocol.Slots.{without_lease}

-- the worker is not idle, and its latest lease is the attempt's
abbrev pub leased : Scheduler → ℕ → Attempt → Scheduler
leased s w a = record s { idle = without_number s.idle w; leases = without_lease w s.leases ++ record { worker = w; attempt = a } ∷ [] }
