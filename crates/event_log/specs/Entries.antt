-- The events of a run, and the entries of its log.
use Rattle.script_laws.specs.of_meaning.Values.{Id}
pub use Rattle.log_entries.specs.of_ids.Attempts.{Attempt}
pub use Rattle.log_entries.specs.of_values.declared.fault.FaultKind.{FaultKind}
pub use Rattle.log_entries.specs.of_values.declared.fault.FaultKind.TheVariants.{OwnerDied, PutLost, RetriesUsed}
pub use Rattle.log_entries.specs.of_values.Faults.{Fault}
pub use Rattle.log_entries.specs.declared.event.Event.{Event}
pub use Rattle.log_entries.specs.declared.event.Event.TheVariants.{Claim, Commit, Deliver, Tick, Notice, NoticeNode, Evict, Lose, Kill, KillNode, Join}
pub use Rattle.log_entries.specs.declared.entry.Entry.{Entry}
pub use Rattle.log_entries.specs.declared.entry.Entry.TheVariants.{In, Refused, Opened, Begun, Born, Got, Printed, Ended, Accepted, Faulted, Resolved, Released}
pub use Rattle.log_entries.specs.declared.refusal.Refusal.{Refusal}
pub use Rattle.log_entries.specs.declared.refusal.Refusal.TheVariants.{Pinned, NoCopy, NoWorker, NotReady, NoJob, Stale, NoMessage, NotDead, NoNode, Limit, Halted, NoMemory}

-- main's own object and its only attempt
abbrev pub main_object : Id
main_object = record { owner = 1; serial = 0 }

abbrev pub main_attempt : Attempt
main_attempt = record { object = main_object; number = 0 }
