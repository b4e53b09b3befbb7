use Rattle.std.proofs.Common.{◌≡◌, take}
use Rattle.std.specs.List.{flat_map}
use Rattle.fault_lists.specs.Lists.{event_in}
use Rattle.fault_lists.proofs.log_events.events_in.Given as goal

abbrev pub invariant-loop-entry : goal.invariant-loop-entry
invariant-loop-entry l = l.events ≡ flat_map event_in (take l.entry-index l.log)
