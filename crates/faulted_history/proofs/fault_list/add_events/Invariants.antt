use Rattle.std.proofs.Common.{◌≡◌, ◌++◌, take}
use Rattle.faulted_history.proofs.fault_list.add_events.Given as goal

abbrev pub invariant-loop-event : goal.invariant-loop-event
invariant-loop-event l = l.all ≡ l.fn.all ++ take l.event-index l.events
