use Rattle.std.proofs.Common.{◌≡◌, map, take}
use Rattle.event_files.specs.declared.line.Line.TheVariants as lines
use Rattle.fault_lists.proofs.lines.event_lines.Given as goal

abbrev pub invariant-loop-event : goal.invariant-loop-event
invariant-loop-event l = l.all ≡ map lines.Event (take l.event-index l.events)
