use Rattle.std.proofs.Common.{◌≡◌, map, take}
use Rattle.run_commands.specs.States.{event_line}
use Rattle.run_commands.proofs.state_command.lines_of.Given as goal

abbrev pub invariant-loop-event : goal.invariant-loop-event
invariant-loop-event l = l.all ≡ map event_line (take l.event-index l.events)
