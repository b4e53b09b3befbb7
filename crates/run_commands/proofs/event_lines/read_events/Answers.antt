use Rattle.run_commands.specs.SimReports.{AreEvents}
use Rattle.script_commands.proofs.Reading.{of_read}
use Rattle.run_commands.proofs.Simulated.{explains_list, explains_unread}
use Rattle.run_commands.proofs.event_lines.read_events.Goals as goal

pub returns-in-Err-clause-refused : goal.returns-in-Err-clause-refused
returns-in-Err-clause-refused g c = explains_unread (g.E.Source.left c.args.reader.now) _ c.in-Err.refusal c.in-Err.ensures.only c.in-Err.ensures.failed

pub returns-in-Ok-event_lines-clause-read : goal.returns-in-Ok-event_lines-clause-read
returns-in-Ok-event_lines-clause-read g c =
    of_read (λ b. AreEvents b c.in-Ok-event_lines.events.says c.in-Ok-event_lines.events.numbers) _ c.in-Ok.text.items c.as_slice.result.now
    c.in-Ok.ensures.ok c.as_slice.ensures.value c.as_slice.type_inv.1 c.in-Ok-event_lines.ensures.found

pub returns-clause-refused : goal.returns-clause-refused
returns-clause-refused g c =
    explains_list _ _ c.in-Ok.text.items c.as_slice.result.now c.in-Err-event_lines.refusal c.in-Ok.ensures.ok c.as_slice.ensures.value
    c.as_slice.type_inv.1 c.in-Err-event_lines.ensures.refused
