use Rattle.std.proofs.Common.{subst}
use Rattle.event_files.specs.Files.{IsBadAt, IsRefusal}
use Rattle.event_files.specs.Lines.{IsLine, line_text}
use Rattle.raysim_commands.specs.Migrations.{IsLinesFile}
use Rattle.script_commands.proofs.Reading.{of_read}
use Rattle.raysim_commands.proofs.migrate_command.read_lines.Goals as goal

pub returns-in-Ok-parse_events-clause-read : goal.returns-in-Ok-parse_events-clause-read
returns-in-Ok-parse_events-clause-read g c =
    of_read (λ b. IsLinesFile b c.in-Ok-parse_events.lines) _ c.in-Ok.text.items c.as_slice.result.now c.in-Ok.ensures.ok c.as_slice.ensures.value
    c.as_slice.type_inv.1 c.in-Ok-parse_events.ensures.read

pub returns-in-Err-BadLine-clause-refused : goal.returns-in-Err-BadLine-clause-refused
returns-in-Err-BadLine-clause-refused g c =
    let shown = c.as_slice.result.now in
    let n = c.in-Err-BadLine.line in
    let bad = subst (λ e. IsRefusal IsLine line_text shown e) c.in-Err-BadLine.field-0-is c.in-Err-BadLine.ensures.refused in
    of_read (λ b. IsBadAt IsLine line_text b n) _ c.in-Ok.text.items shown c.in-Ok.ensures.ok c.as_slice.ensures.value c.as_slice.type_inv.1 bad
