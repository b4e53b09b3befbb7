use Rattle.std.proofs.Common.{sym, ap, ◌∙◌, ◌+◌}
use Rattle.event_files.specs.Lines.{IsLine, line_text}
use Rattle.event_files.specs.Reading.{line_in}
use Rattle.event_files.proofs.Rows.{one_bad}
use Rattle.event_files.proofs.Readers.{reads_lines}
use Rattle.event_files.proofs.laws.one_bad_line.Goals as goal

pub returns : goal.returns
returns c bytes m n h k =
    h.place ∙ ap (λ i. i + 1) (one_bad IsLine line_text line_in reads_lines h.rows k.rows h.line h.rest k.line k.rest h.are_rows k.are_rows
    h.in_a_line k.in_a_line h.is_bad k.is_bad (sym h.written ∙ k.written)) ∙ sym k.place
