use Rattle.std.proofs.Common.{sym, ◌∙◌}
use Rattle.event_files.specs.Lines.{IsLine, line_text}
use Rattle.event_files.specs.Reading.{line_in}
use Rattle.event_files.proofs.Rows.{one_file}
use Rattle.event_files.proofs.Readers.{reads_lines}
use Rattle.event_files.proofs.laws.one_reading.Goals as goal

pub returns : goal.returns
returns c bytes a b h k = h.said ∙ one_file IsLine line_text line_in reads_lines h.rows k.rows h.are_rows k.are_rows (sym h.written ∙ k.written) ∙ sym k.said
