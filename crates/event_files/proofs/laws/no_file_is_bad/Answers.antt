use Rattle.std.proofs.Common.{sym, ◌∙◌}
use Rattle.event_files.specs.Lines.{IsLine, line_text}
use Rattle.event_files.specs.Reading.{line_in}
use Rattle.event_files.proofs.Rows.{none_bad}
use Rattle.event_files.proofs.Readers.{reads_lines}
use Rattle.event_files.proofs.laws.no_file_is_bad.Goals as goal

pub returns : goal.returns
returns c bytes a n h k =
    none_bad IsLine line_text line_in reads_lines h.rows k.rows k.line k.rest h.are_rows k.are_rows k.in_a_line k.is_bad (sym h.written ∙ k.written)
