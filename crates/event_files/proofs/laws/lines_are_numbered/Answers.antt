use Rattle.event_files.specs.Lines.{IsLine, line_text}
use Rattle.event_files.specs.Reading.{line_in}
use Rattle.event_files.proofs.LineNumbers.{file_numbers}
use Rattle.event_files.proofs.Readers.{reads_lines}
use Rattle.event_files.proofs.laws.lines_are_numbered.Goals as goal

pub returns : goal.returns
returns c bytes a file = file_numbers IsLine line_text line_in reads_lines bytes a file
