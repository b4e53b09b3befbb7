use Rattle.script_syntax.proofs.Lines.{lines_are}
use Rattle.script_syntax.proofs.laws.lines_are_printed.Goals as goal

pub returns : goal.returns
returns c = lines_are
