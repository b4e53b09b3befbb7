use Rattle.script_syntax.proofs.Parses.{same_program}
use Rattle.script_syntax.proofs.laws.one_program.Goals as goal

pub returns : goal.returns
returns c = same_program c.one_reading.ensures
