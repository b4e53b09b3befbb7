use Rattle.script_syntax.proofs.Spelled.{lines_spelled}
use Rattle.script_syntax.proofs.laws.printed_are_tokens.Goals as goal

pub returns : goal.returns
returns c = lines_spelled
