use Rattle.script_tokens.proofs.Spells.{line_spaced}
use Rattle.script_tokens.proofs.laws.line_of_spaced.Goals as goal

pub returns : goal.returns
returns c = line_spaced
