use Rattle.script_tokens.proofs.Spells.{lines_are}
use Rattle.script_tokens.proofs.laws.spelled_is_read.Goals as goal

pub returns : goal.returns
returns c = lines_are
