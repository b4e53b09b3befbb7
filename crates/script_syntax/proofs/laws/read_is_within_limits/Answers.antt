use Rattle.script_syntax.proofs.Limited.{read_is_limited}
use Rattle.script_syntax.proofs.laws.read_is_within_limits.Goals as goal

pub returns : goal.returns
returns c = read_is_limited c.read_are_tokens.ensures
