use Rattle.script_tokens.proofs.Readings.{all_tokens}
use Rattle.script_tokens.proofs.laws.read_are_tokens.Goals as goal

pub returns : goal.returns
returns c = all_tokens
