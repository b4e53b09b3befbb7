use Rattle.script_tokens.proofs.Spells.{spaced_parts}
use Rattle.script_tokens.proofs.laws.spaced_in_parts.Goals as goal

pub returns : goal.returns
returns c = spaced_parts
