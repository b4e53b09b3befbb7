use Rattle.script_tokens.proofs.Readings.{one_list}
use Rattle.script_tokens.proofs.laws.one_reading.Goals as goal

pub returns : goal.returns
returns c = one_list
