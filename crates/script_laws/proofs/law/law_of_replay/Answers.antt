use Rattle.script_laws.proofs.Replay.{law_of_replay}
use Rattle.script_laws.proofs.law.law_of_replay.Goals as goal

pub returns : goal.returns
returns c = law_of_replay
