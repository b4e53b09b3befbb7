use Rattle.protocol_laws.proofs.Laws.{sound_is_legal}
use Rattle.protocol_laws.proofs.law.sound_is_legal.Goals as goal

pub returns : goal.returns
returns c = sound_is_legal
