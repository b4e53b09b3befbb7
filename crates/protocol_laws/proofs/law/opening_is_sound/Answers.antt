use Rattle.protocol_laws.proofs.Laws.{opening_is_sound}
use Rattle.protocol_laws.proofs.law.opening_is_sound.Goals as goal

pub returns : goal.returns
returns c = opening_is_sound
