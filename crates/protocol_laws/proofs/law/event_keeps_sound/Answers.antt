use Rattle.protocol_laws.proofs.Laws.{event_keeps_sound}
use Rattle.protocol_laws.proofs.law.event_keeps_sound.Goals as goal

pub returns : goal.returns
returns c = event_keeps_sound
