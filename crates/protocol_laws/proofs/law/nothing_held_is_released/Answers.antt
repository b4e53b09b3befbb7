use Rattle.protocol_laws.proofs.Laws.{nothing_held_is_released}
use Rattle.protocol_laws.proofs.law.nothing_held_is_released.Goals as goal

pub returns : goal.returns
returns c = nothing_held_is_released
