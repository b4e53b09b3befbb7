use Rattle.lease_discipline.proofs.SlotLaw.{law_of_kept_slots}
use Rattle.lease_discipline.proofs.law.law_of_kept_slots.Goals as goal

pub returns : goal.returns
returns c = law_of_kept_slots
