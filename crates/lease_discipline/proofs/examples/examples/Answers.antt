use Rattle.lease_discipline.proofs.Judged.{claims_are_judged, gives_begin, slots_are_judged, ticks_owe_nothing}
use Rattle.lease_discipline.proofs.examples.examples.Goals as goal

pub returns-clause-gives : goal.returns-clause-gives
returns-clause-gives c = gives_begin

pub returns-clause-ticks : goal.returns-clause-ticks
returns-clause-ticks c = ticks_owe_nothing

pub returns-clause-claims : goal.returns-clause-claims
returns-clause-claims c = claims_are_judged

pub returns-clause-slots : goal.returns-clause-slots
returns-clause-slots c = slots_are_judged
