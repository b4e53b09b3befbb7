use Rattle.owed_laws.proofs.Paid.{events_are_paid}
use Rattle.owed_laws.proofs.law.events_are_paid.Goals as goal

pub returns : goal.returns
returns c = events_are_paid
