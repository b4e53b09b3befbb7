use Rattle.owed_laws.proofs.Paid.{all_is_paid}
use Rattle.owed_laws.proofs.law.all_is_paid.Goals as goal

pub returns : goal.returns
returns c = all_is_paid
