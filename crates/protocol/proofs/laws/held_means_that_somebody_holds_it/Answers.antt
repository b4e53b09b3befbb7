use Rattle.protocol.proofs.laws.held_means_that_somebody_holds_it.Goals as goal
use Rattle.protocol.proofs.Holders.{by_one, of_one}

pub returns : goal.returns
returns c = record { by_one = by_one; of_one = of_one }
