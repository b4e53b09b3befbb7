use Rattle.protocol.proofs.laws.plans_are_least_closed_sets.Goals as goal
use Rattle.protocol.proofs.Plans.{has_it, closed, least}
use Rattle.protocol.proofs.Stops.{in_birth_order, is_first_stop, no_stop}

pub returns : goal.returns
returns c =
    record {
      has_it = has_it;
      closed = closed;
      least = least;
      in_birth_order = in_birth_order;
      stopped = is_first_stop;
      unstopped = no_stop;
    }
