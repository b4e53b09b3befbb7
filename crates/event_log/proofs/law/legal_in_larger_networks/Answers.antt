use Rattle.event_log.proofs.Networks.{legal_in_larger_networks}
use Rattle.event_log.proofs.law.legal_in_larger_networks.Goals as goal

pub returns : goal.returns
returns c = legal_in_larger_networks
