use Rattle.std.proofs.Common.{◌∙◌}
use Rattle.state_text.proofs.Leases.{lease_found}
use Rattle.state_text.proofs.workers.lease_in.Goals as goal

pub returns : goal.returns
returns c = c.attempt_of.ensures ∙ lease_found c.args.worker c.args.leases.now
