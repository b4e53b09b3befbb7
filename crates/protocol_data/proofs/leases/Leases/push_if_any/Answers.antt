use Rattle.protocol_data.proofs.Leasing.{pushed_if_any}
use Rattle.protocol_data.proofs.leases.Leases.push_if_any.Goals as goal

pub returns : goal.returns
returns c = pushed_if_any c.args.self.now _ c.args.row.now c.in-Some.lease c.in-Some.is c.requires c.in_ok-push.ensures.ok
