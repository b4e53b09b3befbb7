use Rattle.lease.proofs.Within.{freed_within}
use Rattle.lease.proofs.scheduler.blocked.Goals as goal

pub returns-clause-slots : goal.returns-clause-slots
returns-clause-slots c = λ i. freed_within c.free.new.there c.args.there.now c.args.worker c.in_ok-free.ensures.ok i
