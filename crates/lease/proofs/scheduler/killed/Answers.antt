use Rattle.lease.proofs.Within.{forgot_within}
use Rattle.lease.proofs.scheduler.killed.Goals as goal

pub returns-clause-slots : goal.returns-clause-slots
returns-clause-slots c = λ i. forgot_within c.forget.new.there c.args.there.now c.args.worker c.in_ok-forget.ensures.ok i
