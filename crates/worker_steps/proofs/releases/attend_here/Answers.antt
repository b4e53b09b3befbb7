use Rattle.std.proofs.Common.{length, arith}
use Rattle.worker_steps.proofs.Looking.{nothing_released}
use Rattle.worker_steps.proofs.releases.attend_here.Goals as goal

pub returns-clause-none : goal.returns-clause-none
returns-clause-none c it = nothing_released (record c.args.here.now { worker = c.attend.new.worker }) (length c.attend.new.worker.objects) (omega arith) (c.attend.ensures.none it)
